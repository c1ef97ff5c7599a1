-- The paths of a plan without returning paths are finitely many, so each operation has a latest start, and one.
use Rattle.std.proofs.Common.{◌≡◌, ◌⊎◌, inl, inr, refl, sym, subst, arith, ℕ, zero, suc, ◌+◌, ◌<◌, ◌≤◌, List, [], ◌∷◌, length, Contains, ℤ}
use Rattle.std.specs.Prelude.{◌≤ℤ◌}
use Rattle.std.specs.FinSet as set
use Rattle.std.proofs.lemmas.Int.{by_lt_z, ints}
use Rattle.plan_records.specs.plan_model.specs.latest_start.specs.LeastStart.{IsLeastStart, start_by}
use Rattle.operation_graph.specs.Paths.{IsPathBy, IsRankBy}
use Rattle.plan_basics.specs.declared.keys.OpKey.{OpKey}
use Rattle.plan_laws.proofs.Listed.{Listed, alike_listed, either_listed, images_listed, one_listed, union_listed, where_told}
use Rattle.plan_laws.proofs.Ordered.{pairs_are_edges, pairs_have_rank}
use Rattle.operation_graph.proofs.Ranks.{AreEdges}
use Rattle.plan_laws.proofs.Sorted.{contains_head, contains_later, contains_cases, contains_none}
use Rattle.plan_laws.proofs.Decide.{told_live}
use Rattle.plan_laws.proofs.Entries.{same_operation}
use Rattle.operation_graph.proofs.Telling.{Told, told_and}
use Rattle.plan_laws.specs.Derived.{EachHasOneLatestStart}
use Rattle.plan_records.specs.plan_model.specs.Contents.{Contents, IsLive, Precedes}
use Rattle.plan_records.specs.plan_model.specs.Starts.{IsLatestStart}
use Rattle.plan_records.specs.plan_model.specs.Valid.{IsAcyclic}

-- ---- the least of finitely many

no_more : (a b c : ℤ) → a ≤ℤ b → b ≤ℤ c → a ≤ℤ c
no_more a b c h k = omega (arith, ints, h, k)

itself : (a : ℤ) → a ≤ℤ a
itself a = omega (arith, ints)

lower : (a b : ℤ) → (a ≤ℤ b) ⊎ (b ≤ℤ a)
lower a b = by_lt_z a b (λ h. inl (omega (arith, ints, h))) (λ h. inr h)

one_least : (a b : ℤ) → a ≤ℤ b → b ≤ℤ a → a ≡ b
one_least a b h k = omega (arith, ints, h, k)

module _ {A : Type 0} (f : A → ℤ) where
  abbrev pub IsLeastOf : List A → A → Type 0
  IsLeastOf xs m = Contains xs m × ((y : A) → Contains xs y → f m ≤ℤ f y)

  least_from : (x : A) (xs : List A) → (m : A) × IsLeastOf (x ∷ xs) m
  least_from x [] = (x, (contains_head x [], λ y h. elim (contains_cases x [] y h) [ inl e ↦ subst (λ z. f x ≤ℤ f z) e (itself (f x)) | inr later ↦ absurd (contains_none y later) ]))
  least_from x (y ∷ ys) =
      let rest = least_from y ys in
      elim (lower (f x) (f rest.0)) [
        | inl le ↦ (x, (contains_head x (y ∷ ys), λ z h. elim (contains_cases x (y ∷ ys) z h) [ inl e ↦ subst (λ k. f x ≤ℤ f k) e (itself (f x)) | inr later ↦ no_more (f x) (f rest.0) (f z) le (rest.1.1 z later) ]))
        | inr ge ↦ (rest.0, (contains_later x (y ∷ ys) rest.0 rest.1.0, λ z h. elim (contains_cases x (y ∷ ys) z h) [ inl e ↦ subst (λ k. f rest.0 ≤ℤ f k) e ge | inr later ↦ rest.1.1 z later ]))
      ]

  pub least_of : (xs : List A) (x : A) → Contains xs x → (m : A) × IsLeastOf xs m
  least_of [] x h = absurd (contains_none x h)
  least_of (y ∷ ys) x h = least_from y ys

-- ---- all paths from a key

module _ {K : Type 0} (edge : K → K → Type 0) (live : K → Type 0) (es : List (K × K)) (are : AreEdges edge es) (told_same : (a b : K) → Told (a ≡ b)) (live_told : (k : K) → Told (live k)) where
  -- it begins with this edge
  abbrev Begins : K → K × K → List K → Type 0
  Begins a e path = ((e.0 ≡ a) × live e.1) × ((rest : List K) × IsPathBy edge live e.1 rest × (e.1 ∷ rest ≡ path))

  begun : (a : K) (path : List K) → ([] ≡ path) ⊎ ((e : K × K) × Contains es e × Begins a e path) → IsPathBy edge live a path
  begun a path (inl e) = subst (IsPathBy edge live a) e tt
  begun a path (inr h) =
      let e : edge a h.0.1 = subst (λ z. edge z h.0.1) h.2.0.0 ((are h.0.0 h.0.1).1 h.1) in
      subst (IsPathBy edge live a) h.2.1.2 (e, h.2.0.1, h.2.1.1)

  begins : (a : K) (path : List K) → IsPathBy edge live a path → ([] ≡ path) ⊎ ((e : K × K) × Contains es e × Begins a e path)
  begins a [] h = inl refl
  begins a (b ∷ rest) h = inr ((a, b), (are a b).0 h.0, ((refl, h.1), (rest, h.2, refl)))

  module _ (rank : K → ℕ) (is_rank : IsRankBy edge rank) (bound : ℕ) (within : (k : K) → rank k ≤ bound) where
    paths_up_to : (n : ℕ) (a : K) → bound < n + rank a → Listed (IsPathBy edge live a)
    paths_up_to zero a h = absurd (let w = within a in omega (arith, h, w))
    paths_up_to (suc n) a h = alike_listed (begun a) (begins a)
        (either_listed (one_listed [])
        (union_listed (Begins a) es (λ e has.
        where_told (told_and (told_same e.0 a) (λ _. live_told e.1)) (λ starts.
        images_listed (λ rest. e.1 ∷ rest)
        (paths_up_to n e.1 (let r = is_rank a e.1 (subst (λ z. edge z e.1) starts.0 ((are e.0 e.1).1 has)) in omega (arith, h, r)))))))

    pub paths_are_listed : (a : K) → Listed (IsPathBy edge live a)
    paths_are_listed a = paths_up_to (suc bound) a (omega arith)

    -- the least start over them
    pub least_start : (duration deadline : K → ℕ) (a : K) → (v : ℤ) × IsLeastStart edge live duration deadline a v
    least_start duration deadline a =
        let paths = paths_are_listed a in
        let m = least_of (start_by duration deadline a) paths.0 [] ((paths.1 []).1 tt) in
        (start_by duration deadline a m.0, record { of_a_path = (m.0, (paths.1 m.0).0 m.1.0, refl); least = λ rest h. m.1.1 rest ((paths.1 rest).1 h) })

pub one_least_start : {K : Type 0} (edge : K → K → Type 0) (live : K → Type 0) (duration deadline : K → ℕ) (a : K) (v w : ℤ) → IsLeastStart edge live duration deadline a v → IsLeastStart edge live duration deadline a w → v ≡ w
one_least_start edge live duration deadline a v w x y =
    one_least v w
    (subst (λ z. v ≤ℤ z) (sym y.of_a_path.2) (x.least y.of_a_path.0 y.of_a_path.1))
    (subst (λ z. w ≤ℤ z) (sym x.of_a_path.2) (y.least x.of_a_path.0 x.of_a_path.1))

-- all paths from an operation
pub plan_paths : (P : Contents) → IsAcyclic P.pairs → (o : OpKey) → Listed (IsPathBy (Precedes P) (IsLive P) o)
plan_paths P acyclic o =
    let r = pairs_have_rank P.pairs acyclic in
    paths_are_listed (Precedes P) (IsLive P) (set.items P.pairs) (pairs_are_edges P.pairs) same_operation (told_live P) r.0 r.1 (length (set.items P.pairs)) r.2 o

pub some_latest_start : (P : Contents) → IsAcyclic P.pairs → (o : OpKey) → (v : ℤ) × IsLatestStart P o v
some_latest_start P acyclic o =
    let r = pairs_have_rank P.pairs acyclic in
    least_start (Precedes P) (IsLive P) (set.items P.pairs) (pairs_are_edges P.pairs) same_operation (told_live P) r.0 r.1 (length (set.items P.pairs)) r.2 _ _ o

pub one_latest_start : (P : Contents) (o : OpKey) (v w : ℤ) → IsLatestStart P o v → IsLatestStart P o w → v ≡ w
one_latest_start P o v w x y = one_least_start (Precedes P) (IsLive P) _ _ o v w x y

pub each_has_one_latest_start : EachHasOneLatestStart
each_has_one_latest_start P valid o = let v = some_latest_start P valid.acyclic o in (v.0, v.1, λ w h. one_latest_start P o w v.0 h v.1)
