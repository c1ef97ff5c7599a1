-- A path goes back from member to member, and ends: each begins earlier, or as early and before by the plan's pairs.
use Rattle.std.proofs.Common.{◌≡◌, ◌⊎◌, inl, inr, refl, sym, ◌∙◌, subst, arith, ℕ, ◌+◌, ◌*◌, ◌<◌, ◌≤◌, List, [], ◌∷◌, ◌++◌, append_assoc, length, sum_by, Option, Some, None}
use Rattle.std.specs.FinMap.{entries, keys}
use Rattle.std.proofs.lemmas.Bool.{cases_lt, cases_order}
use Rattle.std.proofs.lemmas.List.Sums.{sum_by-le}
use Rattle.std.proofs.lemmas.Map.Entries.{length-keys_of}
use Rattle.plan_basics.specs.Keys.{operation_cmp-IsAntisymmetric}
use Rattle.plan_basics.specs.declared.keys.OccKey.{OccKey}
use Rattle.plan_basics.specs.declared.keys.OpKey.{OpKey}
use Rattle.plan_basics.proofs.Members.{all_by_members}
use Rattle.plan_forecast.proofs.Short.{sum_less}
use Rattle.plan_forecast.specs.plan_laws.proofs.Ordered.{pairs_have_rank}
use Rattle.plan_model.proofs.Members.{in_keys}
use Rattle.plan_model.specs.operation_graph.proofs.Telling.{Told}
use Rattle.plan_model.specs.Contents.{IsInPlan, Precedes}
use Rattle.plan_model.specs.Valid.{IsAcyclic}
use Rattle.plan_reasons.specs.declared.reasons.Reason.{Reason}
use Rattle.plan_outlooks.specs.Forecasts.{Forecast, begin_minute}
use Rattle.plan_outlooks.specs.Lent.{IsOfRow}
use Rattle.plan_outlooks.specs.PathParts.{IsBefore}
use Rattle.plan_outlooks.specs.Paths.{BeginsFrom, EndsAt, GoesBack, IsAwaited, IsFreeing, IsMember, IsPathTo}
use Rattle.plan_outlooks.specs.declared.rows.Cause.{Cause}
use Rattle.plan_outlooks.specs.declared.rows.Cause.TheVariants as cause
use Rattle.plan_outlooks.specs.declared.rows.PathMember.{PathMember}
use Rattle.plan_outlooks.proofs.FirstOnes.{one_key}

-- ---- when operations begin

-- it begins at one minute
pub one_beginning : (F : Forecast) (o : OpKey) (a b : ℕ) → BeginsFrom F o a → BeginsFrom F o b → a ≡ b
one_beginning F o a b is was = is ∙ sym was

one_if : {A : Type 0} → Told A → ℕ
one_if (inl a) = 1
one_if (inr n) = 0

one_at_most : {A : Type 0} (t : Told A) → one_if t ≤ 1
unfolding one_if
one_at_most (inl a) = omega arith
one_at_most (inr n) = omega arith

no_more_than : {A B : Type 0} (s : Told A) (t : Told B) → (A → B) → one_if s ≤ one_if t
unfolding one_if
no_more_than (inl a) (inl b) f = omega arith
no_more_than (inl a) (inr n) f = absurd (n (f a))
no_more_than (inr m) t f = omega arith

less_than : {A B : Type 0} (s : Told A) (t : Told B) → ¬ A → B → one_if s < one_if t
unfolding one_if
less_than (inl a) t never b = absurd (never a)
less_than (inr m) (inl b) never is = omega arith
less_than (inr m) (inr n) never is = absurd (n is)

none_is : {A : Type 0} (s : Told A) → ¬ A → one_if s < 1
unfolding one_if
none_is (inl a) never = absurd (never a)
none_is (inr m) never = omega arith

module _ (F : Forecast) (acyclic : IsAcyclic F.plan.contents.pairs) where
  pub begin_of : OpKey → ℕ
  begin_of o = begin_minute F o

  begins_is : (o : OpKey) (b : ℕ) → BeginsFrom F o b → b ≡ begin_of o
  unfolding begin_of
  begins_is o b at = at

  pub rank : OpKey → ℕ
  rank = (pairs_have_rank F.plan.contents.pairs acyclic).0

  rank_rises : (p o : OpKey) → Precedes F.plan.contents p o → rank p < rank o
  unfolding rank
  rank_rises p o before = (pairs_have_rank F.plan.contents.pairs acyclic).1 p o before

  -- p begins earlier than o, or as early and has the smaller rank
  abbrev pub IsBelow : OpKey → OpKey → Type 0
  IsBelow p o = (begin_of p < begin_of o) ⊎ ((begin_of p ≡ begin_of o) × (rank p < rank o))

  below_told : (p o : OpKey) → Told (IsBelow p o)
  below_told p o = elim (cases_order (begin_of p) (begin_of o)) [
    | inl same ↦ elim (cases_lt (rank p) (rank o)) [
      | inl less ↦ inl (inr (same, less))
      | inr more ↦ inr (elim [ inl a ↦ omega (arith, a, same) | inr b ↦ (let less = b.1 in omega (arith, less, more)) ])
    ]
    | inr (inl less) ↦ inl (inl less)
    | inr (inr more) ↦ inr (elim [ inl a ↦ omega (arith, a, more) | inr b ↦ (let same = b.0 in omega (arith, same, more)) ])
  ]

  below_both : (x p o : OpKey) → IsBelow x p → IsBelow p o → IsBelow x o
  below_both x p o (inl a) (inl b) = inl (omega (arith, a, b))
  below_both x p o (inl a) (inr b) = inl (let same = b.0 in omega (arith, a, same))
  below_both x p o (inr a) (inl b) = inl (let same = a.0 in omega (arith, same, b))
  below_both x p o (inr a) (inr b) = inr (a.0 ∙ b.0, let r = a.1 in let s = b.1 in omega (arith, r, s))

  not_below_itself : (o : OpKey) → ¬ IsBelow o o
  not_below_itself o (inl a) = omega (arith, a)
  not_below_itself o (inr b) = let less = b.1 in omega (arith, less)

  -- how many operations are below it
  pub how_many : OpKey → ℕ
  how_many o = sum_by (λ x. one_if (below_told x o)) (keys F.plan.contents.operations)

  fewer : (p o : OpKey) → IsInPlan F.plan.contents p → IsBelow p o → how_many p < how_many o
  unfolding how_many
  fewer p o known below =
      sum_less (λ x. one_if (below_told x p)) (λ x. one_if (below_told x o)) (keys F.plan.contents.operations) p (λ x. no_more_than (below_told x p) (below_told x o) (λ h. below_both x p o h below))
      (in_keys operation_cmp-IsAntisymmetric F.plan.contents.operations p known.0 known.1) (less_than (below_told p p) (below_told p o) (not_below_itself p) below)

  ones : (ks : List OpKey) → sum_by (λ (x : OpKey). 1) ks ≤ length ks * 1
  ones ks = sum_by-le (λ (x : OpKey). 1) 1 ks (all_by_members (λ (x : OpKey). 1 ≤ 1) ks (λ x has. omega arith))

  not_all : (o : OpKey) → IsInPlan F.plan.contents o → how_many o < length (entries F.plan.contents.operations)
  unfolding how_many
  not_all o known =
      let ks = keys F.plan.contents.operations in
      let less = sum_less (λ x. one_if (below_told x o)) (λ (x : OpKey). 1) ks o (λ x. one_at_most (below_told x o)) (in_keys operation_cmp-IsAntisymmetric F.plan.contents.operations o known.0 known.1) (none_is (below_told o o) (not_below_itself o)) in
      let most = ones ks in
      let count : length ks ≡ length (entries F.plan.contents.operations) = length-keys_of (entries F.plan.contents.operations) in
      omega (arith, less, most, count)

  -- what it begins after is below it
  awaited_below : (o : OpKey) (m : ℕ) → BeginsFrom F o m → (p : OpKey) → IsAwaited F o m p → IsBelow p o
  awaited_below o m at p is =
      let mine = begins_is o m at in
      let (b, from, le) = is.2 in
      let its = begins_is p b from in
      elim (cases_lt b m) [
        | inl less ↦ inl (omega (arith, less, mine, its))
        | inr more ↦ inr ((let same : begin_of p ≡ begin_of o = omega (arith, le, more, mine, its) in same), rank_rises p o is.0)
      ]

  freeing_below : (o : OpKey) (m : ℕ) (lack : Option Reason) → BeginsFrom F o m → (q : OpKey) → IsFreeing F m lack q → IsBelow q o
  freeing_below o m lack at q is =
      let mine = begins_is o m at in
      let (b, from, less) = is.1 in
      let its = begins_is q b from in
      inl (omega (arith, less, mine, its))

-- ---- how a path goes on

module _ (F : Forecast) (o : OpKey) (m : ℕ) (lack : Option Reason) where
  pub goes_with : (c : Cause) (to other : OpKey → Type 0) (none nowhere : Type 0) → ((p : OpKey) → to p → other p) → (none → nowhere) → GoesBack F o m lack c to none → GoesBack F o m lack c other nowhere
  goes_with cause.Now to other none nowhere f g h = g h
  goes_with cause.After to other none nowhere f g h = (h.0, h.1, f h.0 h.2)
  goes_with cause.NotBefore to other none nowhere f g h = g h
  goes_with cause.Opens to other none nowhere f g h = g h
  goes_with cause.Frees to other none nowhere f g (inl h) = inl (h.0, h.1, f h.0 h.2)
  goes_with cause.Frees to other none nowhere f g (inr h) = inr (h.0, g h.1)

  -- where it goes on it does so with what ends then and is below o
  pub goes_to : (c : Cause) (to : OpKey → Type 0) → BeginsFrom F o m → GoesBack F o m lack c to ⊥ → (p : OpKey) × to p × EndsAt F m p × ((acyclic : IsAcyclic F.plan.contents.pairs) → IsBelow F acyclic p o)
  goes_to cause.Now to at h = absurd h
  goes_to cause.After to at h = (h.0, h.2, h.1.0.1, λ acyclic. awaited_below F acyclic o m at h.0 h.1.0)
  goes_to cause.NotBefore to at h = absurd h
  goes_to cause.Opens to at h = absurd h
  goes_to cause.Frees to at (inl h) = (h.0, h.2, h.1.0.0, λ acyclic. freeing_below F acyclic o m lack at h.0 h.1.0)
  goes_to cause.Frees to at (inr h) = absurd h.1

-- ---- member by member

-- nothing is left
abbrev IsAll : List PathMember → Type 0
IsAll earlier = earlier ≡ []

-- after n members: all of the path to o; or, where it goes on, what is so far, before which the path to the operation at the next index stands, that ends then; fewer operations are below that one than are left
abbrev pub PathUpTo : Forecast → OccKey → OpKey → ℕ → List PathMember → Option ℕ → ℕ → Type 0
PathUpTo F late o n path None until = IsPathTo F late o path
PathUpTo F late o n path (Some i) until =
    (p : OpKey) × IsOfRow F i p × EndsAt F until p × ((rest : List PathMember) → IsPathTo F late p rest → IsPathTo F late o (path ++ rest))
    × ((acyclic : IsAcyclic F.plan.contents.pairs) → how_many F acyclic p + n < length (entries F.plan.contents.operations))

pub path_begins : (F : Forecast) (late : OccKey) (i : ℕ) (o : OpKey) (m : ℕ) → IsOfRow F i o → EndsAt F m o → PathUpTo F late o 0 [] (Some i) m
path_begins F late i o m at ends = (o, at, ends, λ rest is. is, λ acyclic. let few = not_all F acyclic o ends.0 in omega (arith, few))

module _ (F : Forecast) (late : OccKey) (o : OpKey) (n : ℕ) (path : List PathMember) (i until : ℕ) (so_far : PathUpTo F late o n path (Some i) until) (m : PathMember) (is : IsMember F late so_far.0 m) where
  abbrev p : OpKey
  p = so_far.0

  begins : BeginsFrom F p m.begin
  begins = is.begin

  pub path_more : (next : Option ℕ) → IsBefore F p m.begin m.lack m.cause next → PathUpTo F late o (n + 1) (path ++ m ∷ []) next m.begin
  path_more None before =
      so_far.3 (m ∷ []) (is, goes_with F p m.begin m.lack m.cause (λ q. ⊥) (λ q. IsPathTo F late q []) (Unit {0}) (IsAll []) (λ q nothing. absurd nothing) (λ _. refl) before.1)
  path_more (Some j) before =
      let to = goes_to F p m.begin m.lack m.cause (λ q. IsOfRow F j q) begins before.1 in
      let q = to.0 in (
        q,
        to.1,
        to.2,
        λ rest back. subst (IsPathTo F late o) (sym (append_assoc path (m ∷ []) rest))
            (so_far.3 (m ∷ rest) (is, goes_with F p m.begin m.lack m.cause (λ z. IsOfRow F j z) (λ z. IsPathTo F late z rest) ⊥ (IsAll rest) (λ z there. subst (λ k. IsPathTo F late k rest) (one_key F j q z to.1 there) back) (λ nothing. absurd nothing) before.1)),
        λ acyclic.
            let less = fewer F acyclic q p to.2.0 (to.3 acyclic) in
            let few = so_far.4 acyclic in
            omega (arith, less, few),
      )

-- it ends before there are more members than operations
pub path_ends : (F : Forecast) (late : OccKey) (o : OpKey) (n : ℕ) (path : List PathMember) (next : Option ℕ) (until : ℕ) → IsAcyclic F.plan.contents.pairs → length (entries F.plan.contents.operations) ≤ n → PathUpTo F late o n path next until → IsPathTo F late o path
path_ends F late o n path None until acyclic all h = h
path_ends F late o n path (Some i) until acyclic all h = let few = h.4 acyclic in absurd (omega (arith, all, few))
