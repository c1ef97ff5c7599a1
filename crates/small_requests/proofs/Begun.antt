-- What a small request edits is the operation that it begins with, or follows something that it edits.
use Rattle.std.proofs.Common.{◌≡◌, ◌⊎◌, inl, inr, refl, sym, subst, arith, ℕ, ◌+◌, ◌*◌, ◌≤◌, List, [], ◌∷◌, length, Contains, Option, Some, None}
use Rattle.plan_basics.specs.declared.keys.OpKey.{OpKey}
use Rattle.operation_graph.specs.Paths.{IsPathBy, ReachesBy, end_of}
use Rattle.plan_records.specs.Work.{IsWorkedOn}
use Rattle.plan_records.specs.declared.What.{What}
use Rattle.plan_records.specs.declared.What.TheVariants as what
use Rattle.plan_drafts.proofs.Lists.{contains_head, contains_none}
use Rattle.plan_model.specs.Contents.{Contents, IsLive, Precedes}
use Rattle.small_requests.specs.RequestEdits.{Edits, target_of}

-- what there is, as a list
abbrev pub listed : Option OpKey → List OpKey
listed None = []
listed (Some o) = o ∷ []

-- the operation that it begins with
abbrev pub begins : What → List OpKey
begins (what.Rerun o) = o ∷ []
begins w = listed (target_of w)

-- and none where nothing is edited
abbrev pub first_of : What → List ℕ → List OpKey
first_of w [] = []
first_of w (i ∷ edits) = begins w

few_listed : (x : Option OpKey) → length (listed x) ≤ 1
few_listed None = omega arith
few_listed (Some o) = omega arith

few_begins : (w : What) → length (begins w) ≤ 1
few_begins (what.Rerun o) = omega arith
few_begins w = few_listed (target_of w)

pub few_first : (w : What) (edits : List ℕ) → length (first_of w edits) ≤ 1
few_first w [] = omega arith
few_first w (i ∷ edits) = few_begins w

-- the looks that aren't at what is edited
abbrev pub base_of : List ℕ → ℕ
base_of [] = 2
base_of (i ∷ edits) = 1

pub base_few : (w : What) (edits : List ℕ) → base_of edits + 3 * length (first_of w edits) ≤ 4
base_few w [] = omega arith
base_few w (i ∷ edits) = omega (arith, few_begins w)

first_there : (w : What) (edits : List ℕ) (i : ℕ) (o : OpKey) → Contains edits i → Contains (begins w) o → Contains (first_of w edits) o
first_there w [] i o has begun = absurd (contains_none i has)
first_there w (j ∷ edits) i o has begun = begun

module _ {K : Type 0} (edge : K → K → Type 0) (live : K → Type 0) where
  -- a path has no step, or a last one
  last_step : (a b : K) (rest : List K) → IsPathBy edge live a rest → end_of a rest ≡ b → (a ≡ b) ⊎ ((c : K) × ReachesBy edge live a c × edge c b)
  last_step a b [] path e = inl e
  last_step a b (x ∷ rest) path e = elim (last_step x b rest path.2 e) [
    | inl same ↦ inr (a, ([], tt, refl), subst (edge a) same path.0)
    | inr more ↦ inr (more.0, (x ∷ more.1.0, (path.0, path.1, more.1.1), more.1.2), more.2)
  ]

edits_in_turn : (P R : Contents) (w : What) (o : OpKey) → Edits P w o → Contains (begins w) o ⊎ ((c : OpKey) × IsWorkedOn P w R c × Precedes P c o)
edits_in_turn P R (what.Rerun p) o reached = elim (last_step (Precedes P) (IsLive P) p o reached.0 reached.1 reached.2) [
  | inl same ↦ inl (subst (Contains (p ∷ [])) same (contains_head p []))
  | inr more ↦ inr (more.0, inr more.1, more.2)
]
edits_in_turn P R w o edits = inl (subst (λ x. Contains (listed x) o) (sym edits) (contains_head o []))

pub begun_in_turn : (P R : Contents) (w : What) (edits : List ℕ) (i : ℕ) (o : OpKey) → Contains edits i → Edits P w o → Contains (first_of w edits) o ⊎ ((c : OpKey) × IsWorkedOn P w R c × Precedes P c o)
begun_in_turn P R w edits i o has is = elim (edits_in_turn P R w o is) [ inl begun ↦ inl (first_there w edits i o has begun) | inr more ↦ inr more ]
