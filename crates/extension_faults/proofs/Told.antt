-- Faults beside the plan that are told one after another.
use Rattle.std.proofs.Common.{◌≡◌, ◌↔◌, ◌⊎◌, inl, inr, refl, sym, subst, ◌∙◌, arith, ℕ, ◌+◌, Bool, IsTrue, List, [], length, Contains, Option, Some, None}
use Rattle.std.proofs.lemmas.Bool.{cases_lt}
use Rattle.std.proofs.lemmas.Option.{none-some, same_Some, slice_get_within}
use Rattle.plan_basics.proofs.Members.{contains_none}
use Rattle.plan_basics.specs.declared.keys.OccKey.{OccKey}
use Rattle.plan_basics.specs.declared.keys.OpKey.{OpKey}
use Rattle.plan_items.specs.Items.{Fields}
use Rattle.plan_items.specs.declared.Item.{Item}
use Rattle.plan_items.specs.declared.OperationItem.{OperationItem}
use Rattle.plan_items.specs.special_resources.specs.declared.Need.{Need}
use Rattle.plan_drafts.specs.plan_model.specs.Contents.{Contents}
use Rattle.record_faults.specs.Sayings.{Sayings, AreSayings, SaysAt}
use Rattle.record_faults.proofs.Finding.{one_saying}
use Rattle.extension_faults.specs.Beside.{AreFaultsBelow, IsFaultBeside, IsFaultOfRecords, IsWrong, IsWrongDependency, IsWrongNeed, IsWrongOccurrence, IsWrongOperation}
use Rattle.extension_faults.specs.declared.kinds.FaultBeside.{FaultBeside}
use Rattle.extension_faults.specs.declared.kinds.Wrong.{Wrong}
use Rattle.extension_faults.specs.declared.kinds.Wrong.TheVariants as wrong

-- none more: nothing has the property
pub none_more : {V P X : Type 0} → ¬ X → V ↔ (V ⊎ (P × X))
none_more never = (λ v. inl v, elim [ inl v ↦ v | inr h ↦ absurd (never h.1) ])

-- ---- the kinds that an item may have
module _ (Q : Wrong → Type 0) where
  told_as : (k w : Wrong) (b : Bool) → IsTrue b ↔ Q k → (w ≡ k) × IsTrue b → Q w
  told_as k w b is h = subst Q (sym h.0) (is.0 h.1)

pub occurrence_told : (P : Contents) (c : OccKey) (b : Bool) → IsTrue b ↔ IsWrongOccurrence P c wrong.There → (w : Wrong) → ((w ≡ wrong.There) × IsTrue b) ↔ IsWrongOccurrence P c w
occurrence_told P c b is w = (told_as (IsWrongOccurrence P c) wrong.There w b is, back w)
  where
    back : (v : Wrong) → IsWrongOccurrence P c v → (v ≡ wrong.There) × IsTrue b
    back wrong.There h = (refl, is.1 h)
    back _ h = absurd h

pub operation_told : (P : Contents) (o : OperationItem) (b : Bool) → IsTrue b ↔ IsWrongOperation P o wrong.NoWorkstation → (w : Wrong) → ((w ≡ wrong.NoWorkstation) × IsTrue b) ↔ IsWrongOperation P o w
operation_told P o b is w = (told_as (IsWrongOperation P o) wrong.NoWorkstation w b is, back w)
  where
    back : (v : Wrong) → IsWrongOperation P o v → (v ≡ wrong.NoWorkstation) × IsTrue b
    back wrong.NoWorkstation h = (refl, is.1 h)
    back _ h = absurd h

pub need_told : (P : Contents) (n : Need) (a b : Bool) → IsTrue a ↔ IsWrongNeed P n wrong.NoResource → IsTrue b ↔ IsWrongNeed P n wrong.BeyondQuantity
    → (w : Wrong) → (((w ≡ wrong.NoResource) × IsTrue a) ⊎ ((w ≡ wrong.BeyondQuantity) × IsTrue b)) ↔ IsWrongNeed P n w
need_told P n a b lacks beyond w = (to, back w)
  where
    to : ((w ≡ wrong.NoResource) × IsTrue a) ⊎ ((w ≡ wrong.BeyondQuantity) × IsTrue b) → IsWrongNeed P n w
    to (inl h) = told_as (IsWrongNeed P n) wrong.NoResource w a lacks h
    to (inr h) = told_as (IsWrongNeed P n) wrong.BeyondQuantity w b beyond h

    back : (v : Wrong) → IsWrongNeed P n v → ((v ≡ wrong.NoResource) × IsTrue a) ⊎ ((v ≡ wrong.BeyondQuantity) × IsTrue b)
    back wrong.NoResource h = inl (refl, lacks.1 h)
    back wrong.BeyondQuantity h = inr (refl, beyond.1 h)
    back _ h = absurd h

pub dependency_told : (P : Contents) (said : Sayings) (p s : OpKey) (a b d u : Bool)
    → IsTrue a ↔ IsWrongDependency P said p s wrong.NoPredecessor → IsTrue b ↔ IsWrongDependency P said p s wrong.NoSuccessor
    → IsTrue d ↔ IsWrongDependency P said p s wrong.Deleted → IsTrue u ↔ IsWrongDependency P said p s wrong.UnderWay
    → (w : Wrong) → (((((w ≡ wrong.NoPredecessor) × IsTrue a) ⊎ ((w ≡ wrong.NoSuccessor) × IsTrue b)) ⊎ ((w ≡ wrong.Deleted) × IsTrue d)) ⊎ ((w ≡ wrong.UnderWay) × IsTrue u)) ↔ IsWrongDependency P said p s w
dependency_told P said p s a b d u first second deleted under_way w = (to, back w)
  where
    to : ((((w ≡ wrong.NoPredecessor) × IsTrue a) ⊎ ((w ≡ wrong.NoSuccessor) × IsTrue b)) ⊎ ((w ≡ wrong.Deleted) × IsTrue d)) ⊎ ((w ≡ wrong.UnderWay) × IsTrue u) → IsWrongDependency P said p s w
    to (inl (inl (inl h))) = told_as (IsWrongDependency P said p s) wrong.NoPredecessor w a first h
    to (inl (inl (inr h))) = told_as (IsWrongDependency P said p s) wrong.NoSuccessor w b second h
    to (inl (inr h)) = told_as (IsWrongDependency P said p s) wrong.Deleted w d deleted h
    to (inr h) = told_as (IsWrongDependency P said p s) wrong.UnderWay w u under_way h

    back : (v : Wrong) → IsWrongDependency P said p s v → ((((v ≡ wrong.NoPredecessor) × IsTrue a) ⊎ ((v ≡ wrong.NoSuccessor) × IsTrue b)) ⊎ ((v ≡ wrong.Deleted) × IsTrue d)) ⊎ ((v ≡ wrong.UnderWay) × IsTrue u)
    back wrong.NoPredecessor h = inl (inl (inl (refl, first.1 h)))
    back wrong.NoSuccessor h = inl (inl (inr (refl, second.1 h)))
    back wrong.Deleted h = inl (inr (refl, deleted.1 h))
    back wrong.UnderWay h = inr (refl, under_way.1 h)
    back _ h = absurd h

-- ---- what the record at a place says
module _ (P : Contents) (said : Sayings) (place : ℕ) (found : Option Item) (says : (x : Item) → (found ≡ Some x) ↔ SaysAt said place x) where
  pub said_told : (x : Item) → found ≡ Some x → (w : Wrong) → IsWrong P said x w ↔ IsFaultBeside P said place w
  said_told x is w = (
    λ h. (x, (says x).0 is, h),
    λ h. subst (λ y. IsWrong P said y w) (same_Some h.0 x (sym ((says h.0).1 h.1) ∙ is)) h.2,
  )

  pub nothing_told : found ≡ None → (w : Wrong) → ¬ IsFaultBeside P said place w
  nothing_told none w h = none-some h.0 (sym none ∙ (says h.0).1 h.1)

-- ---- all places
module _ (P : Contents) (said : Sayings) where
  pub none_below : AreFaultsBelow P said 0 []
  none_below f = (λ has. absurd (contains_none f has), λ h. let lt = h.0 in absurd (omega (arith, lt)))

  pub more_below : (n : ℕ) (old new : List FaultBeside) → AreFaultsBelow P said n old → ((f : FaultBeside) → Contains new f ↔ (Contains old f ⊎ ((f.place ≡ n) × IsFaultBeside P said n f.wrong))) → AreFaultsBelow P said (n + 1) new
  more_below n old new below told f = (
    λ h. elim ((told f).0 h) [
      | inl before ↦ let is = (below f).0 before in let lt = is.0 in (omega (arith, lt), is.1)
      | inr here ↦ let at = here.0 in (omega (arith, at), subst (λ i. IsFaultBeside P said i f.wrong) (sym at) here.1)
    ],
    λ h. elim (cases_lt f.place n) [
      | inl less ↦ (told f).1 (inl ((below f).1 (less, h.1)))
      | inr le ↦ let lt = h.0 in let at : f.place ≡ n = omega (arith, lt, le) in (told f).1 (inr (at, subst (λ i. IsFaultBeside P said i f.wrong) at h.1))
    ],
  )

-- records say one thing
pub all_told : (P : Contents) (records : List Fields) (said : Sayings) → AreSayings records said → (same : Sayings) → same ≡ said → (found : List FaultBeside) → AreFaultsBelow P same (length same) found
    → (f : FaultBeside) → Contains found f ↔ IsFaultOfRecords P records f.place f.wrong
all_told P records said are same is found below f = (
  λ h. (said, are, subst (λ z. IsFaultBeside P z f.place f.wrong) is ((below f).0 h).1),
  λ h.
      let one : h.0 ≡ same = one_saying records h.0 said h.1 are ∙ sym is in
      let at : IsFaultBeside P same f.place f.wrong = subst (λ z. IsFaultBeside P z f.place f.wrong) one h.2 in
      (below f).1 (slice_get_within same f.place (Some at.0) at.1, at),
)
