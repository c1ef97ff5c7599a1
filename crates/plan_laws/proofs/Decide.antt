-- Whether an operation is satisfied can be decided, where there is a rank.
use Rattle.std.proofs.Common.{◌≡◌, ◌⊎◌, inl, inr, refl, sym, ◌∙◌, ap, subst, arith, ℕ, zero, suc, ◌<◌, true, false, Option, Some, None}
use Rattle.std.specs.FinMap.{get}
use Rattle.std.specs.FinSet as set
use Rattle.operation_graph.specs.Paths.{IsRankBy}
use Rattle.plan_basics.specs.Keys.{Name}
use Rattle.plan_basics.specs.declared.Attr.{Attr}
use Rattle.plan_basics.specs.declared.Attr.TheVariants as attribute
use Rattle.plan_basics.specs.declared.keys.OpKey.{OpKey}
use Rattle.status_rules.specs.LeastSet.{by_all_before, by_given}
use Rattle.status_rules.specs.declared.Mark.{Mark}
use Rattle.status_rules.specs.declared.Mark.TheVariants as mark
use Rattle.plan_laws.proofs.Entries.{told_has, told_operations}
use Rattle.std.proofs.lemmas.Option.{none-some, same_Some}
use Rattle.operation_graph.proofs.Telling.{Told, if_told, is_told, told_alike, told_and, told_if, told_if_then, told_none, told_or, told_true}
use Rattle.plan_records.specs.plan_model.specs.Contents.{Contents, Has, HasAttribute, IsLive, LivePredecessor, Operation, Precedes, attribute_at}
use Rattle.plan_records.specs.plan_model.specs.Status.{AllPredecessorsSatisfied, IsInEachClosedSet, IsSatisfied, NeedsNoReport}
pub use Rattle.plan_laws.proofs.Pairs.{pair_cmp_total, pair_same}

-- why it is satisfied
abbrev pub SatisfiedCase : Contents → OpKey → Type 0
SatisfiedCase P o = Has P o (λ op. (op.mark ≡ mark.Done) ⊎ (op.mark ≡ mark.Deleted) ⊎ ((op.mark ≡ mark.Unmarked) × (op.held ≡ false) × NeedsNoReport P op × AllPredecessorsSatisfied P o))

pub invert : (P : Contents) {o : OpKey} → IsSatisfied P o → SatisfiedCase P o
invert P (by_given h) = (h.0, h.1, elim h.2 [ inl done ↦ inl done | inr deleted ↦ inr (inl deleted) ])
invert P (by_all_before h before) = (h.0, h.1, inr (inr (h.2.0, h.2.1, h.2.2, before)))

pub in_each : (P : Contents) {o : OpKey} → IsSatisfied P o → IsInEachClosedSet P o
in_each P (by_given h) test closed = closed.by_given _ h
in_each P (by_all_before h before) test closed = closed.by_all_before _ h (λ p live. in_each P (before p live) test closed)

-- the least set is the least among the tests, where it is one
pub from_each : (P : Contents) → ((o : OpKey) → Told (IsSatisfied P o)) → (o : OpKey) → IsInEachClosedSet P o → IsSatisfied P o
from_each P told o h =
    if_told (told o) (h (λ p. is_told (told p)) (record {
      by_given = λ p m. told_if (told p) (by_given m);
      by_all_before = λ p m before. told_if (told p) (by_all_before m (λ q live. if_told (told q) (before q live)));
    }))

-- ---- attributes, and live predecessors

same_attribute : (a b : Attr) → Told (a ≡ b)
same_attribute attribute.Automatic attribute.Automatic = inl refl
same_attribute attribute.StartAndCompletion attribute.StartAndCompletion = inl refl
same_attribute attribute.CompletionOnly attribute.CompletionOnly = inl refl
same_attribute attribute.Nonreporting attribute.Nonreporting = inl refl
same_attribute a b = inr (λ e. cc)

attribute_is : (x : Option Attr) (a : Attr) → Told (x ≡ Some a)
attribute_is None a = inr (λ e. none-some a e)
attribute_is (Some b) a = told_alike (λ e. ap Some e) (λ e. same_Some b a e) (same_attribute b a)

pub told_attribute : (P : Contents) (w : Name) (a : Attr) → Told (HasAttribute P w a)
told_attribute P w a = attribute_is (attribute_at P w) a

told_deleted : (m : Mark) → Told (m ≡ mark.Deleted)
told_deleted mark.Deleted = inl refl
told_deleted m = inr (λ e. cc)

pub told_live : (P : Contents) (p : OpKey) → Told (IsLive P p)
told_live P p = told_has P p (λ op. ¬ (op.mark ≡ mark.Deleted)) (λ op e. told_none (told_deleted op.mark))

pub told_live_predecessor : (P : Contents) (p o : OpKey) → Told (LivePredecessor P p o)
told_live_predecessor P p o = told_and (told_true (set.contains P.pairs (p, o)) true) (λ _. told_live P p)

-- ---- one operation

module _ (P : Contents) (o : OpKey) (op : Operation) (is : get P.operations o ≡ Some op) (before : Told (AllPredecessorsSatisfied P o)) where
  the_case : {A : Type 0} → ((op.mark ≡ mark.Done) → A) → ((op.mark ≡ mark.Deleted) → A) → ((op.mark ≡ mark.Unmarked) → (op.held ≡ false) → NeedsNoReport P op → AllPredecessorsSatisfied P o → A) → IsSatisfied P o → A
  the_case f g k s =
      let c = invert P s in
      let e : c.0 ≡ op = same_Some c.0 op (sym c.1 ∙ is) in
      let at : ((op.mark ≡ mark.Done) ⊎ (op.mark ≡ mark.Deleted) ⊎ ((op.mark ≡ mark.Unmarked) × (op.held ≡ false) × NeedsNoReport P op × AllPredecessorsSatisfied P o)) = subst (λ x. (x.mark ≡ mark.Done) ⊎ (x.mark ≡ mark.Deleted) ⊎ ((x.mark ≡ mark.Unmarked) × (x.held ≡ false) × NeedsNoReport P x × AllPredecessorsSatisfied P o)) e c.2 in
      elim at [ inl done ↦ f done | inr (inl deleted) ↦ g deleted | inr (inr u) ↦ k u.0 u.1 u.2 u.3 ]

  unmarked : op.mark ≡ mark.Unmarked → Told (op.held ≡ false) → Told (NeedsNoReport P op) → Told (AllPredecessorsSatisfied P o) → Told (IsSatisfied P o)
  unmarked m (inl h) (inl n) (inl b) = inl (by_all_before (op, is, (m, h, n)) b)
  unmarked m (inr h) n b = inr (the_case (λ e. cc) (λ e. cc) (λ u x y z. h x))
  unmarked m (inl h) (inr n) b = inr (the_case (λ e. cc) (λ e. cc) (λ u x y z. n y))
  unmarked m (inl h) (inl n) (inr b) = inr (the_case (λ e. cc) (λ e. cc) (λ u x y z. b z))

  by_its_mark : (m : Mark) → op.mark ≡ m → Told (IsSatisfied P o)
  by_its_mark mark.Unmarked e = unmarked e (told_true op.held false) (told_or (told_true op.nop true) (told_attribute P op.workstation attribute.Nonreporting)) before
  by_its_mark mark.Done e = inl (by_given (op, is, inl e))
  by_its_mark mark.Deleted e = inl (by_given (op, is, inr e))
  by_its_mark m e = inr (the_case (λ d. cc) (λ d. cc) (λ u x y z. cc))

told_one : (P : Contents) (o : OpKey) (x : Option Operation) → get P.operations o ≡ x → Told (AllPredecessorsSatisfied P o) → Told (IsSatisfied P o)
told_one P o None e before = inr (λ s. let c = invert P s in none-some c.0 (sym e ∙ c.1))
told_one P o (Some op) e before = by_its_mark P o op e before op.mark refl

module _ (P : Contents) (rank : OpKey → ℕ) (is_rank : IsRankBy (Precedes P) rank) where
  told_up_to : (n : ℕ) (o : OpKey) → rank o < n → Told (IsSatisfied P o)
  told_up_to zero o h = absurd (omega arith)
  told_up_to (suc n) o h =
      told_one P o (get P.operations o) refl
      (told_operations P (λ p. LivePredecessor P p o → IsSatisfied P p)
      (λ p. told_if_then (told_live_predecessor P p o) (λ live. told_up_to n p (let r = is_rank p o live.0 in omega arith)))
      (λ p not live. absurd (not (live.1.0, live.1.1, tt))))

  pub told_satisfied : (o : OpKey) → Told (IsSatisfied P o)
  told_satisfied o = told_up_to (suc (rank o)) o (omega arith)
