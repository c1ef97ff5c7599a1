-- A request that isn't small and extends nothing keeps the operations that there were, and so does what is named then.
use Rattle.std.proofs.Common.{◌≡◌, ◌⊎◌, inl, inr, refl, sym, ap, subst, ◌∙◌, ℕ, Bool, true, false, cond, List, Option, Some, None, is_some, option_map}
use Rattle.std.proofs.lemmas.Bool.{true≢false}
use Rattle.std.specs.FinMap.{contains_key, get}
use Rattle.std.specs.Ordering.{eq_by_cmp}
use Rattle.plan_basics.specs.Keys.{occurrence_cmp, operation_cmp_total}
use Rattle.plan_basics.specs.Refusals.{NoneRefuses}
use Rattle.plan_basics.specs.declared.Refusal.TheVariants as refusal
use Rattle.plan_basics.specs.declared.keys.OpKey.{OpKey}
use Rattle.request_outcomes.specs.Requested.{AreMadeBy}
use Rattle.plan_records.specs.Acceptance.{MayBeAdded, MayBeDone, NeedsPlan}
use Rattle.plan_records.specs.Changes.{Changes, IsRequest}
use Rattle.plan_records.specs.declared.What.{What}
use Rattle.plan_records.specs.declared.What.TheVariants as what
use Rattle.plan_drafts.specs.Drafts.{IsExtension}
use Rattle.plan_model.specs.Contents.{AddedParts, Contents, Operation}
use Rattle.plan_model.specs.Ready.{IsChosen, named, with_mark}
use Rattle.plan_model.specs.Revise.{get-joined, or_else}
use Rattle.plan_model.specs.Valid.{IsSound}
use Rattle.small_requests.specs.plan_laws.proofs.Kept.{ready_unmarked}
use Rattle.small_requests.specs.plan_laws.proofs.Revised.{get-revised}
use Rattle.small_requests.proofs.ChosenEntries.{chosen_are_ready}
use Rattle.small_requests.specs.RequestEdits.{IsSmall}
use Rattle.small_requests.specs.plan_changes.specs.Additions.{HasNothingOf}
use Rattle.small_requests.specs.plan_checks.proofs.ComingApart.{comes_apart}
use Rattle.small_requests.specs.plan_checks.specs.Commands.{Extends}
use Rattle.small_requests.specs.plan_rows.specs.Kept.{IsKeptIn, KeepsRecords, MarkGoesOn}
use Rattle.plan_model.specs.ready_list.specs.Choice.{is_among}
use Rattle.status_rules.specs.declared.Mark.{Mark}
use Rattle.status_rules.specs.declared.Mark.TheVariants as mark

-- o is an operation of Q with this record, perhaps deleted
abbrev IsLeftIn : Contents → OpKey → Operation → Type 0
IsLeftIn Q o op = (m : Mark) × (get Q.operations o ≡ Some (with_mark m op)) × ((m ≡ op.mark) ⊎ (m ≡ mark.Deleted))

-- each operation of P is left in Q
abbrev LeavesRecords : Contents → Contents → Type 0
LeavesRecords P Q = (o : OpKey) (op : Operation) → get P.operations o ≡ Some op → IsLeftIn Q o op

-- ---- what a request leaves

deleted_or_not : (Q : Contents) (o : OpKey) (op : Operation) (test : Bool) → get Q.operations o ≡ Some (cond test (with_mark mark.Deleted op) op) → IsLeftIn Q o op
deleted_or_not Q o op true is = (mark.Deleted, is, inr refl)
deleted_or_not Q o op false is = (op.mark, is, inl refl)

-- what is added takes the place of nothing
still_there : (s : AddedParts) (o : OpKey) (op : Operation) (x y : Option Operation) → y ≡ Some op → is_some x ≡ false → or_else x y ≡ Some op
still_there s o op None y is none = is
still_there s o op (Some z) y is none = absurd (true≢false none)

module _ (P Q : Contents) (m : ℕ) (sound : IsSound P) where
  added_leaves : (s : AddedParts) → IsExtension s → MayBeAdded P s refusal.Duplicate → Changes P (what.AddOccurrence (Some s)) Q → LeavesRecords P Q
  added_leaves s legal new changes o op is =
      let apart : HasNothingOf P s = comes_apart P sound.valid s legal new in
      let same : changes.0 ≡ s = same_parts changes.0 (changes.1) in (
        op.mark,
        ap (λ (R : Contents). get R.operations o) changes.2 ∙ get-joined operation_cmp_total P.operations changes.0.operations o
            ∙ still_there s o op (get changes.0.operations o) (get P.operations o) is (subst (λ (t : AddedParts). contains_key t.operations o ≡ false) (sym same) (apart.operations o (ap is_some is))),
        inl refl,
      )
    where
      same_parts : (t : AddedParts) → Some s ≡ Some t → t ≡ s
      same_parts t e = cc

  pub leaves : (w : What) → NeedsPlan w → ¬ IsSmall w → ¬ Extends w → NoneRefuses (MayBeDone P m w) → IsRequest w → Changes P w Q → LeavesRecords P Q
  leaves (what.Load draft) needs whole stays clear legal changes = absurd needs
  leaves (what.DeleteOccurrence c) needs whole stays clear legal changes = λ o op is.
      deleted_or_not Q o op (eq_by_cmp occurrence_cmp o.occurrence c)
      (ap (λ (R : Contents). get R.operations o) changes ∙ get-revised (λ q. eq_by_cmp occurrence_cmp q.occurrence c) (with_mark mark.Deleted) P o
      ∙ ap (option_map (λ (x : Operation). cond (eq_by_cmp occurrence_cmp o.occurrence c) (with_mark mark.Deleted x) x)) is)
  leaves (what.AddOccurrence None) needs whole stays clear legal changes = absurd (clear refusal.BadPlan)
  leaves (what.AddOccurrence (Some s)) needs whole stays clear legal changes = added_leaves s legal.extension (clear refusal.Duplicate) changes
  leaves (what.AddDependency p s) needs whole stays clear legal changes = λ o op is. (op.mark, ap (λ (R : Contents). get R.operations o) changes ∙ is, inl refl)
  leaves (what.Extend a) needs whole stays clear legal changes = absurd (stays tt)
  leaves _ needs whole stays clear legal changes = absurd (whole tt)

-- ---- and once what is chosen is named

module _ (Q : Contents) (m : ℕ) (os : List OpKey) (chosen : IsChosen Q m os) where
  named_goes : (op : Operation) (before : Mark) → before ≡ mark.Unmarked → (before ≡ op.mark) ⊎ (before ≡ mark.Deleted) → MarkGoesOn op.mark mark.Named
  named_goes op before unmarked (inl same) = inr (inr (sym same ∙ unmarked, refl))
  named_goes op before unmarked (inr deleted) = let no : mark.Deleted ≡ mark.Unmarked = sym deleted ∙ unmarked in absurd (cc)

  once_named : (o : OpKey) (op : Operation) (left : IsLeftIn Q o op) (test : Bool) → is_among os o ≡ test → get (named os Q).operations o ≡ Some (cond test (with_mark mark.Named (with_mark left.0 op)) (with_mark left.0 op)) → IsKeptIn (named os Q) o op
  once_named o op left true among is =
      let unmarked : left.0 ≡ mark.Unmarked = ready_unmarked Q o (with_mark left.0 op) left.1 ((chosen_are_ready Q m os chosen).0 o among) in
      (mark.Named, is, named_goes op left.0 unmarked left.2)
  once_named o op left false among is = (left.0, is, elim left.2 [ inl same ↦ inl same | inr deleted ↦ inr (inl deleted) ])

  pub named_keeps : (P : Contents) → LeavesRecords P Q → KeepsRecords P (named os Q)
  named_keeps P leaves o op is =
      let left = leaves o op is in
      once_named o op left (is_among os o) refl
      (get-revised (is_among os) (with_mark mark.Named) Q o ∙ ap (option_map (λ (x : Operation). cond (is_among os o) (with_mark mark.Named x) x)) left.1)

-- so what such a request makes of a plan keeps its operations, whatever is named
pub request_keeps : (P Q : Contents) (w : What) (at m : ℕ) → IsSound P → NeedsPlan w → ¬ IsSmall w → ¬ Extends w → NoneRefuses (MayBeDone P at w) → AreMadeBy P w Q → (os : List OpKey) → IsChosen Q m os → KeepsRecords P (named os Q)
request_keeps P Q w at m sound needs whole stays clear made os chosen = named_keeps Q m os chosen P (leaves P Q at sound w needs whole stays clear made.is_request made.changes)
