-- What the status, the attribute and the lines of an operation say of its going and its beginning.
use Rattle.std.proofs.Common.{◌≡◌, ◌⊎◌, inl, inr, refl, sym, ◌∙◌, ap, subst, true, false, true≢false, ℕ, Bool, not, Some, Result, Ok, Err, OnOk, IfErr, Decides}
use Rattle.std.specs.Result.{is_ok}
use Rattle.std.proofs.lemmas.Option.{same_Some}
use Rattle.std.specs.FinMap.{get}
use Rattle.plan_basics.specs.declared.Attr.{Attr}
use Rattle.plan_basics.specs.declared.Attr.TheVariants as attribute
use Rattle.plan_basics.specs.declared.Refusal.{Refusal}
use Rattle.plan_basics.specs.declared.keys.OpKey.{OpKey}
use Rattle.plan_model.specs.Contents.{Contents, HasAttribute, Operation, attribute_at}
use Rattle.plan_model.specs.Starts.{MayStart}
use Rattle.plan_model.specs.Status.{HasStatus, IsReady}
use Rattle.plan_model.specs.Valid.{IsValid}
use Rattle.derived_figures.specs.plan_laws.proofs.Classes.{classes_of_status}
use Rattle.derived_figures.specs.plan_laws.proofs.Standing.{one_status}
use Rattle.derived_figures.specs.start_choice.specs.Takings.{CanStart}
use Rattle.derived_figures.specs.Reports.{IsReported}
use Rattle.derived_figures.specs.declared.outlines.ReportedOperation.{ReportedOperation}
use Rattle.plan_checks.proofs.Permitting.{line_by_line}
use Rattle.status_rules.specs.Classes.{is_ready}
use Rattle.status_rules.specs.declared.Status.{Status}
use Rattle.status_rules.specs.declared.Status.TheVariants as status
use Rattle.plan_forecast.specs.Ahead.{IsGoing, MayBegin}

-- what is going is started or ready
pub may_be : (P : Contents) (o : OpKey) (s : Status) → IsValid P → HasStatus P o s → IsGoing P o → (s ≡ status.Started) ⊎ (is_ready s ≡ true)
may_be P o s valid is (inl h) = inl (one_status P valid.acyclic o s status.Started is h)
may_be P o s valid is (inr h) = inr ((classes_of_status P valid o s is).ready.0 h.0)

module _ (P : Contents) (o : OpKey) (x : ReportedOperation) (is : IsReported P o x) where
  pub started_going : x.status ≡ status.Started → IsGoing P o
  started_going e = inl (subst (HasStatus P o) e is.status)

  pub not_started : ¬ (x.status ≡ status.Started) → HasStatus P o status.Started → ⊥
  not_started never h = never (sym (is.alone status.Started h))

  pub is_its : (op : Operation) → get P.operations o ≡ Some op → op ≡ x.operation.now
  is_its op found = same_Some op x.operation.now (sym found ∙ is.operation)

  pub same_attribute : (op : Operation) → get P.operations o ≡ Some op → (a : Attr) → HasAttribute P op.workstation a → x.attribute ≡ a
  same_attribute op found a on = same_Some x.attribute a (sym is.attribute ∙ ap (λ (z : Operation). attribute_at P z.workstation) (sym (is_its op found)) ∙ on)

  module _ (valid : IsValid P) where
    pub ready_if : is_ready x.status ≡ true → IsReady P o
    ready_if e = (classes_of_status P valid o x.status is.status).ready.1 e

    pub if_ready : IsReady P o → is_ready x.status ≡ true
    if_ready h = (classes_of_status P valid o x.status is.status).ready.0 h

    pub not_ready : is_ready x.status ≡ false → IsReady P o → ⊥
    not_ready e h = true≢false (sym (if_ready h) ∙ e)

  pub completing_going : IsReady P o → x.attribute ≡ attribute.CompletionOnly → (b : Bool) → b ≡ x.operation.now.held → (not b ≡ true → IsGoing P o)
  completing_going ready on false e h = inr (ready, (x.operation.now, is.operation, (is.attribute ∙ ap Some on, sym e)))
  completing_going ready on true e h = absurd (true≢false (sym h))

  pub going_completing : ¬ (x.status ≡ status.Started) → IsGoing P o → (x.attribute ≡ attribute.CompletionOnly) × (x.operation.now.held ≡ false) × IsReady P o
  going_completing never (inl h) = absurd (not_started never h)
  going_completing never (inr h) = (same_attribute h.1.0 h.1.1 attribute.CompletionOnly h.1.2.0, ap (λ (z : Operation). z.held) (sym (is_its h.1.0 h.1.1)) ∙ h.1.2.1, h.0)

  -- what is tested of a start decides whether it may begin
  module _ (valid : IsValid P) (a : Attr) (m : ℕ) (on : x.attribute ≡ a) (ready : is_ready x.status ≡ true) where
    pub by_check : {U : Type 0} (r : Result U Refusal) → OnOk r (CanStart P o x.operation.now m) → IfErr r (λ e. ¬ MayStart P o x.operation.now m e) → Decides (is_ok r) (MayBegin a P o m)
    by_check (Ok u) can never = (
      λ e. (ready_if valid ready, (x.operation.now, is.operation, is.attribute ∙ ap Some on), (x.operation.now, is.operation, λ r. line_by_line P o x.operation.now m (λ _. Unit {0}) (inl (ready_if valid ready)) (λ line first _. can line first) r tt)),
      λ may. refl,
    )
    by_check (Err e) can never = (
      λ h. absurd (true≢false (sym h)),
      λ may. absurd (never (subst (λ z. MayStart P o z m e) (is_its may.2.0 may.2.1) (may.2.2 e))),
    )
