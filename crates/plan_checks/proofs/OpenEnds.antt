-- Whether operations of the plan's other occurrences are open to a pair that is added, by their statuses.
use Rattle.std.proofs.Common.{◌≡◌, ◌≢◌, refl, sym, subst, ◌∙◌, Option, Some, None, IfSome, IsNone, MatchOption, Decides}
use Rattle.std.proofs.lemmas.Option.{none-some}
use Rattle.std.specs.FinMap.{get}
use Rattle.plan_records.specs.Acceptance.{IsOld}
use Rattle.derived_figures.specs.Reports.{IsOfStatus}
use Rattle.plan_drafts.specs.Drafts.{IsOwn}
use Rattle.std.proofs.lemmas.Bool.{true_from_ne_false}
use Rattle.plan_basics.specs.declared.keys.OpKey.{OpKey}
use Rattle.plan_model.specs.Contents.{Contents, AddedParts}
use Rattle.plan_model.specs.Status.{HasStatus}
use Rattle.status_rules.specs.Classes.{is_waiting_or_ready}
use Rattle.status_rules.specs.declared.Status.{Status}
use Rattle.status_rules.specs.declared.Status.TheVariants as status
use Rattle.derived_figures.specs.plan_laws.proofs.Classes.{waits_by}
use Rattle.plan_checks.proofs.ByCommand.{not_waiting_or_ready}
use Rattle.plan_checks.specs.Additions.{IsOldWith, MayPrecede, MaySucceed}

-- an operation of another occurrence is there with its status where one is found
pub old_told : (P : Contents) (s : AddedParts) (o : OpKey) → ¬ IsOwn s o → (x : Option Status) → IfSome x (IsOfStatus P o) → (IsNone x → get P.operations o ≡ None) → MatchOption x (¬ IsOld P s o) (IsOldWith P s o)
old_told P s o other (Some x) found absent = ((found.known, other), found)
old_told P s o other None found absent = λ old. none-some old.0.0 (sym (absent refl) ∙ old.0.1)

module _ (P : Contents) (s : AddedParts) (o : OpKey) (x : Status) (is : IsOldWith P s o x) where
  pub succeeds_told : Decides (is_waiting_or_ready x) (MaySucceed P s o)
  succeeds_told = (
    λ yes old. waits_by P o x is.1.status yes,
    λ may. true_from_ne_false (is_waiting_or_ready x) (λ no. not_waiting_or_ready P o x is.1.alone no (may is.0)),
  )

  pub live_precedes : x ≢ status.Deleted → MayPrecede P s o
  live_precedes live old deleted = live (sym (is.1.alone status.Deleted deleted))

  pub deleted_bars : x ≡ status.Deleted → ¬ MayPrecede P s o
  deleted_bars deleted may = may is.0 (subst (HasStatus P o) deleted is.1.status)
