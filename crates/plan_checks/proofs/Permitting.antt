-- What the status of a reported operation says of the lines that its report goes by.
use Rattle.std.proofs.Common.{◌≡◌, ◌≢◌, ◌⊎◌, inl, inr, refl, sym, ap, subst, ◌∙◌, arith, ℕ, ◌<◌, true, false, true≢false, Some}
use Rattle.plan_basics.specs.declared.Attr.{Attr}
use Rattle.plan_basics.specs.declared.Attr.TheVariants as attribute
use Rattle.plan_basics.specs.declared.Refusal.{Refusal}
use Rattle.plan_basics.specs.declared.Refusal.TheVariants as refusal
use Rattle.plan_basics.specs.declared.keys.OpKey.{OpKey}
use Rattle.plan_basics.specs.Refusals.{number_of}
use Rattle.plan_model.specs.Holdings.{given_out, holds_server, takes}
use Rattle.derived_figures.specs.plan_laws.proofs.Classes.{passes, ready_by}
use Rattle.std.proofs.lemmas.Option.{same_Some}
use Rattle.plan_model.specs.Contents.{Contents, Operation}
use Rattle.plan_model.specs.Starts.{MayStart}
use Rattle.plan_model.specs.Status.{HasStatus, IsReady}
use Rattle.plan_records.specs.Acceptance.{MayBeEnded, MayBeInterrupted, MayBeUndecided}
use Rattle.special_resources.specs.Holdings.{Held}
use Rattle.status_rules.specs.Classes.{is_ready, is_startable}
use Rattle.status_rules.specs.declared.Status.{Status}
use Rattle.status_rules.specs.declared.Status.TheVariants as status
use Rattle.plan_model.specs.workstations.specs.declared.Capacity.{Capacity}
use Rattle.derived_figures.specs.start_choice.specs.Choices.{AreHeldIn, HasTaken, IsStartLine}
use Rattle.plan_checks.specs.Bars.{FailsAt, MeetsAll}
use Rattle.derived_figures.specs.Reports.{IsReported}
use Rattle.derived_figures.specs.declared.outlines.ReportedOperation.{ReportedOperation}

module _ (P : Contents) (o : OpKey) where
  running_by : (s : Status) → HasStatus P o s → holds_server (Some s) ≡ true → HasStatus P o status.Started ⊎ HasStatus P o status.Undecided
  running_by status.Started h e = inl h
  running_by status.Undecided h e = inr h
  running_by s h e = absurd (cc)

  startable_by : (s : Status) → HasStatus P o s → is_startable s ≡ true → IsReady P o ⊎ HasStatus P o status.Interrupted
  startable_by status.Interrupted h e = inr h
  startable_by s h e = inl (ready_by P o s h e)

  module _ (x : ReportedOperation) (is : IsReported P o x) where
    pub is_running : holds_server (Some x.status) ≡ true → HasStatus P o status.Started ⊎ HasStatus P o status.Undecided
    is_running = running_by x.status is.status

    -- what may be started where starts are reported
    pub startable : (m : ℕ) → x.attribute ≡ attribute.StartAndCompletion → is_startable x.status ≡ true → MayStart P o x.operation.now m refusal.WrongStatus
    startable m on e = elim (startable_by x.status is.status e) [ inl ready ↦ inl ready | inr h ↦ inr (h, is.attribute ∙ ap Some on) ]

    pub startable_told : (m : ℕ) → MayStart P o x.operation.now m refusal.WrongStatus → is_startable x.status ≡ true
    startable_told m (inl (inl h)) = passes P o x.status is.alone is_startable status.Arriving refl h
    startable_told m (inl (inr (inl h))) = passes P o x.status is.alone is_startable status.ReadyAfterNonreporting refl h
    startable_told m (inl (inr (inr h))) = passes P o x.status is.alone is_startable status.Ready refl h
    startable_told m (inr h) = passes P o x.status is.alone is_startable status.Interrupted refl h.0

-- ---- what is reported of an operation, in all plans where it is so

module _ (x : ReportedOperation) where
  -- what an end or an error asks of it on a workstation of this attribute
  abbrev EndsOn : Attr → Contents → OpKey → Refusal → Type 0
  EndsOn a P o = MayBeEnded P o x.operation.now (Some a)

  module _ (run : holds_server (Some x.status) ≡ true) where
    ended_on : (a : Attr) → takes (Some a) ≡ true → MeetsAll x (EndsOn a)
    ended_on attribute.Automatic t P o is refusal.WrongStatus = is_running P o x is run
    ended_on attribute.Automatic t P o is r = tt
    ended_on attribute.StartAndCompletion t P o is refusal.WrongStatus = is_running P o x is run
    ended_on attribute.StartAndCompletion t P o is r = tt
    ended_on a t P o is r = absurd (cc)

    pub ended_after_start : takes (Some x.attribute) ≡ true → MeetsAll x (EndsOn x.attribute)
    ended_after_start = ended_on x.attribute

  module _ (on : x.attribute ≡ attribute.CompletionOnly) (ready : is_ready x.status ≡ true) where
    free_at_end : x.operation.now.held ≡ false → MeetsAll x (EndsOn attribute.CompletionOnly)
    free_at_end free P o is refusal.WrongStatus = ready_by P o x.status is.status ready
    free_at_end free P o is refusal.Held = free
    free_at_end free P o is r = tt

    pub ended_without_start : x.operation.now.held ≡ false → MeetsAll x (EndsOn x.attribute)
    ended_without_start free = subst (λ a. MeetsAll x (EndsOn a)) (sym on) (free_at_end free)

    before_held : (P : Contents) (o : OpKey) → IsReported P o x → (lower : Refusal) → number_of lower < 11 → EndsOn attribute.CompletionOnly P o lower
    before_held P o is refusal.WrongStatus less = ready_by P o x.status is.status ready
    before_held P o is refusal.Held less = absurd (omega (arith, less))
    before_held P o is r less = tt

    pub held_at_end : x.operation.now.held ≡ true → FailsAt x (EndsOn x.attribute) refusal.Held
    held_at_end held = subst (λ a. FailsAt x (EndsOn a) refusal.Held) (sym on) (λ P o is. (λ free. true≢false (sym held ∙ free), before_held P o is))

  module _ (started : x.status ≡ status.Started) where
    its_start : (P : Contents) (o : OpKey) → IsReported P o x → HasStatus P o status.Started
    its_start P o is = subst (HasStatus P o) started is.status

    pub undecided : MeetsAll x MayBeUndecided
    undecided P o is refusal.WrongStatus = its_start P o is
    undecided P o is r = tt

    pub interrupted : x.attribute ≡ attribute.StartAndCompletion → MeetsAll x (λ P o. MayBeInterrupted P o x.operation.now)
    interrupted on P o is refusal.WrongStatus = its_start P o is
    interrupted on P o is refusal.WrongWorkstation = is.attribute ∙ ap Some on
    interrupted on P o is r = tt

    before_workstation : (P : Contents) (o : OpKey) → IsReported P o x → (lower : Refusal) → number_of lower < 10 → MayBeInterrupted P o x.operation.now lower
    before_workstation P o is refusal.WrongStatus less = its_start P o is
    before_workstation P o is refusal.WrongWorkstation less = absurd (omega (arith, less))
    before_workstation P o is r less = tt

    pub not_interrupted : x.attribute ≢ attribute.StartAndCompletion → FailsAt x (λ P o. MayBeInterrupted P o x.operation.now) refusal.WrongWorkstation
    not_interrupted other P o is = (λ on. other (same_Some x.attribute attribute.StartAndCompletion (sym is.attribute ∙ on)), before_workstation P o is)

-- what is given out at its workstation, and what is held, in its own plan
pub has_taken : (P : Contents) (op : Operation) (taken : Capacity) (held : Held) → given_out P op.workstation ≡ taken → AreHeldIn P held → HasTaken P P op taken held
has_taken P op taken held given holders = record { workstations = refl; resources = refl; given = given; holders = holders }

-- what its status allows, and all other lines
pub line_by_line : (P : Contents) (o : OpKey) (op : Operation) (m : ℕ) (Q : Refusal → Type 0) → MayStart P o op m refusal.WrongStatus → ((r : Refusal) → IsStartLine r → Q r → MayStart P o op m r)
    → (r : Refusal) → Q r → MayStart P o op m r
line_by_line P o op m Q may lines refusal.WrongStatus q = may
line_by_line P o op m Q may lines r q = lines r tt q

-- before its workstation is looked at
pub before_line : (P : Contents) (o : OpKey) (op : Operation) (m : ℕ) (lower : Refusal) → number_of lower < 9 → MayStart P o op m lower
before_line P o op m refusal.WrongStatus less = absurd (omega (arith, less))
before_line P o op m refusal.Held less = absurd (omega (arith, less))
before_line P o op m refusal.TooEarly less = absurd (omega (arith, less))
before_line P o op m refusal.Closed less = absurd (omega (arith, less))
before_line P o op m refusal.NoServer less = absurd (omega (arith, less))
before_line P o op m refusal.NoFixed less = absurd (omega (arith, less))
before_line P o op m refusal.ResourceBusy less = absurd (omega (arith, less))
before_line P o op m r less = tt
