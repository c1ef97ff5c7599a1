-- What an accepted request leaves ready on an automatic workstation has a reason at its moment.
use Rattle.std.proofs.Common.{ap, subst}
use Rattle.plan_core.specs.plan_laws.proofs.Every.{every_change_keeps_sound, every_step_keeps_sound}
use Rattle.plan_model.specs.Contents.{Contents}
use Rattle.plan_model.specs.Holdings.{takes}
use Rattle.plan_model.specs.Plan.{Plan}
use Rattle.plan_model.specs.Ready.{IsOnAutomatic}
use Rattle.plan_model.specs.Starts.{IsAllowedToStart}
use Rattle.plan_model.specs.Status.{IsReady}
use Rattle.plan_core.specs.plan_records.specs.Acceptance.{minute_of}
use Rattle.plan_core.specs.plan_records.specs.Answer.{accepted}
use Rattle.plan_reasons.specs.Laws.{NoneIsLeftToStart, ReadyHasReason}
use Rattle.plan_reasons.proofs.Emptying.{empty_where_it_may_start}
use Rattle.plan_reasons.proofs.PassedOver.{passed_over}

pub none_is_left_to_start : NoneIsLeftToStart
none_is_left_to_start P after q chosen sound step o ready on may =
    let e = ap (λ (x : Plan). x.contents) step.is_after in
    let valid = (every_change_keeps_sound q.what P step.changed q.at sound step.none_refuses step.is_request step.changes).valid in
    passed_over step.changed valid (minute_of q.at) chosen step.is_chosen o (subst (λ (C : Contents). IsReady C o) e ready) (subst (λ (C : Contents). IsOnAutomatic C o) e on)
    (subst (λ (C : Contents). IsAllowedToStart C o (minute_of q.at)) e may)

pub ready_has_reason : ReadyHasReason
ready_has_reason P after q chosen sound step o reasons ready on are empty =
    let valid = (every_step_keeps_sound P after q (accepted chosen) sound step).contents.valid in
    none_is_left_to_start P after q chosen sound step o ready on ((empty_where_it_may_start after.contents valid o (minute_of q.at) reasons (on.0, on.1, ap takes on.2) are).0 empty)
