use Rattle.std.proofs.Common.{sym, subst}
use Rattle.plan_records.specs.plan_model.specs.Valid.{IsSound}
use Rattle.plan_laws.proofs.Leaving.{left_is_sound, one_left}
use Rattle.plan_laws.proofs.Waiting.{some_left}
use Rattle.plan_laws.proofs.each_leaves_one_sound_plan.Goals as goal

pub returns : goal.returns
returns c = λ P sound.
    let some = some_left P sound.valid.acyclic in
    (some.0, some.1, subst IsSound (sym some.1.2) (left_is_sound P some.1.0 sound), λ other leaves. one_left P other some.0 leaves some.1)
