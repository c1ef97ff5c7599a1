use Rattle.std.proofs.Common.{sym, subst, Option}
use Rattle.std.proofs.lemmas.Option.{get_or_from_slice_get}
use Rattle.plan_reasons.specs.declared.reasons.Reason.{Reason}
use Rattle.plan_outlooks.specs.Forecasts.{begin_minute}
use Rattle.plan_outlooks.specs.Lacks.{IsLack}
use Rattle.plan_outlooks.proofs.paths.lack_at.Goals as goal

pub returns : goal.returns
returns c = λ F o lent at.
    let told = lent.lacks c.args.place o at.0 at.1 in
    subst (λ (z : Option Reason). IsLack F.plan F.requests o (begin_minute F o) z) (sym (get_or_from_slice_get c.args.refs.now.lacks.now c.args.place told.0 c.index-refs-place.result told.1)) told.2
