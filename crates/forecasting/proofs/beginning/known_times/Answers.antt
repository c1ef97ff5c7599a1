use Rattle.std.proofs.Common.{◌≡◌, refl, subst, IfOk}
use Rattle.std.specs.FinMap.{entries}
use Rattle.plan_model.specs.Contents.{Contents}
use Rattle.forecasting.specs.Known.{since_in}
use Rattle.forecasting.specs.InMemory.{times_by}
use Rattle.forecasting.proofs.First.{no_known}
use Rattle.forecasting.proofs.beginning.known_times.Goals as goal

pub returns-in-Some : goal.returns-in-Some
returns-in-Some c =
    let r = c.known_times_in.result in
    subst (λ (Q : Contents). IfOk r (λ times. times.items ≡ times_by (since_in c.args.known.now) (entries Q.operations))) c.in-Some.ensures.contents c.known_times_in.ensures

pub returns-in-None : goal.returns-in-None
returns-in-None c = no_known c.args.plan.now.plan.contents (c.in-None.ensures.none refl) (since_in c.args.known.now) c.new.result.items c.new.ensures.items
