use Rattle.std.proofs.lemmas.Result.{IfOk-weaker}
use Rattle.tracker_http.specs.Exchange.{seen}
use Rattle.tracker_http.proofs.Unguarded.{tells_unguarded}
use Rattle.tracker_http.proofs.asking.tell.Goals as goal

pub returns-clause-told : goal.returns-clause-told
returns-clause-told g c =
    IfOk-weaker c.tell_within.result _ _ (λ told. tells_unguarded c.args.asked.now (seen c.args.desk.now) told (seen c.tell_within.new.desk)) c.tell_within.ensures.told
