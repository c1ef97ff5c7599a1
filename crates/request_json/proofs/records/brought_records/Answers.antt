use Rattle.std.proofs.lemmas.Result.{IfOk-weaker}
use Rattle.serde_json.specs.View.{view}
use Rattle.request_json.proofs.BroughtRecords.{brought_read, none_read}
use Rattle.request_json.proofs.records.brought_records.Goals as goal

pub returns-in-Some : goal.returns-in-Some
returns-in-Some c =
    let json = rw c.in-Some.is at c.in_ok-value.ensures in
    IfOk-weaker c.brought_at.result _ _ (λ found is. brought_read c.args.body.now (view c.in-Some.value) found json is) c.brought_at.ensures

pub returns-in-None : goal.returns-in-None
returns-in-None c = none_read c.args.body.now (rw c.in-None.is at c.in_ok-value.ensures)
