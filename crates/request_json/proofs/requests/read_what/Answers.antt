use Rattle.serde_json.specs.View.{view}
use Rattle.request_json.proofs.Wholes.{asked_on}
use Rattle.request_json.proofs.requests.read_what.Goals as goal

pub returns-in-tick : goal.returns-in-tick
returns-in-tick c = rw c.in-tick.is (c.read_tick.ensures (view c.args.value.now))

pub returns-in-error : goal.returns-in-error
returns-in-error c = rw c.in-error.is c.read_error.ensures

pub returns-in-delete : goal.returns-in-delete
returns-in-delete c = rw c.in-delete.is c.read_delete.ensures

pub returns-in-depend : goal.returns-in-depend
returns-in-depend c = rw c.in-depend.is c.read_depend.ensures

pub returns-in-available : goal.returns-in-available
returns-in-available c = rw c.in-available.is c.read_available.ensures

pub returns-in_default : goal.returns-in_default
returns-in_default c =
    asked_on (view c.args.value.now) c.args.count c.args.verb.now c.read_on_operation.result c.in_default.not-tick c.in_default.not-error c.in_default.not-load c.in_default.not-add c.in_default.not-extend
    c.in_default.not-delete c.in_default.not-depend c.in_default.not-available c.in_default.not-intervals c.read_on_operation.ensures
