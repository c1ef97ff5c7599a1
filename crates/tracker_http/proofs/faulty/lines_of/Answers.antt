use Rattle.std.proofs.Common.{subst, List, string_bytes, get_or}
use Rattle.std.proofs.lemmas.List.{get_or_default, take_all}
use Rattle.std.specs.List.{AllZip}
use Rattle.request_json.specs.declared.faults.finding.RequestFault.{RequestFault}
use Rattle.request_json.specs.declared.faults.finding.RequestFault.TheVariants.{NoJson}
use Rattle.tracker_http.specs.Faulty.{TellsFault}
use Rattle.tracker_http.proofs.Faulted.{zip_map, zip_more}
use Rattle.tracker_http.proofs.faulty.lines_of.Goals as goal

pub loop-fault-preserved : goal.loop-fault-preserved
loop-fault-preserved c =
    let faults = c.args.faults.now in
    let i = c.loop-fault.fault-index in
    rw c.in_ok-push.ensures.items
    (zip_more (λ f line. TellsFault f (string_bytes line)) faults c.loop-fault.lines.items i (get_or faults i NoJson) c.in_ok-request_fault_text.field-0 c.loop-fault-test.true (get_or_default faults i NoJson _ c.loop-fault-test.true) c.loop-fault.invariant c.in_ok-request_fault_text.ensures)

pub returns : goal.returns
returns c =
    let shown = subst (λ (fs : List RequestFault). AllZip (λ f line. TellsFault f (string_bytes line)) fs c.loop-fault.lines.items) (take_all c.loop-fault.fault-index c.args.faults.now c.loop-fault-test.false) c.loop-fault.invariant in
    zip_map string_bytes TellsFault c.args.faults.now c.loop-fault.lines.items shown
