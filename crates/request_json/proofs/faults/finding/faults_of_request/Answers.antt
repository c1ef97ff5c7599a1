use Rattle.std.proofs.Common.{◌≡◌, ◌↔◌, sym, subst, List, [], Contains}
use Rattle.serde_json.specs.View.{view}
use Rattle.request_json.specs.RequestFaults.{IsRequestFault, ReadsAsSomeRequest}
use Rattle.request_json.specs.declared.faults.finding.RequestFault.{RequestFault}
use Rattle.request_json.proofs.RequestFaultLaws.{no_json_told, no_json_says_none, value_told, value_says}
use Rattle.request_json.proofs.faults.finding.faults_of_request.Goals as goal

pub returns-in_default-clause-exactly : goal.returns-in_default-clause-exactly
returns-in_default-clause-exactly c =
    let body = c.args.body.now in
    let none = rw c.in_default.is at c.in_ok-value.ensures in
    λ f. subst (λ xs. Contains xs f ↔ IsRequestFault body f) (sym c.in_ok-alone.ensures.items) (no_json_told body none f)

pub returns-in_default-clause-none : goal.returns-in_default-clause-none
returns-in_default-clause-none c =
    let body = c.args.body.now in
    let none = rw c.in_default.is at c.in_ok-value.ensures in
    subst (λ (xs : List RequestFault). (xs ≡ []) ↔ ReadsAsSomeRequest body) (sym c.in_ok-alone.ensures.items) (no_json_says_none body none)

pub returns-clause-exactly : goal.returns-clause-exactly
returns-clause-exactly c = value_told c.args.body.now (view c.in-Some.value) (rw c.in-Some.is at c.in_ok-value.ensures) c.in_ok-faults.faults.items c.in_ok-faults.ensures.exactly

pub returns-clause-none : goal.returns-clause-none
returns-clause-none c = value_says c.args.body.now (view c.in-Some.value) (rw c.in-Some.is at c.in_ok-value.ensures) c.in_ok-faults.faults.items c.in_ok-faults.ensures.none
