use Rattle.std.proofs.Common.{◌≡◌, ◌↔◌, true≢false, sym, subst, ◌∙◌, List, [], Contains}
use Rattle.serde_json.specs.Find.{as_object}
use Rattle.serde_json.specs.View.{view}
use Rattle.request_json.specs.RequestFaults.{IsFaultOfValue, SaysSomeRequest}
use Rattle.request_json.specs.declared.faults.finding.RequestFault.{RequestFault}
use Rattle.request_json.proofs.Found.{none_by, some_by}
use Rattle.request_json.proofs.RequestFaultLaws.{no_object_told, no_object_says_none, request_told, object_told, object_says_none}
use Rattle.request_json.proofs.faults.finding.faults_of_value.Goals as goal

pub returns-then-not-is_object-clause-exactly : goal.returns-then-not-is_object-clause-exactly
returns-then-not-is_object-clause-exactly c =
    let d = view c.args.value.now in
    let is = none_by (as_object d) (sym c.if-not-is_object.ensures) in
    λ f. subst (λ xs. Contains xs f ↔ IsFaultOfValue d f) (sym c.in_ok-alone.ensures.items) (no_object_told d is f)

pub returns-then-not-is_object-clause-none : goal.returns-then-not-is_object-clause-none
returns-then-not-is_object-clause-none c =
    let d = view c.args.value.now in
    let is = none_by (as_object d) (sym c.if-not-is_object.ensures) in
    subst (λ (xs : List RequestFault). (xs ≡ []) ↔ SaysSomeRequest d) (sym c.in_ok-alone.ensures.items) (no_object_says_none d is)

pub returns-then-branch-clause-exactly : goal.returns-then-branch-clause-exactly
returns-then-branch-clause-exactly c =
    let d = view c.args.value.now in
    λ f. subst (λ xs. Contains xs f ↔ IsFaultOfValue d f) (sym c.new.ensures.items) (request_told d (c.in_ok-says_request.ensures.0 c.if-branch.true) f)

pub returns-then-branch-clause-none : goal.returns-then-branch-clause-none
returns-then-branch-clause-none c = (λ e. c.in_ok-says_request.ensures.0 c.if-branch.true, λ says. c.new.ensures.items)

pub returns-clause-exactly : goal.returns-clause-exactly
returns-clause-exactly c =
    let d = view c.args.value.now in
    object_told d (some_by (as_object d) (sym c.is_object.ensures ∙ c.if-not-is_object.false)) c.in_ok-faults.faults.items c.in_ok-faults.ensures

pub returns-clause-none : goal.returns-clause-none
returns-clause-none c = object_says_none (view c.args.value.now) (λ says. true≢false (sym (c.in_ok-says_request.ensures.1 says) ∙ c.if-branch.false)) c.in_ok-faults.faults.items c.in_ok-faults.ensures
