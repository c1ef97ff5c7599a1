use Rattle.std.proofs.Common.{sym, ◌∙◌}
use Rattle.serde_json.specs.View.{view}
use Rattle.request_json.specs.RequestFaults.{known_members}
use Rattle.request_json.proofs.RequestFaultLaws.{others_is, no_others_is, no_count, same_count, other_count}
use Rattle.request_json.proofs.faults.finding.others.Goals as goal

pub returns-in_default : goal.returns-in_default
returns-in_default c =
    let d = view c.args.value.now in
    others_is d c.args.kind (no_count d (known_members d c.args.kind) c.in_default.ensures)

pub returns-then-count-known : goal.returns-then-count-known
returns-then-count-known c =
    let d = view c.args.value.now in
    no_others_is d c.args.kind (same_count d c.in-Some.count (known_members d c.args.kind) c.in-Some.ensures (c.if-count-known.true ∙ c.known.ensures.count))

pub returns : goal.returns
returns c =
    let d = view c.args.value.now in
    others_is d c.args.kind (other_count d c.in-Some.count (known_members d c.args.kind) c.in-Some.ensures (λ e. c.if-count-known.false (e ∙ sym c.known.ensures.count)))
