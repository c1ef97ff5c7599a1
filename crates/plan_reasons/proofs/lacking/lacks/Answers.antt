use Rattle.std.proofs.Common.{◌+◌, ◌<◌, ◌≤◌, arith, refl, rules, sym, subst, Some}
use Rattle.std.proofs.lemmas.Option.{none-some, same_Some}
use Rattle.plan_reasons.specs.Order.{supply_place}
use Rattle.plan_reasons.specs.Parts.{IsOfKind}
use Rattle.plan_reasons.specs.Reasons.{amount_in, amount_needed}
use Rattle.plan_reasons.specs.declared.reasons.Reason.TheVariants as reason
use Rattle.plan_reasons.proofs.Stations.{none_lacks, none_lacks_closed, some_lacks}
use Rattle.plan_reasons.proofs.lacking.lacks.Goals as goal

pub returns-in_default : goal.returns-in_default
returns-in_default c P o start name is given =
    none_lacks_closed P o c.args.operation.now c.args.at start c.args.workstation.now name is c.args.taken.now given c.args.supply (λ d has. none-some d ((c.in_default.ensures d).1 has))

pub returns-then-from : goal.returns-then-from
returns-then-from c P o start name is given =
    let op = c.args.operation.now in
    let s = c.args.supply in
    let cap = c.in-Some.capacity in
    let short : c.amount_in-offered.result < c.amount_in-given.result + c.amount_needed-needed.result = search rules in
    subst (λ n. IsOfKind P o op c.args.at (5 + supply_place s) (Some (reason.Lacks (record { workstation = n; supply = s; given = c.amount_in-given.result; offered = c.amount_in-offered.result; needed = c.amount_needed-needed.result })))) (sym c.name.ensures)
    (some_lacks P o op c.args.at start c.args.workstation.now name is c.args.taken.now given s cap ((c.in-Some.ensures cap).0 refl) (λ d h. sym (same_Some cap d ((c.in-Some.ensures d).1 h)))
    c.amount_in-given.result c.amount_in-offered.result c.amount_needed-needed.result c.amount_in-given.ensures c.amount_in-offered.ensures c.amount_needed-needed.ensures short)

pub returns-else-from : goal.returns-else-from
returns-else-from c P o start name is given =
    let op = c.args.operation.now in
    let s = c.args.supply in
    let cap = c.in-Some.capacity in
    let fits : c.amount_in-given.result + c.amount_needed-needed.result ≤ c.amount_in-offered.result = search rules in
    let room : amount_in s c.args.taken.now + amount_needed s op ≤ amount_in s cap = omega (arith, fits, c.amount_in-given.ensures, c.amount_in-offered.ensures, c.amount_needed-needed.ensures) in
    none_lacks P o op c.args.at start c.args.workstation.now name is c.args.taken.now given s cap ((c.in-Some.ensures cap).0 refl) (λ d h. sym (same_Some cap d ((c.in-Some.ensures d).1 h))) room
