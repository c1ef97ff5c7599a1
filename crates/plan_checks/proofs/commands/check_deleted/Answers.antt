use Rattle.std.proofs.Common.{◌≡◌, sym, ◌∙◌, false, true≢false, rules}
use Rattle.plan_checks.proofs.ByCommand.{deleted, deleted_twice, running_at_deletion}
use Rattle.plan_checks.proofs.commands.check_deleted.Goals as goal

pub returns-then-eq-clause-refused : goal.returns-then-eq-clause-refused
returns-then-eq-clause-refused c =
    let is = c.in_ok-status in
    deleted_twice c.args.outline.now c.args.occurrence.now (is.ensures.known) is.status (is.ensures.found) (search rules)

pub returns-then-is_occurrence_under_way-clause-refused : goal.returns-then-is_occurrence_under_way-clause-refused
returns-then-is_occurrence_under_way-clause-refused c =
    let is = c.in_ok-status in
    running_at_deletion c.args.outline.now c.args.occurrence.now (is.ensures.known) is.status (is.ensures.found) (search rules) (c.is_occurrence_under_way.ensures.0 (search rules))

pub returns-else-is_occurrence_under_way-clause-ok : goal.returns-else-is_occurrence_under_way-clause-ok
returns-else-is_occurrence_under_way-clause-ok c =
    let is = c.in_ok-status in
    let no : c.is_occurrence_under_way.result ≡ false = search rules in
    deleted c.args.outline.now c.args.occurrence.now (is.ensures.known) is.status (is.ensures.found) (search rules) (λ some. true≢false (sym (c.is_occurrence_under_way.ensures.1 some) ∙ no))
