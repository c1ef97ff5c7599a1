-- When each operation of a plan is satisfied, by its own mark and flags and by how its workstation reports.
use Rattle.std.specs.Prelude.{Bool, true, false, not, ◌&&◌, ◌||◌, List, map, Option, Some}
use Rattle.std.specs.FinMap.{entries}
use Rattle.plan_basics.specs.declared.Attr.{Attr}
use Rattle.plan_basics.specs.declared.Attr.TheVariants.{Nonreporting}
use Rattle.plan_status.specs.status_rules.specs.declared.Mark.{Mark}
use Rattle.plan_status.specs.status_rules.specs.declared.Mark.TheVariants as mark
use Rattle.satisfaction.specs.declared.nodes.Rule.{Rule}
use Rattle.plan_status.specs.plan_model.specs.Contents.{Contents, Operation, attribute_at}

-- it is done or deleted
abbrev pub is_done_or_deleted : Mark → Bool
is_done_or_deleted mark.Done = true
is_done_or_deleted mark.Deleted = true
is_done_or_deleted _ = false

-- nothing was reported of it
abbrev pub is_unmarked : Mark → Bool
is_unmarked mark.Unmarked = true
is_unmarked _ = false

-- operations on a workstation that reports so aren't reported
abbrev pub is_nonreporting : Option Attr → Bool
is_nonreporting (Some Nonreporting) = true
is_nonreporting _ = false

-- when an operation of this attribute's workstation is satisfied
abbrev pub rule_on : Option Attr → Operation → Rule
rule_on a op = record { given = is_done_or_deleted op.mark; passing = is_unmarked op.mark && (not op.held && (op.nop || is_nonreporting a)) }

-- when an operation of the plan is satisfied
abbrev pub rule_in : Contents → Operation → Rule
rule_in P op = rule_on (attribute_at P op.workstation) op

-- when each operation is satisfied, in key order
abbrev pub rules_of : Contents → List Rule
rules_of P = map (λ row. rule_in P row.1) (entries P.operations)
