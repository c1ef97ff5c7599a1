-- What operations take of workstations and special resources.
use Rattle.std.specs.Prelude.{◌≡◌, ℕ, Bool, true, false, ◌&&◌, cond, sum_by, Option, Some}
use Rattle.std.specs.Ordering.{eq_by_cmp}
use Rattle.std.specs.FinMap.{get, values}
use Rattle.plan_basics.specs.declared.Attr.{Attr}
use Rattle.plan_basics.specs.declared.Attr.TheVariants as attribute
use Rattle.plan_basics.specs.declared.keys.OpKey.{OpKey}
use Rattle.plan_basics.specs.Keys.{Name, name_cmp}
use Rattle.workstations.specs.declared.Capacity.{Capacity}
use Rattle.special_resources.specs.Holders.{Usage}
use Rattle.status_rules.specs.Table.{marked_status}
pub use Rattle.status_rules.specs.Classes.{holds_resource, holds_server}
use Rattle.plan_model.specs.Contents.{Contents, Operation, Has, attribute_at}

-- whether operations take anything on a workstation of this attribute: on those of C and N they take nothing
abbrev pub takes : Option Attr → Bool
takes (Some attribute.Automatic) = true
takes (Some attribute.StartAndCompletion) = true
takes _ = false

-- whether the operation holds a server of this workstation
abbrev pub is_serving : Contents → Name → Operation → Bool
is_serving P w op = eq_by_cmp name_cmp op.workstation w && (takes (attribute_at P w) && holds_server (marked_status op.mark))

-- the sum of a number over the operations that hold a server of this workstation
-- (one shape for servers, R1 and R2, so that a running sum keeps each of them alike)
abbrev pub sum_given_out : Contents → Name → (Operation → ℕ) → ℕ
sum_given_out P w number = sum_by (λ op. cond (is_serving P w op) (number op) 0) (values P.operations)

-- what the workstation has given out: one server for each such operation, and its R1 and R2
abbrev pub given_out : Contents → Name → Capacity
given_out P w = record { servers = sum_given_out P w (λ op. 1); r1 = sum_given_out P w (λ op. op.r1); r2 = sum_given_out P w (λ op. op.r2) }

-- o holds the resource, as its need of it says
abbrev pub Holds : Contents → OpKey → Name → Usage → Type 0
Holds P o r usage = Has P o (λ op. (get op.needs r ≡ Some usage) × (takes (attribute_at P op.workstation) ≡ true) × (holds_resource usage.keep (marked_status op.mark) ≡ true))
