-- The ten tables of a plan: each has the columns of the rows that are of it.
use Rattle.std.proofs.Common.{refl}
use Rattle.plan_records.specs.declared.PlanRow.TheVariants as row
use Rattle.store_schema.specs.StoredPlans.{meta_values, workstation_row, interval_row, resource_row, occurrence_row, operation_row, dependency_row, need_row, quantity_row, amount_row}
use Rattle.store_schema.proofs.EachTable.{meta_of, workstation_of, interval_of, resource_of, occurrence_of, operation_of, dependency_of, need_of, quantity_of, amount_of}
use Rattle.store_reads.specs.declared.decoding.Table.TheVariants as table
use Rattle.store_reads.proofs.TableHeld.{IsTableOf}

pub meta_table : IsTableOf table.Meta meta_of meta_values
meta_table = record { told = elim [ row.Meta version loaded clock ↦ (refl, refl) | _ ↦ λ e. absurd cc ] }

pub workstation_table : IsTableOf table.Workstation workstation_of workstation_row
workstation_table = record { told = elim [ row.Workstation name a ↦ (refl, refl) | _ ↦ λ e. absurd cc ] }

pub interval_table : IsTableOf table.Interval interval_of interval_row
interval_table = record { told = elim [ row.Interval w i ↦ (refl, refl) | _ ↦ λ e. absurd cc ] }

pub resource_table : IsTableOf table.Resource resource_of resource_row
resource_table = record { told = elim [ row.Resource name available ↦ (refl, refl) | _ ↦ λ e. absurd cc ] }

pub occurrence_table : IsTableOf table.Occurrence occurrence_of occurrence_row
occurrence_table = record { told = elim [ row.Occurrence c priority deadline status ↦ (refl, refl) | _ ↦ λ e. absurd cc ] }

pub operation_table : IsTableOf table.Operation operation_of operation_row
operation_table = record { told = elim [ row.Operation o ↦ (refl, refl) | _ ↦ λ e. absurd cc ] }

pub dependency_table : IsTableOf table.Dependency dependency_of dependency_row
dependency_table = record { told = elim [ row.Dependency p s ↦ (refl, refl) | _ ↦ λ e. absurd cc ] }

pub need_table : IsTableOf table.Need need_of need_row
need_table = record { told = elim [ row.Need o r mode keep ↦ (refl, refl) | _ ↦ λ e. absurd cc ] }

pub quantity_table : IsTableOf table.Quantity quantity_of quantity_row
quantity_table = record { told = elim [ row.Quantity r quantity ↦ (refl, refl) | _ ↦ λ e. absurd cc ] }

pub amount_table : IsTableOf table.Amount amount_of amount_row
amount_table = record { told = elim [ row.Amount o r amount ↦ (refl, refl) | _ ↦ λ e. absurd cc ] }
