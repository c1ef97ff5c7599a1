-- Each text makes its table, one after another.
use Rattle.std.proofs.Common.{[], ◌∷◌, refl}
use Rattle.sqlite_resolve.specs.Compile.{first}
use Rattle.sqlite_tied.specs.Compute.{everything}
use Rattle.store_schema.specs.Tables.{no_schema}
use Rattle.store_schema.specs.Schema.{meta, workstation, interval, resource, occurrence, operation, dependency, need, receipt, quantity, amount, schema_1, schema_2, schema_3, schema_4, schema_5, schema_6, schema_7, schema_8, first_schema, schema_10, desk_schema}
use Rattle.store_schema.specs.declared.texts.TheConstants.{CREATE_META, CREATE_WORKSTATION, CREATE_INTERVAL, CREATE_RESOURCE, CREATE_OCCURRENCE, CREATE_OPERATION, CREATE_DEPENDENCY, CREATE_NEED, CREATE_RECEIPT, CREATE_QUANTITY, CREATE_AMOUNT}
use Rattle.store_schema.proofs.MetaTexts as of_meta
use Rattle.store_schema.proofs.WorkstationTexts as of_workstation
use Rattle.store_schema.proofs.IntervalTexts as of_interval
use Rattle.store_schema.proofs.ResourceTexts as of_resource
use Rattle.store_schema.proofs.OccurrenceTexts as of_occurrence
use Rattle.store_schema.proofs.OperationTexts as of_operation
use Rattle.store_schema.proofs.DependencyTexts as of_dependency
use Rattle.store_schema.proofs.NeedTexts as of_need
use Rattle.store_schema.proofs.ReceiptTexts as of_receipt
use Rattle.store_schema.proofs.QuantityTexts as of_quantity
use Rattle.store_schema.proofs.AmountTexts as of_amount
use Rattle.plan_writes.proofs.Making.{LeadOn, Makes}

meta_is_made : Makes no_schema meta CREATE_META.now
unfolding first everything
meta_is_made = record { is = of_meta.create_is; plain = of_meta.create_plain; reads = refl; free = record { name = refl; keys = tt }; bare = refl; bare_after = refl }

workstation_is_made : Makes schema_1 workstation CREATE_WORKSTATION.now
unfolding first everything
workstation_is_made = record { is = of_workstation.create_is; plain = of_workstation.create_plain; reads = refl; free = record { name = refl; keys = (refl, tt) }; bare = refl; bare_after = refl }

interval_is_made : Makes schema_2 interval CREATE_INTERVAL.now
unfolding first everything
interval_is_made = record { is = of_interval.create_is; plain = of_interval.create_plain; reads = refl; free = record { name = refl; keys = (refl, tt) }; bare = refl; bare_after = refl }

resource_is_made : Makes schema_3 resource CREATE_RESOURCE.now
unfolding first everything
resource_is_made = record { is = of_resource.create_is; plain = of_resource.create_plain; reads = refl; free = record { name = refl; keys = (refl, tt) }; bare = refl; bare_after = refl }

occurrence_is_made : Makes schema_4 occurrence CREATE_OCCURRENCE.now
unfolding first everything
occurrence_is_made = record { is = of_occurrence.create_is; plain = of_occurrence.create_plain; reads = refl; free = record { name = refl; keys = (refl, tt) }; bare = refl; bare_after = refl }

operation_is_made : Makes schema_5 operation CREATE_OPERATION.now
unfolding first everything
operation_is_made = record { is = of_operation.create_is; plain = of_operation.create_plain; reads = refl; free = record { name = refl; keys = (refl, tt) }; bare = refl; bare_after = refl }

dependency_is_made : Makes schema_6 dependency CREATE_DEPENDENCY.now
unfolding first everything
dependency_is_made = record { is = of_dependency.create_is; plain = of_dependency.create_plain; reads = refl; free = record { name = refl; keys = (refl, tt) }; bare = refl; bare_after = refl }

need_is_made : Makes schema_7 need CREATE_NEED.now
unfolding first everything
need_is_made = record { is = of_need.create_is; plain = of_need.create_plain; reads = refl; free = record { name = refl; keys = (refl, tt) }; bare = refl; bare_after = refl }

receipt_is_made : Makes schema_8 receipt CREATE_RECEIPT.now
unfolding first everything
receipt_is_made = record { is = of_receipt.create_is; plain = of_receipt.create_plain; reads = refl; free = record { name = refl; keys = (refl, tt) }; bare = refl; bare_after = refl }

pub quantity_is_made : Makes first_schema quantity CREATE_QUANTITY.now
unfolding first everything
quantity_is_made = record { is = of_quantity.create_is; plain = of_quantity.create_plain; reads = refl; free = record { name = refl; keys = (refl, tt) }; bare = refl; bare_after = refl }

pub amount_is_made : Makes schema_10 amount CREATE_AMOUNT.now
unfolding first everything
amount_is_made = record { is = of_amount.create_is; plain = of_amount.create_plain; reads = refl; free = record { name = refl; keys = (refl, tt) }; bare = refl; bare_after = refl }

pub all_lead : LeadOn no_schema (CREATE_META.now ∷ CREATE_WORKSTATION.now ∷ CREATE_INTERVAL.now ∷ CREATE_RESOURCE.now ∷ CREATE_OCCURRENCE.now ∷ CREATE_OPERATION.now ∷ CREATE_DEPENDENCY.now ∷ CREATE_NEED.now ∷ CREATE_RECEIPT.now ∷ CREATE_QUANTITY.now ∷ CREATE_AMOUNT.now ∷ []) desk_schema
all_lead = (meta, meta_is_made, (workstation, workstation_is_made, (interval, interval_is_made, (resource, resource_is_made, (occurrence, occurrence_is_made, (operation, operation_is_made, (dependency, dependency_is_made, (need, need_is_made, (receipt, receipt_is_made, (quantity, quantity_is_made, (amount, amount_is_made, refl)))))))))))
