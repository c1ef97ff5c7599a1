-- Which texts put rows in or take them out, whatever the schema.
use Rattle.std.proofs.Common.{◌≡◌, true, refl}
use Rattle.sqlite_resolve.specs.Compile.{first}
use Rattle.sqlite_tied.specs.Compute.{everything}
use Rattle.store_schema.specs.declared.texts.TheConstants.{PUT_META, PUT_RESOURCE, PUT_NEED, PUT_WORKSTATION, PUT_INTERVAL, PUT_OCCURRENCE, PUT_OPERATION, PUT_DEPENDENCY, PUT_RECEIPT, PUT_QUANTITY, PUT_AMOUNT, DROP_INTERVAL, DROP_OCCURRENCE, DROP_OPERATION, DROP_DEPENDENCY, DROP_NEED, DROP_AMOUNT}
use Rattle.plan_writes.proofs.Growth.{reads_as, writes_rows}

pub writes_meta : reads_as writes_rows (first PUT_META.now) ≡ true
unfolding first everything
writes_meta = refl

pub writes_resource : reads_as writes_rows (first PUT_RESOURCE.now) ≡ true
unfolding first everything
writes_resource = refl

pub writes_need : reads_as writes_rows (first PUT_NEED.now) ≡ true
unfolding first everything
writes_need = refl

pub writes_workstation : reads_as writes_rows (first PUT_WORKSTATION.now) ≡ true
unfolding first everything
writes_workstation = refl

pub writes_interval : reads_as writes_rows (first PUT_INTERVAL.now) ≡ true
unfolding first everything
writes_interval = refl

pub writes_occurrence : reads_as writes_rows (first PUT_OCCURRENCE.now) ≡ true
unfolding first everything
writes_occurrence = refl

pub writes_operation : reads_as writes_rows (first PUT_OPERATION.now) ≡ true
unfolding first everything
writes_operation = refl

pub writes_dependency : reads_as writes_rows (first PUT_DEPENDENCY.now) ≡ true
unfolding first everything
writes_dependency = refl

pub writes_receipt : reads_as writes_rows (first PUT_RECEIPT.now) ≡ true
unfolding first everything
writes_receipt = refl

pub writes_quantity : reads_as writes_rows (first PUT_QUANTITY.now) ≡ true
unfolding first everything
writes_quantity = refl

pub writes_amount : reads_as writes_rows (first PUT_AMOUNT.now) ≡ true
unfolding first everything
writes_amount = refl

pub drops_interval : reads_as writes_rows (first DROP_INTERVAL.now) ≡ true
unfolding first everything
drops_interval = refl

pub drops_occurrence : reads_as writes_rows (first DROP_OCCURRENCE.now) ≡ true
unfolding first everything
drops_occurrence = refl

pub drops_operation : reads_as writes_rows (first DROP_OPERATION.now) ≡ true
unfolding first everything
drops_operation = refl

pub drops_dependency : reads_as writes_rows (first DROP_DEPENDENCY.now) ≡ true
unfolding first everything
drops_dependency = refl

pub drops_need : reads_as writes_rows (first DROP_NEED.now) ≡ true
unfolding first everything
drops_need = refl

pub drops_amount : reads_as writes_rows (first DROP_AMOUNT.now) ≡ true
unfolding first everything
drops_amount = refl
