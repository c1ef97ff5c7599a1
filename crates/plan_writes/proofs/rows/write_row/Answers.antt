use Rattle.plan_writes.proofs.rows.write_row.Goals as goal

pub returns-in-Meta-clause-written : goal.returns-in-Meta-clause-written
returns-in-Meta-clause-written g c = rw c.in-Meta.is c.put_meta.ensures.written

pub returns-in-Workstation-clause-written : goal.returns-in-Workstation-clause-written
returns-in-Workstation-clause-written g c = rw c.in-Workstation.is c.put_workstation.ensures.written

pub returns-in-Interval-clause-written : goal.returns-in-Interval-clause-written
returns-in-Interval-clause-written g c = rw c.in-Interval.is c.put_interval.ensures.written

pub returns-in-Resource-clause-written : goal.returns-in-Resource-clause-written
returns-in-Resource-clause-written g c = rw c.in-Resource.is c.put_resource.ensures.written

pub returns-in-Occurrence-clause-written : goal.returns-in-Occurrence-clause-written
returns-in-Occurrence-clause-written g c = rw c.in-Occurrence.is c.put_occurrence.ensures.written

pub returns-in-Operation-clause-written : goal.returns-in-Operation-clause-written
returns-in-Operation-clause-written g c = rw c.in-Operation.is c.put_operation.ensures.written

pub returns-in-Dependency-clause-written : goal.returns-in-Dependency-clause-written
returns-in-Dependency-clause-written g c = rw c.in-Dependency.is c.put_dependency.ensures.written

pub returns-in-Need-clause-written : goal.returns-in-Need-clause-written
returns-in-Need-clause-written g c = rw c.in-Need.is c.put_need.ensures.written

pub returns-in-Quantity-clause-written : goal.returns-in-Quantity-clause-written
returns-in-Quantity-clause-written g c = rw c.in-Quantity.is c.put_quantity.ensures.written

pub returns-in-Amount-clause-written : goal.returns-in-Amount-clause-written
returns-in-Amount-clause-written g c = rw c.in-Amount.is c.put_amount.ensures.written
