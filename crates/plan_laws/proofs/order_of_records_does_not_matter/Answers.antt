use Rattle.plan_laws.proofs.RecordOrder.{order_does_not_matter, order_does_not_matter_to_additions, order_does_not_matter_to_extensions}
use Rattle.plan_laws.proofs.order_of_records_does_not_matter.Goals as goal

pub returns : goal.returns
returns c = record { plan = order_does_not_matter; addition = order_does_not_matter_to_additions; extension = order_does_not_matter_to_extensions }
