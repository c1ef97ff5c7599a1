use Rattle.std.proofs.Common.{◌∙◌, ap, sym}
use Rattle.plan_status.specs.plan_model.proofs.Taking.{takes_where_known}
use Rattle.plan_status.specs.plan_model.specs.Holdings.{takes}
use Rattle.counted_records.proofs.uncounted.UncountedContents.starts_are_known.Goals as goal

pub returns : goal.returns
returns c = c.knows_starts.ensures ∙ takes_where_known c.attribute_of.result ∙ ap takes (sym c.attribute_of.ensures)
