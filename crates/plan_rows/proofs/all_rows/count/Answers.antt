use Rattle.std.proofs.Common.{sym}
use Rattle.plan_records.specs.plan_drafts.proofs.Lists.{length_map}
use Rattle.plan_records.specs.Rows.{key_of}
use Rattle.plan_rows.proofs.all_rows.count.Goals as goal

pub returns : goal.returns
returns c = sym (length_map key_of c.args.rows.now)
