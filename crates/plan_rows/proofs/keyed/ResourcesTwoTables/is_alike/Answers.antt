use Rattle.plan_rows.proofs.Availability.{availability_told}
use Rattle.plan_rows.proofs.keyed.ResourcesTwoTables.is_alike.Goals as goal

pub returns : goal.returns
returns c = availability_told c.args.self.now.before.now c.args.self.now.after.now c.args.old c.args.new c.requires.one_key c.index-self-old.result c.index-self-new.result
