use Rattle.row_differences.proofs.EqualValues.{equal_told}
use Rattle.row_differences.proofs.rows.KeyedRowsTwoTables.is_alike.Goals as goal

pub returns : goal.returns
returns g c =
    equal_told g.X.PartialEq.eq c.args.self.now.before.now c.args.self.now.after.now c.args.old c.args.new c.index-self-old.result c.index-self-new.result c.eq.result c.requires.old c.requires.new c.eq.ensures
