use Rattle.std.proofs.Common.{◌≡◌, ◌↔◌, ◌<◌, sym, subst, length, Option, slice_get, IsTrue}
use Rattle.std.specs.Map.{keys_of}
use Rattle.plan_rows.proofs.Sources.{is_source, some_source, source_keeps}
use Rattle.plan_rows.proofs.kept_tables.KeptTablesTwoTables.is_alike.Goals as goal
use Rattle.plan_rows.specs.Rows.{if_any, rows_of}
use Rattle.plan_rows.specs.Sources.{source_if_any, source_of}
use Rattle.plan_rows.specs.declared.row_sources.TableSource.{TableSource}
use Rattle.row_differences.specs.Differences.{HaveOneKey}

pub unwrap-requires : goal.unwrap-requires
unwrap-requires g c = some_source g.T.Tabled.keyed c.self.inside.before c.args.old (subst (λ v. c.args.old < length (keys_of v.0)) (sym c.self.view_is) c.requires.old)

pub is_alike-requires-clause-before : goal.is_alike-requires-clause-before
is_alike-requires-clause-before g c = is_source c.self.inside.before c.unwrap.result c.unwrap.ensures c.self.invariant.0

pub is_alike-requires-clause-kept : goal.is_alike-requires-clause-kept
is_alike-requires-clause-kept g c = source_keeps c.self.inside.before c.unwrap.result c.self.inside.after.uncounted.contents.now c.unwrap.ensures c.self.invariant.2

pub is_alike-requires-clause-one_key : goal.is_alike-requires-clause-one_key
is_alike-requires-clause-one_key g c =
    subst (λ (s : Option TableSource). HaveOneKey (keys_of (if_any g.T.Tabled.keyed (source_if_any s))) (keys_of (g.T.Tabled.keyed (source_of c.self.inside.after))) c.args.old c.args.new) c.unwrap.ensures
    (subst (λ v. HaveOneKey (keys_of v.0) (keys_of v.1) c.args.old c.args.new) (sym c.self.view_is) c.requires.one_key)

pub returns : goal.returns
returns g c =
    rw (← c.self.view_is)
    (subst (λ (s : Option TableSource). IsTrue c.is_alike.result ↔ (slice_get (rows_of (if_any g.T.Tabled.keyed (source_if_any s))) c.args.old ≡ slice_get (rows_of (g.T.Tabled.keyed (source_of c.self.inside.after))) c.args.new)) (sym c.unwrap.ensures) c.is_alike.ensures)
