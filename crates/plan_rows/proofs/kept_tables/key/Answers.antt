use Rattle.std.proofs.Common.{◌≡◌, ◌<◌, sym, subst, length, Option, Some, slice_get}
use Rattle.std.specs.Map.{keys_of}
use Rattle.plan_rows.proofs.Sources.{is_source, some_source}
use Rattle.plan_rows.proofs.kept_tables.key.Goals as goal
use Rattle.plan_rows.specs.Rows.{if_any}
use Rattle.plan_rows.specs.Sources.{source_if_any}
use Rattle.plan_rows.specs.declared.row_sources.TableSource.{TableSource}

pub unwrap-requires : goal.unwrap-requires
unwrap-requires g c = some_source g.T.Tabled.keyed c.args.source c.args.place c.requires.within

pub key_at-requires-clause-source : goal.key_at-requires-clause-source
key_at-requires-clause-source g c = is_source c.args.source c.unwrap.result c.unwrap.ensures c.requires.source

pub key_at-requires-clause-within : goal.key_at-requires-clause-within
key_at-requires-clause-within g c = subst (λ (s : Option TableSource). c.args.place < length (keys_of (if_any g.T.Tabled.keyed (source_if_any s)))) c.unwrap.ensures c.requires.within

pub returns : goal.returns
returns g c = subst (λ (s : Option TableSource). slice_get (keys_of (if_any g.T.Tabled.keyed (source_if_any s))) c.args.place ≡ Some c.key_at.result) (sym c.unwrap.ensures) c.key_at.ensures
