use Rattle.std.proofs.Common.{◌≡◌, ◌∙◌, arith, ap, sym, subst, length, slice_get, Some}
use Rattle.std.specs.Map.{keys_of}
use Rattle.plan_rows.proofs.SourceRows.{occurrence_keys, occurrence_within}
use Rattle.plan_rows.proofs.occurrences.OccurrenceTabled.key_at.Goals as goal
use Rattle.plan_rows.specs.Sources.{source_of}

pub key_of-requires : goal.key_of-requires
key_of-requires c = omega (arith, occurrence_within (source_of c.args.source) c.requires.source c.args.place c.requires.within, ap length c.occurrences.ensures.rows)

pub returns : goal.returns
returns c = subst (λ ks. slice_get ks c.args.place ≡ Some c.key_of.result) (ap keys_of c.occurrences.ensures.rows ∙ sym (occurrence_keys (source_of c.args.source) c.requires.source)) c.key_of.ensures
