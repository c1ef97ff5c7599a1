use Rattle.std.proofs.Common.{ℕ, List, subst, Contains}
use Rattle.std.specs.FinMap.{entries}
use Rattle.std.specs.Map.{keys_of}
use Rattle.plan_rows.proofs.OccurrencesOf.{places_within}
use Rattle.plan_rows.proofs.SourceRows.{occurrence_keys}
use Rattle.plan_rows.proofs.TouchedRows.{within_keys}
use Rattle.plan_rows.proofs.occurrences.note_occurrences.Goals as goal
use Rattle.plan_rows.specs.Rows.{keyed_occurrences}
use Rattle.plan_rows.specs.Sources.{source_with}

pub note_rows-requires-clause-within : goal.note_rows-requires-clause-within
note_rows-requires-clause-within c = λ i has.
    let s = source_with c.args.records.now.contents c.args.columns in
    let lt = places_within s.contents.now c.args.touched.now c.in_ok-places.places.items c.in_ok-places.ensures i (subst (λ (xs : List ℕ). Contains xs i) c.deref.ensures.value has) in
    within_keys (entries s.contents.now.occurrences) (keys_of (keyed_occurrences s)) (occurrence_keys s c.requires.source) i lt
