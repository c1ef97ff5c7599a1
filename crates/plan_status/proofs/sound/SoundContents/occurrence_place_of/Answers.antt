use Rattle.std.proofs.Common.{◌≡◌, ◌<◌, sym, subst, true, length, Some, slice_get}
use Rattle.std.specs.FinMap.{contains_key, entries, get}
use Rattle.plan_laws.specs.plan_drafts.proofs.Tables.{is_found}
use Rattle.plan_model.specs.Valid.{IsValid}
use Rattle.plan_model.specs.Contents.{Contents}
use Rattle.plan_model.specs.declared.Occurrence.{Occurrence}
use Rattle.plan_status.proofs.LoadedRows.{its_occurrence}
use Rattle.plan_status.proofs.sound.SoundContents.occurrence_place_of.Goals as goal

pub known_occurrence_place_near-requires : goal.known_occurrence_place_near-requires
known_occurrence_place_near-requires c =
    let P = c.rows.result.now in
    let key = c.args.key.now in
    let there = is_found (get P.operations key) (subst (λ (Q : Contents). contains_key Q.operations key ≡ true) (sym c.rows.ensures.contents) c.requires) in
    its_occurrence P (subst IsValid (sym c.rows.ensures.contents) c.rows.ensures.sound.valid) key there.0 there.1

pub returns-clause-within : goal.returns-clause-within
returns-clause-within c = subst (λ (P : Contents). c.known_occurrence_place_near.result < length (entries P.occurrences)) c.rows.ensures.contents c.known_occurrence_place_near.ensures.within

pub returns-clause-at : goal.returns-clause-at
returns-clause-at c =
    subst (λ (P : Contents). (value : Occurrence) × (slice_get (entries P.occurrences) c.known_occurrence_place_near.result ≡ Some (c.args.key.now.occurrence, value))) c.rows.ensures.contents c.known_occurrence_place_near.ensures.at
