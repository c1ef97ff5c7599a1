use Rattle.std.proofs.Common.{rules, arith, ◌≡◌, ◌<◌, ap, Some, length, get_or, slice_get}
use Rattle.std.proofs.lemmas.Option.{slice_get-get_or, slice_get_read}
use Rattle.std.specs.FinMap.{entries, get}
use Rattle.counted_records.specs.plan_drafts.proofs.Tables.{some_is}
use Rattle.plan_basics.specs.Keys.{occurrence_cmp, operation_cmp}
use Rattle.plan_model.specs.Contents.{Operation}
use Rattle.plan_model.specs.declared.Occurrence.{Occurrence}
use Rattle.plan_model.proofs.Entries.{entries_in_order}
use Rattle.counted_records.specs.plan_status.proofs.LoadedRows.{few_rows, row_found}
use Rattle.counted_records.specs.plan_status.proofs.Tallying.{all_tallied, at_most_rows, row_tallied, tallies_begin}
use Rattle.start_choice.proofs.tallies.tallies_of.Goals as goal
use Rattle.start_choice.proofs.tallies.tallies_of.Goals.{After-index_mut, After-occurrence_place_of-place, After-operation_key-key}
use Rattle.status_rules.specs.declared.Status.TheVariants.{Started}

pub loop-i-init : goal.loop-i-init
loop-i-init c =
    let P = c.args.uncounted.now.contents.now in
    tallies_begin P (entries P.operations) (entries P.occurrences) (length c.occurrences-occurrences.result.now) c.in_ok-tallies.tallies.items
    (ap length c.occurrences-occurrences.ensures.rows) (c.in_ok-tallies.ensures.items_if_clones_equal (λ y h. search rules))

-- the row that is gone through
row_at : (c : After-operation_key-key) → (op : Operation) × (slice_get (entries c.args.uncounted.now.contents.now.operations) c.loop-i.i ≡ Some (c.operation_key-key.result.now, op))
row_at c = c.operation_key-key.ensures.key

pub operation_key-key-requires : goal.operation_key-key-requires
operation_key-key-requires c = omega (arith, c.loop-i-test.true, c.requires.size)

pub occurrence_place_of-place-requires : goal.occurrence_place_of-place-requires
occurrence_place_of-place-requires c =
    let P = c.args.uncounted.now.contents.now in
    let key = c.operation_key-key.result.now in
    let row = row_at ((goal.at.occurrence_place_of-place-requires c).After-operation_key-key) in
    some_is (get P.operations key) row.0 (row_found P c.loop-i.i key row.0 row.1)

-- its occurrence's index
place_at : (c : After-occurrence_place_of-place) → (terms : Occurrence) × (slice_get (entries c.args.uncounted.now.contents.now.occurrences) c.occurrence_place_of-place.result ≡ Some (c.operation_key-key.result.now.occurrence, terms))
place_at c = c.occurrence_place_of-place.ensures.at

-- and the numbers there
read : (c : After-index_mut) → slice_get c.loop-i.tallies.items c.occurrence_place_of-place.result ≡ Some c.index_mut.result.now
read c =
    let tallies = c.loop-i.tallies.items in
    let place = c.occurrence_place_of-place.result in
    let within : place < length tallies = omega (arith, c.occurrence_place_of-place.ensures.within, c.loop-i.invariant.size) in
    slice_get_read tallies (length tallies) place c.index_mut.result.now (λ i. length tallies) within c.index_mut.ensures.value

pub count_one-requires : goal.count_one-requires
count_one-requires c =
    let P = c.args.uncounted.now.contents.now in
    let at = place_at ((goal.at.count_one-requires c).After-occurrence_place_of-place) in
    let occurrence = c.operation_key-key.result.now.occurrence in
    at_most_rows P (entries P.operations) c.loop-i.i occurrence c.index_mut.result.now
    (c.loop-i.invariant.each c.occurrence_place_of-place.result occurrence at.0 c.index_mut.result.now at.1 (read ((goal.at.count_one-requires c).After-index_mut)))
    (omega (arith, c.loop-i-test.true, c.requires.size, few_rows P c.occurrences-occurrences.ensures.sound.valid))

pub loop-i-preserved : goal.loop-i-preserved
loop-i-preserved c =
    let P = c.args.uncounted.now.contents.now in
    let row = row_at ((goal.at.loop-i-preserved c).After-operation_key-key) in
    let at = place_at ((goal.at.loop-i-preserved c).After-occurrence_place_of-place) in
    let i = c.loop-i.i in
    let key = c.operation_key-key.result.now in
    let s = get_or c.args.statuses.now i Started in
    let has = c.requires.each i key row.0 s row.1 (slice_get-get_or c.args.statuses.now i Started c.loop-i-test.true) in
    row_tallied P c.occurrences-occurrences.ensures.sound.valid.acyclic (entries P.operations) (entries_in_order operation_cmp P.operations) i key row.0 row.1 s has (entries P.occurrences) (entries_in_order occurrence_cmp P.occurrences)
    c.occurrence_place_of-place.result at.0 at.1 c.loop-i.tallies.items c.loop-i.invariant c.index_mut.result.now c.count_one.new.counts (read ((goal.at.loop-i-preserved c).After-index_mut)) c.count_one.ensures

pub returns : goal.returns
returns c = all_tallied c.args.uncounted.now.contents.now c.loop-i.i (omega (arith, c.loop-i-test.false, c.loop-i.auto.i-end, c.requires.size)) c.loop-i.tallies.items c.loop-i.invariant
