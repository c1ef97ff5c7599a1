use Rattle.std.proofs.Common.{arith, ◌≡◌, Some, get_or, slice_get}
use Rattle.std.proofs.lemmas.Option.{slice_get-get_or}
use Rattle.std.specs.FinMap.{entries, get}
use Rattle.plan_basics.specs.declared.limits.TheConstants.{MOST_OPERATIONS}
use Rattle.status_rules.specs.declared.Counts.{Counts}
use Rattle.start_choice.specs.plan_drafts.proofs.Tables.{some_is}
use Rattle.start_choice.specs.plan_status.proofs.LoadedRows.{row_found}
use Rattle.start_choice.specs.plan_status.proofs.RowKeys.{row_of_key}
use Rattle.derived_figures.proofs.Numbers.{at_most_fewer, few_there, one_there, tallies_exchanged}
use Rattle.derived_figures.proofs.tally_changes.retally.Goals as goal
use Rattle.derived_figures.proofs.tally_changes.retally.Goals.{After-occurrence_place_of}

-- the numbers of its occurrence
abbrev stood : After-occurrence_place_of → Counts
stood c = get_or c.args.tallies.now c.occurrence_place_of.result (record { all = 0; deleted = 0; error = 0; undecided = 0; complete = 0; started = 0 })

stood_there : (c : After-occurrence_place_of) → slice_get c.args.tallies.now c.occurrence_place_of.result ≡ Some (stood c)
stood_there c = slice_get-get_or c.args.tallies.now c.occurrence_place_of.result _ (omega (arith, c.occurrence_place_of.ensures.within, c.requires.4.size))

pub occurrence_place_of-requires : goal.occurrence_place_of-requires
occurrence_place_of-requires c =
    let P = c.args.uncounted.now.contents.now in
    let place = c.requires.0 in
    let row = row_of_key (entries P.operations) place c.args.key.now c.requires.2 in
    some_is (get P.operations c.args.key.now) row.0 (row_found P place c.args.key.now row.0 row.1)

pub count_out-requires : goal.count_out-requires
count_out-requires c =
    let o : After-occurrence_place_of = (goal.at.count_out-requires c).After-occurrence_place_of in
    let P = c.args.uncounted.now.contents.now in
    let place = c.requires.0 in
    let row = row_of_key (entries P.operations) place c.args.key.now c.requires.2 in
    let its = c.occurrence_place_of.ensures.at in
    one_there P c.requires.1 c.args.tallies.now c.requires.4 place c.args.key.now row.0 row.1 c.args.old c.requires.3
    c.occurrence_place_of.result its.0 its.1 (stood o) (stood_there o)

pub count_one-requires : goal.count_one-requires
count_one-requires c =
    let o : After-occurrence_place_of = (goal.at.count_one-requires c).After-occurrence_place_of in
    let P = c.args.uncounted.now.contents.now in
    let place = c.requires.0 in
    let row = row_of_key (entries P.operations) place c.args.key.now c.requires.2 in
    let its = c.occurrence_place_of.ensures.at in
    at_most_fewer MOST_OPERATIONS c.args.old c.count_out.new.counts (stood o) c.count_out.ensures
    (few_there P c.requires.1 c.args.tallies.now c.requires.4 place c.args.key.now row.0 row.1 c.args.old c.requires.3
    c.occurrence_place_of.result its.0 its.1 (stood o) (stood_there o) c.are_sound.ensures.valid)

pub returns : goal.returns
returns c place statuses at was are =
    let o : After-occurrence_place_of = (goal.at.returns c).After-occurrence_place_of in
    let P = c.args.uncounted.now.contents.now in
    let row = row_of_key (entries P.operations) place c.args.key.now at in
    let its = c.occurrence_place_of.ensures.at in
    tallies_exchanged P statuses c.args.tallies.now are place c.args.key.now row.0 row.1 c.args.old was
    c.occurrence_place_of.result its.0 its.1 (stood o) (stood_there o) c.args.new c.count_out.new.counts c.count_one.new.counts c.count_out.ensures c.count_one.ensures
