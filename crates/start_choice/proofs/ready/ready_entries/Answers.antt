use Rattle.std.proofs.Common.{arith, ◌<◌, sym, ap, ◌∙◌, length, get_or, ◌∷◌, []}
use Rattle.std.specs.FinMap.{entries}
use Rattle.std.proofs.lemmas.List.{length-append, take_all}
use Rattle.std.proofs.lemmas.Option.{slice_get-get_or}
use Rattle.status_rules.specs.declared.Status.TheVariants.{Started}
use Rattle.counted_records.specs.plan_drafts.proofs.RowPlaces.{row_at}
use Rattle.start_choice.specs.SummarizedTakings.{holder_count}
use Rattle.start_choice.proofs.SummarizedHolders.{count_passed, count_ready}
use Rattle.start_choice.proofs.Readied.{next_passed, next_ready, ready_all}
use Rattle.start_choice.proofs.ready.ready_entries.Goals as goal
use Rattle.start_choice.proofs.ready.ready_entries.Goals.{then-is_ready+in_ok-push, else-is_ready}

pub loop-place-preserved : goal.loop-place-preserved
loop-place-preserved c =
    let P = c.args.uncounted.now.contents.now in
    let valid = c.are_sound.ensures.valid in
    let rows = entries P.operations in
    let summaries = c.args.summaries.now in
    let i = c.loop-place.place in
    let lt : i < length rows = omega (arith, c.loop-place-test.true, c.requires.summaries.size) in
    let row = row_at rows i lt in
    let o = row.0.0 in
    let op = row.0.1 in
    let s = get_or c.args.statuses.now i Started in
    let status = slice_get-get_or c.args.statuses.now i Started (omega (arith, lt, c.requires.statuses.size)) in
    let listed = c.loop-place.entries.items in
    let invariant = c.loop-place.invariant in
    elim c.if-is_ready.branch [
      | then-is_ready+in_ok-push w ↦
          let ready = sym c.is_ready.ensures ∙ w.if-is_ready.true in
          let same = count_ready P summaries c.requires.summaries c.args.statuses.now c.requires.statuses i o op s row.1 status ready in
          rw (w.entries-is, w.in_ok-push.ensures.items)
          record {
            ready = next_ready P valid c.args.statuses.now c.requires.statuses i listed invariant.ready o op row.1 s status ready w.entry_at.result (w.entry_at.ensures.op o op row.1) w.entry_at.ensures.entry;
            few = omega (arith, invariant.few, same, length-append listed (w.entry_at.result ∷ []));
          }
      | else-is_ready w ↦
          rw w.entries-is
          record {
            ready = next_passed P valid c.args.statuses.now c.requires.statuses i listed invariant.ready o op row.1 s status (sym c.is_ready.ensures ∙ w.if-is_ready.false);
            few = omega (arith, invariant.few, count_passed summaries i c.loop-place-test.true);
          }
    ]

pub returns-clause-ready : goal.returns-clause-ready
returns-clause-ready c = ready_all c.args.uncounted.now.contents.now c.are_sound.ensures.valid c.loop-place.place c.loop-place.entries.items (omega (arith, c.loop-place-test.false, c.requires.summaries.size)) c.loop-place.invariant.ready

pub returns-clause-few : goal.returns-clause-few
returns-clause-few c =
    let all = ap holder_count (take_all c.loop-place.place c.args.summaries.now c.loop-place-test.false) in
    omega (arith, c.loop-place.invariant.few, c.loop-place.auto.place-end, all)
