use Rattle.std.proofs.Common.{◌≡◌, sym, subst, ap, ◌∙◌, arith, ◌+◌, ◌<◌, ◌≤◌, All, length, Contains}
use Rattle.std.proofs.lemmas.List.{with_items_is}
use Rattle.std.specs.FinMap.{entries}
use Rattle.std.specs.List.Sorted.{IsStrictlySortedBy}
use Rattle.std.specs.Ordering.{nat_cmp}
use Rattle.std.specs.Vec.{with_items}
use Rattle.plan_checks.specs.start_choice.specs.Choices.{AreGivenOut, AreHeldIn}
use Rattle.plan_drafts.proofs.Lists.{length_map}
use Rattle.plan_model.specs.Contents.{Contents}
use Rattle.workstations.specs.Timetables.{NamedWorkstation}
use Rattle.plan_checks.specs.derived_figures.specs.Overwritten.{overwritten}
use Rattle.small_requests.proofs.Counted.{counted_twice}
use Rattle.small_requests.proofs.ColumnParts.{kept_alike}
use Rattle.small_requests.proofs.Overwritten.{vector_unchanged}
use Rattle.small_requests.proofs.StepParts.{all_below}
use Rattle.small_requests.proofs.groundwork.groundwork_of.Goals as goal
use Rattle.small_requests.proofs.groundwork.groundwork_of.Goals.{After-uncounted, After-recount}
use Rattle.small_requests.specs.Columns.{AreSizedBy, IsSnapshotOf}
use Rattle.small_requests.specs.Edits.{IsKeptBefore}
use Rattle.small_requests.specs.Groundworks.{IsCounted, IsMovedOn}
use Rattle.plan_checks.specs.derived_figures.specs.TakingsBefore.{HasPlanBefore}

pub recount-requires : goal.recount-requires
recount-requires c =
    let was = c.requires.3 in (
      c.requires.0,
      subst (IsKeptBefore c.requires.0 c.args.records.now.contents c.args.edit.now c.args.graph.now) (sym c.deref_mut.ensures.value) (record { edit = was.edit; graph = was.graph; wait_states = was.figures.wait_states }),
    )

-- what is kept is as it was
kept_back : (c : After-recount) → (with_items c.args.columns.now.wait_states c.recount.new.wait_states).items ≡ c.args.columns.now.wait_states.items
kept_back c = vector_unchanged c.args.columns.now.wait_states c.deref_mut.result.now c.recount.new.wait_states c.deref_mut.ensures.value c.recount.ensures.unchanged

pub retake-requires-clause-ascending : goal.retake-requires-clause-ascending
retake-requires-clause-ascending c = subst (IsStrictlySortedBy nat_cmp) (sym c.deref.ensures.value) c.requires.3.edit.ascend

pub retake-requires-clause-within : goal.retake-requires-clause-within
retake-requires-clause-within c = λ i has.
    subst (λ (R : Contents). i < length (entries R.operations)) (sym c.recount.ensures.contents)
    (subst (λ n. i < n) (sym c.requires.3.edit.moved.size) (c.requires.3.edit.within i (subst (λ ps. Contains ps i) c.deref.ensures.value has)))

pub retake-requires-clause-before : goal.retake-requires-clause-before
retake-requires-clause-before c =
    let P = c.requires.0 in
    let was = c.requires.3 in
    let held = c.args.allocations.now.holdings.held in
    subst (λ (R : Contents). HasPlanBefore R c.deref.result.now c.deref-2.result.now c.deref_mut-2.result.now held) (sym c.recount.ensures.contents)
    (subst (λ ps. HasPlanBefore c.args.records.now.contents ps c.deref-2.result.now c.deref_mut-2.result.now held) (sym c.deref.ensures.value)
    (subst (λ ms. HasPlanBefore c.args.records.now.contents c.args.edit.now.places.items ms c.deref_mut-2.result.now held) (sym c.deref-2.ensures.value)
    (subst (λ given. HasPlanBefore c.args.records.now.contents c.args.edit.now.places.items c.args.edit.now.marks.items given held) (sym c.deref_mut-2.ensures.value)
    (record { plan = P; valid = was.sound.valid; moved = was.edit.moved; marked = was.edit.marked; are_given = was.figures.given; are_held = was.figures.holders }))))

-- the records then hold the same
same_records : (c : After-uncounted) → c.uncounted.result.contents.now ≡ c.args.records.now.contents
same_records c = c.uncounted.ensures.contents ∙ c.in_ok-retake.ensures.contents ∙ c.recount.ensures.contents

pub snapshot_of-requires-clause-sized : goal.snapshot_of-requires-clause-sized
snapshot_of-requires-clause-sized c =
    let k : After-recount = (goal.at.snapshot_of-requires-clause-sized c).After-recount in
    let b : After-uncounted = (goal.at.snapshot_of-requires-clause-sized c).After-uncounted in
    let was = c.requires.3 in
    let moved = was.edit.moved in
    subst (λ (Q : Contents). AreSizedBy Q (record c.args.columns.now { wait_states = with_items c.args.columns.now.wait_states c.recount.new.wait_states })) (sym (same_records b)) (record {
      wait_states = ap length (kept_back k) ∙ was.figures.wait_states.size ∙ sym moved.size;
      standings = was.figures.standings.size ∙ sym moved.size;
      statuses = was.figures.statuses.size ∙ sym moved.size;
      tallies = was.figures.tallies.size ∙ ap (λ cs. length (entries cs)) (sym moved.occurrences);
    })

pub snapshot_of-requires-clause-within : goal.snapshot_of-requires-clause-within
snapshot_of-requires-clause-within c =
    let b : After-uncounted = (goal.at.snapshot_of-requires-clause-within c).After-uncounted in
    let n = length (entries c.uncounted.result.contents.now.operations) in
    subst (All (λ i. i < n)) (sym c.deref-3.ensures.value) (all_below n c.in_ok-touched.field-0.touched.items (λ i has.
    subst (λ (Q : Contents). i < length (entries Q.operations)) (sym (same_records b)) (c.in_ok-touched.ensures.kept_then.touched.within i has)))

pub returns-clause-groundwork : goal.returns-clause-groundwork
returns-clause-groundwork c =
    let k : After-recount = (goal.at.returns-clause-groundwork c).After-recount in
    let b : After-uncounted = (goal.at.returns-clause-groundwork c).After-uncounted in
    let Q = c.args.records.now.contents in
    let touched = c.in_ok-touched.field-0.touched.items in
    record {
      moved_on = subst (IsMovedOn Q c.args.edit.now.places.items touched c.in_ok-touched.field-0.wait_states.items) (c.deref_mut.ensures.value ∙ sym (kept_back k)) c.in_ok-touched.ensures.kept_then;
      old = subst (λ ps. IsSnapshotOf Q ps (record c.args.columns.now { wait_states = with_items c.args.columns.now.wait_states c.recount.new.wait_states }) c.in_ok-old.old) c.deref-3.ensures.value
          (subst (λ (R : Contents). IsSnapshotOf R c.deref-3.result.now (record c.args.columns.now { wait_states = with_items c.args.columns.now.wait_states c.recount.new.wait_states }) c.in_ok-old.old) (same_records b) c.in_ok-old.ensures);
    }

pub returns-clause-counted : goal.returns-clause-counted
returns-clause-counted c =
    let k : After-recount = (goal.at.returns-clause-counted c).After-recount in
    let Q = c.args.records.now.contents in
    let e = c.args.edit.now in
    let touched = c.in_ok-touched.field-0.touched.items in
    let values = c.in_ok-touched.field-0.wait_states.items in
    let same : c.deref_mut.result.now ≡ (with_items c.args.columns.now.wait_states c.recount.new.wait_states).items = c.deref_mut.ensures.value ∙ sym (kept_back k) in
    let counted = subst (λ ks. IsCounted Q e 1 ks (overwritten values ks) touched c.args.records.now.looks c.recount.new.records.looks) same c.in_ok-touched.ensures.counted in
    counted_twice Q e _ _ touched c.args.records.now.looks c.recount.new.records.looks c.retake.new.records.looks counted
    (subst (λ ps. c.retake.new.records.looks ≤ c.recount.new.records.looks + length ps) c.deref.ensures.value c.in_ok-retake.ensures.most)

pub returns-clause-unchanged : goal.returns-clause-unchanged
returns-clause-unchanged c =
    let k : After-recount = (goal.at.returns-clause-unchanged c).After-recount in
    kept_alike c.args.columns.now (with_items c.args.columns.now.wait_states c.recount.new.wait_states) (kept_back k)

pub returns-clause-allocations : goal.returns-clause-allocations
returns-clause-allocations c =
    let P = c.requires.0 in
    let Q = c.args.records.now.contents in
    let moved = c.requires.3.edit.moved in
    let s = c.args.allocations.now in
    let were = c.requires.3.figures.given in
    let retaken : AreGivenOut Q (entries Q.workstations) c.retake.new.given = subst (λ (R : Contents). AreGivenOut R (entries R.workstations) c.retake.new.given) c.recount.ensures.contents c.in_ok-retake.ensures.given in
    let open_at : length (entries Q.workstations) ≡ length (entries P.workstations) =
    sym (length_map (λ (w : NamedWorkstation). (w.0, w.1.attribute)) (entries Q.workstations)) ∙ ap length moved.workstations ∙ length_map (λ (w : NamedWorkstation). (w.0, w.1.attribute)) (entries P.workstations) in
    record {
      given = subst (AreGivenOut Q (entries Q.workstations)) (sym (with_items_is s.given c.retake.new.given (omega (arith, retaken.size, were.size, open_at, s.given.ok.0)))) retaken;
      holders = subst (λ (R : Contents). AreHeldIn R c.retake.new.holdings.held) c.recount.ensures.contents c.in_ok-retake.ensures.held;
    }
