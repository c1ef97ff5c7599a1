use Rattle.std.proofs.Common.{Some, sym, ap, subst, refl, arith, [], length}
use Rattle.std.specs.FinMap.{entries}
use Rattle.plan_model.specs.Contents.{Contents}
use Rattle.plan_model.specs.Plan.{plan_held}
use Rattle.plan_records.specs.Rows.{AreChanges, key_of, row_cmp}
use Rattle.plan_rows.proofs.AllTables.{in_all_tables, in_no_table}
use Rattle.plan_rows.proofs.Counted.{no_operation_below}
use Rattle.plan_rows.proofs.MovedRows.{same_occurrences}
use Rattle.plan_rows.proofs.NotedTables.{all_facilities, noted_within, pairs_stay, quantities_keep}
use Rattle.plan_rows.proofs.OccurrencesOf.{places_within}
use Rattle.plan_rows.proofs.TouchedTables.{amounts_stay, dependencies_stay, needs_stay, quantities_stay, workstations_stay}
use Rattle.plan_rows.proofs.notes.noted_changes.Goals as goal
use Rattle.plan_rows.proofs.notes.noted_changes.Goals.{After-deref-2}
use Rattle.plan_rows.specs.Notes.{AreNotedAt, AreWithin, IsNotedStep}
use Rattle.plan_rows.specs.Rows.{keyed_occurrences, keyed_operations, rows_of}
use Rattle.plan_rows.specs.Sources.{plan_if_any, source_with}
use Rattle.plan_rows.specs.Tables.{AreChangesBelow, IsRowBelow}
use Rattle.plan_rows.specs.Touched.{AreTouched}
use Rattle.row_differences.specs.Changes.{AreRowChanges}
use Rattle.derived_figures.specs.counted_records.specs.States.{CountedState}

pub push_noted_facilities-requires : goal.push_noted_facilities-requires
push_noted_facilities-requires c =
    let (Q, step) = c.requires.step in
    record { noted = (step.after, step.source, all_facilities c.args.records.now.contents step.after.contents.now step.facilities c.args.notes.now.facilities step.stays step.noted.facilities) }

pub push_noted_occurrences-requires-clause-within : goal.push_noted_occurrences-requires-clause-within
push_noted_occurrences-requires-clause-within c =
    let (Q, step) = c.requires.step in
    let P = c.args.records.now.contents in
    let n = length (entries P.occurrences) in
    let are = same_occurrences P step.after.contents.now step.touched step.noted.places step.among.moved step.noted.of_operations in
    subst (AreWithin n) (sym c.deref.ensures.value)
    (noted_within (rows_of (keyed_occurrences step.after)) step.noted.places c.args.notes.now.occurrences.items step.noted.occurrences n (places_within P step.touched step.noted.places are))

pub push_noted_operations-requires-clause-within : goal.push_noted_operations-requires-clause-within
push_noted_operations-requires-clause-within c =
    let (Q, step) = c.requires.step in
    let n = length (entries c.args.records.now.contents.operations) in
    subst (λ (x : CountedState). AreWithin (length (entries x.contents.operations)) c.deref-2.result.now) (sym c.in_ok-push_noted_occurrences.ensures.unchanged)
    (subst (AreWithin n) (sym c.deref-2.ensures.value)
    (noted_within (rows_of (keyed_operations step.after)) step.touched c.args.notes.now.operations.items step.noted.operations n step.among.within))

-- what changes in the tables before that of operations, table by table
before_operations : (c : After-deref-2) (R : Contents) (step : IsNotedStep (Some (source_with c.args.records.now.contents c.args.columns)) R c.args.notes.now)
    → AreChangesBelow 5 (plan_if_any c.args.was (Some (source_with c.args.records.now.contents c.args.columns))) (plan_if_any c.args.clock (Some step.after)) c.push_noted_occurrences.new.changes
before_operations c R step =
    let was = c.args.was in
    let now = c.args.clock in
    let old = Some (source_with c.args.records.now.contents c.args.columns) in
    let after = step.after in
    let P = plan_if_any was old in
    let Q = plan_if_any now (Some after) in
    let start =
    subst (λ rows. AreRowChanges row_cmp key_of (IsRowBelow 0 P) (IsRowBelow 0 Q) rows c.new-2.result.items) (sym c.new.ensures.items)
    (subst (AreRowChanges row_cmp key_of (IsRowBelow 0 P) (IsRowBelow 0 Q) []) (sym c.new-2.ensures.items) (in_no_table P Q))
    in
    let meta = c.in_ok-push_meta.ensures P Q refl refl refl refl start in
    let workstations = workstations_stay was now old (Some after) c.push_meta.new.changes step.touched step.among.moved meta in
    let facilities =
    c.in_ok-push_noted_facilities.ensures (source_with c.args.records.now.contents c.args.columns) after refl c.requires.source step.source
    (all_facilities c.args.records.now.contents after.contents.now step.facilities c.args.notes.now.facilities step.stays step.noted.facilities) was now workstations
    in
    c.in_ok-push_noted_occurrences.ensures.told after step.touched step.noted.places step.source step.among step.noted.of_operations
    (subst (AreNotedAt (rows_of (keyed_occurrences after)) step.noted.places) (sym c.deref.ensures.value) step.noted.occurrences) was now facilities

pub returns-clause-changes : goal.returns-clause-changes
returns-clause-changes c = λ R step.
    let was = c.args.was in
    let now = c.args.clock in
    let l = c.args.columns in
    let s = source_with c.args.records.now.contents l in
    let after = step.after in
    let P = plan_if_any was (Some s) in
    let Q = plan_if_any now (Some after) in
    let same = c.in_ok-push_noted_occurrences.ensures.unchanged in
    let so_far = c.push_noted_operations.new.changes in
    let operations =
    subst (λ (x : CountedState). AreChangesBelow 6 (plan_if_any was (Some (source_with x.contents l))) Q so_far) same
    (c.in_ok-push_noted_operations.ensures.told after step.touched step.source
    (subst (λ (x : CountedState). AreTouched (Some (source_with x.contents l)) (Some after) step.touched) (sym same) step.among)
    (subst (AreNotedAt (rows_of (keyed_operations after)) step.touched) (sym c.deref-2.ensures.value) step.noted.operations) was now
    (subst (λ (x : CountedState). AreChangesBelow 5 (plan_if_any was (Some (source_with x.contents l))) Q c.push_noted_occurrences.new.changes) (sym same) (before_operations ((goal.at.returns-clause-changes c).After-deref-2) R step)))
    in
    let dependencies = dependencies_stay was now (Some s) (Some after) so_far (pairs_stay c.args.records.now.contents after.contents.now step.facilities step.stays) operations in
    let needs = needs_stay was now (Some s) (Some after) so_far step.touched step.among.moved dependencies in
    let quantities = quantities_stay was now (Some s) (Some after) so_far (quantities_keep c.args.records.now.contents after.contents.now step.facilities step.stays) needs in
    let below = amounts_stay was now (Some s) (Some after) so_far step.touched step.among.moved quantities in
    subst (λ (Z : Contents). AreChanges P (plan_held now (Some Z)) so_far.rows.items so_far.gone.items) step.holds (in_all_tables P Q so_far.rows.items so_far.gone.items below)

pub returns-clause-operations : goal.returns-clause-operations
returns-clause-operations c =
    let (R, step) = c.requires.step in
    let s = source_with c.args.records.now.contents c.args.columns in
    let none =
    no_operation_below (plan_if_any c.args.was (Some s)) (plan_if_any c.args.clock (Some step.after)) c.push_noted_occurrences.new.changes
    (before_operations ((goal.at.returns-clause-operations c).After-deref-2) R step)
    in
    let size = ap length c.deref-2.ensures.value in
    omega (arith, none, size, c.in_ok-push_noted_operations.ensures.operations)
