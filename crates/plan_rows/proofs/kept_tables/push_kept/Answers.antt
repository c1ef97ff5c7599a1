use Rattle.std.proofs.Common.{◌≡◌, sym, subst, arith, ◌≤◌, length, Contains, slice_get, Some}
use Rattle.std.proofs.lemmas.Result.{on_ok_weaker}
use Rattle.std.specs.Map.{keys_of}
use Rattle.plan_model.specs.Contents.{Contents}
use Rattle.plan_rows.proofs.FewPlaces.{few_places, more_each}
use Rattle.plan_rows.proofs.OneMore.{one_more_table, table_changes}
use Rattle.plan_rows.proofs.kept_tables.push_kept.Goals as goal
use Rattle.plan_rows.proofs.kept_tables.push_kept.Goals.{In_ok-found}
use Rattle.plan_rows.specs.Rows.{if_any, rows_of}
use Rattle.plan_rows.specs.Sources.{plan_if_any, source_with, source_if_any}
use Rattle.row_differences.specs.Changes.{AreAt}
use Rattle.row_differences.specs.Differences.{AreDifferences}

-- what differs, from the table before to that of the records
differs : (g : _) (c : In_ok-found g)
    → AreDifferences (keys_of (if_any g.T.Tabled.keyed (source_if_any c.args.before))) (keys_of (g.T.Tabled.keyed (source_with c.args.records.now.contents c.args.columns)))
    (λ i j. slice_get (rows_of (if_any g.T.Tabled.keyed (source_if_any c.args.before))) i ≡ slice_get (rows_of (g.T.Tabled.keyed (source_with c.args.records.now.contents c.args.columns))) j) c.in_ok-found.found.changed.items c.in_ok-found.found.gone.items
differs g c =
    subst (λ (Q : Contents). AreDifferences (keys_of (if_any g.T.Tabled.keyed (source_if_any c.args.before))) (keys_of (g.T.Tabled.keyed (source_with Q c.args.columns)))
    (λ i j. slice_get (rows_of (if_any g.T.Tabled.keyed (source_if_any c.args.before))) i ≡ slice_get (rows_of (g.T.Tabled.keyed (source_with Q c.args.columns))) j) c.in_ok-found.found.changed.items c.in_ok-found.found.gone.items) c.uncounted.ensures.contents c.in_ok-found.ensures

pub push_rows-requires-clause-within : goal.push_rows-requires-clause-within
push_rows-requires-clause-within g c = λ i has. (((differs g ((goal.at.push_rows-requires-clause-within g c).In_ok-found)).has_changed i).0 (subst (λ xs. Contains xs i) c.deref.ensures.value has)).0

pub push_keys-requires-clause-within : goal.push_keys-requires-clause-within
push_keys-requires-clause-within g c = λ i has. (((differs g ((goal.at.push_keys-requires-clause-within g c).In_ok-found)).has_gone i).0 (subst (λ xs. Contains xs i) c.deref-2.ensures.value has)).0

pub returns-clause-changes : goal.returns-clause-changes
returns-clause-changes g c = λ n clock now was is so_far.
    let d = differs g ((goal.at.returns-clause-changes g c).In_ok-found) in
    let before = if_any g.T.Tabled.keyed (source_if_any c.args.before) in
    let S = source_with c.args.records.now.contents c.args.columns in
    let after = g.T.Tabled.keyed S in
    let P = plan_if_any clock (source_if_any c.args.before) in
    let Q = plan_if_any now (Some S) in
    let (more, at_changed, rows) = c.in_ok-push_rows.ensures.rows in
    on_ok_weaker c.push_keys.result
    (λ (away, at_gone, gone).
    one_more_table n P Q c.args.changes.now (record { rows = c.push_rows.new.rows; gone = c.push_keys.new.keys }) more away rows gone so_far
    (table_changes g.T.Key.Ord.cmp g.T.Tabled.name g.met.T.Tabled.in_order g.met.T.Tabled.exact (keys_of before) (keys_of after) c.requires.before_in_order c.requires.in_order (rows_of before) (rows_of after)
    (λ i j. slice_get (rows_of before) i ≡ slice_get (rows_of after) j) (λ i j one. (λ h. h, λ h. h)) n P Q was is
    c.in_ok-found.found.changed.items c.in_ok-found.found.gone.items more away d (subst (λ is. AreAt (rows_of after) is more) c.deref.ensures.value at_changed) (rw (sym c.deref-2.ensures.value) at_gone)))
    c.push_keys.ensures

-- no more rows are told than there are
few : (g : _) (c : In_ok-found g) → length c.in_ok-found.found.changed.items ≤ length (keys_of (g.T.Tabled.keyed (source_with c.args.records.now.contents c.args.columns)))
few g c =
    let d = differs g c in
    few_places (length (keys_of (g.T.Tabled.keyed (source_with c.args.records.now.contents c.args.columns)))) c.in_ok-found.found.changed.items d.changed_ascend (λ i has. ((d.has_changed i).0 has).0)

pub returns-clause-most : goal.returns-clause-most
returns-clause-most g c =
    let n = length (keys_of (g.T.Tabled.keyed (source_with c.args.records.now.contents c.args.columns))) in
    let all = subst (λ xs. length xs ≤ n) (sym c.deref.ensures.value) (few g ((goal.at.returns-clause-most g c).In_ok-found)) in
    let each = more_each g.T.Noted.looks (length c.deref.result.now) n all in
    omega (arith, c.push_rows.ensures.most, each)

pub returns-in_err-push_rows-clause-most : goal.returns-in_err-push_rows-clause-most
returns-in_err-push_rows-clause-most g c =
    let n = length (keys_of (g.T.Tabled.keyed (source_with c.args.records.now.contents c.args.columns))) in
    let all = subst (λ xs. length xs ≤ n) (sym c.deref.ensures.value) (few g ((goal.at.returns-in_err-push_rows-clause-most g c).In_ok-found)) in
    let each = more_each g.T.Noted.looks (length c.deref.result.now) n all in
    omega (arith, c.push_rows.ensures.most, each)
