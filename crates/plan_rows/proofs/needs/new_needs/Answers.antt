use Rattle.std.proofs.Common.{◌≡◌, ◌∙◌, sym, subst, ap, refl, arith, ◌+◌, ◌<◌, ◌≤◌, List, [], length, get_or, slice_get, Some}
use Rattle.std.specs.FinMap.{entries}
use Rattle.plan_basics.specs.declared.keys.OpKey.{OpKey}
use Rattle.plan_model.specs.Contents.{Contents}
use Rattle.plan_rows.proofs.AddedRows.{AreAddedTo, all_added, none_added, one_added}
use Rattle.plan_rows.proofs.NewNeeds.{are_new_needs}
use Rattle.plan_rows.proofs.NewPlaces.{kept_few, placed}
use Rattle.plan_rows.proofs.needs.new_needs.Goals as goal
use Rattle.plan_rows.proofs.needs.new_needs.Goals.{In_ok-places}
use Rattle.plan_rows.specs.Kept.{AreNewNeeds, AreNewPlaces, KeepsRecords}
use Rattle.plan_rows.specs.Rows.{needs_listed}
use Rattle.plan_rows.specs.Sources.{contents_if_any, source_if_any}
use Rattle.special_resources.specs.declared.Need.{Need}

-- the places are those of the operations that are new in the records
are_new : (c : In_ok-places) → AreNewPlaces (contents_if_any (source_if_any c.args.before)) c.args.records.now.contents c.in_ok-places.places.items
are_new c = subst (λ (Q : Contents). AreNewPlaces (contents_if_any (source_if_any c.args.before)) Q c.in_ok-places.places.items) c.uncounted.ensures.contents c.in_ok-places.ensures.places

-- as many as there are more of them
are_few : (c : In_ok-places) → length c.in_ok-places.places.items + length (entries (contents_if_any (source_if_any c.args.before)).operations) ≤ length (entries c.args.records.now.contents.operations)
are_few c = subst (λ (Q : Contents). length c.in_ok-places.places.items + length (entries (contents_if_any (source_if_any c.args.before)).operations) ≤ length (entries Q.operations)) c.uncounted.ensures.contents c.in_ok-places.ensures.few

pub new_places-requires : goal.new_places-requires
new_places-requires c = subst (KeepsRecords (contents_if_any (source_if_any c.args.before))) (sym c.uncounted.ensures.contents) c.requires.kept

pub returns-in_err-places-clause-most : goal.returns-in_err-places-clause-most
returns-in_err-places-clause-most c = let few = kept_few (contents_if_any (source_if_any c.args.before)) c.args.records.now.contents c.requires.kept in omega (arith, few)

pub loop-place-init : goal.loop-place-init
loop-place-init c = record {
  within = omega arith;
  contents = refl;
  fewest = omega arith;
  most = omega arith;
  added =
      let places = c.deref-place-items.result.now in
      let operations = entries c.args.records.now.contents.operations in
      subst (λ (ns : List (OpKey × Need)). AreAddedTo needs_listed operations places 0 [] ns) (sym c.new-needs.ensures.items) (none_added needs_listed operations places []);
}

pub push_needs_at-requires : goal.push_needs_at-requires
push_needs_at-requires c =
    let at = (goal.at.push_needs_at-requires c).In_ok-places in
    let k = c.loop-place.place-index in
    let Q = c.args.records.now.contents in
    let new = subst (AreNewPlaces (contents_if_any (source_if_any c.args.before)) Q) (sym c.deref-place-items.ensures.value) (are_new at) in
    let z = placed (contents_if_any (source_if_any c.args.before)) Q c.deref-place-items.result.now new k c.loop-place-test.true in
    subst (λ (C : Contents). get_or c.deref-place-items.result.now k 0 < length (entries C.operations)) (sym c.loop-place.invariant.contents) z.2

pub loop-place-preserved : goal.loop-place-preserved
loop-place-preserved c =
    let at = (goal.at.loop-place-preserved c).In_ok-places in
    let inv = c.loop-place.invariant in
    let Q = c.args.records.now.contents in
    let places = c.deref-place-items.result.now in
    let k = c.loop-place.place-index in
    let lt = c.loop-place-test.true in
    let new = subst (AreNewPlaces (contents_if_any (source_if_any c.args.before)) Q) (sym c.deref-place-items.ensures.value) (are_new at) in
    let (z, there, within) = placed (contents_if_any (source_if_any c.args.before)) Q places new k lt in
    let seen = c.in_ok-push_needs_at.ensures in
    record {
      within = omega (arith, lt);
      contents = seen.contents ∙ inv.contents;
      fewest = omega (arith, seen.fewest, inv.fewest);
      most = omega (arith, seen.most, inv.most);
      added = one_added needs_listed (entries Q.operations) places [] k c.loop-place.needs.items c.push_needs_at.new.all.items z lt inv.added there
          (seen.needs z.0 z.1 (subst (λ (C : Contents). slice_get (entries C.operations) (get_or places k 0) ≡ Some z) (sym inv.contents) there));
    }

pub returns-clause-needs : goal.returns-clause-needs
returns-clause-needs c =
    let at = (goal.at.returns-clause-needs c).In_ok-places in
    let P = contents_if_any (source_if_any c.args.before) in
    let Q = c.args.records.now.contents in
    let places = c.deref-place-items.result.now in
    let new : AreNewPlaces P Q places = subst (AreNewPlaces P Q) (sym c.deref-place-items.ensures.value) (are_new at) in
    let (found, placed, needs) = all_added needs_listed (entries Q.operations) places [] c.loop-place.place-index c.loop-place.needs.items c.loop-place-test.false c.loop-place.invariant.added in
    subst (AreNewNeeds P Q) (sym needs) (are_new_needs P Q places new found placed)

pub returns-clause-most : goal.returns-clause-most
returns-clause-most c =
    let at = (goal.at.returns-clause-most c).In_ok-places in
    let inv = c.loop-place.invariant in
    omega (arith, inv.most, inv.within, ap length c.deref-place-items.ensures.value, are_few at)

pub returns-in_err-push_needs_at-clause-most : goal.returns-in_err-push_needs_at-clause-most
returns-in_err-push_needs_at-clause-most c =
    let at = (goal.at.returns-in_err-push_needs_at-clause-most c).In_ok-places in
    let inv = c.loop-place.invariant in
    let lt = c.loop-place-test.true in
    omega (arith, inv.most, lt, c.push_needs_at.ensures.most, ap length c.deref-place-items.ensures.value, are_few at)
