use Rattle.std.proofs.Common.{◌≡◌, ◌⊎◌, ◌∙◌, ℕ, ◌+◌, ◌≤◌, ap, sym, subst, arith, List, length, map, Some, None, rules}
use Rattle.std.specs.FinMap.{entries}
use Rattle.std.specs.List.Sorted.{IsStrictlySortedBy}
use Rattle.request_outcomes.proofs.Extensions.{bad_text_stops, extension_rebuild, extension_looks}
use Rattle.request_outcomes.proofs.OutcomeTo.{settled_count}
use Rattle.request_outcomes.proofs.extending.extended_outcome.Goals as goal
use Rattle.request_outcomes.proofs.extending.extended_outcome.Goals.{After-extended}
use Rattle.request_outcomes.specs.Rebuilds.{IsRebuildOf}
use Rattle.request_outcomes.specs.DatedRequests.{plan_asked}
use Rattle.plan_records.specs.Changes.{LeavesOver, with_added}
use Rattle.plan_records.specs.Rows.{AreRows, key_of, row_cmp}
use Rattle.plan_records.specs.declared.PlanRow.{PlanRow}
use Rattle.plan_records.specs.declared.What.TheVariants as what
use Rattle.plan_drafts.specs.Contents.{added_of}
use Rattle.plan_model.specs.Contents.{Contents}
use Rattle.plan_model.specs.Plan.{plan_held}
use Rattle.small_requests.specs.plan_changes.proofs.Answered.{if_ok}
use Rattle.small_requests.specs.derived_figures.specs.DerivedRefs.{AreDerivedOf}
use Rattle.small_requests.specs.plan_laws.proofs.Leaving.{left_is_sound}
use Rattle.plan_model.specs.Valid.{IsSound}

pub returns-in_err-extension-clause-refused : goal.returns-in_err-extension-clause-refused
returns-in_err-extension-clause-refused c =
    let q = c.args.asked.now in
    let none : c.args.extension.now ≡ None = search rules in
    let step = bad_text_stops c.args.records.now.contents q.clock q.at q.request.now c.requires.at c.requires.onward c.requires.moment (c.requires.is ∙ ap what.Extend none) in
    search rules

pub rows_of-requires : goal.rows_of-requires
rows_of-requires c = c.columns_of.ensures c.args.records.now.contents c.uncounted.ensures.sound c.requires.derived

pub remaining_of-requires : goal.remaining_of-requires
remaining_of-requires c = subst (λ (P : Contents). AreDerivedOf P c.args.derived) (sym c.in_ok-rows.ensures.contents) c.requires.derived

pub extended-requires-clause-in_order : goal.extended-requires-clause-in_order
extended-requires-clause-in_order c = subst (λ (rows : List PlanRow). IsStrictlySortedBy row_cmp (map key_of rows)) (sym c.deref.ensures.value) c.in_ok-rows.ensures.in_order

pub extended-requires-clause-sound : goal.extended-requires-clause-sound
extended-requires-clause-sound c =
    let leaves = c.in_ok-left.ensures.left in
    subst IsSound (sym leaves.2) (left_is_sound c.rows_of.new.records.contents leaves.0 c.in_ok-left.ensures.sound)

-- what the extension leads to in the plan
module _ (c : After-extended) where
  abbrev P : Contents
  P = c.args.records.now.contents

  abbrev left : Contents
  left = c.in_ok-left.left.copy

  leaves : LeavesOver P left
  leaves = subst (λ (Q : Contents). LeavesOver Q left) c.in_ok-rows.ensures.contents c.in_ok-left.ensures.left

  is : c.args.asked.now.request.now.what ≡ what.Extend (Some (added_of c.parts.result.now))
  is =
      let some : c.args.extension.now ≡ Some c.in_ok-extension.extension.now = search rules in
      c.requires.is ∙ ap what.Extend (some ∙ ap Some c.parts.ensures.view)

  is_rebuild : IsRebuildOf (plan_asked P c.args.asked.now) c.args.asked.now.request.now c.args.asked.now.at c.extended.result
  is_rebuild =
      let q = c.args.asked.now in
      let a = c.extended.result in
      let are = subst (λ (rows : List PlanRow). AreRows (plan_held q.clock (Some P)) rows) (sym c.deref.ensures.value) c.in_ok-rows.ensures.rows in
      extension_rebuild P q.clock q.at q.request.now c.requires.at c.requires.onward c.requires.moment (added_of c.parts.result.now) is left leaves c.parts.ensures.in_order.extension a
      c.extended.ensures.clear c.extended.ensures.rebuilt_parts (if_ok a.rebuilt (λ x told. told (plan_held q.clock (Some P)) are) c.extended.ensures.told) c.extended.ensures.refused

pub returns-clause-contents : goal.returns-clause-contents
returns-clause-contents c = c.in_ok-left.ensures.contents ∙ c.in_ok-rows.ensures.contents

pub returns-clause-rebuild : goal.returns-clause-rebuild
returns-clause-rebuild c = is_rebuild (goal.at.returns-clause-rebuild c).After-extended

pub returns-clause-looked : goal.returns-clause-looked
returns-clause-looked c =
    let at = (goal.at.returns-clause-looked c).After-extended in
    let q = c.args.asked.now in
    let a = c.extended.result in
    let rows = c.in_ok-rows.ensures in
    let copy = c.in_ok-left.ensures in
    let same = ap (λ (Q : Contents). length (entries Q.operations)) rows.contents in
    extension_looks (P at) q.clock q.at q.request.now c.requires.at c.requires.onward c.requires.moment (added_of c.parts.result.now) (is at) (left at) (leaves at) c.parts.ensures.in_order.extension a
    c.uncounted.ensures.sound c.rows_of.new.records.looks c.remaining_of.new.records.looks (is_rebuild at)
    (omega (arith, rows.most, copy.most, same, c.requires.none))
    (subst (λ (n : ℕ). (18446744073709551615 ≤ c.remaining_of.new.records.looks) ⊎ (c.rows_of.new.records.looks + n ≤ c.remaining_of.new.records.looks)) same copy.least)
    c.extended.ensures.most
    (settled_count (with_added (left at) (added_of c.parts.result.now)) q.at a a.rebuilt c.extended.ensures.rebuilt_parts)
