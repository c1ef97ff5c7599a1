use Rattle.std.proofs.Common.{◌≡◌, ◌⊎◌, ◌<◌, inl, inr, sym, subst, ap, ◌∙◌, ℕ, All, length, map, Contains}
use Rattle.satisfaction.specs.declared.nodes.WaitState.{WaitState}
use Rattle.small_requests.specs.StepLooks.{IsKeptElsewhere}
use Rattle.small_requests.proofs.Counted.{counted_with}
use Rattle.small_requests.proofs.WaitChanges.{kept_leads, moved_on, placed}
use Rattle.small_requests.proofs.Overwritten.{leads_there}
use Rattle.small_requests.proofs.StepParts.{all_below}
use Rattle.small_requests.proofs.wait_changes.counted.Goals as goal
use Rattle.small_requests.specs.Edits.{ArePlacesWith}
use Rattle.small_requests.specs.Values.{AreValuesAt}

pub values_at-requires : goal.values_at-requires
values_at-requires c =
    let Q = c.args.records.now.contents in
    let e = c.args.edit.now in
    let told = c.in_ok-touched.ensures in
    let touched = c.in_ok-touched.touched.items in
    let new = c.cascade.new.wait_states in
    let noted : c.deref-3.result.now ≡ map (λ (e : ℕ × WaitState). e.0) c.cascade.new.journal.items = c.deref-3.ensures.value ∙ c.in_ok-noted.ensures ∙ ap (map (λ (e : ℕ × WaitState). e.0)) c.deref.ensures.value in
    let there : ArePlacesWith Q e.places.items touched =
    placed c.requires.before.0 Q e c.args.graph.now c.args.wait_states.now c.requires.before.1 (map (λ (e : ℕ × WaitState). e.0) c.cascade.new.journal.items) c.deref-2.result.now c.deref-3.result.now touched
    c.in_ok-cascade.ensures.within c.deref-2.ensures.value noted told.ascend told.both in
    subst (All (λ i. i < length new)) (sym c.deref-4.ensures.value) (all_below (length new) touched (λ i has. subst (λ n. i < n) (sym c.in_ok-cascade.ensures.wait_states.size) (there.within i has)))

pub returns-clause-kept_then : goal.returns-clause-kept_then
returns-clause-kept_then c =
    let Q = c.args.records.now.contents in
    let e = c.args.edit.now in
    let told = c.in_ok-touched.ensures in
    let touched = c.in_ok-touched.touched.items in
    let wait_states = c.args.wait_states.now in
    let new = c.cascade.new.wait_states in
    let values = c.in_ok-wait_states.wait_states.items in
    let noted : c.deref-3.result.now ≡ map (λ (e : ℕ × WaitState). e.0) c.cascade.new.journal.items = c.deref-3.ensures.value ∙ c.in_ok-noted.ensures ∙ ap (map (λ (e : ℕ × WaitState). e.0)) c.deref.ensures.value in
    let there : ArePlacesWith Q e.places.items touched =
    placed c.requires.before.0 Q e c.args.graph.now wait_states c.requires.before.1 (map (λ (e : ℕ × WaitState). e.0) c.cascade.new.journal.items) c.deref-2.result.now c.deref-3.result.now touched
    c.in_ok-cascade.ensures.within c.deref-2.ensures.value noted told.ascend told.both in
    let uncounted : IsKeptElsewhere touched wait_states new = λ i out. c.in_ok-cascade.ensures.noted i (λ has. out ((told.both i).1 (inr (subst (λ ps. Contains ps i) (sym noted) has)))) in
    moved_on Q e.places.items touched values wait_states new there c.in_ok-cascade.ensures.wait_states c.cascade.ensures.journaled.size uncounted (subst (λ ps. AreValuesAt new (Contains ps) values) c.deref-4.ensures.value c.in_ok-wait_states.ensures.values)

pub returns-clause-counted : goal.returns-clause-counted
returns-clause-counted c =
    let Q = c.args.records.now.contents in
    let e = c.args.edit.now in
    let told = c.in_ok-touched.ensures in
    let touched = c.in_ok-touched.touched.items in
    let wait_states = c.args.wait_states.now in
    let new = c.cascade.new.wait_states in
    let values = c.in_ok-wait_states.wait_states.items in
    let entries = map (λ (e : ℕ × WaitState). e.0) c.cascade.new.journal.items in
    let noted : c.deref-3.result.now ≡ entries = c.deref-3.ensures.value ∙ c.in_ok-noted.ensures ∙ ap (map (λ (e : ℕ × WaitState). e.0)) c.deref.ensures.value in
    let uncounted : IsKeptElsewhere touched wait_states new = λ i out. c.in_ok-cascade.ensures.noted i (λ has. out ((told.both i).1 (inr (subst (λ ps. Contains ps i) (sym noted) has)))) in
    let leads = kept_leads touched values wait_states new c.cascade.ensures.journaled.size uncounted (subst (λ ps. AreValuesAt new (Contains ps) values) c.deref-4.ensures.value c.in_ok-wait_states.ensures.values) in
    let each : (i : ℕ) → Contains touched i → Contains e.places.items i ⊎ Contains entries i = λ i has. elim ((told.both i).0 has) [
      | inl one ↦ inl (subst (λ ps. Contains ps i) c.deref-2.ensures.value one)
      | inr other ↦ inr (subst (λ ps. Contains ps i) noted other)
    ] in
    counted_with Q e wait_states new _ entries touched c.args.records.now.looks c.cascade.new.records.looks c.in_ok-cascade.ensures.counted (sym (leads_there values wait_states new leads)) each
