use Rattle.std.proofs.Common.{◌≡◌, ◌↔◌, ◌⊎◌, ◌<◌, refl, sym, subst, ap, ◌∙◌, ℕ, List, length, Contains, All}
use Rattle.std.specs.FinMap.{entries}
use Rattle.plan_model.specs.Contents.{Contents}
use Rattle.small_requests.specs.StepLooks.{AreBoth}
use Rattle.plan_checks.specs.derived_figures.specs.Entries.{AreEntriesAt}
use Rattle.small_requests.proofs.EffectParts.{joined_within}
use Rattle.small_requests.proofs.StepParts.{all_below}
use Rattle.small_requests.proofs.naming_effects.effects_of.Goals as goal
use Rattle.small_requests.proofs.naming_effects.effects_of.Goals.{In_ok-touched}
use Rattle.small_requests.specs.Columns.{IsSnapshotOf}
use Rattle.small_requests.specs.Edits.{ArePlacesIn}
use Rattle.small_requests.specs.Effects.{AreStatusesOnceNamed}

module _ (c : In_ok-touched) where
  abbrev P : Contents
  P = c.args.records.now.contents

  abbrev touched : List ℕ
  touched = c.in_ok-touched.touched.items

  -- what is touched are the places of both
  both : AreBoth c.args.edited.places.now c.args.naming.places.items touched
  both = record {
    ascend = c.in_ok-touched.ensures.ascend;
    both = subst (λ ps. (i : ℕ) → Contains touched i ↔ (Contains c.args.edited.places.now i ⊎ Contains ps i)) c.deref.ensures.value c.in_ok-touched.ensures.both;
  }

  inside : ArePlacesIn P touched
  inside = joined_within P c.args.edited.places.now c.requires.edited c.args.naming.named.items c.args.naming.places.items c.requires.naming.1.places touched both

  -- each is within lists as long as the plan's operations
  below : (n : ℕ) → length (entries P.operations) ≡ n → (xs : List ℕ) → xs ≡ touched → All (λ i. i < n) xs
  below n n_is xs xs_is = subst (All (λ i. i < n)) (sym xs_is) (all_below n touched (λ i has. subst (λ k. i < k) n_is (inside.within i has)))

pub snapshot_of-requires-clause-within : goal.snapshot_of-requires-clause-within
snapshot_of-requires-clause-within c =
    below (goal.at.snapshot_of-requires-clause-within c).In_ok-touched (length (entries c.uncounted.result.contents.now.operations)) (ap (λ (Q : Contents). length (entries Q.operations)) (sym c.uncounted.ensures.contents))
    c.deref-2.result.now c.deref-2.ensures.value

pub statuses_once_named-requires-clause-within : goal.statuses_once_named-requires-clause-within
statuses_once_named-requires-clause-within c =
    below (goal.at.statuses_once_named-requires-clause-within c).In_ok-touched (length c.deref-3.result.now) (sym c.requires.columns.statuses.size ∙ ap length (sym c.deref-3.ensures.value)) c.deref-4.result.now c.deref-4.ensures.value

pub entries_at-requires-clause-within : goal.entries_at-requires-clause-within
entries_at-requires-clause-within c =
    below (goal.at.entries_at-requires-clause-within c).In_ok-touched (length (entries c.args.records.now.contents.operations)) refl c.deref-6.result.now c.deref-6.ensures.value

pub returns-clause-effects : goal.returns-clause-effects
returns-clause-effects c at naming =
    let here = (goal.at.returns-clause-effects c).In_ok-touched in
    let l = c.args.columns.now in
    let all = c.in_ok-touched.touched.items in
    let named = c.args.naming.places.items in
    record {
      naming = naming;
      joined = both here;
      old = subst (λ ps. IsSnapshotOf (P here) ps l c.in_ok-old.old) c.deref-2.ensures.value (subst (λ (Q : Contents). IsSnapshotOf Q c.deref-2.result.now l c.in_ok-old.old) c.uncounted.ensures.contents c.in_ok-old.ensures);
      statuses = subst (λ ss. AreStatusesOnceNamed ss all named c.in_ok-statuses.statuses.items) c.deref-3.ensures.value
          (subst (λ ps. AreStatusesOnceNamed c.deref-3.result.now ps named c.in_ok-statuses.statuses.items) c.deref-4.ensures.value
          (subst (λ ns. AreStatusesOnceNamed c.deref-3.result.now c.deref-4.result.now ns c.in_ok-statuses.statuses.items) c.deref-5.ensures.value c.in_ok-statuses.ensures));
      entries = subst (λ ps. AreEntriesAt (P here) ps c.entries_at.new.noted.items) c.deref-6.ensures.value c.entries_at.ensures.noted;
    }
