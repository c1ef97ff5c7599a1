use Rattle.std.proofs.Common.{sym, subst, Contains}
use Rattle.small_requests.proofs.Overwritten.{meant_too}
use Rattle.small_requests.proofs.snapshots.snapshot_of.Goals as goal
use Rattle.small_requests.specs.Values.{AreValuesAt}
use Rattle.plan_rows.specs.Touched.{HasOneOf}

pub returns : goal.returns
returns c =
    let places = c.args.places.now in
    record {
      wait_states = subst (λ xs. AreValuesAt xs (Contains places) c.in_ok-values_at.field-0.items) c.deref.ensures.value c.in_ok-values_at.ensures.values;
      standings = subst (λ xs. AreValuesAt xs (Contains places) c.in_ok-values_at-2.field-0.items) c.deref-2.ensures.value c.in_ok-values_at-2.ensures.values;
      statuses = subst (λ xs. AreValuesAt xs (Contains places) c.in_ok-values_at-3.field-0.items) c.deref-3.ensures.value c.in_ok-values_at-3.ensures.values;
      in_order = c.in_ok-values_at-3.ensures.in_order;
      tallies = meant_too c.args.columns.now.tallies.items c.deref-4.result.now (Contains c.deref-5.result.now) (HasOneOf c.args.uncounted.now.contents.now places) c.in_ok-values_at-4.field-0.items c.deref-4.ensures.value
          (λ p has. subst (λ ps. Contains ps p) (sym c.deref-5.ensures.value) (c.in_ok-occurrences.ensures.each p has)) c.in_ok-values_at-4.ensures.values;
    }
