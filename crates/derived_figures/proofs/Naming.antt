-- To name operations that are ready changes nothing of what is kept.
use Rattle.std.proofs.Common.{◌≡◌, sym, ap, subst, ◌∙◌, ℕ, zero, suc, true, List, [], ◌∷◌, slice_get, Some}
use Rattle.std.specs.FinMap.{entries}
use Rattle.std.proofs.lemmas.Option.{same_Some}
use Rattle.plan_basics.specs.Keys.{operation_cmp, operation_cmp_total, operation_cmp-IsAntisymmetric}
use Rattle.plan_basics.specs.declared.keys.OpKey.{OpKey}
use Rattle.ready_list.specs.Choice.{is_among}
use Rattle.start_choice.specs.satisfaction.specs.declared.nodes.WaitState.{WaitState}
use Rattle.plan_model.proofs.Looks.{as_named}
use Rattle.plan_model.specs.Contents.{Contents}
use Rattle.plan_model.specs.Ready.{named}
use Rattle.plan_model.specs.Status.{IsReady}
use Rattle.start_choice.specs.plan_drafts.proofs.Lists.{length_map}
use Rattle.start_choice.specs.plan_drafts.proofs.MadeEntries.{each_made, entries-revise}
use Rattle.start_choice.specs.plan_drafts.specs.Places.{AreByPlace}
use Rattle.start_choice.specs.plan_status.proofs.Alike.{count_alike}
use Rattle.start_choice.specs.plan_status.proofs.Naming.{live_after, live_before, stays_satisfied, was_satisfied}
use Rattle.derived_figures.specs.WaitStates.{IsKept, NamingKeepsKept}

module _ {K V : Type 0} (f : K → V → V) where
  -- a row that is made anew has the key of the row at its place
  row_was : (rows : List (K × V)) (i : ℕ) (k : K) (v : V) → slice_get (each_made f rows) i ≡ Some (k, v) → (was : V) × (slice_get rows i ≡ Some (k, was))
  row_was [] i k v e = cc
  row_was (row ∷ rows) zero k v e = let same : row.0 ≡ k = ap (λ z. z.0) (same_Some (row.0, f row.0 row.1) (k, v) e) in (row.1, ap (λ z. Some (z, row.1)) same)
  row_was (row ∷ rows) (suc i) k v e = row_was rows i k v e

  -- what is known of each row stays
  pub known_stays : {X : Type 0} (is still : K → X → Type 0) (rows : List (K × V)) (xs : List X) → ((k : K) (x : X) → is k x → still k x) → AreByPlace rows xs is → AreByPlace (each_made f rows) xs still
  known_stays is still rows xs stays known = record {
    size = known.size ∙ sym (length_map _ rows);
    each = λ i k v x at found. let was = row_was rows i k v at in stays k x (known.each i k was.0 x was.1 found);
  }

module _ (P : Contents) (os : List OpKey) (ready : (k : OpKey) → is_among os k ≡ true → IsReady P k) where
  stays_kept : (o : OpKey) (k : WaitState) → IsKept P o k → IsKept (named os P) o k
  stays_kept o k is = (
    (λ on. stays_satisfied P os ready (is.0.0 on), λ s. is.0.1 (was_satisfied P os ready s)),
    count_alike
        (λ p h. ((h.0.0, live_after P os ready p h.0.1), λ s. h.1 (was_satisfied P os ready s)))
        (λ p h. ((h.0.0, live_before P os ready p h.0.1), λ s. h.1 (stays_satisfied P os ready s)))
        is.1,
  )

pub naming_keeps_kept : NamingKeepsKept
naming_keeps_kept P os ready wait_states are =
    subst (λ rows. AreByPlace rows wait_states (IsKept (named os P))) (sym (entries-revise operation_cmp operation_cmp_total operation_cmp-IsAntisymmetric (as_named os) P.operations))
    (known_stays (as_named os) (IsKept P) (IsKept (named os P)) (entries P.operations) wait_states (stays_kept P os ready) are)
