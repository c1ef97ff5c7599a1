-- What a standing becomes where its operation waits for another number of predecessors.
use Rattle.std.specs.Prelude.{◌≡◌, ℕ, List, Some, slice_get, Contains, Decides}
use Rattle.std.specs.FinMap.{entries}
use Rattle.start_choice.specs.satisfaction.specs.declared.nodes.WaitState.{WaitState}
use Rattle.plan_model.specs.Contents.{Contents}
use Rattle.start_choice.specs.plan_drafts.specs.Places.{AreByPlace}
use Rattle.start_choice.specs.plan_records.specs.Rows.{IsWaitingFor}
use Rattle.start_choice.specs.plan_status.specs.declared.standings.Standing.{Standing}

-- the standing with this number of waiting predecessors: all of them are satisfied exactly where none waits
pub record IsUpdatedStanding (n : ℕ) (old new : Standing) : Type 0 where
  pub live : new.preds.live ≡ old.preds.live
  pub satisfied : Decides new.preds.satisfied (n ≡ 0)
  pub nonreporting : new.preds.nonreporting ≡ old.preds.nonreporting
  pub waiting : new.waiting ≡ n

-- how many predecessors each operation waits for, in key order
abbrev pub AreCounters : Contents → List WaitState → Type 0
AreCounters P wait_states = AreByPlace (entries P.operations) wait_states (λ o k. IsWaitingFor P o k.waiting)

-- at each other index than these the standing has the number that is kept
abbrev pub AgreeElsewhere : List Standing → List WaitState → List ℕ → Type 0
AgreeElsewhere standings wait_states places =
    (i : ℕ) → ¬ Contains places i → (s : Standing) (k : WaitState) → slice_get standings i ≡ Some s → slice_get wait_states i ≡ Some k → s.waiting ≡ k.waiting

-- at each other index than these the standing stays
abbrev pub StayElsewhere : List Standing → List Standing → List ℕ → Type 0
StayElsewhere before after places = (i : ℕ) → ¬ Contains places i → (s : Standing) → slice_get before i ≡ Some s → slice_get after i ≡ Some s
