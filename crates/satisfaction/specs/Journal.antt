-- Writes that can be taken back.
use Rattle.std.specs.Prelude.{◌≡◌, ℕ, ◌<◌, List, [], ◌∷◌, length, slice_set, Contains}
use Rattle.satisfaction.specs.declared.nodes.WaitState.{WaitState}

-- what stood there before the writes of a journal, of which the last is taken back first
abbrev pub undone : List (ℕ × WaitState) → List WaitState → List WaitState
undone [] wait_states = wait_states
undone (e ∷ journal) wait_states = slice_set (undone journal wait_states) e.0 e.1

-- each write was within so many nodes
abbrev pub AreWithin : ℕ → List (ℕ × WaitState) → Type 0
AreWithin nodes journal = (e : ℕ × WaitState) → Contains journal e → e.0 < nodes

-- whatever was written, the journal still leads back to what stood there first
pub record IsJournaled (wait_states : List WaitState) (journal : List (ℕ × WaitState)) (new_kept : List WaitState) (new_journal : List (ℕ × WaitState)) : Type 0 where
  pub size : length new_kept ≡ length wait_states
  pub back : undone new_journal new_kept ≡ undone journal wait_states
  pub within : AreWithin (length wait_states) journal → AreWithin (length wait_states) new_journal
