-- What stands in no entry of a journal wasn't written.
use Rattle.std.proofs.Common.{◌≡◌, refl, sym, ap, subst, ◌∙◌, ℕ, List, [], ◌∷◌, map, Contains}
use Rattle.plan_basics.proofs.Members.{contains_head, contains_later}
use Rattle.start_choice.specs.satisfaction.proofs.Counting.{kept_else}
use Rattle.start_choice.specs.satisfaction.specs.declared.nodes.WaitState.{WaitState}
use Rattle.start_choice.specs.satisfaction.specs.Counters.{wait_state_at}
use Rattle.start_choice.specs.satisfaction.specs.Journal.{IsJournaled, undone}

abbrev Entry : Type 0
Entry = ℕ × WaitState

-- the nodes of a journal's entries
abbrev pub nodes_of : List Entry → List ℕ
nodes_of journal = map (λ (e : Entry). e.0) journal

-- to take a journal back changes only the nodes of its entries
pub undone_else : (journal : List Entry) (wait_states : List WaitState) (n : ℕ) → ¬ Contains (nodes_of journal) n → wait_state_at (undone journal wait_states) n ≡ wait_state_at wait_states n
undone_else [] wait_states n out = refl
undone_else (e ∷ journal) wait_states n out =
    kept_else (undone journal wait_states) e.0 e.1 n (λ same. out (first same)) ∙ undone_else journal wait_states n (λ has. out (contains_later e.0 (nodes_of journal) n has))
  where
    first : n ≡ e.0 → Contains (nodes_of (e ∷ journal)) n
    first same = subst (Contains (nodes_of (e ∷ journal))) (sym same) (contains_head e.0 (nodes_of journal))

-- where the journal was begun empty, what it has no entry of stands as it stood
pub unnoted_stays : (wait_states new_kept : List WaitState) (journal new_journal : List Entry) → IsJournaled wait_states journal new_kept new_journal → journal ≡ []
    → (n : ℕ) → ¬ Contains (nodes_of new_journal) n → wait_state_at new_kept n ≡ wait_state_at wait_states n
unnoted_stays wait_states new_kept journal new_journal is empty n out =
    sym (undone_else new_journal new_kept n out) ∙ ap (λ ks. wait_state_at ks n) (is.back ∙ ap (λ js. undone js wait_states) empty)
