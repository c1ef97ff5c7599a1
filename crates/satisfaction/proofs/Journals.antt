-- Writes of a journal, and how they are taken back.
use Rattle.std.proofs.Common.{◌≡◌, inl, inr, refl, sym, ap, subst, ◌∙◌, ℕ, zero, suc, ◌<◌, List, [], ◌∷◌, ◌++◌, length, get_or, set, length-set}
use Rattle.std.proofs.lemmas.List.Elements.{Contains-append_left, Contains-push, Contains-push_cases}
use Rattle.satisfaction.specs.declared.nodes.WaitState.{WaitState}
use Rattle.satisfaction.specs.Journal.{undone, AreWithin, IsJournaled}

abbrev Entry : Type 0
Entry = ℕ × WaitState

undone_push : (journal : List Entry) (e : Entry) (wait_states : List WaitState) → undone (journal ++ e ∷ []) wait_states ≡ undone journal (set wait_states e.0 e.1)
undone_push [] e wait_states = refl
undone_push (f ∷ journal) e wait_states = ap (λ xs. set xs f.0 f.1) (undone_push journal e wait_states)

set_back : (wait_states : List WaitState) (n : ℕ) (new d : WaitState) → set (set wait_states n new) n (get_or wait_states n d) ≡ wait_states
set_back [] n new d = refl
set_back (k ∷ wait_states) zero new d = refl
set_back (k ∷ wait_states) (suc n) new d = ap (λ xs. k ∷ xs) (set_back wait_states n new d)

within_push : (nodes : ℕ) (journal : List Entry) (e : Entry) → e.0 < nodes → AreWithin nodes journal → AreWithin nodes (journal ++ e ∷ [])
within_push nodes journal e lt all x has = elim (Contains-push_cases journal e x has) [
  | inl old ↦ all x old
  | inr here ↦ subst (λ (y : Entry). y.0 < nodes) here lt
]

-- nothing is written
pub unwritten : (wait_states : List WaitState) (journal new_journal : List Entry) → new_journal ≡ journal → IsJournaled wait_states journal wait_states new_journal
unwritten wait_states journal new_journal same = subst (λ js. IsJournaled wait_states journal wait_states js) (sym same) (record { size = refl; back = refl; within = λ all. all })

-- a node is written, and what stood there is noted
pub written : (wait_states : List WaitState) (journal new_journal : List Entry) (n : ℕ) (new old : WaitState) → n < length wait_states → ((d : WaitState) → old ≡ get_or wait_states n d) → new_journal ≡ journal ++ (n, old) ∷ []
    → IsJournaled wait_states journal (set wait_states n new) new_journal
written wait_states journal new_journal n new old lt is same = subst (λ js. IsJournaled wait_states journal (set wait_states n new) js) (sym same) (record {
  size = length-set wait_states n new;
  back = undone_push journal (n, old) (set wait_states n new) ∙ ap (undone journal) (ap (set (set wait_states n new) n) (is old) ∙ set_back wait_states n new old);
  within = within_push (length wait_states) journal (n, old) lt;
})

-- one after the other
pub journaled_on : (a b c : List WaitState) (ja jb jc : List Entry) → IsJournaled a ja b jb → IsJournaled b jb c jc → IsJournaled a ja c jc
journaled_on a b c ja jb jc x y = record {
  size = y.size ∙ x.size;
  back = y.back ∙ x.back;
  within = λ all. subst (λ m. AreWithin m jc) x.size (y.within (subst (λ m. AreWithin m jb) (sym x.size) (x.within all)));
}

-- the last entry is taken back
pub undone_last : (journal : List Entry) (e : Entry) (wait_states : List WaitState) → undone (journal ++ e ∷ []) wait_states ≡ undone journal (set wait_states e.0 e.1)
undone_last = undone_push

pub within_left : (nodes : ℕ) (journal : List Entry) (e : Entry) → AreWithin nodes (journal ++ e ∷ []) → AreWithin nodes journal
within_left nodes journal e all x has = all x (Contains-append_left journal (e ∷ []) x has)

pub within_last : (nodes : ℕ) (journal : List Entry) (e : Entry) → AreWithin nodes (journal ++ e ∷ []) → e.0 < nodes
within_last nodes journal e all = all e (Contains-push journal e)
