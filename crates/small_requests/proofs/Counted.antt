-- Looks that are taken as what follows from an edit is counted.
use Rattle.std.proofs.Common.{◌≡◌, ◌⊎◌, inl, inr, subst, arith, ℕ, ◌+◌, ◌<◌, ◌≤◌, true, List, [], length, map, Contains, Result, Ok, Err, OnOk}
use Rattle.satisfaction.specs.Changes.{AreAround, HoldFollowers, IsAfterOne, IsLowering}
use Rattle.satisfaction.specs.Counters.{waiting_at, waiting_count}
use Rattle.satisfaction.specs.declared.nodes.WaitState.{WaitState}
use Rattle.operation_graph.specs.Graphs.{Digraph, HasEdge}
use Rattle.plan_drafts.proofs.Lists.{contains_none, from_map}
use Rattle.plan_drafts.specs.PlanGraphs.{IsGraphFor}
use Rattle.plan_model.specs.Contents.{Contents}
use Rattle.small_requests.specs.Groundworks.{IsCounted}
use Rattle.small_requests.specs.declared.edits.Edit.{Edit}

-- what follows from two things that hold where it is ok
pub on_ok_both : {T E A B C : Type 0} (r : Result T E) → OnOk r A → OnOk r B → (A → B → C) → OnOk r C
on_ok_both (Ok x) a b f = f a b
on_ok_both (Err e) a b f = tt

-- two graphs of a plan have the same edges
same_edge : (Q : Contents) (g h : Digraph) → IsGraphFor Q g → IsGraphFor Q h → (i j : ℕ) → HasEdge g i j → HasEdge h i j
same_edge Q g h its others i j edge = (others.edges i j).1 ((its.edges i j).0 edge)

module _ (Q : Contents) (e : Edit) (h : Digraph) (graph : IsGraphFor Q h) (nodes : List ℕ) (are : nodes ≡ e.places.items) (wait_states now : List WaitState) (before journal : List (ℕ × WaitState)) (empty : before ≡ []) (old new : ℕ) where
  abbrev noted : List ℕ
  noted = map (λ (entry : ℕ × WaitState). entry.0) journal

  never : (entry : ℕ × WaitState) → Contains before entry → ⊥
  never entry has = contains_none entry (subst (λ xs. Contains xs entry) empty has)

  -- by a cascade that goes up
  pub counted_up : IsLowering nodes wait_states before now journal → new + waiting_count now ≤ old + length nodes + waiting_count wait_states → IsCounted Q e 1 wait_states now noted old new
  counted_up is most = record {
    around = λ g its i has.
        let entry = from_map (λ (entry : ℕ × WaitState). entry.0) journal i has in
        elim (is.places entry.0 entry.1) [
          | inl was ↦ absurd (never entry.0 was)
          | inr since ↦ elim since [
            | inl one ↦ inl (subst (λ z. Contains e.places.items z) entry.2 (subst (λ xs. Contains xs entry.0.0) are one))
            | inr fewer ↦ inr (inr (subst (λ z. waiting_at now z < waiting_at wait_states z) entry.2 fewer))
          ]
        ];
    most = λ g followers its hold.
        let most' = subst (λ xs. new + waiting_count now ≤ old + length xs + waiting_count wait_states) are most in
        omega (arith, most');
  }

  -- by that of a rerun
  pub counted_anew : e.is_rerun ≡ true → AreAround h nodes wait_states before now journal
      → ((followers : List ℕ) → HoldFollowers h nodes followers → new + waiting_count now ≤ old + length nodes + length followers + waiting_count wait_states) → IsCounted Q e 1 wait_states now noted old new
  counted_anew rerun around most = record {
    around = λ g its i has.
        let entry = from_map (λ (entry : ℕ × WaitState). entry.0) journal i has in
        elim (around entry.0 entry.1) [
          | inl was ↦ absurd (never entry.0 was)
          | inr since ↦ elim since [
            | inl one ↦ inl (subst (λ z. Contains e.places.items z) entry.2 (subst (λ xs. Contains xs entry.0.0) are one))
            | inr later ↦ elim later [
              | inl after ↦ inr (inl (rerun, subst (IsAfterOne g e.places.items) entry.2 (after.0, subst (λ xs. Contains xs after.0) are after.1, same_edge Q h g graph its after.0 entry.0.0 after.2)))
              | inr fewer ↦ inr (inr (subst (λ z. waiting_at now z < waiting_at wait_states z) entry.2 fewer))
            ]
          ]
        ];
    most = λ g followers its hold.
        let most' = subst (λ xs. new + waiting_count now ≤ old + length xs + length followers + waiting_count wait_states) are
        (most followers (λ n p has edge. hold rerun n p (subst (λ xs. Contains xs n) are has) (same_edge Q h g graph its p n edge))) in
        omega (arith, most');
  }

-- with what is edited among what is touched, and what is kept told another way
pub counted_with : (Q : Contents) (e : Edit) (wait_states now then : List WaitState) (places touched : List ℕ) (old new : ℕ) → IsCounted Q e 1 wait_states now places old new → now ≡ then
    → ((i : ℕ) → Contains touched i → Contains e.places.items i ⊎ Contains places i) → IsCounted Q e 1 wait_states then touched old new
counted_with Q e wait_states now then places touched old new is same each =
    subst (λ ks. IsCounted Q e 1 wait_states ks touched old new) same (record {
      around = λ g its i has. elim (each i has) [ inl one ↦ inl one | inr other ↦ is.around g its i other ];
      most = is.most;
    })

-- with one look more at each edit
pub counted_twice : (Q : Contents) (e : Edit) (wait_states now : List WaitState) (touched : List ℕ) (old between new : ℕ) → IsCounted Q e 1 wait_states now touched old between → new ≤ between + length e.places.items → IsCounted Q e 2 wait_states now touched old new
counted_twice Q e wait_states now touched old between new is more = record {
  around = is.around;
  most = λ g followers its hold. let most = is.most g followers its hold in omega (arith, most, more);
}
