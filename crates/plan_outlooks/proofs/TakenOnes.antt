-- Which operations go on longer than planned, and what waits for them, index by index.
use Rattle.std.proofs.Common.{◌≡◌, ◌⊎◌, ◌↔◌, inl, inr, refl, sym, ◌∙◌, ap, subst, arith, ℕ, zero, suc, ◌+◌, ◌<◌, ◌≤◌, Bool, true, false, true≢false, List, [], ◌∷◌, All, Contains, get_or, length, replicate, slice_get, slice_set, Option, Some}
use Rattle.std.specs.FinMap.{entries, keys}
use Rattle.std.proofs.lemmas.Bool.{cases_eq}
use Rattle.std.proofs.lemmas.List.{get_or-replicate, length-map}
use Rattle.std.proofs.lemmas.List.Elements.{All-contains_itself}
use Rattle.std.proofs.lemmas.Option.{same_Some, slice_get-get_or, slice_get_within}
use Rattle.plan_model.specs.operation_graph.specs.Graphs.{AreExactly, Digraph, HasEdge, IsSet}
use Rattle.plan_model.specs.operation_graph.specs.Paths.{IsPathBy, ReachesBy, end_of}
use Rattle.plan_basics.proofs.Members.{at_place, place_of}
use Rattle.plan_basics.specs.Keys.{operation_cmp}
use Rattle.plan_basics.specs.declared.keys.OpKey.{OpKey}
use Rattle.plan_reasons.specs.plan_drafts.proofs.PlacePaths.{reach_alike}
use Rattle.plan_reasons.specs.plan_drafts.specs.Places.{AreStatuses}
use Rattle.plan_reasons.specs.plan_drafts.specs.PlanGraphs.{IsGraphFor, ReachAlike}
use Rattle.plan_reasons.specs.plan_core.specs.plan_status.proofs.LoadedRows.{known_among}
use Rattle.plan_reasons.specs.plan_core.specs.plan_status.proofs.RowKeys.{key_of_row}
use Rattle.plan_model.proofs.Entries.{entries_in_order}
use Rattle.plan_model.specs.Contents.{Contents, Operation, Precedes}
use Rattle.plan_model.specs.Valid.{IsValid}
use Rattle.plan_reasons.proofs.Rooting.{set_if_unsatisfied, unsatisfied_if_set}
use Rattle.plan_reasons.specs.Places.{unsatisfied_flags}
use Rattle.plan_reasons.specs.Reasons.{IsUnsatisfied}
use Rattle.status_rules.specs.declared.Status.{Status}
use Rattle.plan_outlooks.specs.Overruns.{AreTaken, RunsOver}
use Rattle.plan_outlooks.proofs.OperationRows.{row_of}

-- ---- flags that are set

set_same : (xs : List Bool) (i : ℕ) → i < length xs → get_or (slice_set xs i true) i false ≡ true
set_same [] i less = absurd (omega (arith, less))
set_same (x ∷ xs) zero less = refl
set_same (x ∷ xs) (suc i) less = set_same xs i (omega (arith, less))

set_other : (xs : List Bool) (i k : ℕ) → (k ≡ i → ⊥) → get_or (slice_set xs i true) k false ≡ get_or xs k false
set_other [] i k other = refl
set_other (x ∷ xs) zero zero other = absurd (other refl)
set_other (x ∷ xs) zero (suc k) other = refl
set_other (x ∷ xs) (suc i) zero other = refl
set_other (x ∷ xs) (suc i) (suc k) other = set_other xs i k (λ e. other (ap suc e))

-- it is set, or at a place before this one
abbrev pub SetBefore : List Bool → List ℕ → ℕ → ℕ → Type 0
SetBefore old places n i = IsSet old i ⊎ ((j : ℕ) × (j < n) × (slice_get places j ≡ Some i))

pub set_none : (old : List Bool) (places : List ℕ) (i : ℕ) → IsSet old i ↔ SetBefore old places 0 i
set_none old places i = ((λ is. inl is), (λ h. elim h [ inl is ↦ is | inr at ↦ absurd (let less = at.1 in omega (arith, less)) ]))

pub set_more : (old now : List Bool) (places : List ℕ) (n p : ℕ) → slice_get places n ≡ Some p → p < length now → ((i : ℕ) → IsSet now i ↔ SetBefore old places n i) → (i : ℕ) → IsSet (slice_set now p true) i ↔ SetBefore old places (n + 1) i
set_more old now places n p at room so i = elim (cases_eq i p) [
  | inl same ↦ ((λ set. inr (n, omega arith, at ∙ ap Some (sym same))), (λ h. subst (λ z. IsSet (slice_set now p true) z) (sym same) (set_same now p room)))
  | inr other ↦ (
      let kept : get_or (slice_set now p true) i false ≡ get_or now i false = set_other now p i (λ e. omega (arith, e, other)) in (
        (λ set. elim ((so i).0 (sym kept ∙ set)) [ inl is ↦ inl is | inr j ↦ inr (j.0, (let less = j.1 in omega (arith, less)), j.2) ]),
        (λ h. kept ∙ (so i).1 (elim h [
          | inl is ↦ inl is
          | inr j ↦ elim (cases_eq j.0 n) [
            | inl last ↦ absurd (let e : i ≡ p = same_Some i p (sym j.2 ∙ ap (slice_get places) last ∙ at) in omega (arith, e, other))
            | inr earlier ↦ inr (j.0, (let less = j.1 in omega (arith, less, earlier)), j.2)
          ]
        ])),
      ))
]

pub set_all : (old now : List Bool) (places : List ℕ) (n : ℕ) → length places ≤ n → ((i : ℕ) → IsSet now i ↔ SetBefore old places n i) → (i : ℕ) → IsSet now i ↔ (IsSet old i ⊎ Contains places i)
set_all old now places n enough so i = (
  (λ set. elim ((so i).0 set) [ inl is ↦ inl is | inr j ↦ inr (at_place places j.0 i j.2) ]),
  (λ h. (so i).1 (elim h [ inl is ↦ inl is | inr has ↦ (let j = place_of places i has in inr (j.0, (let within = slice_get_within places j.0 i j.1 in omega (arith, within, enough)), j.1)) ])),
)

-- ---- what waits for what runs over

-- o waits for p, or is it
abbrev pub WaitsFor : Contents → OpKey → OpKey → Type 0
WaitsFor P p o = ReachesBy (Precedes P) (IsUnsatisfied P) p o

-- one before this index runs over, and o waits for it
abbrev pub TakenBefore : Contents → (OpKey → Option ℕ) → ℕ → ℕ → OpKey → Type 0
TakenBefore P known from n o = (k : ℕ) × (p : OpKey) × (op : Operation) × (k < n) × (slice_get (entries P.operations) k ≡ Some (p, op)) × RunsOver P known from p × WaitsFor P p o

abbrev pub AreTakenBefore : Contents → (OpKey → Option ℕ) → ℕ → ℕ → List Bool → Type 0
AreTakenBefore P known from n flags = (i : ℕ) (o : OpKey) (op : Operation) → slice_get (entries P.operations) i ≡ Some (o, op) → IsSet flags i ↔ TakenBefore P known from n o

module _ (P : Contents) (known : OpKey → Option ℕ) (from : ℕ) where
  abbrev rows : List (OpKey × Operation)
  rows = entries P.operations

  pub taken_none : (flags : List Bool) → flags ≡ replicate (length rows) false → AreTakenBefore P known from 0 flags
  taken_none flags is i o op at = (
    (λ set. absurd (true≢false (sym set ∙ ap (λ xs. get_or xs i false) is ∙ get_or-replicate (length rows) i false false (slice_get_within rows i (o, op) at)))),
    (λ h. absurd (let less = h.3 in omega (arith, less))),
  )

  pub taken_same : (n : ℕ) (flags : List Bool) → ((p : OpKey) (op : Operation) → slice_get rows n ≡ Some (p, op) → ¬ RunsOver P known from p) → AreTakenBefore P known from n flags → AreTakenBefore P known from (n + 1) flags
  taken_same n flags never so i o op at = (
    (λ set. (let h = (so i o op at).0 set in (h.0, h.1, h.2, (let less = h.3 in omega (arith, less)), h.4, h.5, h.6))),
    (λ h. (so i o op at).1 (elim (cases_eq h.0 n) [
      | inl last ↦ absurd (never h.1 h.2 (ap (slice_get rows) (sym last) ∙ h.4) h.5)
      | inr earlier ↦ (h.0, h.1, h.2, (let less = h.3 in omega (arith, less, earlier)), h.4, h.5, h.6)
    ])),
  )

  pub taken_all : (n : ℕ) (flags : List Bool) → length rows ≤ n → length flags ≡ length rows → AreTakenBefore P known from n flags → AreTaken P known from flags
  taken_all n flags enough size so i o op at =
      let within = slice_get_within rows i (o, op) at in (
        get_or flags i false,
        slice_get-get_or flags i false (omega (arith, within, size)),
        (
          (λ set. (let h = (so i o op at).0 set in (h.1, h.5, h.6))),
          (λ is. (so i o op at).1 (
              let there = is.1.1 in
              let row = row_of P is.0 there.0 there.1 in
              (row.0, is.0, there.0, (let less = slice_get_within rows row.0 (is.0, there.0) row.1 in omega (arith, less, enough)), row.1, is.1, is.2))),
        ),
      )

module _ (P : Contents) (valid : IsValid P) (g : Digraph) (graph : IsGraphFor P g) (statuses : List Status) (are : AreStatuses P statuses) where
  -- there are as many nodes as rows
  pub as_many : g.nodes ≡ length (entries P.operations)
  as_many = graph.nodes ∙ length-map (entries P.operations) (λ (row : OpKey × Operation). row.0)

  ends_within : (live : ℕ → Type 0) (i : ℕ) (rest : List ℕ) → i < length (entries P.operations) → IsPathBy (HasEdge g) live i rest → end_of i rest < length (entries P.operations)
  ends_within live i [] lt path = lt
  ends_within live i (j ∷ rest) lt (e, is, path) = let low = (graph.graph.ends i j e).1 in ends_within live j rest (omega (arith, low, as_many)) path

  pub reached_within : (live : ℕ → Type 0) (i : ℕ) (places : List ℕ) → i < length (entries P.operations) → AreExactly (ReachesBy (HasEdge g) live i) places → All (λ place. place < length (entries P.operations)) places
  reached_within live i places lt exactly = λ k d less. (
      let r = (exactly.1 (get_or places k d)).0 (All-contains_itself places k d less) in
      subst (λ z. z < length (entries P.operations)) r.2 (ends_within live i r.0 lt r.1))

  alike : ReachAlike (keys P.operations) P.pairs g (IsSet (unsatisfied_flags statuses)) (IsUnsatisfied P)
  alike = reach_alike (keys P.operations) P.pairs g graph (IsSet (unsatisfied_flags statuses)) (IsUnsatisfied P)
      (λ i o at. (unsatisfied_if_set P valid g graph statuses are i o at, set_if_unsatisfied P valid g graph statuses are i o at))
      (λ p o pair. (let ends = valid.pairs p o pair in (known_among P p ends.0, known_among P o ends.1))) (entries_in_order operation_cmp P.operations)

  module _ (known : OpKey → Option ℕ) (from : ℕ) where
    pub taken_more : (n : ℕ) (flags more : List Bool) (found : List ℕ) (p : OpKey) (op : Operation) → slice_get (entries P.operations) n ≡ Some (p, op) → RunsOver P known from p
        → AreExactly (ReachesBy (HasEdge g) (IsSet (unsatisfied_flags statuses)) n) found → ((i : ℕ) → IsSet more i ↔ (IsSet flags i ⊎ Contains found i)) → AreTakenBefore P known from n flags → AreTakenBefore P known from (n + 1) more
    taken_more n flags more found p op at_n over exactly sets so i o other at =
        let here = key_of_row (entries P.operations) n p op at_n in
        let there = key_of_row (entries P.operations) i o other at in (
          (λ set. elim ((sets i).0 set) [
            | inl before ↦ (let h = (so i o other at).0 before in (h.0, h.1, h.2, (let less = h.3 in omega (arith, less)), h.4, h.5, h.6))
            | inr has ↦ (n, p, op, omega arith, at_n, over, (alike n i p o here there).0 ((exactly.1 i).0 has))
          ]),
          (λ h. (sets i).1 (elim (cases_eq h.0 n) [
            | inl last ↦ (
                let same : (h.1, h.2) ≡ (p, op) = same_Some (h.1, h.2) (p, op) (sym h.4 ∙ ap (slice_get (entries P.operations)) last ∙ at_n) in
                inr ((exactly.1 i).1 ((alike n i p o here there).1 (subst (λ z. WaitsFor P z o) (ap (λ (r : OpKey × Operation). r.0) same) h.6))))
            | inr earlier ↦ inl ((so i o other at).1 (h.0, h.1, h.2, (let less = h.3 in omega (arith, less, earlier)), h.4, h.5, h.6))
          ])),
        )
