-- What is due, by the indices of rows.
use Rattle.std.proofs.Common.{◌≡◌, ◌⊎◌, inl, inr, sym, ◌∙◌, ap, subst, arith, ℕ, ◌+◌, ◌<◌, ◌≤◌, Bool, false, true≢false, List, Contains, length, slice_get, Option, Some, None, IfSome, MatchOption, Decides}
use Rattle.std.proofs.lemmas.Bool.{cases_eq}
use Rattle.std.proofs.lemmas.Option.{same_Some, slice_get_within}
use Rattle.std.specs.FinMap.{entries, get}
use Rattle.plan_basics.specs.Keys.{operation_cmp, operation_cmp-IsAntisymmetric, operation_cmp_total}
use Rattle.plan_basics.specs.declared.keys.OpKey.{OpKey}
use Rattle.plan_basics.proofs.Members.{place_of}
use Rattle.derived_figures.specs.Reports.{IsReported}
use Rattle.derived_figures.specs.declared.outlines.ReportedOperation.{ReportedOperation}
use Rattle.plan_records.specs.plan_drafts.proofs.RowPlaces.{place_of_found, places_ascend, row_at}
use Rattle.plan_model.proofs.Entries.{entries_are, entries_in_order}
use Rattle.plan_model.specs.Contents.{Contents, Has, Operation}
use Rattle.plan_forecast.specs.Ahead.{Ahead, IsDue, IsGoing, IsWork, SomeIsDue}
use Rattle.plan_records.specs.declared.What.TheVariants as what
use Rattle.forecasting.specs.Following.{AreGoingAt, IsDueAt, IsLeastDue, IsLeastWith}
use Rattle.forecasting.specs.Times.{AreTimesOf}
use Rattle.forecasting.proofs.Deciding.{is_its}

-- what is said of its end, of a plan
abbrev pub Ends : Contents → (OpKey → Option ℕ) → OpKey → ℕ → Type 0
Ends P since o m = Has P o (λ op. (b : ℕ) × (since o ≡ Some b) × (b + op.duration ≤ m))

module _ (s : Ahead) (P : Contents) (same : s.plan.contents ≡ P) (o : OpKey) (m : ℕ) where
  pub due_of : IsGoing P o → Ends P s.since o m → IsDue s o m
  due_of going ends = subst (λ (C : Contents). IsGoing C o × Ends C s.since o m) (sym same) (going, ends)

  pub of_due : IsDue s o m → IsGoing P o × Ends P s.since o m
  of_due due = subst (λ (C : Contents). IsGoing C o × Ends C s.since o m) same (due.0, due.1)

  pub not_going : (IsGoing P o → ⊥) → Decides false (IsDue s o m)
  not_going never = (λ e. absurd (true≢false (sym e)), λ due. absurd (never (of_due due).0))

module _ (s : Ahead) (P : Contents) (same : s.plan.contents ≡ P) (o : OpKey) (m : ℕ) (x : ReportedOperation) (is : IsReported P o x) (z : Option ℕ) (times : s.since o ≡ z) where
  pub decided : (b : Bool) → IsGoing P o → Decides b ((k : ℕ) × (z ≡ Some k) × (k + x.operation.now.duration ≤ m)) → Decides b (IsDue s o m)
  decided b going over = (
    λ e. (let h = over.0 e in due_of s P same o m going (x.operation.now, is.operation, (h.0, times ∙ h.1, h.2))),
    λ due. (let h = (of_due s P same o m due).1 in over.1 (h.2.0, sym times ∙ h.2.1, subst (λ (op : Operation). h.2.0 + op.duration ≤ m) (is_its P o x is h.0 h.1) h.2.2)),
  )

pub row_of : (P : Contents) (o : OpKey) (op : Operation) → get P.operations o ≡ Some op → (i : ℕ) × (slice_get (entries P.operations) i ≡ Some (o, op))
row_of P o op is = place_of_found operation_cmp operation_cmp_total operation_cmp-IsAntisymmetric (entries P.operations) o op (ap (λ m. get m o) (entries_are operation_cmp operation_cmp_total operation_cmp-IsAntisymmetric P.operations) ∙ is)

module _ (s : Ahead) (P : Contents) (same : s.plan.contents ≡ P) (m : ℕ) where
  abbrev rows : List (OpKey × Operation)
  rows = entries P.operations

  row_due : (o : OpKey) → IsDue s o m → (i : ℕ) × ((op : Operation) × (slice_get rows i ≡ Some (o, op)))
  row_due o due = let h = (of_due s P same o m due).1 in let r = row_of P o h.0 h.1 in (r.0, (h.0, r.1))

  -- the one at the least index is the one of the least key
  pub first_is_least : (i : ℕ) (o : OpKey) (op : Operation) → slice_get rows i ≡ Some (o, op) → IsDue s o m → ((k : ℕ) (p : OpKey) (q : Operation) → slice_get rows k ≡ Some (p, q) → IsDue s p m → i ≤ k) → IsWork s m (what.Ended o)
  first_is_least i o op at due least = (
    due,
    λ p late less.
        let r = row_due p late in
        let before = places_ascend operation_cmp operation_cmp_total rows (entries_in_order operation_cmp P.operations) r.0 i p o r.1.0 op r.1.1 at less in
        let after = least r.0 p r.1.0 r.1.1 late in
        absurd (omega (arith, before, after)),
  )

  -- what is due stands at an index of what is going
  module _ (going : List ℕ) (all : AreGoingAt P going) where
    pub at_going : (i : ℕ) (o : OpKey) (op : Operation) → slice_get rows i ≡ Some (o, op) → IsDue s o m → Contains going i × IsDueAt s m i
    at_going i o op at due = (all.all i o op at (of_due s P same o m due).0, (o, op, subst (λ (C : Contents). slice_get (entries C.operations) i ≡ Some (o, op)) (sym same) at, due))

    pub least_due : (i : ℕ) (o : OpKey) (op : Operation) → slice_get rows i ≡ Some (o, op) → IsLeastDue s m going (Some i) → IsWork s m (what.Ended o)
    least_due i o op at least =
        let h = least.0 in
        let there : slice_get rows i ≡ Some (h.0, h.1) = subst (λ (C : Contents). slice_get (entries C.operations) i ≡ Some (h.0, h.1)) same h.2 in
        let its : (h.0, h.1) ≡ (o, op) = same_Some (h.0, h.1) (o, op) (sym there ∙ at) in
        first_is_least i o op at (subst (λ (r : OpKey × Operation). IsDue s r.0 m) its h.3) (λ k p q there late. let g = at_going k p q there late in least.1 k g.0 g.1)

    pub none_due : IsLeastDue s m going None → SomeIsDue s m → ⊥
    none_due none some = let r = row_due some.0 some.1 in let g = at_going r.0 some.0 r.1.0 r.1.1 some.1 in none r.0 g.0 g.1

pub least_within : (n i k : ℕ) (least : Option ℕ) → IfSome least (λ j. j < n) → i < n → IsLeastWith least i k → k < n
least_within n i k None within less e = omega (arith, e, less)
least_within n i k (Some j) within less both = let le = both.1 in omega (arith, le, less)

-- whether the operation at an index is due, by the time that stands there
module _ (s : Ahead) (P : Contents) (same : s.plan.contents ≡ P) (m : ℕ) (begun : List (Option ℕ)) (times : AreTimesOf s.since (entries P.operations) begun) (p : ℕ) (z : Option ℕ) (less : p < length (entries P.operations)) (at_p : slice_get begun p ≡ Some z)
    (b : Bool) (each : (o : OpKey) (op : Operation) → slice_get (entries P.operations) p ≡ Some (o, op) → s.since o ≡ z → Decides b (IsDue s o m)) where
  since_is : (o : OpKey) (op : Operation) → slice_get (entries P.operations) p ≡ Some (o, op) → s.since o ≡ z
  since_is o op at = same_Some (s.since o) z (sym (times p o op at) ∙ at_p)

  pub due_at : Decides b (IsDueAt s m p)
  due_at = (
    λ e.
        let r = row_at (entries P.operations) p less in
        (r.0.0, r.0.1, subst (λ (C : Contents). slice_get (entries C.operations) p ≡ Some r.0) (sym same) r.1, (each r.0.0 r.0.1 r.1 (since_is r.0.0 r.0.1 r.1)).0 e),
    λ h.
        let at = subst (λ (C : Contents). slice_get (entries C.operations) p ≡ Some (h.0, h.1)) same h.2 in
        (each h.0 h.1 at (since_is h.0 h.1 at)).1 h.3,
  )

-- so many of the indices
abbrev pub IsBefore : List ℕ → ℕ → ℕ → Type 0
IsBefore places n i = (k : ℕ) × (k < n) × (slice_get places k ≡ Some i)

-- the least of so many indices at which something is due
abbrev pub IsLeastBefore : Ahead → ℕ → List ℕ → ℕ → Option ℕ → Type 0
IsLeastBefore s m places n least = MatchOption least ((i : ℕ) → IsBefore places n i → ¬ IsDueAt s m i) (λ p. IsDueAt s m p × ((i : ℕ) → IsBefore places n i → IsDueAt s m i → p ≤ i))

module _ (s : Ahead) (m : ℕ) (places : List ℕ) where
  pub least_first : IsLeastBefore s m places 0 None
  least_first i (k, less, at) = absurd (omega (arith, less))

  module _ (n i : ℕ) (at : slice_get places n ≡ Some i) where
    earlier : (k : ℕ) → IsBefore places (n + 1) k → (k ≡ i) ⊎ IsBefore places n k
    earlier k (j, less, there) = elim (cases_eq j n) [
      | inl e ↦ inl (same_Some k i (sym there ∙ ap (slice_get places) e ∙ at))
      | inr other ↦ inr (j, omega (arith, less, other), there)
    ]

    pub least_passed : (least : Option ℕ) → ¬ IsDueAt s m i → IsLeastBefore s m places n least → IsLeastBefore s m places (n + 1) least
    least_passed None never none = λ k h due. elim (earlier k h) [ inl e ↦ never (subst (IsDueAt s m) e due) | inr before ↦ none k before due ]
    least_passed (Some p) never (is, least) = (is, λ k h due. elim (earlier k h) [ inl e ↦ absurd (never (subst (IsDueAt s m) e due)) | inr before ↦ least k before due ])

    pub least_next : (least : Option ℕ) (next : ℕ) → IsDueAt s m i → IsLeastWith least i next → IsLeastBefore s m places n least → IsLeastBefore s m places (n + 1) (Some next)
    least_next None next due e none = (subst (IsDueAt s m) (sym e) due, λ k h late. elim (earlier k h) [ inl same ↦ omega (arith, e, same) | inr before ↦ absurd (none k before late) ])
    least_next (Some p) next due both (is, least) = (
      elim both.0 [ inl e ↦ subst (IsDueAt s m) (sym e) due | inr e ↦ subst (IsDueAt s m) (sym e) is ],
      λ k h late.
          let first = both.1 in
          let second = both.2 in
          elim (earlier k h) [ inl same ↦ omega (arith, first, same) | inr before ↦ (let le = least k before late in omega (arith, second, le)) ],
    )

  pub least_all : (n : ℕ) (least : Option ℕ) → length places ≤ n → IsLeastBefore s m places n least → IsLeastDue s m places least
  least_all n None enough none = λ i has due. let p = place_of places i has in none i (p.0, (let w = slice_get_within places p.0 i p.1 in omega (arith, w, enough)), p.1) due
  least_all n (Some q) enough (is, least) = (is, λ i has due. let p = place_of places i has in least i (p.0, (let w = slice_get_within places p.0 i p.1 in omega (arith, w, enough)), p.1) due)
