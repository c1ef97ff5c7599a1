-- Of an occurrence that isn't over yet and ends, something that isn't complete yet ends last.
use Rattle.std.proofs.Common.{◌≡◌, inl, inr, sym, ◌∙◌, ap, arith, ℕ, ◌<◌, ◌≤◌, Some}
use Rattle.std.proofs.lemmas.Option.{same_Some}
use Rattle.plan_basics.specs.declared.keys.OccKey.{OccKey}
use Rattle.plan_basics.specs.declared.keys.OpKey.{OpKey}
use Rattle.plan_forecast.specs.plan_laws.proofs.Entries.{told_has, told_operation}
use Rattle.plan_forecast.specs.plan_laws.proofs.Reaching.{same_occurrence}
use Rattle.plan_forecast.specs.plan_laws.proofs.Standing.{one_status, status_told}
use Rattle.plan_model.specs.operation_graph.proofs.Telling.{Told, told_and, told_none}
use Rattle.plan_model.specs.Contents.{Contents, Has, IsInPlan}
use Rattle.plan_model.specs.Status.{EachOperation, HasOccurrenceStatus, HasStatus, OccurrenceCase}
use Rattle.plan_model.specs.Valid.{IsAcyclic}
use Rattle.status_rules.specs.Table.{occurrence_status_place}
use Rattle.status_rules.specs.declared.OccStatus.{OccStatus}
use Rattle.status_rules.specs.declared.OccStatus.TheVariants as occurrence
use Rattle.status_rules.specs.declared.Status.TheVariants as status
use Rattle.plan_outlooks.specs.Forecasts.{Forecast}
use Rattle.plan_outlooks.specs.Lent.{IsLent}
use Rattle.plan_outlooks.specs.Occurrences.{IsLastEnd}
use Rattle.plan_outlooks.specs.Paths.{EndsAt}
use Rattle.plan_outlooks.specs.declared.refs.ForecastRefs.{ForecastRefs}
use Rattle.plan_outlooks.proofs.FirstOnes.{index_of}
use Rattle.plan_outlooks.proofs.OperationRows.{in_last}

-- ---- an occurrence all of whose operations are complete is

module _ (P : Contents) (acyclic : IsAcyclic P.pairs) (c : OccKey) (all : EachOperation P c status.Complete) (o : OpKey) (its : o.occurrence ≡ c) (known : IsInPlan P o) where
  not_before : (t : OccStatus) → occurrence_status_place t < occurrence_status_place occurrence.Complete → ¬ OccurrenceCase P c t
  not_before occurrence.Deleted less h = let e = one_status P acyclic o status.Deleted status.Complete (h o its known) (all o its known) in cc
  not_before occurrence.Error less h = let e = one_status P acyclic h.0 status.Error status.Complete h.2 (all h.0 h.1 (h.2.0, h.2.1, tt)) in cc
  not_before occurrence.Undecided less h = let e = one_status P acyclic h.0 status.Undecided status.Complete h.2 (all h.0 h.1 (h.2.0, h.2.1, tt)) in cc
  not_before occurrence.Complete less h = omega (arith, less)
  not_before occurrence.Started less h = omega (arith, less)
  not_before occurrence.Waiting less h = omega (arith, less)

  pub is_complete : HasOccurrenceStatus P c occurrence.Complete
  is_complete = (all, not_before)

-- some operation of it isn't complete, or all are
module _ (P : Contents) (acyclic : IsAcyclic P.pairs) (c : OccKey) where
  abbrev IsLeft : OpKey → Type 0
  IsLeft o = (o.occurrence ≡ c) × Has P o (λ op. ¬ HasStatus P o status.Complete)

  left_told : Told ((o : OpKey) × IsLeft o)
  left_told = told_operation P IsLeft (λ o. told_and (same_occurrence o.occurrence c) (λ _. told_has P o (λ op. ¬ HasStatus P o status.Complete) (λ op e. told_none (status_told P acyclic o status.Complete)))) (λ o h. (h.1.0, h.1.1, tt))

  each_complete : ¬ ((o : OpKey) × IsLeft o) → EachOperation P c status.Complete
  each_complete none o its known = elim (status_told P acyclic o status.Complete) [
    | inl is ↦ is
    | inr not ↦ absurd (none (o, (its, (known.0, known.1, not))))
  ]

  pub some_left : (o : OpKey) → o.occurrence ≡ c → IsInPlan P o → ¬ HasOccurrenceStatus P c occurrence.Complete → (q : OpKey) × (q.occurrence ≡ c) × IsInPlan P q × ¬ HasStatus P q status.Complete
  some_left o its known outstanding = elim left_told [
    | inl h ↦ (h.0, h.1.0, (h.1.1.0, h.1.1.1, tt), h.1.1.2)
    | inr none ↦ absurd (outstanding (is_complete P acyclic c (each_complete none) o its known))
  ]

-- ---- what ends last

module _ (F : Forecast) (x : ForecastRefs) (lent : IsLent F x) (acyclic : IsAcyclic F.plan.contents.pairs) (c : OccKey) (m : ℕ) (is : IsLastEnd F c m) (outstanding : ¬ HasOccurrenceStatus F.plan.contents c occurrence.Complete) where
  -- what is left is complete in the end, and not before the forecast
  ends_by : (q : OpKey) → q.occurrence ≡ c → IsInPlan F.plan.contents q → (n : ℕ) × (F.last.done q ≡ Some n) × (n ≤ m) × (F.from ≤ n)
  ends_by q its known =
      let i = index_of F q known in
      let t = lent.timed q (is.complete q its (in_last F x lent i.0 q i.1)) in
      (t.0, t.1, is.none_later q t.0 its known t.1, lent.onward q t.0 t.1)

  pub some_ends_last : (q : OpKey) × (q.occurrence ≡ c) × EndsAt F m q
  some_ends_last =
      let (o, its, known, done) = is.last in
      elim (status_told F.plan.contents acyclic o status.Complete) [
        | inr not ↦ (o, its, (known, not, done))
        | inl already ↦
            let q = some_left F.plan.contents acyclic c o its known outstanding in
            let e = ends_by q.0 q.1 q.2 in
            let first : m ≡ F.from = same_Some m F.from (sym done ∙ lent.already o already) in
            let le = e.2 in
            let from = e.3 in
            let same : e.0 ≡ m = omega (arith, first, le, from) in
            (q.0, q.1, (q.2, q.3, e.1 ∙ ap Some same))
      ]
