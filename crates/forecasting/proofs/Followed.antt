-- What is going, and what is complete, is so by a request only where a row changes.
use Rattle.std.proofs.Common.{◌≡◌, inl, inr, sym, ◌∙◌, ap, subst, ℕ, ◌<◌, List, [], All, length, Option, Some, slice_get}
use Rattle.std.proofs.lemmas.Option.{same_Some, slice_get_within}
use Rattle.std.specs.FinMap.{entries}
use Rattle.plan_basics.specs.declared.Attr.TheVariants as attribute
use Rattle.plan_basics.specs.declared.keys.OpKey.{OpKey}
use Rattle.derived_figures.specs.plan_laws.proofs.Classes.{classes_of_status}
use Rattle.derived_figures.specs.plan_laws.proofs.Standing.{one_status, status_told}
use Rattle.derived_figures.specs.plan_laws.proofs.Tabling.{some_row}
use Rattle.derived_figures.specs.start_choice.specs.plan_status.proofs.LoadedRows.{row_found}
use Rattle.operation_graph.proofs.Telling.{Told}
use Rattle.plan_model.specs.Contents.{Contents, HasAttribute, Operation, attribute_at, nothing}
use Rattle.plan_model.specs.Plan.{IsSoundPlan, Plan}
use Rattle.plan_model.specs.Status.{HasStatus, IsReady}
use Rattle.plan_model.specs.Valid.{IsValid}
use Rattle.plan_records.specs.Rows.{AreChanges, IsOperationRow}
use Rattle.plan_records.specs.declared.OperationRow.{OperationRow}
use Rattle.plan_records.specs.declared.PlanRow.{PlanRow}
use Rattle.plan_records.specs.declared.PlanRow.TheVariants as row
use Rattle.plan_records.specs.plan_drafts.specs.declared.RowKey.{RowKey}
use Rattle.status_rules.specs.declared.Status.TheVariants as status
use Rattle.plan_forecast.specs.Ahead.{IsGoing, counted_from}
use Rattle.plan_forecast.proofs.Made.{going_told}
use Rattle.forecasting.specs.Following.{AreAll, AreChangedPlaces, AreGoingAmong, AreGoingAt, ArePlaces, AreSetAt, AreTouched, HaveTimes, IsFollowed, IsNewAtMostAt}
use Rattle.forecasting.specs.InMemory.{IsLike}
use Rattle.forecasting.proofs.AfterRequest.{Completes, MovesTimes, no_row}
use Rattle.forecasting.proofs.First.{nothing_listed}
use Rattle.forecasting.proofs.TimesSet.{HasTimeOrPlace, have_times, moves}

-- of an operation of the same row in both plans it is so in both
module _ (P Q : Contents) (valid_p : IsValid P) (valid_q : IsValid Q) (workstations : Q.workstations ≡ P.workstations) (r : OperationRow) (p : IsOperationRow P r) (q : IsOperationRow Q r) where
  complete_alike : Completes Q r.op → Completes P r.op
  complete_alike is = subst (HasStatus P r.op) (one_status Q valid_q.acyclic r.op r.status status.Complete q.status is) p.status

  ready_alike : IsReady Q r.op → IsReady P r.op
  ready_alike is = (classes_of_status P valid_p r.op r.status p.status).ready.1 ((classes_of_status Q valid_q r.op r.status q.status).ready.0 is)

  going_alike : IsGoing Q r.op → IsGoing P r.op
  going_alike (inl is) = inl (subst (HasStatus P r.op) (one_status Q valid_q.acyclic r.op r.status status.Started q.status is) p.status)
  going_alike (inr (ready, (op, found, (on, free)))) =
      let same : op ≡ q.op = same_Some op q.op (sym found ∙ q.is_in_plan) in
      let station : op.workstation ≡ p.op.workstation = ap (λ (z : Operation). z.workstation) same ∙ sym q.columns.0 ∙ p.columns.0 in
      let there : HasAttribute P p.op.workstation attribute.CompletionOnly = ap (attribute_at P) (sym station) ∙ ap (λ ws. attribute_at (record P { workstations = ws }) op.workstation) (sym workstations) ∙ on in
      inr (ready_alike ready, (p.op, p.is_in_plan, (there, sym p.columns.7 ∙ q.columns.7 ∙ ap (λ (z : Operation). z.held) (sym same) ∙ free)))

module _ (P Q : Plan) (sound_p : IsSoundPlan P) (sound_q : IsSoundPlan Q) (rows : List PlanRow) (gone : List RowKey) (changes : AreChanges P Q rows gone) (like : IsLike P.contents Q.contents) (places : List ℕ) (touched : AreTouched P.contents rows places) where
  new_at_most : (so : Contents → OpKey → Type 0) → ((o : OpKey) → Told (so P.contents o)) → ((r : OperationRow) → IsOperationRow P.contents r → IsOperationRow Q.contents r → so Q.contents r.op → so P.contents r.op) → IsNewAtMostAt places so P.contents Q.contents
  new_at_most so told alike i o op at is = elim (told o) [
    | inl was ↦ inl was
    | inr never ↦ inr (
        let r = some_row Q.contents sound_q.contents.valid o op (row_found Q.contents i o op at) in
        let old = like.rows i o op at in
        let new = (changes.has_rows (row.Operation r.0)).1 (r.2, λ was. never (subst (so P.contents) r.1 (alike r.0 was r.2 (subst (so Q.contents) (sym r.1) is)))) in
        touched.all i r.0 old.0 new (subst (λ k. slice_get (entries P.contents.operations) i ≡ Some (k, old.0)) (sym r.1) old.1))
  ]

  pub changed_places : AreChangedPlaces P.contents Q.contents places
  changed_places = record {
    within = touched.within;
    going = new_at_most IsGoing (going_told P.contents sound_p.contents.valid.acyclic) (going_alike P.contents Q.contents sound_p.contents.valid sound_q.contents.valid like.workstations);
    complete = new_at_most Completes (λ o. status_told P.contents sound_p.contents.valid.acyclic o status.Complete) (complete_alike P.contents Q.contents sound_p.contents.valid sound_q.contents.valid like.workstations);
  }

-- there is nothing
pub none_touched : (P : Contents) → P ≡ nothing → (rows : List PlanRow) (places : List ℕ) → places ≡ [] → AreTouched P rows places
none_touched P none rows places empty = record { within = nothing_listed (λ i. i < length (entries P.operations)) places empty; all = λ i r op has at. absurd (no_row P none i r.op op at) }

pub none_among : (P : Contents) → P ≡ nothing → (first second places : List ℕ) → ArePlaces P places → AreGoingAmong P first second places
none_among P none first second places within = record { within = within; all = λ i o op has there is. absurd (no_row P none i o op there) }

-- after a request
module _ (P Q : Contents) (like : IsLike P Q) (places : List ℕ) where
  pub still_places : (these : List ℕ) → ArePlaces P these → ArePlaces Q these
  still_places these within = subst (λ n. All (λ i. i < n) these) (sym like.count) within

  module _ (so : Contents → OpKey → Type 0) (new : IsNewAtMostAt places so P Q) (before : List (Option ℕ)) (have : HaveTimes (so P) (entries P.operations) before) where
    pub time_or_place : HasTimeOrPlace (so Q) (entries Q.operations) places before
    time_or_place i o op at is = elim (new i o op at is) [
      | inl was ↦ (let old = like.rows i o op at in inl (have i o old.0 old.1 was))
      | inr here ↦ inr here
    ]

  pub still_going : (going next : List ℕ) → IsNewAtMostAt places IsGoing P Q → AreGoingAt P going → AreGoingAmong Q going places next → AreGoingAt Q next
  still_going going next new at among = record {
    within = among.within;
    all = λ i o op there is. elim (new i o op there is) [
      | inl was ↦ (let old = like.rows i o op there in among.all i o op (inl (at.all i o old.0 old.1 was)) there is)
      | inr here ↦ among.all i o op (inr here) there is
    ];
  }

-- where all are asked
module _ (P : Contents) (every : List ℕ) (all : AreAll (length (entries P.operations)) every) where
  pub every_place : (so : OpKey → Type 0) (before : List (Option ℕ)) → HasTimeOrPlace so (entries P.operations) every before
  every_place so before i o op at is = inr (all.all i (slice_get_within (entries P.operations) i (o, op) at))

  pub all_going : (going next : List ℕ) → AreGoingAmong P going every next → AreGoingAt P next
  all_going going next among = record { within = among.within; all = λ i o op there is. among.all i o op (inr (all.all i (slice_get_within (entries P.operations) i (o, op) there))) there is }

  module _ (valid : IsValid P) (m : ℕ) (begun begun' ended ended' : List (Option ℕ)) (since : AreSetAt (IsGoing P) (counted_from P m) (entries P.operations) every begun begun') (done : AreSetAt (Completes P) (λ o. m) (entries P.operations) every ended ended') where
    pub first_begun : MovesTimes IsGoing (counted_from P m) begun begun' P
    first_begun = moves (IsGoing P) (counted_from P m) (entries P.operations) every begun begun' since (every_place (IsGoing P) begun) (going_told P valid.acyclic)

    pub first_ended : MovesTimes Completes (λ o. m) ended ended' P
    first_ended = moves (Completes P) (λ o. m) (entries P.operations) every ended ended' done (every_place (Completes P) ended) (λ o. status_told P valid.acyclic o status.Complete)

    pub first_followed : (going next : List ℕ) → length begun ≡ length (entries P.operations) → length ended ≡ length (entries P.operations) → AreGoingAmong P going every next → IsFollowed P next begun' ended'
    first_followed going next begun_size ended_size among = record {
      going = all_going going next among;
      begun = have_times (IsGoing P) (counted_from P m) (entries P.operations) every begun begun' since (every_place (IsGoing P) begun) begun_size;
      ended = have_times (Completes P) (λ o. m) (entries P.operations) every ended ended' done (every_place (Completes P) ended) ended_size;
    }
