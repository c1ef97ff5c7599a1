-- What is in memory after a request, and that there is no work where there is nothing.
use Rattle.std.proofs.Common.{◌≡◌, inl, inr, refl, sym, ◌∙◌, ap, subst, arith, ℕ, ◌≤◌, pos, List, length, slice_get, Option, Some}
use Rattle.std.proofs.lemmas.Option.{none-some, slice_get_within}
use Rattle.std.specs.FinMap.{entries, get, get-empty, len-empty, len-entries}
use Rattle.plan_basics.specs.Keys.{operation_cmp}
use Rattle.plan_basics.specs.declared.keys.OpKey.{OpKey}
use Rattle.plan_model.specs.Contents.{Contents, Operation, nothing}
use Rattle.plan_model.specs.Plan.{Plan}
use Rattle.plan_model.specs.Status.{HasStatus}
use Rattle.status_rules.specs.declared.Status.TheVariants.{Complete}
use Rattle.plan_forecast.specs.Ahead.{Ahead, AreTimesAfter, HasWork, IsGoing, counted_from}
use Rattle.plan_records.specs.Acceptance.{minute_of}
use Rattle.plan_records.specs.Answer.{accepted}
use Rattle.plan_records.specs.Step.{Step}
use Rattle.plan_records.specs.declared.Request.{Request}
use Rattle.forecasting.specs.Following.{AreSetAt}
use Rattle.forecasting.specs.Times.{AreTimesOf}
use Rattle.forecasting.specs.Turns.{IsFirstWork}
use Rattle.forecasting.specs.InMemory.{GoesOn, IsInMemory, IsLike}
use Rattle.forecasting.proofs.Keeping.{times_still, step_like, work_asked}

-- the times of a plan's rows lead from one list to another
abbrev pub MovesTimes : (Contents → OpKey → Type 0) → (OpKey → ℕ) → List (Option ℕ) → List (Option ℕ) → Contents → Type 0
MovesTimes so from before after P = (old : OpKey → Option ℕ) → AreTimesOf old (entries P.operations) before → (new : OpKey → Option ℕ) × AreTimesAfter (so P) from old new × AreTimesOf new (entries P.operations) after

abbrev pub Completes : Contents → OpKey → Type 0
Completes P o = HasStatus P o Complete

pub no_rows : (P : Contents) → P ≡ nothing → length (entries P.operations) ≡ 0
no_rows P none = ap (λ (Q : Contents). length (entries Q.operations)) none ∙ sym (len-entries nothing.operations) ∙ len-empty operation_cmp Operation

pub no_row : (P : Contents) → P ≡ nothing → (i : ℕ) (o : OpKey) (op : Operation) → slice_get (entries P.operations) i ≡ Some (o, op) → ⊥
no_row P none i o op at = let less = slice_get_within (entries P.operations) i (o, op) at in omega (arith, less, no_rows P none)

pub none_set : (so : OpKey → Type 0) (P : Contents) → P ≡ nothing → (from : OpKey → ℕ) (places : List ℕ) (before after : List (Option ℕ)) → AreSetAt so from (entries P.operations) places before after
none_set so P none from places before after = record {
  each = λ k o op y at was. absurd (no_row P none k o op at);
  here = λ k o op y z has at was is. absurd (no_row P none k o op at);
}

not_there : (P : Contents) → P ≡ nothing → (o : OpKey) (op : Operation) → get P.operations o ≡ Some op → ⊥
not_there P none o op is = none-some op (sym (get-empty operation_cmp o) ∙ ap (λ (Q : Contents). get Q.operations o) (sym none) ∙ is)

pub no_work : (s : Ahead) → s.plan.contents ≡ nothing → (x : ℕ) → HasWork s x → ⊥
no_work s none x (inl due) = let h = due.1.1 in not_there s.plan.contents none due.0 h.0 h.1
no_work s none x (inr (inl may)) = let h = may.1.1 in not_there s.plan.contents none may.0 h.0 h.1
no_work s none x (inr (inr may)) = let h = may.1.1 in not_there s.plan.contents none may.0 h.0 h.1

module _ (s : Ahead) (until x : ℕ) (P after : Plan) (q : Request) (begun ended : List (Option ℕ)) (ahead : IsInMemory s P begun ended) (first : IsFirstWork s until x q.what) (at : q.at ≡ pos x)
    (chosen : List OpKey) (step : Step P q (accepted chosen) after) where
  pub like_after : IsLike P.contents after.contents
  like_after = step_like P after q chosen (work_asked s x q.what first.work) step

  clock_is : after.clock ≡ x
  clock_is = ap (λ (X : Plan). X.clock) step.is_after ∙ ap minute_of at

  pub clock_onward : P.clock ≤ after.clock
  clock_onward = subst (λ m. P.clock ≤ m) (sym clock_is) (subst (λ (X : Plan). X.clock ≤ x) ahead.plan first.from)

  pub goes_on : (begun' ended' : List (Option ℕ)) → length begun' ≡ length begun → length ended' ≡ length ended → MovesTimes IsGoing (counted_from after.contents x) begun begun' after.contents → MovesTimes Completes (λ o. x) ended ended' after.contents → GoesOn until s q after begun' ended'
  goes_on begun' ended' begun_size ended_size since done =
      let a = since s.since (times_still P.contents after.contents like_after s.since begun ahead.since) in
      let b = done s.done (times_still P.contents after.contents like_after s.done ended ahead.done) in (
        x,
        record { plan = after; since = a.0; done = b.0 },
        first.within,
        record { from = first.from; idle = first.idle; at = at; work = first.work },
        record {
          chosen = chosen;
          step = subst (λ (X : Plan). Step X q (accepted chosen) after) (sym ahead.plan) step;
          since = subst (λ m. AreTimesAfter (IsGoing after.contents) (counted_from after.contents m) s.since a.0) (sym clock_is) a.1;
          done = subst (λ m. AreTimesAfter (Completes after.contents) (λ o. m) s.done b.0) (sym clock_is) b.1;
        },
        record {
          plan = refl;
          loaded = ap (λ (X : Plan). X.loaded) step.is_after;
          begun_size = begun_size ∙ ahead.begun_size ∙ sym like_after.count;
          ended_size = ended_size ∙ ahead.ended_size ∙ sym like_after.count;
          since = a.2;
          done = b.2;
        },
      )
