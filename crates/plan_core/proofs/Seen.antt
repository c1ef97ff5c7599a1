-- What callers see of a plan, of what was prepared for it, and of what is put in its place.
use Rattle.std.proofs.Common.{◌≡◌, ◌∙◌, ap, subst, ℕ, arith, sym, ◌+◌, ◌≤◌, List, Option, Some, Result, Ok, IfOk}
use Rattle.plan_basics.specs.declared.Refusal.{Refusal}
use Rattle.plan_basics.specs.declared.keys.OpKey.{OpKey}
use Rattle.plan_core.specs.Prepares.{IsPreparedIn, prepared_by}
use Rattle.plan_core.specs.State.{PlanState, PreparedState, plan_after}
use Rattle.request_outcomes.specs.Rebuilds.{AreRebuildLooks, IsRebuildOf, IsRebuiltBy}
use Rattle.request_outcomes.specs.Looked.{AreAllowed, CoverRows}
use Rattle.request_outcomes.specs.Next.{contents_next}
use Rattle.request_outcomes.specs.AcceptedOutcomes.{AreLooksTo, IsAcceptedOutcomeOf}
use Rattle.request_outcomes.specs.declared.accepted.NextPlan.TheVariants.{Whole}
use Rattle.request_outcomes.specs.declared.accepted.AcceptedOutcome.{AcceptedOutcome}
use Rattle.request_outcomes.specs.declared.rebuilds.Rebuild.{Rebuild}
use Rattle.request_outcomes.specs.declared.rebuilds.Rebuilt.{Rebuilt}
use Rattle.plan_records.specs.Work.{IsAllowance}
use Rattle.plan_records.specs.declared.Request.{Request}
use Rattle.plan_model.specs.Contents.{Contents}
use Rattle.plan_model.specs.Plan.{IsSoundPlan, Plan, plan_held}

-- the plan that callers see is sound
pub seen_sound : (clock : ℕ) (x : Option Contents) (s : PlanState) → IsSoundPlan (plan_held clock x) → record { plan = plan_held clock x } ≡ s → IsSoundPlan s.plan
seen_sound clock x s sound is = subst (λ (s : PlanState). IsSoundPlan s.plan) is sound

-- what a request leads to is prepared so
pub prepared_in : (P : Plan) (q : Request) (m : ℕ) (x : AcceptedOutcome) (looks : ℕ) → IsAcceptedOutcomeOf P q m x → AreLooksTo P.contents q.what x looks → IsPreparedIn P q (prepared_by m x looks)
prepared_in P q m x looks of are = record { by = record { step = of.step; changes = of.changes; fits = of.fits }; looks = are }

-- what a plan that was made anew is led to, put together
pub prepared_rebuild : (P : Plan) (q : Request) (m : ℕ) (a : Rebuild) (x : Rebuilt) → a.rebuilt ≡ Ok x → IsRebuildOf P q m a → (looks work : ℕ) → AreRebuildLooks P.contents q.what a looks → looks ≤ work → work ≤ looks + a.records.looks → (loaded : Contents)
    → loaded ≡ a.records.contents → IsPreparedIn P q (prepared_by m (record { next = Whole loaded; named = x.rebuilt_parts.named; changes = x.changes }) work)
prepared_rebuild P q m a x is of looks work are fewest most loaded same =
    let by = subst (λ r. IfOk r (IsRebuiltBy P q m a.records.contents)) is of.rebuilt in
    let looked = subst (λ r. IfOk r (λ (x : Rebuilt). AreAllowed P.contents q.what a.records.contents (looks + a.records.looks) × CoverRows P.contents x.changes.rows.items looks)) is are in
    let stepped = subst (λ (R : Contents). IsRebuiltBy P q m R x) (sym same) by in
    record {
      by = record { step = stepped.step; changes = stepped.changes; fits = tt };
      looks = record {
        allowed = λ n allowance. let allowed = looked.0 n (subst (λ (R : Contents). IsAllowance P.contents q.what R n) same allowance) in omega (arith, most, allowed);
        cover = omega (arith, looked.1, fewest);
      };
    }

-- of contents, y, that are those of the plan that callers see
pub seen_prepared : (clock : ℕ) (x y : Option Contents) (s : PlanState) → y ≡ x → record { plan = plan_held clock x } ≡ s → (q : Request) (r : Result PreparedState Refusal) → IfOk r (IsPreparedIn (plan_held clock y) q) → IfOk r (IsPreparedIn s.plan q)
seen_prepared clock x y s is seen q r of = subst (λ (t : PlanState). IfOk r (IsPreparedIn t.plan q)) seen (subst (λ (z : Option Contents). IfOk r (IsPreparedIn (plan_held clock z) q)) is of)

-- what is put in a plan's place is what was prepared for it
pub is_after : (clock : ℕ) (x y : Option Contents) (s : PlanState) (inside p : PreparedState) (os : List OpKey) → record { plan = plan_held clock x } ≡ s → inside ≡ p → os ≡ inside.named
    → y ≡ Some (contents_next (plan_held clock x).contents inside.next os) → plan_held inside.clock y ≡ plan_after s p
is_after clock x y s inside p os seen same named put =
    ap (plan_held inside.clock) put
    ∙ ap (λ ns. plan_held inside.clock (Some (contents_next (plan_held clock x).contents inside.next ns))) named
    ∙ ap (λ (t : PlanState). plan_held inside.clock (Some (contents_next t.plan.contents inside.next inside.named))) seen
    ∙ ap (plan_after s) same
