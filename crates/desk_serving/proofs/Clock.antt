-- A look ahead from a plan's own clock: a tick then is refused of no plan that is loaded.
use Rattle.std.proofs.Common.{◌≡◌, refl, sym, subst, arith, ℕ, Bool, true, false, if◌then◌else◌, ◌⊎◌, inl, inr, List, Option, Some, None, Result, Ok, Err, IfErr, IfOk}
use Rattle.std.proofs.lemmas.Option.{none-some}
use Rattle.std.specs.declared.alloc.Global.{Global}
use Rattle.std.specs.declared.vec.Vec.{Vec}
use Rattle.plan_basics.specs.declared.Refusal.{Refusal}
use Rattle.plan_basics.specs.declared.Refusal.TheVariants as refusal
use Rattle.plan_records.specs.Answer.{refused}
use Rattle.plan_records.specs.Step.{Step}
use Rattle.plan_reports.specs.Reports.{IsOwed, refusal_of}
use Rattle.plan_reports.specs.desk_tables.specs.plan_model.specs.Plan.{IsSoundPlan, Plan}
use Rattle.board_pages.specs.forecast_texts.specs.plan_outlooks.specs.plan_forecast.specs.Ahead.{tick}
use Rattle.board_pages.specs.forecast_texts.specs.plan_outlooks.specs.plan_forecast.proofs.Accepted.{tick_accepted}

never_refused : (P : Plan) (r : Refusal) (after : Plan) → IsSoundPlan P → P.loaded ≡ true → ¬ Step P (tick P.clock) (refused r) after
never_refused P r after sound loaded h = h.least.0 (tick_accepted P P.clock loaded (omega arith) sound.clock r)

-- where no refusal is owed a plan is loaded
loaded_by : (usable loaded : Bool) → (if usable then (if loaded then None else Some refusal.NotLoaded) else Some refusal.Reopen) ≡ None → loaded ≡ true
loaded_by true true none = refl
loaded_by true false none = absurd (none-some refusal.NotLoaded (sym none))
loaded_by false loaded none = absurd (none-some refusal.Reopen (sym none))

-- so want of memory is all that a look ahead may be refused for
pub memory_alone : (usable : Bool) (P : Plan) → IsSoundPlan P → refusal_of usable P ≡ None → (made : Result (Vec ℕ Global) Refusal)
    → IfErr made (λ r. (r ≡ refusal.Memory) ⊎ Step P (tick P.clock) (refused r) P) → IfErr made (IsOwed (refusal_of usable P))
memory_alone usable P sound none (Ok text) either = tt
memory_alone usable P sound none (Err r) (inl lacks) = subst (λ (owed : Option Refusal). IsOwed owed r) (sym none) lacks
memory_alone usable P sound none (Err r) (inr step) = absurd (never_refused P r P sound (loaded_by usable P.loaded none) step)

-- a text of a plan at its clock is one of the plan that this is, at its clock
pub at_clock : (IsText : Plan → ℕ → List ℕ → Type 0) (P Q : Plan) (m : ℕ) → P ≡ Q → m ≡ P.clock → (made : Result (Vec ℕ Global) Refusal)
    → IfOk made (λ text. IsText P m text.items) → IfOk made (λ text. IsText Q Q.clock text.items)
at_clock IsText P Q m same is made h =
    subst (λ (R : Plan). IfOk made (λ text. IsText R R.clock text.items)) same (subst (λ (n : ℕ). IfOk made (λ text. IsText P n text.items)) is h)
