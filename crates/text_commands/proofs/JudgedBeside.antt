-- What is shown of an extension's text beside a plan.
use Rattle.std.proofs.Common.{◌≡◌, ◌≢◌, inl, inr, refl, true, false, ℕ, List, Option, Some, None, Result, IfOk}
use Rattle.std.proofs.lemmas.Result.{IfOk-weaker}
use Rattle.plan_basics.specs.declared.Refusal.{Refusal}
use Rattle.plan_basics.specs.declared.Refusal.TheVariants as refusal
use Rattle.plan_records.specs.plan_model.specs.Contents.{AddedParts}
use Rattle.plan_records.specs.plan_model.specs.Plan.{Plan}
use Rattle.plan_records.specs.Answer.{refused}
use Rattle.plan_records.specs.declared.Request.{Request}
use Rattle.command_answers.specs.Answers.{IsShown}
use Rattle.plan_records.specs.Acceptance.{MayBeAccepted}
use Rattle.plan_records.specs.Step.{IsAccepted, IsRefused}
use Rattle.text_commands.specs.Beside.{extension_at_clock, Accepts, IsBesideShown, IsJudgedBeside, Refuses, Takes}
use Rattle.command_answers.specs.Given.{IsExtensionOf}
use Rattle.text_commands.specs.Judged.{AreFaultsShown}
use Rattle.command_answers.specs.declared.endings.Ending.{Ending}
use Rattle.command_answers.specs.declared.endings.Fault.{Fault}

-- what is accepted nothing refuses
pub none_refuses : (P : Plan) (q : Request) → Accepts P q → (r : Refusal) → MayBeAccepted P q r
none_refuses P q accepts =
    let is : IsAccepted (MayBeAccepted P q) P q accepts.0 accepts.1 = accepts.2 in
    is.none_refuses

-- what is refused isn't accepted
pub not_accepted : (P : Plan) (q : Request) (r : Refusal) → Refuses P q r → ¬ Accepts P q
not_accepted P q r refuses accepts =
    let is : IsRefused (MayBeAccepted P q) P r P = refuses in
    is.least.0 (none_refuses P q accepts r)

module _ (P : Plan) (bytes : List ℕ) (old new : Option (List ℕ)) (r : Result Ending Fault) where
  -- the plan takes it
  pub shown_taken : (found : Option AddedParts) → IsExtensionOf bytes found → Takes P found → IfOk r (AreFaultsShown 0 old new) → IfOk r (IsJudgedBeside P bytes old new)
  shown_taken found is takes shown =
      IfOk-weaker r (AreFaultsShown 0 old new) (IsJudgedBeside P bytes old new)
      (λ (e : Ending) (was : AreFaultsShown 0 old new e). (found, is, (0, was.0, was.1, was.2, (λ _. takes, λ _. refl)))) shown

  -- it doesn't
  pub shown_refused : (found : Option AddedParts) → IsExtensionOf bytes found → (q : Refusal) → Refuses P (extension_at_clock P found) q
      → IfOk r (λ e. (count : ℕ) × (count ≢ 0) × AreFaultsShown count old new e) → IfOk r (IsJudgedBeside P bytes old new)
  shown_refused found is q refuses shown =
      IfOk-weaker r (λ e. (count : ℕ) × (count ≢ 0) × AreFaultsShown count old new e) (IsJudgedBeside P bytes old new)
      (λ (e : Ending) (was : (count : ℕ) × (count ≢ 0) × AreFaultsShown count old new e).
      (found, is, (was.0, was.2.0, was.2.1, was.2.2, (λ zero. absurd (was.1 zero), λ takes. absurd (not_accepted P (extension_at_clock P found) q refuses takes))))) shown

  -- the text has faults by itself: it denotes no extension
  pub shown_alone : ((s : AddedParts) → ¬ IsExtensionOf bytes (Some s)) → (count : ℕ) → count ≢ 0 → IfOk r (AreFaultsShown count old new) → IfOk r (IsJudgedBeside P bytes old new)
  shown_alone none count some shown =
      IfOk-weaker r (AreFaultsShown count old new) (IsJudgedBeside P bytes old new)
      (λ (e : Ending) (was : AreFaultsShown count old new e).
      (None, none, (count, was.0, was.1, was.2, (λ zero. absurd (some zero), λ takes. absurd (none_refuses P (extension_at_clock P None) takes refusal.BadPlan))))) shown

  -- a plan is loaded
  pub shown_loaded : P.loaded ≡ true → IfOk r (IsJudgedBeside P bytes old new) → IfOk r (IsBesideShown P bytes old new)
  shown_loaded loaded shown =
      IfOk-weaker r (IsJudgedBeside P bytes old new) (IsBesideShown P bytes old new)
      (λ (e : Ending) (was : IsJudgedBeside P bytes old new e). inl (loaded, was)) shown

  -- none is
  pub shown_unloaded : P.loaded ≡ false → IfOk r (IsShown (refused refusal.NotLoaded) old new) → IfOk r (IsBesideShown P bytes old new)
  shown_unloaded unloaded shown =
      IfOk-weaker r (IsShown (refused refusal.NotLoaded) old new) (IsBesideShown P bytes old new)
      (λ (e : Ending) (was : IsShown (refused refusal.NotLoaded) old new e). inr (unloaded, was)) shown

-- so many were shown, and there are some
pub some_shown : (old new : Option (List ℕ)) (r : Result Ending Fault) (count : ℕ) → count ≢ 0 → IfOk r (AreFaultsShown count old new)
    → IfOk r (λ e. (n : ℕ) × (n ≢ 0) × AreFaultsShown n old new e)
some_shown old new r count some shown =
    IfOk-weaker r (AreFaultsShown count old new) (λ e. (n : ℕ) × (n ≢ 0) × AreFaultsShown n old new e)
    (λ (e : Ending) (was : AreFaultsShown count old new e). (count, some, was)) shown
