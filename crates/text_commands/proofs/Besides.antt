-- What is shown of an extension's text beside the plan of a desk.
use Rattle.std.proofs.Common.{inl, inr, ℕ, ℤ, List, Option, Some, None, Result, IfOk}
use Rattle.std.proofs.lemmas.Result.{IfOk-weaker}
use Rattle.plan_basics.specs.Minutes.{IsMinuteText}
use Rattle.plan_basics.specs.declared.Refusal.{Refusal}
use Rattle.plan_basics.specs.declared.keys.OpKey.{OpKey}
use Rattle.plan_records.specs.plan_model.specs.Contents.{Contents}
use Rattle.plan_records.specs.plan_model.specs.Plan.{Plan}
use Rattle.plan_records.specs.Answer.{accepted, refused}
use Rattle.plan_records.specs.Run.{State}
use Rattle.command_desks.specs.desk_tables.specs.Faults.{IsOpeningRefusal}
use Rattle.command_answers.specs.Answers.{IsShown}
use Rattle.text_commands.specs.Beside.{IsBesideShown}
use Rattle.command_answers.specs.Opened.{IsWhyNoDesk, IsNoneShown}
use Rattle.command_words.specs.Words.{text_or_empty}
use Rattle.text_commands.specs.Besides.{IsBesideDesk, IsBesidePlanned, IsBesideText, IsExtensionJudged, IsSomeBesideText}
use Rattle.command_desks.specs.Loaded.{IsLoadRefusal, IsLoaded}
use Rattle.command_answers.specs.declared.endings.Ending.{Ending}
use Rattle.command_answers.specs.declared.endings.Fault.{Fault}
use Rattle.command_answers.specs.declared.endings.NoDesk.{NoDesk}
use Rattle.command_answers.proofs.Opened.{none_shown}

module _ (bytes : List ℕ) (old new : Option (List ℕ)) (r : Result Ending Fault) where
  -- beside a plan that was loaded
  pub beside_loaded : (z : ℤ) (found : Option Contents) (named : List OpKey) (s : State) → IsLoaded z found (accepted named) s
      → IfOk r (IsBesideShown s.plan bytes old new) → IfOk r (IsBesidePlanned bytes z found old new)
  beside_loaded z found named s loads shown =
      IfOk-weaker r (IsBesideShown s.plan bytes old new) (IsBesidePlanned bytes z found old new)
      (λ (e : Ending) (was : IsBesideShown s.plan bytes old new e). inl (named, s, loads, was)) shown

  -- the load was refused
  pub beside_unloaded : (z : ℤ) (found : Option Contents) (none : NoDesk) → IsWhyNoDesk (IsLoadRefusal z found) none → IfOk r (IsNoneShown none old new) → IfOk r (IsBesidePlanned bytes z found old new)
  beside_unloaded z found none why shown =
      IfOk-weaker r (λ e. (q : Refusal) × IsLoadRefusal z found q × IsShown (refused q) old new e) (IsBesidePlanned bytes z found old new)
      (λ (e : Ending) (was : (q : Refusal) × IsLoadRefusal z found q × IsShown (refused q) old new e). inr was) (none_shown (IsLoadRefusal z found) none r old new why shown)

  -- whatever draft it was
  pub beside_some_draft : (z : ℤ) (found : Option Contents) → IfOk r (IsBesidePlanned bytes z found old new) → IfOk r (IsBesideText bytes z old new)
  beside_some_draft z found shown =
      IfOk-weaker r (IsBesidePlanned bytes z found old new) (IsBesideText bytes z old new)
      (λ (e : Ending) (was : IsBesidePlanned bytes z found old new e). (found, was)) shown

  -- beside the plan of a desk that was there
  pub beside_opened : (P : Plan) → IfOk r (IsBesideShown P bytes old new) → IfOk r (IsBesideDesk bytes old new)
  beside_opened P shown =
      IfOk-weaker r (IsBesideShown P bytes old new) (IsBesideDesk bytes old new)
      (λ (e : Ending) (was : IsBesideShown P bytes old new e). inl (P, was)) shown

  -- no desk could be opened
  pub beside_unopened : (none : NoDesk) → IsWhyNoDesk IsOpeningRefusal none → IfOk r (IsNoneShown none old new) → IfOk r (IsBesideDesk bytes old new)
  beside_unopened none why shown =
      IfOk-weaker r (λ e. (q : Refusal) × IsOpeningRefusal q × IsShown (refused q) old new e) (IsBesideDesk bytes old new)
      (λ (e : Ending) (was : (q : Refusal) × IsOpeningRefusal q × IsShown (refused q) old new e). inr was) (none_shown IsOpeningRefusal none r old new why shown)

-- of the text that was read
pub beside_read : (Q : List ℕ → Ending → Type 0) (bytes : List ℕ) (r : Result Ending Fault) → IfOk r (Q bytes) → IfOk r (λ e. (text : List ℕ) × Q text e)
beside_read Q bytes r shown = IfOk-weaker r (Q bytes) (λ e. (text : List ℕ) × Q text e) (λ (e : Ending) (was : Q bytes e). (bytes, was)) shown

-- beside a plan's text at the moment that the words give
pub beside_given : (at : Option (List ℕ)) (z : ℤ) → IsMinuteText (text_or_empty at) z → (plan : List ℕ) (old new : Option (List ℕ)) (r : Result Ending Fault)
    → IfOk r (IsSomeBesideText z old new) → IfOk r (IsExtensionJudged None (Some plan) at old new)
beside_given at z is plan old new r shown =
    IfOk-weaker r (IsSomeBesideText z old new) (IsExtensionJudged None (Some plan) at old new)
    (λ (e : Ending) (was : IsSomeBesideText z old new e). (z, is, was)) shown
