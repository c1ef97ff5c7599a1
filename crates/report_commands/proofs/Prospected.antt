-- What is shown of the night ahead.
use Rattle.std.proofs.Common.{◌≡◌, inl, inr, ℕ, ℤ, List, Option, None, Result, IfOk}
use Rattle.std.proofs.lemmas.Result.{IfOk-weaker}
use Rattle.plan_basics.specs.declared.Refusal.{Refusal}
use Rattle.plan_basics.specs.declared.keys.OpKey.{OpKey}
use Rattle.plan_records.specs.plan_model.specs.Contents.{Contents}
use Rattle.plan_records.specs.plan_model.specs.Plan.{Plan}
use Rattle.plan_records.specs.Answer.{accepted, refused}
use Rattle.plan_records.specs.Run.{State}
use Rattle.board_pages.specs.forecast_texts.specs.plan_outlooks.specs.forecasting.specs.Known.{entry_of, since_in, since_noted}
use Rattle.board_pages.specs.forecast_texts.specs.plan_outlooks.specs.forecasting.specs.declared.known.KnownStarts.{KnownStarts}
use Rattle.board_pages.specs.forecast_texts.specs.plan_outlooks.specs.plan_forecast.specs.Ahead.{unknown}
use Rattle.command_answers.specs.Answers.{IsShown}
use Rattle.command_answers.specs.Opened.{IsWhyNoDesk, IsNoneShown}
use Rattle.command_answers.specs.declared.endings.Ending.{Ending}
use Rattle.command_answers.specs.declared.endings.Fault.{Fault}
use Rattle.command_answers.specs.declared.endings.NoDesk.{NoDesk}
use Rattle.command_answers.proofs.Opened.{none_shown}
use Rattle.report_commands.specs.Prospects.{IsProspectOfDesk, IsProspectOfText, IsProspectPlanned, IsProspectShown}
use Rattle.command_desks.specs.Loaded.{IsLoadRefusal, IsLoaded}
use Rattle.command_desks.specs.Given.{minute_asked}
use Rattle.report_commands.specs.declared.prospects.Prospect.{Prospect}

-- where nothing is kept nothing is known
pub none_known : (known : KnownStarts) → ((o : OpKey) → entry_of known o ≡ None) → since_in known ≡ unknown
none_known known none = λ i o. since_noted (none o i)

module _ (k : Prospect) (old new : Option (List ℕ)) (r : Result Ending Fault) (until : Option ℤ) where
  -- of a plan that was loaded
  pub of_loaded : (z : ℤ) (found : Option Contents) (named : List OpKey) (s : State) → IsLoaded z found (accepted named) s
      → IfOk r (IsProspectShown k s.plan z until old new) → IfOk r (IsProspectPlanned k z until found old new)
  of_loaded z found named s loads shown =
      IfOk-weaker r (IsProspectShown k s.plan z until old new) (IsProspectPlanned k z until found old new)
      (λ (e : Ending) (was : IsProspectShown k s.plan z until old new e). inl (named, s, loads, was)) shown

  -- the load was refused
  pub of_unloaded : (z : ℤ) (found : Option Contents) (none : NoDesk) → IsWhyNoDesk (IsLoadRefusal z found) none → IfOk r (IsNoneShown none old new)
      → IfOk r (IsProspectPlanned k z until found old new)
  of_unloaded z found none why shown =
      IfOk-weaker r (λ e. (q : Refusal) × IsLoadRefusal z found q × IsShown (refused q) old new e) (IsProspectPlanned k z until found old new)
      (λ (e : Ending) (was : (q : Refusal) × IsLoadRefusal z found q × IsShown (refused q) old new e). inr was) (none_shown (IsLoadRefusal z found) none r old new why shown)

  -- of some draft
  pub of_text : (z : ℤ) (found : Option Contents) → IfOk r (IsProspectPlanned k z until found old new) → IfOk r (IsProspectOfText k z until old new)
  of_text z found shown =
      IfOk-weaker r (IsProspectPlanned k z until found old new) (IsProspectOfText k z until old new)
      (λ (e : Ending) (was : IsProspectPlanned k z until found old new e). (found, was)) shown

  -- of the plan of a desk that was there
  pub of_desk : (z : Option ℤ) (P : Plan) → IfOk r (IsProspectShown k P (minute_asked z P) until old new) → IfOk r (IsProspectOfDesk k z until old new)
  of_desk z P shown =
      IfOk-weaker r (IsProspectShown k P (minute_asked z P) until old new) (IsProspectOfDesk k z until old new)
      (λ (e : Ending) (was : IsProspectShown k P (minute_asked z P) until old new e). inl (P, was)) shown
