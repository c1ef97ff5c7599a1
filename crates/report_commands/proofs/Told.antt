-- What is shown of a report and of a show that were asked for.
use Rattle.std.proofs.Common.{inl, inr, ℕ, Bool, List, Option, Result, IfOk}
use Rattle.std.proofs.lemmas.Result.{IfOk-weaker}
use Rattle.plan_basics.specs.declared.Refusal.{Refusal}
use Rattle.plan_records.specs.plan_model.specs.Plan.{Plan}
use Rattle.plan_records.specs.Answer.{refused}
use Rattle.plan_records.specs.Step.{Receipts}
use Rattle.command_desks.specs.desk_tables.specs.Faults.{IsOpeningRefusal}
use Rattle.plan_reports.specs.plan_shows.specs.declared.shows.Show.{Show}
use Rattle.command_answers.specs.Answers.{IsShown}
use Rattle.command_answers.specs.Given.{AsksReport}
use Rattle.command_answers.specs.Opened.{IsWhyNoDesk, IsNoneShown}
use Rattle.command_answers.specs.declared.endings.Ending.{Ending}
use Rattle.command_answers.specs.declared.endings.Fault.{Fault}
use Rattle.command_answers.specs.declared.endings.NoDesk.{NoDesk}
use Rattle.command_answers.specs.declared.given.Kind.{Kind}
use Rattle.command_answers.proofs.Opened.{none_shown}
use Rattle.report_commands.specs.Shown.{AsksShow, IsReportAsked, IsReportShown, IsShowAsked, IsShowShown}

module _ (r : Result Ending Fault) (old new : Option (List ℕ)) where
  -- the report that words ask for, of a desk
  pub report_shown : (word : List ℕ) (ws : Option (List ℕ)) (k : Kind) (usable : Bool) (P : Plan)
      → AsksReport word ws k → IfOk r (IsReportShown k usable P old new) → IfOk r (IsReportAsked word ws old new)
  report_shown word ws k usable P asks shown =
      IfOk-weaker r (IsReportShown k usable P old new) (IsReportAsked word ws old new)
      (λ (e : Ending) (is : IsReportShown k usable P old new e). (k, asks, inl (usable, P, is))) shown

  -- why no desk could be opened for it
  pub report_refused : (word : List ℕ) (ws : Option (List ℕ)) (k : Kind) (none : NoDesk)
      → AsksReport word ws k → IsWhyNoDesk IsOpeningRefusal none → IfOk r (IsNoneShown none old new) → IfOk r (IsReportAsked word ws old new)
  report_refused word ws k none asks why shown =
      IfOk-weaker r (λ e. (p : Refusal) × IsOpeningRefusal p × IsShown (refused p) old new e) (IsReportAsked word ws old new)
      (λ (e : Ending) (was : (p : Refusal) × IsOpeningRefusal p × IsShown (refused p) old new e). (k, asks, inr was))
      (none_shown IsOpeningRefusal none r old new why shown)

  -- the show that words ask for, of a desk
  pub show_shown : (word : List ℕ) (given : List ℕ → List ℕ) (s : Show) (usable : Bool) (P : Plan) (T : Receipts)
      → AsksShow word given s → IfOk r (IsShowShown s usable P T old new) → IfOk r (IsShowAsked word given old new)
  show_shown word given s usable P T asks shown =
      IfOk-weaker r (IsShowShown s usable P T old new) (IsShowAsked word given old new)
      (λ (e : Ending) (is : IsShowShown s usable P T old new e). (s, asks, inl (usable, P, T, is))) shown

  -- why no desk could be opened for it
  pub show_refused : (word : List ℕ) (given : List ℕ → List ℕ) (s : Show) (none : NoDesk)
      → AsksShow word given s → IsWhyNoDesk IsOpeningRefusal none → IfOk r (IsNoneShown none old new) → IfOk r (IsShowAsked word given old new)
  show_refused word given s none asks why shown =
      IfOk-weaker r (λ e. (p : Refusal) × IsOpeningRefusal p × IsShown (refused p) old new e) (IsShowAsked word given old new)
      (λ (e : Ending) (was : (p : Refusal) × IsOpeningRefusal p × IsShown (refused p) old new e). (s, asks, inr was))
      (none_shown IsOpeningRefusal none r old new why shown)
