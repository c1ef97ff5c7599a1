-- What is shown of why an operation doesn't go on.
use Rattle.std.proofs.Common.{◌≡◌, inl, inr, subst, ℕ, ℤ, pos, Bool, true, List, Option, Some, Result, Err, IfOk, OnOk}
use Rattle.std.proofs.lemmas.Result.{IfOk-weaker}
use Rattle.plan_basics.specs.declared.Refusal.{Refusal}
use Rattle.plan_basics.specs.declared.keys.OpKey.{OpKey}
use Rattle.plan_records.specs.plan_model.specs.Contents.{Contents}
use Rattle.plan_records.specs.plan_model.specs.Plan.{Plan}
use Rattle.plan_records.specs.Answer.{accepted, refused}
use Rattle.plan_records.specs.Run.{State}
use Rattle.command_desks.specs.desk_tables.specs.Faults.{IsOpeningRefusal}
use Rattle.plan_reports.specs.Reports.{IsOwed, IsWhyReport, IsWritten, why_refusal_of}
use Rattle.plan_reports.specs.plan_shows.specs.Typed.{IsTypedOperation}
use Rattle.plan_reports.specs.declared.reports.ReportFault.{ReportFault}
use Rattle.plan_reports.specs.declared.reports.ReportFault.TheVariants as report_fault
use Rattle.command_answers.specs.Answers.{IsShown}
use Rattle.command_answers.specs.Opened.{IsWhyNoDesk, IsNoneShown}
use Rattle.report_commands.specs.Shown.{IsEndOf}
use Rattle.command_desks.specs.Loaded.{IsLoadRefusal, IsLoaded}
use Rattle.report_commands.specs.Whys.{IsWhyAsked, IsWhyOfDesk, IsWhyOfText, IsWhyPlanned, IsWhyShown}
use Rattle.command_desks.specs.Given.{minute_asked}
use Rattle.command_answers.specs.Given.{IsMinuteGiven}
use Rattle.command_answers.specs.declared.endings.Ending.{Ending}
use Rattle.command_answers.specs.declared.endings.Fault.{Fault}
use Rattle.command_answers.specs.declared.endings.NoDesk.{NoDesk}
use Rattle.report_commands.proofs.Ended.{told}
use Rattle.command_answers.proofs.Opened.{none_shown}

module _ (o : OpKey) (old new : Option (List ℕ)) (r : Result Ending Fault) where
  -- at a desk, behind the report
  pub why_ends : (z : ℤ) (usable : Bool) (P : Plan) (m : ℕ) → z ≡ pos m → (between : Option (List ℕ)) (w : Result (Unit {0}) ReportFault)
      → OnOk w (IsWritten (why_refusal_of usable P o) (IsWhyReport P o m) old between)
      → ((q : Refusal) → w ≡ Err (report_fault.Refused q) → IsOwed (why_refusal_of usable P o) q × (between ≡ old))
      → IfOk r (IsEndOf w between new) → IfOk r (IsWhyShown o z usable P old new)
  why_ends z usable P m is between w written owes ends =
      IfOk-weaker r (IsEndOf w between new) (IsWhyShown o z usable P old new)
      (λ (e : Ending) (ended : IsEndOf w between new e). inl (m, is, told (why_refusal_of usable P o) (IsWhyReport P o m) old between new w written owes e ended)) ends

  -- at a desk at which a plan was loaded
  pub why_planned : (z : ℤ) (found : Option Contents) (named : List OpKey) (s : State) → IsLoaded z found (accepted named) s
      → (usable : Bool) → usable ≡ true → IfOk r (IsWhyShown o z usable s.plan old new) → IfOk r (IsWhyPlanned o z found old new)
  why_planned z found named s loads usable is shown =
      IfOk-weaker r (IsWhyShown o z usable s.plan old new) (IsWhyPlanned o z found old new)
      (λ (e : Ending) (was : IsWhyShown o z usable s.plan old new e). inl (named, s, loads, subst (λ (u : Bool). IsWhyShown o z u s.plan old new e) is was)) shown

  -- the load was refused
  pub why_unplanned : (z : ℤ) (found : Option Contents) (none : NoDesk) → IsWhyNoDesk (IsLoadRefusal z found) none → IfOk r (IsNoneShown none old new) → IfOk r (IsWhyPlanned o z found old new)
  why_unplanned z found none why shown =
      IfOk-weaker r (λ e. (q : Refusal) × IsLoadRefusal z found q × IsShown (refused q) old new e) (IsWhyPlanned o z found old new)
      (λ (e : Ending) (was : (q : Refusal) × IsLoadRefusal z found q × IsShown (refused q) old new e). inr was) (none_shown (IsLoadRefusal z found) none r old new why shown)

  -- no desk could be opened
  pub why_unopened : (z : Option ℤ) (none : NoDesk) → IsWhyNoDesk IsOpeningRefusal none → IfOk r (IsNoneShown none old new) → IfOk r (IsWhyOfDesk o z old new)
  why_unopened z none why shown =
      IfOk-weaker r (λ e. (q : Refusal) × IsOpeningRefusal q × IsShown (refused q) old new e) (IsWhyOfDesk o z old new)
      (λ (e : Ending) (was : (q : Refusal) × IsOpeningRefusal q × IsShown (refused q) old new e). inr was) (none_shown IsOpeningRefusal none r old new why shown)

  -- at a desk that was there
  pub why_of_desk : (z : Option ℤ) (usable : Bool) (P : Plan) → IfOk r (IsWhyShown o (minute_asked z P) usable P old new) → IfOk r (IsWhyOfDesk o z old new)
  why_of_desk z usable P shown =
      IfOk-weaker r (IsWhyShown o (minute_asked z P) usable P old new) (IsWhyOfDesk o z old new)
      (λ (e : Ending) (was : IsWhyShown o (minute_asked z P) usable P old new e). inl (usable, P, was)) shown

  module _ (op : List ℕ) (at : Option (List ℕ)) (z : Option ℤ) (names : IsTypedOperation op o) (given : IsMinuteGiven at z) where
    -- as the words ask for, at a desk that was there
    pub why_asked : IfOk r (IsWhyOfDesk o z old new) → IfOk r (IsWhyAsked op at old new)
    why_asked shown = IfOk-weaker r (IsWhyOfDesk o z old new) (IsWhyAsked op at old new) (λ (e : Ending) (was : IsWhyOfDesk o z old new e). (o, names, z, given, inl was)) shown

    -- at one of a plan's text
    pub why_asked_of_plan : (m : ℤ) → z ≡ Some m → IfOk r (IsWhyOfText o m old new) → IfOk r (IsWhyAsked op at old new)
    why_asked_of_plan m is shown =
        IfOk-weaker r (IsWhyOfText o m old new) (IsWhyAsked op at old new)
        (λ (e : Ending) (was : IsWhyOfText o m old new e). (o, names, z, given, inr (m, is, was.0, was.1))) shown
