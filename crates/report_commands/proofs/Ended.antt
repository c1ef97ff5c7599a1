-- How a run ends behind a report.
use Rattle.std.proofs.Common.{◌≡◌, refl, sym, subst, List, ℕ, Option, Result, Ok, Err, OnOk}
use Rattle.std.specs.Io.KnownBytes.{Appends}
use Rattle.plan_basics.specs.declared.Refusal.{Refusal}
use Rattle.plan_reports.specs.Reports.{IsOwed, IsWritten}
use Rattle.plan_reports.specs.declared.reports.ReportFault.{ReportFault}
use Rattle.plan_reports.specs.declared.reports.ReportFault.TheVariants as report_fault
use Rattle.command_answers.specs.Answers.{refusal_line}
use Rattle.report_commands.specs.Shown.{IsEndOf, IsTold}
use Rattle.command_answers.specs.declared.endings.Ending.{Ending}
use Rattle.command_answers.specs.declared.endings.Ending.TheVariants as ending

module _ (owed : Option Refusal) (IsText : List ℕ → Type 0) (old between new : Option (List ℕ)) where
  -- behind a report that was written or refused so
  pub told : (w : Result (Unit {0}) ReportFault) → OnOk w (IsWritten owed IsText old between)
      → ((r : Refusal) → w ≡ Err (report_fault.Refused r) → IsOwed owed r × (between ≡ old))
      → (e : Ending) → IsEndOf w between new e → IsTold owed IsText old new e
  told (Ok x) written refused ending.Done is = subst (λ (n : Option (List ℕ)). IsWritten owed IsText old n) (sym is) written
  told (Ok x) written refused ending.Refused is = absurd is
  told (Ok x) written refused ending.Misunderstood is = absurd is
  told (Err (report_fault.Refused r)) written refused ending.Refused is =
      let owes = refused r refl in (r, owes.0, subst (λ (o : Option (List ℕ)). Appends o new (refusal_line r)) owes.1 is)
  told (Err (report_fault.Refused r)) written refused ending.Done is = absurd is
  told (Err (report_fault.Refused r)) written refused ending.Misunderstood is = absurd is
  told (Err report_fault.Writer) written refused ending.Done is = absurd is
  told (Err report_fault.Writer) written refused ending.Refused is = absurd is
  told (Err report_fault.Writer) written refused ending.Misunderstood is = absurd is
