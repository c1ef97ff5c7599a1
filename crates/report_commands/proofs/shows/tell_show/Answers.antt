use Rattle.std.proofs.Common.{◌≡◌, Err, refl}
use Rattle.std.proofs.lemmas.Result.{IfOk-weaker}
use Rattle.plan_basics.specs.Watched.{inner_of}
use Rattle.plan_basics.specs.declared.Refusal.{Refusal}
use Rattle.plan_reports.specs.Reports.{IsOwed, desk_show_refusal_of}
use Rattle.plan_reports.specs.declared.reports.ReportFault.TheVariants as fault
use Rattle.plan_reports.specs.plan_shows.specs.Shows.{IsShow}
use Rattle.report_commands.specs.Shown.{IsEndOf, IsShowShown}
use Rattle.report_commands.proofs.Ended.{told}
use Rattle.report_commands.proofs.shows.tell_show.Goals as goal

pub returns-clause-shown : goal.returns-clause-shown
returns-clause-shown g c =
    let desk = c.args.desk.now in
    let owed = desk_show_refusal_of desk.is_usable c.args.show.now desk.plan in
    let old = g.W.Write.contents (inner_of c.args.out.now) in
    let between = g.W.Write.contents (inner_of c.show_report-written.new.writer) in
    let new = g.W.Write.contents (inner_of c.end_of.new.out) in
    let refused : (r : Refusal) → c.show_report-written.result ≡ Err (fault.Refused r) → IsOwed owed r × (between ≡ old) =
    λ r is. let found = c.show_report-written.ensures.refused r is in (found.0, rw found.1 refl) in
    IfOk-weaker c.end_of.result (IsEndOf c.show_report-written.result between new) (IsShowShown c.args.show.now desk.is_usable desk.plan desk.receipts old new)
    (told owed (IsShow c.args.show.now desk.plan desk.receipts) old between new c.show_report-written.result c.show_report-written.ensures.written refused)
    c.end_of.ensures.shown
