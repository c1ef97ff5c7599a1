use Rattle.report_commands.proofs.reports.write_report.Goals as goal

pub returns-in-Ready-clause-refused : goal.returns-in-Ready-clause-refused
returns-in-Ready-clause-refused g c = rw c.in-Ready.is c.ready_report.ensures.refused

pub returns-in-Occurrences-clause-refused : goal.returns-in-Occurrences-clause-refused
returns-in-Occurrences-clause-refused g c = rw c.in-Occurrences.is c.occurrence_report.ensures.refused

pub returns-in-Errors-clause-refused : goal.returns-in-Errors-clause-refused
returns-in-Errors-clause-refused g c = rw c.in-Errors.is c.error_report.ensures.refused

pub returns-in-Late-clause-refused : goal.returns-in-Late-clause-refused
returns-in-Late-clause-refused g c = rw c.in-Late.is c.late_report.ensures.refused
