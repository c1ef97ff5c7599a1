use Rattle.std.proofs.Common.{◌∙◌}
use Rattle.std.proofs.lemmas.List.{length-map}
use Rattle.csv.specs.Reading.{strip_bom}
use Rattle.csv.specs.declared.parser.State.TheVariants as st
use Rattle.plan_import.specs.TextRecords.{texts_of}
use Rattle.plan_import.proofs.DenotingLaws.{denotes_plans, denotes_additions, denotes_extensions}
use Rattle.plan_import.proofs.LineLaws.{as_many}
use Rattle.plan_import.proofs.lines.records_of_text.Goals as goal

pub returns-clause-each : goal.returns-clause-each
returns-clause-each c =
    as_many st.StartRecord (strip_bom c.args.text.now) 1 c.in_ok-lines.lines.items (texts_of c.in_ok-records.records.items) c.in_ok-lines.ensures c.in_ok-records.ensures ∙ length-map c.in_ok-records.records.items _

pub returns-clause-plans : goal.returns-clause-plans
returns-clause-plans c = denotes_plans c.args.text.now (texts_of c.in_ok-records.records.items) c.in_ok-records.ensures

pub returns-clause-additions : goal.returns-clause-additions
returns-clause-additions c = denotes_additions c.args.text.now (texts_of c.in_ok-records.records.items) c.in_ok-records.ensures

pub returns-clause-extensions : goal.returns-clause-extensions
returns-clause-extensions c = denotes_extensions c.args.text.now (texts_of c.in_ok-records.records.items) c.in_ok-records.ensures
