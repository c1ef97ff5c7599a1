use Rattle.plan_basics.proofs.MomentTexts.{moment_text_is}
use Rattle.report_lines.proofs.moments.moment_text.Goals as goal

pub returns : goal.returns
returns c = moment_text_is _ _ c.to_text.ensures
