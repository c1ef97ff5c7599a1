use Rattle.std.proofs.Common.{FitsSigned, w64, ap, ◌∙◌, to_z-of_z}
use Rattle.report_lines.specs.Moments.{latest_text}
use Rattle.report_lines.proofs.Latest.{latest_shown}
use Rattle.report_lines.proofs.moments.latest_text.Goals as goal

pub returns : goal.returns
returns c =
    let fits : FitsSigned w64 c.args.minute = c.ranges.minute in
    latest_shown _ _ c.minute_text.ensures ∙ ap latest_text (to_z-of_z fits)
