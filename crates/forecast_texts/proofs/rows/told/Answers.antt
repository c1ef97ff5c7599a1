use Rattle.std.proofs.Common.{◌∙◌, ap, ◌++◌}
use Rattle.plan_outlooks.specs.plan_reasons.specs.Texts.{reason_line, reason_pieces}
use Rattle.forecast_texts.proofs.Pieces.{pieces_line}
use Rattle.forecast_texts.proofs.rows.told.Goals as goal

pub returns : goal.returns
returns c = c.in_ok-put_reason.ensures ∙ ap (λ xs. xs ++ reason_line c.args.reason.now) c.new-text.ensures.items ∙ pieces_line (reason_pieces c.args.reason.now)
