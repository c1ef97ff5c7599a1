use Rattle.std.proofs.Common.{◌≡◌, ◌++◌, ◌∙◌, ap, codes, decimal}
use Rattle.std.proofs.lemmas.Result.{IfOk-weaker}
use Rattle.text_faults.specs.TextFaults.{line_at}
use Rattle.text_faults.proofs.warnings.warning_text.Goals as goal

pub returns : goal.returns
returns c =
    let wrong = c.warned_of-wrong.result.now in
    let line : c.line_of-line.result ≡ line_at c.args.told.now.lines.items c.args.warning.now.place = cc (c.line_of-line.ensures, c.deref.ensures.value) in
    IfOk-weaker c.warned_text.result _ _ (λ text is. (wrong, is ∙ ap (λ n. codes "warning: line " ++ decimal n ++ codes ": " ++ wrong) line)) c.warned_text.ensures
