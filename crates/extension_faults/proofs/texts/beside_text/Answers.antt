use Rattle.std.proofs.Common.{◌≡◌, ◌++◌, ◌∙◌, ap, codes, decimal}
use Rattle.std.proofs.lemmas.Result.{IfOk-weaker}
use Rattle.text_faults.specs.TextFaults.{line_at}
use Rattle.extension_faults.proofs.texts.beside_text.Goals as goal

pub returns : goal.returns
returns c =
    let wrong = c.wrong_text-wrong.result.now in
    let line : c.line_of-line.result ≡ line_at c.args.told.now.lines.items c.args.fault.now.place = cc (c.line_of-line.ensures, c.deref.ensures.value) in
    IfOk-weaker c.numbered.result _ _ (λ text is. (wrong, is ∙ ap (λ n. codes "line " ++ decimal n ++ codes ": " ++ wrong) line)) c.numbered.ensures
