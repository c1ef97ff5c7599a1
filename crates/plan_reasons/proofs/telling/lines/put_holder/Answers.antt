use Rattle.std.proofs.Common.{◌∙◌}
use Rattle.plan_reasons.proofs.telling.lines.put_holder.Goals as goal

pub returns : goal.returns
returns c =
    let amount = c.as_bytes-2.ensures.value ∙ c.in_ok-amount.ensures in
    rw (c.as_bytes.ensures.text, c.to_text.ensures.text.1, c.letter.ensures, c.mode_word.ensures, amount) at c.put_line.ensures
