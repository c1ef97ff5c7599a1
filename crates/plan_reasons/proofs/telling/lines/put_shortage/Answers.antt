use Rattle.std.proofs.Common.{◌∙◌}
use Rattle.plan_reasons.proofs.telling.lines.put_shortage.Goals as goal

pub returns : goal.returns
returns c =
    let given = c.as_bytes-2.ensures.value ∙ c.in_ok-given.ensures in
    let offered = c.as_bytes-3.ensures.value ∙ c.in_ok-offered.ensures in
    let needed = c.as_bytes-4.ensures.value ∙ c.in_ok-needed.ensures in
    rw (c.as_bytes.ensures.text, c.supply_word.ensures, given, offered, needed) at c.put_line.ensures
