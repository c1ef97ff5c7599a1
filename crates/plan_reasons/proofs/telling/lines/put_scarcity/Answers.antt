use Rattle.std.proofs.Common.{◌∙◌}
use Rattle.plan_reasons.proofs.telling.lines.put_scarcity.Goals as goal

pub returns : goal.returns
returns c =
    let left = c.as_bytes-2.ensures.value ∙ c.in_ok-left.ensures in
    let wanted = c.as_bytes-3.ensures.value ∙ c.in_ok-wanted.ensures in
    rw (c.as_bytes.ensures.text, left, wanted) at c.put_line.ensures
