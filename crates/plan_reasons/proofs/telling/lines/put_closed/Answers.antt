use Rattle.plan_reasons.proofs.telling.lines.put_closed.Goals as goal

pub returns : goal.returns
returns c = rw (c.as_bytes.ensures.text, c.moment_text.ensures) at c.put_line.ensures
