use Rattle.text_commands.proofs.texts.tell_lines.Goals as goal

pub returns-clause-shown : goal.returns-clause-shown
returns-clause-shown g c = (c.as_bytes.result.now, c.in_ok-write_all.ensures.bytes)
