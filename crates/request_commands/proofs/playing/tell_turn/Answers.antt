use Rattle.request_commands.proofs.playing.tell_turn.Goals as goal

pub returns-clause-shown : goal.returns-clause-shown
returns-clause-shown g c = (c.in_ok-tell.ensures.shown.0, c.is_refusal.ensures)
