use Rattle.extension_faults.proofs.looks.read_for_proof.Goals as goal

pub returns : goal.returns
returns c = c.clock.ensures.sound.contents
