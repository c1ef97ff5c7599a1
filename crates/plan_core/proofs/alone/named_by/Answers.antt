use Rattle.plan_core.proofs.alone.named_by.Goals as goal

pub chosen_with-records-requires-clause-ready : goal.chosen_with-records-requires-clause-ready
chosen_with-records-requires-clause-ready c = c.requires.figures.ready

pub chosen_with-records-requires-clause-given : goal.chosen_with-records-requires-clause-given
chosen_with-records-requires-clause-given c = c.requires.figures.given

pub chosen_with-records-requires-clause-held : goal.chosen_with-records-requires-clause-held
chosen_with-records-requires-clause-held c = c.requires.figures.holders
