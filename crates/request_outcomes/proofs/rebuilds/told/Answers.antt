use Rattle.request_outcomes.proofs.rebuilds.told.Goals as goal

pub changes_from-requires-clause-source : goal.changes_from-requires-clause-source
changes_from-requires-clause-source c =
    c.columns_of.ensures c.args.records.now.contents c.uncounted.ensures.sound (record { graph = c.requires.kept.graph; latest = c.requires.kept.latest; figures = c.requires.kept.figures })

pub returns-clause-told : goal.returns-clause-told
returns-clause-told c P was = c.in_ok-changes.ensures.changes P was
