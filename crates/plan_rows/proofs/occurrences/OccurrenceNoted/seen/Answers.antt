use Rattle.std.proofs.Common.{◌≡◌, ◌∙◌, ◌<◌, sym, ap, subst, refl, arith, length}
use Rattle.std.specs.FinMap.{entries}
use Rattle.plan_model.specs.Contents.{Contents}
use Rattle.plan_rows.proofs.SourceRows.{occurrence_within}
use Rattle.plan_rows.proofs.occurrences.OccurrenceNoted.seen.Goals as goal
use Rattle.plan_rows.proofs.occurrences.OccurrenceNoted.seen.Goals.{After-occurrences}
use Rattle.plan_rows.specs.Sources.{source_with}

-- the rows that are read are those of what the records hold
read : (c : After-occurrences) → c.occurrences.result.now ≡ entries c.args.records.now.contents.occurrences
read c = c.occurrences.ensures.rows ∙ ap (λ (P : Contents). entries P.occurrences) c.uncounted.ensures.contents

pub row_of-requires-clause-terms : goal.row_of-requires-clause-terms
row_of-requires-clause-terms c =
    let within = occurrence_within (source_with c.args.records.now.contents c.args.columns) c.requires.source c.args.place c.requires.within in
    subst (λ xs. c.args.place < length xs) (sym (read ((goal.at.row_of-requires-clause-terms c).After-occurrences))) within

pub row_of-requires-clause-numbers : goal.row_of-requires-clause-numbers
row_of-requires-clause-numbers c =
    let within = occurrence_within (source_with c.args.records.now.contents c.args.columns) c.requires.source c.args.place c.requires.within in
    let size = c.requires.source.tallies.size in
    omega (arith, within, size)

pub returns-clause-row : goal.returns-clause-row
returns-clause-row c = c.row_of.ensures (source_with c.args.records.now.contents c.args.columns) c.requires.source (read ((goal.at.returns-clause-row c).After-occurrences)) refl
