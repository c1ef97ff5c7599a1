use Rattle.std.proofs.Common.{◌∙◌, sym, ap, ◌&&◌}
use Rattle.counted_records.proofs.leaving.joins_these.Goals as goal
use Rattle.counted_records.specs.Leaving.{is_one_of}

pub returns-then-is_one_of : goal.returns-then-is_one_of
returns-then-is_one_of c =
    c.is_one_of-then-is_one_of.ensures ∙ ap (λ b. b && is_one_of c.args.occurrences.now c.args.pair.now.1.occurrence) (sym c.if-is_one_of.true ∙ c.is_one_of.ensures)

pub returns-else-is_one_of : goal.returns-else-is_one_of
returns-else-is_one_of c =
    c.if-is_one_of.false ∙ ap (λ b. b && is_one_of c.args.occurrences.now c.args.pair.now.1.occurrence) (sym c.if-is_one_of.false ∙ c.is_one_of.ensures)
