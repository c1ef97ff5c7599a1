use Rattle.forecast_texts.proofs.Pieces.{front_of}
use Rattle.forecast_texts.proofs.rows.without_end.Goals as goal

pub returns : goal.returns
returns c = λ front is. front_of front c.args.line.now is
