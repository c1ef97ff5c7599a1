use Rattle.worked_examples.proofs.DayDenoted.{day_is_denoted}
use Rattle.worked_examples.proofs.text_of_the_day.Goals as goal

pub returns : goal.returns
returns c = day_is_denoted
