use Rattle.forecasting.proofs.Heard.{heard_going, heard_starts}
use Rattle.forecasting.proofs.known.KnownStarts.told.Goals as goal

pub returns-clause-going : goal.returns-clause-going
returns-clause-going c =
    heard_going c.args.plan.now.plan.contents c.in_ok-known.known c.args.mentions.now c.hear_all.new.self c.in_ok-known.ensures.going c.in_ok-hear_all.ensures

pub returns-clause-told : goal.returns-clause-told
returns-clause-told c =
    heard_starts c.args.plan.now.plan.contents c.in_ok-known.known c.args.mentions.now c.hear_all.new.self c.in_ok-known.ensures.going c.in_ok-hear_all.ensures c.in_ok-known.ensures.unknown
