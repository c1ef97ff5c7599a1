use Rattle.std.proofs.Common.{refl, sym, ◌∙◌, ap, ap₂}
use Rattle.std.specs.Option.{option_or}
use Rattle.std.proofs.lemmas.Option.{same_Some}
use Rattle.plan_outlooks.specs.Forecasts.{minute_or}
use Rattle.plan_outlooks.proofs.lacks.turn_at.Goals as goal

pub returns : goal.returns
returns c = record {
  place = refl;
  key = λ o op at. c.key_at.ensures o op at;
  begins = λ a b at_a at_b.
      c.moment_or.ensures ∙ ap (minute_or c.args.from) (c.first_time-begun.ensures ∙ ap₂ option_or (same_Some _ a (sym c.time_at.ensures ∙ at_a)) (same_Some _ b (sym c.time_at-2.ensures ∙ at_b)));
}
