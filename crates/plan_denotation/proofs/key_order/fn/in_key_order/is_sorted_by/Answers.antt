use Rattle.std.proofs.Common.{◌∙◌, refl, ap}
use Rattle.std.specs.Ordering.{is_lt}
use Rattle.std.proofs.lemmas.Fn.{says_at}
use Rattle.plan_denotation.proofs.key_order.fn.in_key_order.is_sorted_by.Goals as goal

pub returns : goal.returns
returns g c = (c.key.result, c.key-2.result, says_at g.F.Fn c.key.ensures refl, says_at g.F.Fn c.key-2.ensures refl, c.is_lt.ensures ∙ ap is_lt c.cmp.ensures)
