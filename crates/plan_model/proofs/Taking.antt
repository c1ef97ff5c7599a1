-- What operations take by their workstation's attribute.
use Rattle.std.proofs.Common.{◌≡◌, refl, Some}
use Rattle.plan_basics.specs.Attributes.{knows_starts}
use Rattle.plan_basics.specs.declared.Attr.{Attr}
use Rattle.plan_basics.specs.declared.Attr.TheVariants as attribute
use Rattle.plan_model.specs.Holdings.{takes}

-- they take something exactly where starts are known
pub takes_where_known : (a : Attr) → knows_starts a ≡ takes (Some a)
takes_where_known attribute.Automatic = refl
takes_where_known attribute.StartAndCompletion = refl
takes_where_known attribute.CompletionOnly = refl
takes_where_known attribute.Nonreporting = refl
