use Rattle.std.proofs.Common.{sym, ◌∙◌, true≢false}
use Rattle.forecasting.proofs.Listing.{other_attribute}
use Rattle.forecasting.proofs.starting.entry_begins.Goals as goal

pub returns-then-not-is_same : goal.returns-then-not-is_same
returns-then-not-is_same c = (
  λ e. absurd (true≢false (sym e)),
  λ may. absurd (other_attribute c.args.loaded.now c.args.entry.now c.requires c.args.attribute (λ same. true≢false (sym (c.is_same.ensures.1 same) ∙ c.if-not-is_same.true)) c.args.at may),
)
