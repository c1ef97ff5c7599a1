use Rattle.std.proofs.Common.{sym, subst}
use Rattle.plan_items.specs.Parts.{IsReading, IsAmountText}
use Rattle.plan_items.proofs.parts.read_amount.Goals as goal

pub returns-in-Shared : goal.returns-in-Shared
returns-in-Shared c = subst (λ mode. IsReading (λ amount. IsAmountText mode c.args.text.now amount) c.read_shared_amount.result) (sym c.in-Shared.is) c.read_shared_amount.ensures
