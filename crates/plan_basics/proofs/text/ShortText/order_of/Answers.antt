use Rattle.std.proofs.Common.{◌∙◌, ap₂, sym}
use Rattle.std.specs.Ordering.{ordering_then}
use Rattle.plan_basics.proofs.CellOrders.{cells_cmp, filled_order}
use Rattle.plan_basics.proofs.text.ShortText.order_of.Goals as goal

pub returns : goal.returns
returns g c =
    c.then.ensures ∙ ap₂ ordering_then c.cells_order.ensures c.cmp.ensures
    ∙ sym (filled_order _ c.self.inside.len c.other.inside.len c.self.inside.bytes c.other.inside.bytes c.self.invariant c.other.invariant)
    ∙ ap₂ cells_cmp c.self.view_is c.other.view_is
