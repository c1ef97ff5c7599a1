-- What there is of a special resource among rows by name, and needs of no more than that.
use Rattle.std.proofs.Common.{◌≡◌, ◌≤◌, sym, subst, ◌∙◌, List, Contains, Some, None}
use Rattle.std.specs.FinMap.{get, from_entries}
use Rattle.std.specs.List.Sorted.{IsStrictlySortedBy}
use Rattle.std.specs.Map.{keys_of}
use Rattle.std.proofs.lemmas.Option.{same_Some, none-some}
use Rattle.plan_basics.specs.declared.keys.OpKey.{OpKey}
use Rattle.plan_basics.specs.Keys.{Name, name_cmp, name_cmp_total, name_cmp-IsAntisymmetric}
use Rattle.plan_items.specs.special_resources.specs.declared.Need.{Need}
use Rattle.plan_model.specs.declared.Stock.{Stock}
use Rattle.plan_drafts.specs.PlanItems.{IsWithinStock}
use Rattle.plan_drafts.proofs.Tables.{rows_apart, get_row, row_found}

module _ (resources : List (Name × Stock)) (up : IsStrictlySortedBy name_cmp (keys_of resources)) (said : OpKey × Need) where
  listed : (stock : Stock) → Contains resources (said.1.name, stock) → get {R = name_cmp} (from_entries resources) said.1.name ≡ Some stock
  listed stock has = get_row name_cmp_total name_cmp-IsAntisymmetric resources said.1.name stock (rows_apart name_cmp_total name_cmp-IsAntisymmetric resources up) has

  module _ (stock : Stock) (is : get {R = name_cmp} (from_entries resources) said.1.name ≡ Some stock) where
    -- it is within what there is where it is within what is found
    pub fits_stock : said.1.amount ≤ stock.quantity → IsWithinStock resources said
    fits_stock few = record { within = λ other has. subst (λ (s : Stock). said.1.amount ≤ s.quantity) (same_Some stock other (sym is ∙ listed other has)) few }

    pub stock_fits : IsWithinStock resources said → said.1.amount ≤ stock.quantity
    stock_fits is_within = is_within.within stock (row_found name_cmp_total name_cmp-IsAntisymmetric resources said.1.name stock is)

  -- where nothing is found, it is within what there is
  pub no_stock : get {R = name_cmp} (from_entries resources) said.1.name ≡ None → IsWithinStock resources said
  no_stock none = record { within = λ stock has. absurd (none-some stock (sym none ∙ listed stock has)) }
