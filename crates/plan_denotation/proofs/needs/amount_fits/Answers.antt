use Rattle.std.proofs.Common.{◌∙◌, sym, arith, rules}
use Rattle.plan_denotation.proofs.Stocks.{fits_stock, no_stock, stock_fits}
use Rattle.plan_denotation.proofs.needs.amount_fits.Goals as goal

pub returns-in-Some : goal.returns-in-Some
returns-in-Some c =
    let is = sym c.stock_of.ensures ∙ c.in-Some.is in
    (λ few. fits_stock c.args.resources.now c.requires c.args.said.now c.in-Some.stock is (search (arith, few, rules)), λ within. search (arith, stock_fits c.args.resources.now c.requires c.args.said.now c.in-Some.stock is within, rules))

pub returns-in-None : goal.returns-in-None
returns-in-None c = (λ t. no_stock c.args.resources.now c.requires c.args.said.now (sym c.stock_of.ensures ∙ c.in-None.is), λ within. cc)
