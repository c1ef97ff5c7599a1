use Rattle.std.proofs.Common.{◌≡◌, ◌∙◌, sym, ap, arith, get_or, Some, None}
use Rattle.plan_drafts.specs.declared.RowKey.TheVariants as key
use Rattle.record_faults.specs.Faults.{need_said, resource_said}
use Rattle.record_faults.proofs.Beyond.{beyond, first_by, first_within, no_need, no_resource, nowhere_by, read_at, says_none, within_stock}
use Rattle.record_faults.proofs.stocks.beyond_stock.Goals as goal
use Rattle.record_faults.proofs.stocks.beyond_stock.Goals.{In_ok-wanted}

-- the need that is said
wanted : (c : In_ok-wanted) → need_said (get_or c.args.said.now c.args.place None) ≡ Some c.in_ok-wanted.wanted
wanted c = ap need_said (read_at c.args.said.now c.args.place c.index-said-place.result c.requires.place ∙ sym c.index-said-place.is) ∙ sym c.in_ok-wanted.ensures

pub returns-in_err-wanted : goal.returns-in_err-wanted
returns-in_err-wanted c = rw c.from_residual.ensures (no_need c.args.said.now c.args.place (ap need_said (read_at c.args.said.now c.args.place c.index-said-place.result c.requires.place ∙ sym c.index-said-place.is) ∙ sym c.in_err-wanted.ensures))

pub returns-in_err-first : goal.returns-in_err-first
returns-in_err-first c =
    let at = (goal.at.returns-in_err-first c).In_ok-wanted in
    let y = c.in_ok-wanted.wanted in
    rw c.from_residual-in_err-first.ensures (no_resource c.args.said.now c.args.place y (wanted at) (nowhere_by c.args.said.now c.args.index.now c.requires.index (key.Resource y.1.name) (sym c.in_err-first.ensures)))

pub bounds-said-first : goal.bounds-said-first
bounds-said-first c = first_within c.args.said.now c.args.index.now c.requires.index (key.Resource c.in_ok-wanted.wanted.1.name) c.in_ok-first.first (sym c.in_ok-first.ensures)

pub returns-in_err-resource : goal.returns-in_err-resource
returns-in_err-resource c =
    let at = (goal.at.returns-in_err-resource c).In_ok-wanted in
    let said = c.args.said.now in
    let y = c.in_ok-wanted.wanted in
    let first = c.in_ok-first.first in
    let is = first_by said c.args.index.now c.requires.index (key.Resource y.1.name) first (sym c.in_ok-first.ensures) in
    let lt = first_within said c.args.index.now c.requires.index (key.Resource y.1.name) first (sym c.in_ok-first.ensures) in
    rw c.from_residual-in_err-resource.ensures (says_none said c.args.place y (wanted at) first is (ap resource_said (read_at said first c.index-said-first.result lt ∙ sym c.index-said-first.is) ∙ sym c.in_err-resource.ensures))

pub returns-then-need-resource : goal.returns-then-need-resource
returns-then-need-resource c =
    let at = (goal.at.returns-then-need-resource c).In_ok-wanted in
    let said = c.args.said.now in
    let y = c.in_ok-wanted.wanted in
    let first = c.in_ok-first.first in
    let is = first_by said c.args.index.now c.requires.index (key.Resource y.1.name) first (sym c.in_ok-first.ensures) in
    let lt = first_within said c.args.index.now c.requires.index (key.Resource y.1.name) first (sym c.in_ok-first.ensures) in
    within_stock said c.args.place y (wanted at) first is c.in_ok-resource.resource (ap resource_said (read_at said first c.index-said-first.result lt ∙ sym c.index-said-first.is) ∙ sym c.in_ok-resource.ensures) c.if-need-resource.true

pub returns : goal.returns
returns c =
    let at = (goal.at.returns c).In_ok-wanted in
    let said = c.args.said.now in
    let y = c.in_ok-wanted.wanted in
    let first = c.in_ok-first.first in
    let is = first_by said c.args.index.now c.requires.index (key.Resource y.1.name) first (sym c.in_ok-first.ensures) in
    let lt = first_within said c.args.index.now c.requires.index (key.Resource y.1.name) first (sym c.in_ok-first.ensures) in
    beyond said c.args.place y (wanted at) first is c.in_ok-resource.resource (ap resource_said (read_at said first c.index-said-first.result lt ∙ sym c.index-said-first.is) ∙ sym c.in_ok-resource.ensures) (omega (arith, c.if-need-resource.false))
