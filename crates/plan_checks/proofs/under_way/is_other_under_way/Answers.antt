use Rattle.std.proofs.Common.{◌≡◌, sym, ◌∙◌, rules}
use Rattle.derived_figures.specs.plan_laws.proofs.Classes.{under_way_by, under_way_told}
use Rattle.derived_figures.specs.Reports.{IsOfStatus}
use Rattle.plan_checks.proofs.Searching.{found_in}
use Rattle.plan_checks.proofs.under_way.is_other_under_way.Goals as goal

pub returns-then-ne : goal.returns-then-ne
returns-then-ne c =
    let P = c.args.outline.now in
    let other = c.args.other.now in
    let apart : other ≡ c.args.key.now → ⊥ = search rules in
    let told = found_in c.status_of.result (IsOfStatus P other) c.unwrap.result c.unwrap.ensures c.status_of.ensures.found in (
      λ yes. (apart, under_way_by P other c.unwrap.result told.status (sym c.is_under_way.ensures ∙ yes)),
      λ h. c.is_under_way.ensures ∙ under_way_told P other c.unwrap.result told.alone h.1,
    )
