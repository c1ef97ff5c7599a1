use Rattle.std.proofs.Common.{arith, ◌≡◌, ◌∙◌, sym, ap, Some, slice_get}
use Rattle.std.specs.Cmp.{Equal-is, tied_itself}
use Rattle.std.specs.Ordering.{is_eq}
use Rattle.std.proofs.lemmas.Option.{same_Some, slice_get-get_or}
use Rattle.plan_basics.specs.Keys.{Name, name_cmp, name_cmp_total, name_cmp-IsAntisymmetric}
use Rattle.plan_drafts.proofs.places.is_workstation_at.Goals as goal

here : (c : goal.After-is_eq) → slice_get c.args.rows.now c.args.place ≡ Some c.in-Some.row.now
here c =
    let read = c.in-Some.ensures.lookup in
    slice_get-get_or c.args.rows.now c.args.place c.in-Some.row.now (omega (arith, read.0)) ∙ ap Some (sym read.1)

pub returns-in-Some : goal.returns-in-Some
returns-in-Some c =
    let row = c.in-Some.row.now in
    let name = c.args.name.now in (
      λ yes.
          let same : row.0 ≡ name = sym c.name.ensures ∙ name_cmp-IsAntisymmetric c.name.result name (sym c.cmp.ensures ∙ (Equal-is c.cmp.result).0 (sym c.is_eq.ensures ∙ yes)) in
          (row.1, here c ∙ ap (λ (n : Name). Some (n, row.1)) same),
      λ there.
          let same = same_Some row (name, there.0) (sym (here c) ∙ there.1) in
          c.is_eq.ensures ∙ ap is_eq (c.cmp.ensures ∙ ap (λ (n : Name). name_cmp n name) (c.name.ensures ∙ ap (λ r. r.0) same) ∙ tied_itself name_cmp_total name),
    )
