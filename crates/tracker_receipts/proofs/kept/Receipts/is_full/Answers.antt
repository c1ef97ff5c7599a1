use Rattle.std.proofs.Common.{◌≡◌, ◌∙◌, [], arith, refl, sym}
use Rattle.std.specs.FinMap.{len}
use Rattle.std.proofs.lemmas.Bool.Decides.{nat_tests}
use Rattle.tracker_receipts.proofs.Keeping.{row_count}
use Rattle.tracker_receipts.proofs.kept.Receipts.is_full.Goals as goal

pub returns : goal.returns
returns c =
    let rows = c.self.inside.rows in
    let long : len c.args.self.now ≡ c.len.result = row_count rows.items rows.items refl c.args.self.now c.self.view_is c.self.invariant.in_order [] ∙ sym rows.ok.0 ∙ sym c.len.ensures in
    grind (arith, nat_tests)
