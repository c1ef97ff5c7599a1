use Rattle.std.proofs.Common.{◌∙◌, refl, sym, true≢false}
use Rattle.std.specs.FinMap.{get, len}
use Rattle.std.specs.Prelude.{◌≡◌, None}
use Rattle.std.proofs.lemmas.Option.{none-some}
use Rattle.tracker_receipts.proofs.Keeping.{not_full}
use Rattle.tracker_receipts.proofs.kept.Receipts.is_open_to.Goals as goal

pub returns-in-Some : goal.returns-in-Some
returns-in-Some c = (λ e. absurd (true≢false (sym e)), λ free. absurd (none-some _ (sym free.0 ∙ c.in-Some.ensures.found)))

pub returns-in-None : goal.returns-in-None
returns-in-None c = not_full c.is_full.result (len c.args.self.now) (get c.args.self.now c.args.tracker.now ≡ None) c.is_full.ensures (c.in-None.ensures.absent refl)
