-- What is live isn't deleted, and the other way round.
use Rattle.std.proofs.Common.{◌≡◌, ◌≢◌, refl, sym, ap, ◌∙◌, true, true≢false}
use Rattle.status_rules.specs.Classes.{is_live}
use Rattle.status_rules.specs.declared.Mark.{Mark}
use Rattle.status_rules.specs.declared.Mark.TheVariants.{Deleted}

pub live_mark : (m : Mark) → is_live m ≡ true → m ≢ Deleted
live_mark m live deleted = true≢false (sym live ∙ ap is_live deleted)

pub mark_live : (m : Mark) → m ≢ Deleted → is_live m ≡ true
mark_live Deleted h = absurd (h refl)
mark_live m h = refl
