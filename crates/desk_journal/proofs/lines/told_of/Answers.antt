use Rattle.std.proofs.Common.{◌≡◌, ◌∙◌, ap, ℕ, take}
use Rattle.std.proofs.lemmas.List.{take_min}
use Rattle.desk_journal.specs.declared.lines.TheConstants.{BRIEF_BYTES}
use Rattle.desk_journal.proofs.lines.told_of.Goals as goal

pub returns-then-is_brief : goal.returns-then-is_brief
returns-then-is_brief c = rw c.if-is_brief.true (ap (λ (n : ℕ). take n c.args.body.now) c.min.ensures ∙ take_min BRIEF_BYTES c.args.body.now)
