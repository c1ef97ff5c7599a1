use Rattle.std.proofs.Common.{sym, subst}
use Rattle.plan_opening.specs.plan_laws.proofs.Changing.{draft_is_sound}
use Rattle.plan_model.specs.Valid.{IsSound}
use Rattle.plan_core.proofs.alone.parts_of.Goals as goal

pub of-requires : goal.of-requires
of-requires c = subst IsSound (sym c.into_parts-contents.ensures.contents) (draft_is_sound c.args.draft c.into_parts-contents.ensures.draft)
