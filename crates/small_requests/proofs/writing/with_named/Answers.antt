use Rattle.plan_checks.specs.plan_laws.proofs.Kept.{choice_keeps_sound}
use Rattle.small_requests.proofs.writing.with_named.Goals as goal

pub mark_all-requires : goal.mark_all-requires
mark_all-requires c = choice_keeps_sound c.args.records.contents c.requires.0 c.args.named.now c.uncounted.ensures.sound c.requires.1
