use Rattle.std.proofs.Common.{◌<◌, sym, subst, length}
use Rattle.satisfaction.specs.Journal.{AreWithin}
use Rattle.plan_drafts.proofs.Lists.{contains_none}
use Rattle.small_requests.proofs.wait_changes.recount.Goals as goal

pub take_back-requires : goal.take_back-requires
take_back-requires c =
    let is = c.counted-kept_then.ensures.journaled in
    let none : AreWithin (length c.args.wait_states.now) c.new-journal.result.items = subst (AreWithin (length c.args.wait_states.now)) (sym c.new-journal.ensures.items) (λ e has. absurd (contains_none e has)) in
    record { within = λ e has. subst (λ n. e.0 < n) (sym is.size) (is.within none e has) }
