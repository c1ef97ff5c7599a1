use Rattle.std.proofs.Common.{◌≡◌, ◌<◌, ◌≤◌, sym, subst, length, map}
use Rattle.std.specs.Prelude.{MatchOption}
use Rattle.plan_basics.specs.declared.limits.TheConstants.{MOST_NEEDS}
use Rattle.plan_items.specs.special_resources.specs.Needs.{AreInNameOrder, usages_of}
use Rattle.plan_drafts.proofs.Lists.{length_map}
use Rattle.plan_denotation.proofs.OwnNeeds.{said_need, own_in_order}
use Rattle.plan_denotation.proofs.needs.own_needs.Goals as goal

pub gathered-requires : goal.gathered-requires
gathered-requires c = subst AreInNameOrder (sym c.needs_by.ensures) (own_in_order c.args.key.now c.args.needs.now c.requires)

pub returns : goal.returns
returns c =
    let own = c.needs_by.result.now in
    let counted =
    subst (λ n. MatchOption c.gathered.result (MOST_NEEDS < n) (λ v. (n ≤ MOST_NEEDS) × (v ≡ usages_of (map said_need own)))) (sym (length_map said_need own)) c.gathered.ensures in
    subst (λ ns. MatchOption c.gathered.result (MOST_NEEDS < length ns) (λ v. (length ns ≤ MOST_NEEDS) × (v ≡ usages_of ns))) c.needs_by.ensures counted
