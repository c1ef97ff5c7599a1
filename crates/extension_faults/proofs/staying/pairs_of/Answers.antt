use Rattle.std.proofs.Common.{◌∙◌, ap, refl}
use Rattle.plan_drafts.specs.plan_model.specs.Contents.{Contents}
use Rattle.extension_faults.proofs.Kept.{no_pairs_there, pairs_there}
use Rattle.extension_faults.proofs.staying.pairs_of.Goals as goal

pub returns-in-Some : goal.returns-in-Some
returns-in-Some c =
    let same = c.pairs.ensures.pairs ∙ ap (λ (C : Contents). C.pairs) (c.contents.ensures.contents ∙ c.in-Some.ensures.contents) in
    pairs_there c.args.plan.now.plan.contents c.pairs.result.now same c.pairs.ensures.in_order

pub returns-in-None : goal.returns-in-None
returns-in-None c = no_pairs_there c.args.plan.now.plan.contents (c.in-None.ensures.none refl)
