use Rattle.std.proofs.Common.{◌≡◌, ap, subst, ◌∙◌, length}
use Rattle.std.proofs.lemmas.Result.{IfOk-weaker}
use Rattle.plan_model.specs.latest_start.specs.NodeStarts.{AreLatestStartsOf}
use Rattle.counted_records.specs.plan_status.specs.Summaries.{IsSummarizedBy}
use Rattle.plan_model.specs.Contents.{Contents}
use Rattle.start_choice.specs.Choices.{AreLatestStarts}
use Rattle.start_choice.proofs.ItemStarts.{items_by, one_item_each, starts_of_summaries}
use Rattle.start_choice.proofs.latest.latest_of.Goals as goal

pub build-requires : goal.build-requires
build-requires c =
    let P = c.requires.0 in
    let plan = c.requires.1 in
    ap length (c.deref.ensures.value ∙ c.in_ok-items.ensures) ∙ one_item_each P plan.valid c.args.summaries.now plan.summaries c.args.graph.now plan.graph

pub returns-clause-starts : goal.returns-clause-starts
returns-clause-starts c =
    let g = c.args.graph.now in
    let summaries = c.args.summaries.now in
    let items : c.deref.result.now ≡ items_by summaries = c.deref.ensures.value ∙ c.in_ok-items.ensures in
    IfOk-weaker c.build.result (λ latest. AreLatestStartsOf g c.deref.result.now latest.starts) (λ latest. (P : Contents) → IsSummarizedBy P g summaries → AreLatestStarts P latest.starts)
    (λ latest are P plan. starts_of_summaries P plan.valid summaries plan.summaries g plan.graph latest.starts (subst (λ xs. AreLatestStartsOf g xs latest.starts) items are))
    c.build.ensures.starts
