use Rattle.std.proofs.Common.{IfOk, MatchOption, Ok, Err, Some, None}
use Rattle.plan_model.specs.Contents.{Contents}
use Rattle.plan_drafts.specs.PlanGraphs.{IsGraphFor}
use Rattle.plan_drafts.specs.PlanItems.{CanBeLoaded, AreContentsOf}
use Rattle.plan_drafts.specs.Records.{AreItemsOf}
use Rattle.plan_denotation.proofs.Denoting.{made_of, none_made}
use Rattle.plan_denotation.proofs.drafts.parts_of_items.Goals as goal

pub returns : goal.returns
returns c =
    let items = c.args.items.now in
    elim c.parts_of_plan.result as (λ r. IfOk r (λ found. MatchOption found (¬ CanBeLoaded items) (λ p. AreContentsOf items p.contents × IsGraphFor p.contents p.graph)) → IfOk r (λ found. MatchOption found ((P : Contents) → ¬ AreItemsOf items P) (λ p. AreItemsOf items p.contents × IsGraphFor p.contents p.graph))) [
      | Ok (Some p) ↦ λ made. (made_of items c.requires p.contents made.0, made.1)
      | Ok None ↦ λ none. none_made items none
      | Err e ↦ λ h. h
    ] c.parts_of_plan.ensures
