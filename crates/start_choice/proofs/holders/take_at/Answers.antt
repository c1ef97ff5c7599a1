use Rattle.std.proofs.Common.{◌≡◌, sym, ap, subst, ◌∙◌}
use Rattle.std.proofs.lemmas.Option.{same_Some}
use Rattle.std.proofs.lemmas.Result.{on_ok_weaker}
use Rattle.plan_basics.specs.declared.keys.OpKey.{OpKey}
use Rattle.plan_model.specs.Contents.{Operation}
use Rattle.start_choice.specs.Takings.{HaveTaken}
use Rattle.start_choice.proofs.holders.take_at.Goals as goal

pub returns-clause-taken : goal.returns-clause-taken
returns-clause-taken c =
    let held = c.args.holdings.now.held in
    let now = c.take_marked.new.holdings.held in
    let key = c.see.result.key.now in
    let its = c.see.result.operation.now in
    let its_mark : c.operation.inside.mark ≡ its.mark = ap (λ (x : Operation). x.mark) c.operation.view_is in
    on_ok_weaker c.take_marked.result (λ taken o op at.
    let same : ◌≡◌ {A = OpKey × Operation} (key, its) (o, op) = same_Some (key, its) (o, op) (sym c.see.ensures.row ∙ at) in
    subst (λ (row : OpKey × Operation). HaveTaken held row.0 row.1.needs row.1.mark now) same (subst (λ mark. HaveTaken held key its.needs mark now) its_mark taken))
    c.take_marked.ensures.taken
