use Rattle.std.proofs.Common.{ap, subst}
use Rattle.std.proofs.lemmas.Result.{on_ok_weaker}
use Rattle.plan_model.specs.Contents.{Operation}
use Rattle.derived_figures.specs.Marked.{HaveReleased}
use Rattle.start_choice.specs.Takings.{HaveTaken}
use Rattle.derived_figures.proofs.held.retake_needs.Goals as goal

pub returns-clause-retaken : goal.returns-clause-retaken
returns-clause-retaken c =
    let op = c.args.operation.now in
    let mark = ap (λ (x : Operation). x.mark) c.operation.view_is in
    on_ok_weaker c.take_marked.result
    (λ taken. (
      c.release_marked.new.holdings.held,
      subst (λ z. HaveReleased c.args.holdings.now.held c.args.key.now op.needs z c.release_marked.new.holdings.held) mark c.release_marked.ensures,
      subst (λ z. HaveTaken c.release_marked.new.holdings.held c.args.key.now op.needs z c.take_marked.new.holdings.held) mark taken,
    )) c.take_marked.ensures.taken
