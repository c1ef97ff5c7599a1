use Rattle.std.proofs.Common.{◌≡◌, sym, subst, ◌∙◌, IfOk}
use Rattle.std.specs.FinMap.{entries}
use Rattle.plan_checks.specs.start_choice.specs.Choices.{AreGivenOut, AreHeldIn}
use Rattle.plan_checks.specs.start_choice.specs.declared.choice.Choice.{Choice}
use Rattle.plan_model.specs.Contents.{Contents}
use Rattle.plan_model.specs.Ready.{IsChosen, named}
use Rattle.small_requests.proofs.namings.choose_named.Goals as goal
use Rattle.small_requests.proofs.namings.choose_named.Goals.{After-uncounted}
use Rattle.small_requests.specs.Effects.{IsChoiceOf}
use Rattle.small_requests.specs.Naming.{IsNaming}

-- the records hold the same
same : (c : After-uncounted) → c.uncounted.result.contents.now ≡ c.args.records.contents
same c = c.uncounted.ensures.contents ∙ c.chosen_with-records.ensures.contents

-- it is a choice of that
is_choice : (c : After-uncounted) → IsChoiceOf c.uncounted.result.contents.now c.args.at c.in-Ok.choice
is_choice c =
    let P = c.args.records.contents in
    let told = c.chosen_with-records.ensures in
    subst (λ (Q : Contents). IsChoiceOf Q c.args.at c.in-Ok.choice) (sym (same c)) (record {
      chosen = subst (λ r. IfOk r (λ (x : Choice). IsChosen P c.args.at x.named.items)) c.in-Ok.is told.chosen;
      given = subst (λ r. IfOk r (λ (x : Choice). AreGivenOut (named x.named.items P) (entries P.workstations) x.given.items)) c.in-Ok.is told.given;
      holders = subst (λ r. IfOk r (λ (x : Choice). AreHeldIn (named x.named.items P) x.holdings.held)) c.in-Ok.is told.held;
    })

pub naming_of-naming-requires : goal.naming_of-naming-requires
naming_of-naming-requires c = (c.args.at, is_choice (goal.at.naming_of-naming-requires c).After-uncounted)

pub returns-in-Ok-clause-naming : goal.returns-in-Ok-clause-naming
returns-in-Ok-clause-naming c =
    let here = (goal.at.returns-in-Ok-clause-naming c).After-uncounted in
    subst (λ (Q : Contents). IfOk c.naming_of-naming.result (IsNaming Q c.args.at)) (same here) (c.naming_of-naming.ensures.naming c.args.at (is_choice here))
