use Rattle.std.proofs.Common.{◌≡◌, ◌∙◌, ap, subst, List}
use Rattle.std.proofs.lemmas.Result.{IfOk-weaker}
use Rattle.std.specs.List.{AllZip}
use Rattle.plan_basics.specs.declared.keys.OpKey.{OpKey}
use Rattle.plan_model.specs.Contents.{Contents}
use Rattle.plan_model.specs.Valid.{IsSound}
use Rattle.plan_shows.specs.Dependencies.{IsDependencyView}
use Rattle.plan_shows.proofs.DependenciesShown.{are_dependencies, ends_there}
use Rattle.plan_shows.proofs.dependencies.views_in.Goals as goal

pub views_of-requires : goal.views_of-requires
views_of-requires c =
    let P = c.args.loaded.now in
    let same = c.pairs.ensures.pairs ∙ ap (λ (Q : Contents). Q.pairs) c.contents.ensures.contents in
    let sound = subst IsSound c.contents.ensures.contents c.pairs.ensures.sound in
    rw (c.deref.ensures.value, c.in_ok-pairs.ensures) (ends_there P c.pairs.result.now same sound.valid c.args.occurrence.now)

pub returns : goal.returns
returns c =
    let P = c.args.loaded.now in
    let same = c.pairs.ensures.pairs ∙ ap (λ (Q : Contents). Q.pairs) c.contents.ensures.contents in
    IfOk-weaker c.views_of.result _ _
    (λ views shown.
    are_dependencies P c.pairs.result.now same c.args.occurrence.now views.items c.pairs.ensures.in_order
    (subst (λ (xs : List (OpKey × OpKey)). AllZip (IsDependencyView P) xs views.items) (c.deref.ensures.value ∙ c.in_ok-pairs.ensures) shown))
    c.views_of.ensures
