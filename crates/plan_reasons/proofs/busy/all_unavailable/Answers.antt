use Rattle.std.proofs.Common.{◌≡◌, ◌++◌, sym, ap, subst, ◌∙◌}
use Rattle.std.specs.List.{filter_map}
use Rattle.std.proofs.lemmas.List.{append-nil, drop_all}
use Rattle.special_resources.specs.Needs.{usages_of}
use Rattle.plan_model.specs.Contents.{Operation}
use Rattle.plan_reasons.specs.Parts.{AreOfKind}
use Rattle.plan_reasons.specs.Places.{unavailable_of}
use Rattle.plan_reasons.proofs.Needing.{unavailable_found}
use Rattle.plan_reasons.proofs.busy.all_unavailable.Goals as goal

pub returns : goal.returns
returns c o m start =
    let P = c.args.contents.now in
    let op = c.args.operation.now in
    let needs = c.as_slice-need-items.result.now in
    let tell = unavailable_of P.resources in
    let found = c.loop-need.reasons.items in
    let are : op.needs ≡ usages_of needs = ap (λ (x : Operation). x.needs) (sym c.operation.view_is) ∙ c.as_slice-need-items.ensures.usages in
    let all : found ≡ filter_map tell needs = sym (append-nil found) ∙ ap (λ ns. found ++ filter_map tell ns) (sym (drop_all c.loop-need.need-index needs c.loop-need-test.false)) ∙ c.loop-need.invariant in
    subst (AreOfKind P o op m 8) (sym all) (unavailable_found P o op m start needs c.as_slice-need-items.ensures.in_order are)
