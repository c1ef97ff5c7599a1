use Rattle.std.proofs.Common.{◌≡◌, Some, subst, sym, ◌∙◌, refl, slice_get}
use Rattle.std.specs.FinMap.{entries}
use Rattle.std.proofs.lemmas.Option.{none-some, slice_get_within}
use Rattle.plan_core.proofs.FromPlace.{no_operation, none_known, none_told}
use Rattle.plan_core.proofs.OpViews.{op_view_is, row_in_plan}
use Rattle.plan_core.proofs.plan.Plan.view_op.Goals as goal
use Rattle.plan_core.proofs.plan.Plan.view_op.Goals.{In_ok-place}
use Rattle.plan_core.specs.Views.{IsOpView}
use Rattle.plan_model.specs.Contents.{Contents, IsInPlan, Operation}

pub returns-in_err-source-clause-some : goal.returns-in_err-source-clause-some
returns-in_err-source-clause-some c =
    none_known c.from_residual.result c.from_residual.ensures (λ P. IsInPlan P c.args.key.now) c.args.self.now.plan.contents (c.in_err-source.ensures.none refl) (no_operation c.args.key.now)

pub returns-in_err-place-clause-some : goal.returns-in_err-place-clause-some
returns-in_err-place-clause-some c =
    let key = c.args.key.now in
    let absent = c.in_err-place.ensures.absent refl in
    none_told c.from_residual-in_err-place.result c.from_residual-in_err-place.ensures
    (λ known. let there = subst (λ (P : Contents). IsInPlan P key) (sym c.in_ok-source.ensures.contents) known in none-some there.0 (sym absent ∙ there.1))

-- the row at the index that is found
row : (c : In_ok-place) → (op : Operation) × (slice_get (entries c.in_ok-source.source.contents.now.operations) c.in_ok-place.place ≡ Some (c.args.key.now, op))
row c = c.in_ok-place.ensures.found

pub op_view-requires-clause-within : goal.op_view-requires-clause-within
op_view-requires-clause-within c = slice_get_within (entries c.in_ok-source.source.contents.now.operations) c.in_ok-place.place _ (row (goal.at.op_view-requires-clause-within c).In_ok-place).1

pub returns : goal.returns
returns c =
    let at : In_ok-place = (goal.at.returns c).In_ok-place in
    let s = at.in_ok-source.source in
    let source = at.in_ok-source.ensures.source in
    let same = at.in_ok-source.ensures.contents in
    let key = at.args.key.now in
    let view = op_view_is s source at.in_ok-place.place key (row at).0 c.op_view.result (row at).1 c.op_view.ensures in
    let known = row_in_plan s source at.in_ok-place.place key (row at).0 (row at).1 in
    record {
      some = (λ some. subst (λ (P : Contents). IsInPlan P key) same ((row at).0, known, tt), λ there. refl);
      view = (view.0, subst (λ (P : Contents). IsOpView P c.op_view.result) same view.1);
    }
