use Rattle.std.proofs.Common.{◌≡◌, ◌⊎◌, sym, ap, subst, ◌∙◌, slice_get, Some, IfErr, OnOk}
use Rattle.std.proofs.lemmas.Option.{same_Some, slice_get_within}
use Rattle.std.specs.FinMap.{entries}
use Rattle.plan_basics.specs.Refusals.{IsLeastRefusal, NoneRefuses}
use Rattle.plan_basics.specs.declared.Refusal.TheVariants as refusal
use Rattle.plan_basics.specs.declared.keys.OpKey.{OpKey}
use Rattle.plan_model.specs.Contents.{Contents, Operation}
use Rattle.plan_records.specs.Acceptance.{MayBeDone}
use Rattle.derived_figures.specs.DerivedRefs.{AreDerivedOf}
use Rattle.derived_figures.specs.Reports.{IsReported}
use Rattle.plan_checks.proofs.ByPair.{HasRow}
use Rattle.plan_checks.proofs.Searching.{found_in}
use Rattle.plan_checks.proofs.checks.check_operation.Goals as goal
use Rattle.plan_checks.proofs.checks.check_operation.Goals.{In_ok-place}

-- the row at the index is that of the key
found : (c : In_ok-place) → HasRow c.args.records.now.contents c.in_ok-place.place c.args.key.now
found c =
    subst (λ (Q : Contents). HasRow Q c.in_ok-place.place c.args.key.now) c.uncounted.ensures.contents
    (found_in c.operation_place.result (λ i. HasRow c.uncounted.result.contents.now i c.args.key.now) c.in_ok-place.place c.in_ok-place.ensures.ok_part c.operation_place.ensures.found)

pub see-seen-requires : goal.see-seen-requires
see-seen-requires c =
    let row = found (goal.at.see-seen-requires c).In_ok-place in
    slice_get_within (entries c.args.records.now.contents.operations) c.in_ok-place.place (c.args.key.now, row.0) row.1

pub of-outline-requires : goal.of-outline-requires
of-outline-requires c = subst (λ (Q : Contents). AreDerivedOf Q c.args.derived) (sym c.see-seen.ensures.uncounted) c.requires.derived

pub reported-reported-requires : goal.reported-reported-requires
reported-reported-requires c =
    let row : OpKey × Operation = (c.see-seen.result.key.now, c.see-seen.result.operation.now) in
    subst (λ (Q : Contents). slice_get (entries Q.operations) c.in_ok-place.place ≡ Some row) (sym (c.of-outline.ensures ∙ c.see-seen.ensures.uncounted)) c.see-seen.ensures.row

pub check_reported-requires-clause-reported : goal.check_reported-requires-clause-reported
check_reported-requires-clause-reported c o about =
    let row = found (goal.at.check_reported-requires-clause-reported c).In_ok-place in
    let seen = ap (λ (r : OpKey × Operation). r.0) (same_Some (c.see-seen.result.key.now, c.see-seen.result.operation.now) (c.args.key.now, row.0) (sym c.see-seen.ensures.row ∙ row.1)) in
    let its = same_Some c.args.key.now o (sym c.requires.operation ∙ about) in
    subst (λ z. IsReported c.of-outline.result z c.reported-reported.result) (seen ∙ its) c.reported-reported.ensures

pub returns-clause-ok : goal.returns-clause-ok
returns-clause-ok c =
    subst (λ (Q : Contents). OnOk c.check_reported.result (NoneRefuses (MayBeDone Q c.args.at c.args.what.now))) (c.of-outline.ensures ∙ c.see-seen.ensures.uncounted) c.check_reported.ensures.ok

pub returns-clause-refused : goal.returns-clause-refused
returns-clause-refused c =
    subst (λ (Q : Contents). IfErr c.check_reported.result (λ r. (r ≡ refusal.Memory) ⊎ IsLeastRefusal (MayBeDone Q c.args.at c.args.what.now) r)) (c.of-outline.ensures ∙ c.see-seen.ensures.uncounted) c.check_reported.ensures.refused
