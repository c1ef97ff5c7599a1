use Rattle.std.proofs.Common.{◌≡◌, ◌<◌, sym, subst, arith, get_or, length, slice_get, Some}
use Rattle.std.proofs.lemmas.Option.{slice_get-get_or}
use Rattle.std.specs.FinMap.{entries}
use Rattle.start_choice.specs.plan_laws.proofs.Standing.{one_status}
use Rattle.plan_model.specs.Contents.{Contents}
use Rattle.start_choice.specs.plan_status.proofs.LoadedRows.{row_found}
use Rattle.derived_figures.specs.Reports.{IsOfStatus}
use Rattle.status_rules.specs.declared.Status.TheVariants as status
use Rattle.derived_figures.proofs.statuses.Statuses.status_at.Goals as goal

pub returns : goal.returns
returns c o op at =
    let P = c.self.inside.uncounted.contents.now in
    let statuses = c.self.inside.statuses.now in
    let are = c.self.invariant in
    let i = c.args.place in
    let within = subst (λ (Q : Contents). i < length (entries Q.operations)) (sym c.self.view_is) c.requires in
    let here = subst (λ (Q : Contents). slice_get (entries Q.operations) i ≡ Some (o, op)) (sym c.self.view_is) at in
    let known : i < length statuses = omega (arith, within, are.size) in
    let here_is = get_or statuses i status.Started in
    let has = are.each i o op here_is here (slice_get-get_or statuses i status.Started known) in
    subst (λ (Q : Contents). IsOfStatus Q o here_is) c.self.view_is (record {
      known = (op, row_found P i o op here, tt);
      status = has;
      alone = λ s other. one_status P c.are_sound.ensures.valid.acyclic o s here_is other has;
    })
