use Rattle.std.proofs.Common.{refl, sym, ◌∙◌, ap, subst, length}
use Rattle.std.proofs.lemmas.Result.{IfOk-weaker}
use Rattle.std.specs.FinMap.{entries}
use Rattle.plan_model.specs.Contents.{Contents}
use Rattle.forecasting.specs.Known.{since_in}
use Rattle.plan_outlooks.specs.Forecasts.{minute_or}
use Rattle.plan_outlooks.specs.Lacks.{AreLacks}
use Rattle.plan_outlooks.specs.Overruns.{AreTaken}
use Rattle.plan_outlooks.proofs.Lending.{forecast_of, lent_by, times_of}
use Rattle.plan_outlooks.proofs.telling.told_of.Goals as goal

pub lacks_in-requires-clause-foretold : goal.lacks_in-requires-clause-foretold
lacks_in-requires-clause-foretold c =
    let (t, is, held) = c.requires in
    (c.args.last.now.plan, t, since_in c.args.known.now, c.args.until.now, is, held)

pub rows_of-requires : goal.rows_of-requires
rows_of-requires c =
    let (t, is, held) = c.requires in
    let P = c.args.plan.now.plan in
    let known = since_in c.args.known.now in
    let begun = c.args.foretold.now.since.items in
    let ended = c.args.foretold.now.done.items in
    let requests = c.args.foretold.now.requests.items in
    let F = forecast_of P known c.args.from c.args.until.now requests t in
    let since = times_of P c.args.last.now.plan known c.args.from c.args.until.now requests t begun ended is held t.since begun held.since in
    let done = times_of P c.args.last.now.plan known c.args.from c.args.until.now requests t begun ended is held t.done ended held.done in
    let lent = lent_by P c.args.last.now.plan known c.args.from c.args.until.now requests t begun ended is held _ c.in-Some.ensures.contents c.in-Some-loaded.ensures.contents c.deref.ensures.value c.deref-2.ensures.value refl
    (c.moment_or-to.ensures ∙ ap (λ m. minute_or m c.args.until.now) c.clock.ensures.value) refl
    (ap length c.deref-3.ensures.value ∙ c.in_ok-taken.ensures.size ∙ ap (λ (Q : Contents). length (entries Q.operations)) c.in-Some.ensures.contents)
    (subst (AreTaken P.contents known c.args.from) (sym c.deref-3.ensures.value) (subst (λ (Q : Contents). AreTaken Q known c.args.from c.in_ok-taken.taken.items) c.in-Some.ensures.contents c.in_ok-taken.ensures.taken))
    (ap length c.deref-4.ensures.value ∙ c.in_ok-lacks.ensures.size)
    (subst (AreLacks F) (sym c.deref-4.ensures.value) (c.in_ok-lacks.ensures.lacks F is refl refl refl since done)) in
    (F, lent)

pub returns-clause-told : goal.returns-clause-told
returns-clause-told c =
    let (t, is, held) = c.requires in
    let P = c.args.plan.now.plan in
    let known = since_in c.args.known.now in
    let begun = c.args.foretold.now.since.items in
    let ended = c.args.foretold.now.done.items in
    let requests = c.args.foretold.now.requests.items in
    let F = forecast_of P known c.args.from c.args.until.now requests t in
    let since = times_of P c.args.last.now.plan known c.args.from c.args.until.now requests t begun ended is held t.since begun held.since in
    let done = times_of P c.args.last.now.plan known c.args.from c.args.until.now requests t begun ended is held t.done ended held.done in
    let lent = lent_by P c.args.last.now.plan known c.args.from c.args.until.now requests t begun ended is held _ c.in-Some.ensures.contents c.in-Some-loaded.ensures.contents c.deref.ensures.value c.deref-2.ensures.value refl
    (c.moment_or-to.ensures ∙ ap (λ m. minute_or m c.args.until.now) c.clock.ensures.value) refl
    (ap length c.deref-3.ensures.value ∙ c.in_ok-taken.ensures.size ∙ ap (λ (Q : Contents). length (entries Q.operations)) c.in-Some.ensures.contents)
    (subst (AreTaken P.contents known c.args.from) (sym c.deref-3.ensures.value) (subst (λ (Q : Contents). AreTaken Q known c.args.from c.in_ok-taken.taken.items) c.in-Some.ensures.contents c.in_ok-taken.ensures.taken))
    (ap length c.deref-4.ensures.value ∙ c.in_ok-lacks.ensures.size)
    (subst (AreLacks F) (sym c.deref-4.ensures.value) (c.in_ok-lacks.ensures.lacks F is refl refl refl since done)) in
    IfOk-weaker c.rows_of.result _ _ (λ x told. (F, is, refl, refl, refl, refl, told F lent c.is_some.ensures)) c.rows_of.ensures.rows
