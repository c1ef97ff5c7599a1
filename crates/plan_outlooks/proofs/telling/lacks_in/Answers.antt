use Rattle.std.proofs.Common.{◌≡◌, sym, ◌∙◌, ap, subst, arith, ℕ, ◌<◌, All, List, length, Option}
use Rattle.std.specs.FinMap.{entries}
use Rattle.std.proofs.lemmas.Result.{IfOk-weaker}
use Rattle.plan_model.specs.Contents.{Contents}
use Rattle.plan_model.specs.Plan.{Plan}
use Rattle.plan_records.specs.declared.Request.{Request}
use Rattle.plan_outlooks.specs.Lacks.{LeadTo}
use Rattle.plan_outlooks.specs.Forecasts.{limit_of}
use Rattle.plan_outlooks.specs.Replays.{AreInOrder, AreLacksOf, AreSingle, AreTurnsOf}
use Rattle.plan_outlooks.specs.declared.lacks.Turn.{Turn}
use Rattle.plan_outlooks.proofs.LacksTold.{lacks_told}
use Rattle.plan_outlooks.proofs.Lending.{begun_size, ended_size}
use Rattle.plan_outlooks.proofs.Replaying.{forecast_leads}
use Rattle.plan_outlooks.proofs.telling.lacks_in.Goals as goal

pub turns_of-requires-clause-since : goal.turns_of-requires-clause-since
turns_of-requires-clause-since c =
    let (last, t, known, until, is, held) = c.requires.foretold in
    ap length c.deref.ensures.value ∙ begun_size c.args.plan.now.plan last known c.args.from until c.args.foretold.now.requests.items t c.args.foretold.now.since.items c.args.foretold.now.done.items is held
    ∙ ap (λ (Q : Contents). length (entries Q.operations)) (sym c.requires.loaded)

pub turns_of-requires-clause-done : goal.turns_of-requires-clause-done
turns_of-requires-clause-done c =
    let (last, t, known, until, is, held) = c.requires.foretold in
    ap length c.deref-2.ensures.value ∙ ended_size c.args.plan.now.plan last known c.args.from until c.args.foretold.now.requests.items t c.args.foretold.now.since.items c.args.foretold.now.done.items is held
    ∙ ap (λ (Q : Contents). length (entries Q.operations)) (sym c.requires.loaded)

pub lacks_of-requires-clause-leads : goal.lacks_of-requires-clause-leads
lacks_of-requires-clause-leads c =
    let (last, t, known, until, is, held) = c.requires.foretold in
    (t.plan, subst (λ (qs : List Request). LeadTo c.args.plan.now.plan qs t.plan) (sym c.deref-3.ensures.value) (forecast_leads c.args.plan.now.plan known c.args.from (limit_of until) c.args.foretold.now.requests.items t is))

pub lacks_of-requires-clause-ordered : goal.lacks_of-requires-clause-ordered
lacks_of-requires-clause-ordered c = subst AreInOrder (sym c.deref-4.ensures.value) c.in_ok-turns.ensures.in_order

pub lacks_of-requires-clause-single : goal.lacks_of-requires-clause-single
lacks_of-requires-clause-single c = subst AreSingle (sym c.deref-4.ensures.value) c.in_ok-turns.ensures.single

pub lacks_of-requires-clause-within : goal.lacks_of-requires-clause-within
lacks_of-requires-clause-within c =
    let many = ap length (c.operations-count.ensures.rows ∙ ap (λ (Q : Contents). entries Q.operations) c.contents.ensures.contents) in
    subst (λ (ts : List Turn). All (λ (u : Turn). u.place < length c.operations-count.result.now) ts) (sym c.deref-4.ensures.value)
    (λ k d less. (let within = c.in_ok-turns.ensures.within k d less in omega (arith, within, many)))

pub returns-clause-size : goal.returns-clause-size
returns-clause-size c =
    let many = ap length (c.operations-count.ensures.rows ∙ ap (λ (Q : Contents). entries Q.operations) (c.contents.ensures.contents ∙ c.requires.loaded)) in
    IfOk-weaker c.lacks_of.result _ _ (λ lacks size. size ∙ many) c.lacks_of.ensures.size

pub returns-clause-lacks : goal.returns-clause-lacks
returns-clause-lacks c = IfOk-weaker c.lacks_of.result _ _
    (λ lacks told F is plan from requests since done.
    let turns = c.in_ok-turns.turns.items in
    let begun = c.args.foretold.now.since.items in
    let ended = c.args.foretold.now.done.items in
    let same : c.args.loaded.now ≡ F.plan.contents = c.requires.loaded ∙ ap (λ (X : Plan). X.contents) (sym plan) in
    let are : AreTurnsOf F.plan.contents begun ended F.from turns =
    subst (λ m. AreTurnsOf F.plan.contents begun ended m turns) (sym from)
    (subst (λ (Q : Contents). AreTurnsOf Q begun ended c.args.from turns) same
    (subst (λ (xs : List (Option ℕ)). AreTurnsOf c.args.loaded.now begun xs c.args.from turns) c.deref-2.ensures.value
    (subst (λ (xs : List (Option ℕ)). AreTurnsOf c.args.loaded.now xs c.deref-2.result.now c.args.from turns) c.deref.ensures.value c.in_ok-turns.ensures))) in
    let lack : AreLacksOf F.plan F.requests turns lacks.items =
    subst (λ (X : Plan). AreLacksOf X F.requests turns lacks.items) (sym plan)
    (subst (λ (qs : List Request). AreLacksOf c.args.plan.now.plan qs turns lacks.items) (c.deref-3.ensures.value ∙ sym requests)
    (subst (λ (ts : List Turn). AreLacksOf c.args.plan.now.plan c.deref-3.result.now ts lacks.items) c.deref-4.ensures.value told)) in
    lacks_told F begun ended turns lacks.items since done are lack)
    c.lacks_of.ensures.lacks
