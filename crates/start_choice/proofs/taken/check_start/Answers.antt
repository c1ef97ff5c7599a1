use Rattle.std.specs.Result.{IsErrAnd}
use Rattle.std.proofs.Common.{Result, Ok, Err, IfErr, ◌≡◌, sym, ap, subst, ◌∙◌, ℕ, ◌<◌, ◌≤◌, arith, false, true≢false, Some}
use Rattle.std.proofs.lemmas.Int.{ints}
use Rattle.std.specs.FinMap.{get}
use Rattle.plan_basics.specs.Refusals.{number_of, IsLeastRefusal}
use Rattle.plan_basics.specs.declared.Refusal.{Refusal}
use Rattle.plan_model.specs.Contents.{Contents, Operation}
use Rattle.plan_model.specs.Starts.{MayStart}
use Rattle.workstations.specs.Workstations.{HasRoom, Workstation}
use Rattle.start_choice.specs.Choices.{HasTaken, IsStartLine}
use Rattle.start_choice.proofs.StartLines.{before_busy, line_met, lower_met, no_room, not_free}
use Rattle.counted_records.specs.plan_status.proofs.Workplaces.{workplace_found}
use Rattle.start_choice.proofs.taken.check_start.Goals as goal
use Rattle.start_choice.proofs.taken.check_start.Goals.{After-fits}

pub unwrap-workstation-requires : goal.unwrap-workstation-requires
unwrap-workstation-requires c = workplace_found c.args.seen.now.uncounted.contents.now c.workstation_near.ensures.sound.valid c.operation.view_is (c.args.seen.now.key.now, c.requires) c.workstation_near.result c.workstation_near.ensures.absent

module _ (c : After-fits) where
  abbrev workstation : Workstation
  workstation = c.unwrap-workstation.result.now.1

  its_workstation : get c.args.seen.now.uncounted.contents.now.workstations c.args.seen.now.operation.now.workstation ≡ Some workstation
  its_workstation =
      let found = rw c.unwrap-workstation.ensures at c.workstation_near.ensures.found in
      ap (λ (op : Operation). get c.args.seen.now.uncounted.contents.now.workstations op.workstation) (sym c.operation.view_is) ∙ found.1

  same_needs : ◌≡◌ {A = ℕ × ℕ} (c.from.result, c.from-2.result) (c.args.seen.now.operation.now.r1, c.args.seen.now.operation.now.r2)
  same_needs = λ i. ((c.from.ensures ∙ ap (λ (op : Operation). op.r1) c.operation.view_is) i, (c.from-2.ensures ∙ ap (λ (op : Operation). op.r2) c.operation.view_is) i)

  abbrev has_room : ℕ × ℕ → Refusal → Type 0
  has_room needs r = HasRoom workstation c.args.at c.args.taken.now needs.0 needs.1 r

  free : c.args.seen.now.operation.now.held ≡ false
  free = ap (λ (op : Operation). op.held) (sym c.operation.view_is) ∙ c.if-operation.false

  after : c.args.seen.now.operation.now.not_before ≤ c.args.at
  after =
      let e : c.operation.inside.not_before ≡ c.args.seen.now.operation.now.not_before = ap (λ (op : Operation). op.not_before) c.operation.view_is in
      let late = c.if-minute.false in
      let a = c.minute.ensures.value in
      let b = c.minute-2.ensures.value in
      omega (arith, ints, late, a, b, e)

  -- what its workstation refuses, and what comes before that
  module _ (r : Refusal) (least : IsLeastRefusal (has_room (c.from.result, c.from-2.result)) r) where
    lacks : ¬ has_room (c.args.seen.now.operation.now.r1, c.args.seen.now.operation.now.r2) r
    lacks room = least.0 (subst (λ needs. has_room needs r) (sym same_needs) room)

    cannot : (P : Contents) → HasTaken P c.args.seen.now.uncounted.contents.now c.args.seen.now.operation.now c.args.taken.now c.args.holdings.now.held → ¬ MayStart P c.args.seen.now.key.now c.args.seen.now.operation.now c.args.at r
    cannot P has = no_room c.args.seen.now.uncounted.contents.now c.args.seen.now.operation.now workstation its_workstation c.args.at c.args.taken.now c.args.holdings.now.held P has c.args.seen.now.key.now r lacks

    may_lower : (P : Contents) → HasTaken P c.args.seen.now.uncounted.contents.now c.args.seen.now.operation.now c.args.taken.now c.args.holdings.now.held
        → (lower : Refusal) → IsStartLine lower → number_of lower < number_of r → MayStart P c.args.seen.now.key.now c.args.seen.now.operation.now c.args.at lower
    may_lower P has lower line less =
        lower_met c.args.seen.now.uncounted.contents.now c.args.seen.now.operation.now workstation its_workstation c.args.at c.args.taken.now c.args.holdings.now.held P has free after c.args.seen.now.key.now lower line
        (before_busy workstation c.args.at c.args.taken.now c.args.seen.now.operation.now.r1 c.args.seen.now.operation.now.r2 r lower lacks less)
        (subst (λ needs. has_room needs lower) same_needs (least.1 lower less))

if_err_and : {X E : Type 0} {A B : E → Type 0} (x : Result X E) → IsErrAnd x A → ((e : E) → A e → B e) → IfErr x B
if_err_and (Ok u) a f = tt
if_err_and (Err e) a f = f e a

pub returns-in_err-fits-clause-refused : goal.returns-in_err-fits-clause-refused
returns-in_err-fits-clause-refused c =
    let at = ((goal.at.returns-in_err-fits-clause-refused c).After-fits) in
    if_err_and c.from_residual.result c.from_residual.ensures.1
    (λ r is. cannot at r (subst (IsLeastRefusal (has_room at (c.from.result, c.from-2.result))) (sym is) c.in_err-fits.ensures.refused))

pub returns-in_err-fits-clause-least : goal.returns-in_err-fits-clause-least
returns-in_err-fits-clause-least c =
    let at = ((goal.at.returns-in_err-fits-clause-least c).After-fits) in
    if_err_and c.from_residual.result c.from_residual.ensures.1
    (λ r is. may_lower at r (subst (IsLeastRefusal (has_room at (c.from.result, c.from-2.result))) (sym is) c.in_err-fits.ensures.refused))

pub returns-then-has_resources-clause-ok : goal.returns-then-has_resources-clause-ok
returns-then-has_resources-clause-ok c P has r line =
    let at = ((goal.at.returns-then-has_resources-clause-ok c).After-fits) in
    let room : has_room at (c.args.seen.now.operation.now.r1, c.args.seen.now.operation.now.r2) r = subst (λ needs. has_room at needs r) (same_needs at) (c.in_ok-fits.ensures.ok r) in
    line_met c.args.seen.now.uncounted.contents.now c.args.seen.now.operation.now (workstation at) (its_workstation at) c.args.at c.args.taken.now c.args.holdings.now.held P has (free at) (after at) c.args.seen.now.key.now r line room
    (c.has_resources.ensures.0 c.if-has_resources.true)

pub returns-else-has_resources-clause-refused : goal.returns-else-has_resources-clause-refused
returns-else-has_resources-clause-refused c P has =
    let at = ((goal.at.returns-else-has_resources-clause-refused c).After-fits) in
    not_free c.args.seen.now.uncounted.contents.now c.args.seen.now.operation.now (workstation at) (its_workstation at) c.args.at c.args.taken.now c.args.holdings.now.held P has c.args.seen.now.key.now
    (λ usable. true≢false (sym (c.has_resources.ensures.1 usable) ∙ c.if-has_resources.false))

pub returns-else-has_resources-clause-least : goal.returns-else-has_resources-clause-least
returns-else-has_resources-clause-least c P has lower line less =
    let at = ((goal.at.returns-else-has_resources-clause-least c).After-fits) in
    let room : has_room at (c.args.seen.now.operation.now.r1, c.args.seen.now.operation.now.r2) lower = subst (λ needs. has_room at needs lower) (same_needs at) (c.in_ok-fits.ensures.ok lower) in
    lower_met c.args.seen.now.uncounted.contents.now c.args.seen.now.operation.now (workstation at) (its_workstation at) c.args.at c.args.taken.now c.args.holdings.now.held P has (free at) (after at) c.args.seen.now.key.now lower line
    (λ is. omega (arith, less, ap number_of is)) room
