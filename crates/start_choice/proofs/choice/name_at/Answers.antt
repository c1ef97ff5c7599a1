use Rattle.std.proofs.Common.{arith, ◌≡◌, ◌<◌, refl, sym, ap, subst, ◌∙◌, Some, length, set, slice_get}
use Rattle.std.specs.FinMap.{entries, get}
use Rattle.std.proofs.lemmas.Option.{same_Some, slice_get-get_or}
use Rattle.plan_basics.specs.declared.keys.OpKey.{OpKey}
use Rattle.status_rules.specs.declared.Mark.TheVariants.{Named}
use Rattle.counted_records.specs.plan_status.proofs.LoadedRows.{row_found}
use Rattle.counted_records.specs.plan_status.proofs.RowKeys.{row_lent}
use Rattle.plan_model.specs.Contents.{Contents, Operation}
use Rattle.workstations.specs.Workstations.{Workstation}
use Rattle.start_choice.specs.Shut.{AreShut}
use Rattle.start_choice.specs.StartGates.{Counted, IsCountedIn, counted}
use Rattle.start_choice.specs.Takings.{CanStart, HaveTaken}
use Rattle.start_choice.proofs.GateSteps.{can_start, cannot_start, checked_alike}
use Rattle.start_choice.proofs.Shutting.{told_one}
use Rattle.start_choice.proofs.choice.name_at.Goals as goal
use Rattle.start_choice.proofs.choice.name_at.Goals.{After-see, After-check_start}

-- what counts before
abbrev before : After-see → Counted
before c = counted c.args.records.now c.args.at c.args.given.now c.args.holdings.now.held

-- the row that is seen is there
found : (c : After-see) → get c.args.records.now.contents.operations c.see.result.key.now ≡ Some c.see.result.operation.now
found c = row_found c.args.records.now.contents c.args.place c.see.result.key.now c.see.result.operation.now c.see.ensures.row

found_beside : (c : After-see) → get c.see.result.uncounted.contents.now.operations c.see.result.key.now ≡ Some c.see.result.operation.now
found_beside c = subst (λ (Q : Contents). get Q.operations c.see.result.key.now ≡ Some c.see.result.operation.now) (sym c.see.ensures.uncounted) (found c)

-- and no other
its_key : (c : After-see) (o : OpKey) (op : Operation) → slice_get (entries c.args.records.now.contents.operations) c.args.place ≡ Some (o, op) → c.see.result.key.now ≡ o
its_key c o op at = ap (λ (row : OpKey × Operation). row.0) (same_Some (c.see.result.key.now, c.see.result.operation.now) (o, op) (sym c.see.ensures.row ∙ at))

pub workstation_place_near-station-requires : goal.workstation_place_near-station-requires
workstation_place_near-station-requires c = let p = (goal.at.workstation_place_near-station-requires c).After-see in (p.see.result.key.now, found_beside p)

pub check_start-requires : goal.check_start-requires
check_start-requires c = found_beside (goal.at.check_start-requires c).After-see

module _ (c : After-check_start) where
  -- the index of the operation's workstation
  its_place : (ws : Workstation) × (slice_get (entries c.args.records.now.contents.workstations) c.workstation_place_near-station.result ≡ Some (c.see.result.operation.now.workstation, ws))
  its_place =
      subst (λ (Q : Contents). (ws : Workstation) × (slice_get (entries Q.workstations) c.workstation_place_near-station.result ≡ Some (c.see.result.operation.now.workstation, ws)))
      c.see.ensures.uncounted c.workstation_place_near-station.ensures.at

  within : c.workstation_place_near-station.result < length c.args.given.now
  within = omega (arith, c.workstation_place_near-station.ensures.within, c.requires.shut.sized, ap (λ (Q : Contents). length (entries Q.workstations)) c.see.ensures.uncounted)

-- the operation of this key can't start, where this counts
abbrev Cannot : Counted → OpKey → Type 0
Cannot g o = (row : Operation) → get g.contents.operations o ≡ Some row → (P : Contents) → IsCountedIn g P → ¬ CanStart P o row g.at

pub returns-then-is_err-clause-answered : goal.returns-then-is_err-clause-answered
returns-then-is_err-clause-answered c e op at =
    let p = (goal.at.returns-then-is_err-clause-answered c).After-see in
    let q = (goal.at.returns-then-is_err-clause-answered c).After-check_start in
    let g = before p in
    let key = c.see.result.key.now in
    let row = c.see.result.operation.now in
    let station = c.workstation_place_near-station.result in
    let there = slice_get-get_or c.args.given.now station _ (within q) in
    let told = c.check_start.ensures in
    let one = c.see.follows.holds-at-none in
    let after = counted c.see.follows.lender-at-none c.args.at c.args.given.now c.args.holdings.now.held in
    record {
      cannot = λ its. subst (Cannot g) (its_key p e.key.op op at)
          (cannot_start g row station (its_place q).0 (its_place q).1 _ there key c.check_start.result (sym c.is_err.ensures.value ∙ c.if-is_err.true)
          (checked_alike g row station (its_place q).0 (its_place q).1 _ there key c.see.result.uncounted.contents.now c.see.ensures.uncounted c.check_start.result (told.ok, told.line, told.refused)) (found p));
      same = ap (λ (Q : Contents). record { contents = Q; looks = after.looks; at = g.at; given = g.given; held = g.held }) one.contents;
      looks = (one.fewest, one.most);
    }

pub returns-clause-answered : goal.returns-clause-answered
returns-clause-answered c e op at =
    let p = (goal.at.returns-clause-answered c).After-see in
    let q = (goal.at.returns-clause-answered c).After-check_start in
    let g = before p in
    let key = c.see.result.key.now in
    let row = c.see.result.operation.now in
    let station = c.workstation_place_near-station.result in
    let there = slice_get-get_or c.args.given.now station _ (within q) in
    let told = c.check_start.ensures in
    let one = c.see.follows.holds-at-none in
    let is = its_key p e.key.op op at in
    record {
      valid = c.see.ensures.sound.valid;
      row = row;
      in_plan = subst (λ (z : OpKey). get g.contents.operations z ≡ Some row) is (found p);
      can = subst (λ (z : OpKey). (P : Contents) → IsCountedIn g P → CanStart P z row g.at) is
          (can_start g row station (its_place q).0 (its_place q).1 _ there key c.check_start.result (sym c.is_err.ensures.value ∙ c.if-is_err.false)
          (checked_alike g row station (its_place q).0 (its_place q).1 _ there key c.see.result.uncounted.contents.now c.see.ensures.uncounted c.check_start.result (told.ok, told.line, told.refused)));
      same = (one.contents, refl);
      looks = (one.fewest, one.most);
      given = record {
        place = (station, (its_place q).0, (its_place q).1);
        before = (_, there);
        after = λ most. ap (λ taken. set c.args.given.now station taken) (c.with_operation-taken.ensures most);
      };
      held = subst (λ (z : OpKey). HaveTaken g.held z row.needs Named c.take_needs.new.holdings.held) is c.in_ok-take_needs.ensures.taken;
    }

pub returns-clause-shut : goal.returns-clause-shut
returns-clause-shut c =
    let rows = entries c.args.records.now.contents.workstations in
    let station = c.workstation_place_near-station.result in
    let w = c.index-workstations-station.result in
    let is = c.workstations.ensures.rows ∙ ap (λ (Q : Contents). entries Q.workstations) c.see.ensures.uncounted in
    let within : station < length c.workstations.result.now = omega (arith, c.workstation_place_near-station.ensures.within, ap length c.workstations.ensures.rows) in
    subst (λ (Q : Contents). AreShut (entries Q.workstations) c.args.at (set c.args.given.now station c.with_operation-taken.result) (set c.args.shut.now station c.is_shut.result)) (sym c.see.follows.holds-at-none.contents)
    (told_one rows c.args.at c.args.given.now c.args.shut.now c.requires.shut station w (row_lent c.workstations.result.now rows is station w within c.index-workstations-station.is)
    c.with_operation-taken.result c.is_shut.result c.is_shut.ensures.0)
