use Rattle.std.proofs.Common.{◌≡◌, sym, subst, true, false, Contains, length}
use Rattle.plan_model.specs.declared.moves.Marking.{Marking}
use Rattle.small_requests.proofs.MadeEdits.{busy_few, changes_so, idle_few, is_edit_for, nothing_changes, nothing_edits, nothing_worked, worked_so}
use Rattle.small_requests.proofs.edits.edit_of.Goals as goal
use Rattle.small_requests.proofs.edits.edit_of.Goals.{After-is_idle_at_one}
use Rattle.small_requests.specs.Idle.{IsIdle}

pub noted_edit-requires-clause-clear : goal.noted_edit-requires-clause-clear
noted_edit-requires-clause-clear c = (c.requires.clear.0, c.requires.clear.2)

-- a flag that stands so already
idle : (c : After-is_idle_at_one) → c.is_idle_at_one.result ≡ true → (m : Marking) × Contains c.in_ok-edit.edit.marks.items m × IsIdle c.args.what.now m
idle c told = let found = c.is_idle_at_one.ensures.idle told in (found.0, subst (λ ms. Contains ms found.0) c.deref.ensures.value found.1, found.2)

-- none does
busy : (c : After-is_idle_at_one) → c.is_idle_at_one.result ≡ false → (m : Marking) → Contains c.in_ok-edit.edit.marks.items m → ¬ IsIdle c.args.what.now m
busy c told m has = c.is_idle_at_one.ensures.others told m (subst (λ ms. Contains ms m) (sym c.deref.ensures.value) has)

pub returns-then-is_idle_at_one-clause-edit : goal.returns-then-is_idle_at_one-clause-edit
returns-then-is_idle_at_one-clause-edit c = nothing_edits c.args.records.now.contents c.nothing_edited.result c.nothing_edited.ensures c.uncounted.ensures.sound

pub returns-then-is_idle_at_one-clause-changes : goal.returns-then-is_idle_at_one-clause-changes
returns-then-is_idle_at_one-clause-changes c =
    let k : After-is_idle_at_one = (goal.at.returns-then-is_idle_at_one-clause-changes c).After-is_idle_at_one in
    let m = idle k c.if-is_idle_at_one.true in
    nothing_changes c.args.records.now.contents c.requires.clear.0 c.args.what.now c.in_ok-edit.edit c.nothing_edited.result c.requires.clear.2 c.in_ok-edit.ensures.noted m.0 m.1 m.2 c.nothing_edited.ensures

pub returns-then-is_idle_at_one-clause-worked : goal.returns-then-is_idle_at_one-clause-worked
returns-then-is_idle_at_one-clause-worked c =
    let k : After-is_idle_at_one = (goal.at.returns-then-is_idle_at_one-clause-worked c).After-is_idle_at_one in
    let m = idle k c.if-is_idle_at_one.true in
    nothing_worked c.args.records.now.contents c.requires.clear.0 c.args.what.now c.in_ok-edit.edit c.nothing_edited.result c.requires.clear.2 c.in_ok-edit.ensures.noted m.0 m.1 m.2 c.nothing_edited.ensures

pub returns-then-is_idle_at_one-clause-most : goal.returns-then-is_idle_at_one-clause-most
returns-then-is_idle_at_one-clause-most c =
    let k : After-is_idle_at_one = (goal.at.returns-then-is_idle_at_one-clause-most c).After-is_idle_at_one in
    let m = idle k c.if-is_idle_at_one.true in
    idle_few c.args.records.now.contents c.requires.clear.0 c.args.what.now c.in_ok-edit.edit c.nothing_edited.result c.requires.clear.2 c.in_ok-edit.ensures.noted m.0 m.1 m.2 c.nothing_edited.ensures _ _ c.in_ok-edit.ensures.most

pub returns-else-is_idle_at_one-clause-edit : goal.returns-else-is_idle_at_one-clause-edit
returns-else-is_idle_at_one-clause-edit c =
    is_edit_for c.args.records.now.contents c.requires.clear.0 c.args.what.now c.in_ok-edit.edit c.requires.small c.requires.clear.2 c.in_ok-edit.ensures.noted c.uncounted.ensures.sound c.requires.clear.1

pub returns-else-is_idle_at_one-clause-changes : goal.returns-else-is_idle_at_one-clause-changes
returns-else-is_idle_at_one-clause-changes c =
    changes_so c.args.records.now.contents c.requires.clear.0 c.args.what.now c.in_ok-edit.edit c.requires.small c.requires.clear.2 c.in_ok-edit.ensures.noted

pub returns-else-is_idle_at_one-clause-worked : goal.returns-else-is_idle_at_one-clause-worked
returns-else-is_idle_at_one-clause-worked c =
    let k : After-is_idle_at_one = (goal.at.returns-else-is_idle_at_one-clause-worked c).After-is_idle_at_one in
    worked_so c.args.records.now.contents c.requires.clear.0 c.args.what.now c.in_ok-edit.edit c.requires.small c.requires.clear.2 c.in_ok-edit.ensures.noted c.uncounted.ensures.sound (busy k c.if-is_idle_at_one.false)

pub returns-else-is_idle_at_one-clause-most : goal.returns-else-is_idle_at_one-clause-most
returns-else-is_idle_at_one-clause-most c = busy_few (length c.in_ok-edit.edit.places.items) _ _ c.in_ok-edit.ensures.most
