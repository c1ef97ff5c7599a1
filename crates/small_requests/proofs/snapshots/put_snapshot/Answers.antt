use Rattle.std.proofs.Common.{◌≡◌, sym, ap, subst, ◌∙◌, arith, ℕ, List, length}
use Rattle.std.specs.Vec.{with_items}
use Rattle.plan_model.specs.Contents.{Contents}
use Rattle.plan_checks.specs.derived_figures.specs.ByStatuses.{AreEntriesBy}
use Rattle.plan_checks.specs.derived_figures.specs.Entries.{CanBeRelisted}
use Rattle.small_requests.proofs.Overwritten.{led_there, length-overwritten, lent_within, vector_overwritten, vector_written}
use Rattle.small_requests.proofs.snapshots.put_snapshot.Goals as goal
use Rattle.small_requests.proofs.snapshots.put_snapshot.Goals.{After-relist_all}
use Rattle.ready_list.specs.Entries.{ReadyEntries}
use Rattle.ready_list.specs.declared.entry.ReadyEntry.{ReadyEntry}
use Rattle.status_rules.specs.declared.Status.{Status}

pub put_at-requires : goal.put_at-requires
put_at-requires c =
    let to = c.requires.makes.0 in
    lent_within c.args.snapshot.now.wait_states.items c.args.columns.now.wait_states.items to.wait_states.items c.requires.makes.1.wait_states c.deref.result.now c.deref_mut.result.now c.deref.ensures.value c.deref_mut.ensures.value

pub put_at-requires-2 : goal.put_at-requires-2
put_at-requires-2 c =
    let to = c.requires.makes.0 in
    lent_within c.args.snapshot.now.standings.items c.args.columns.now.standings.items to.standings.items c.requires.makes.1.standings c.deref-2.result.now c.deref_mut-2.result.now c.deref-2.ensures.value c.deref_mut-2.ensures.value

-- the statuses, and those that are written, as they are lent
lent : (P : Contents) (x : List (ℕ × Status)) (v : List Status) (r : ReadyEntries) (es : List ReadyEntry) → CanBeRelisted P v r x es → (x' : List (ℕ × Status)) → x' ≡ x → (v' : List Status) → v' ≡ v → CanBeRelisted P v' r x' es
lent P x v r es can x' x_is v' v_is = subst (λ ys. CanBeRelisted P v' r ys es) (sym x_is) (subst (λ vs. CanBeRelisted P vs r x es) (sym v_is) can)

pub relist_all-requires : goal.relist_all-requires
relist_all-requires c =
    let x = c.args.snapshot.now.statuses.items in
    let v = c.args.columns.now.statuses.items in
    (c.requires.listed.0, lent c.requires.listed.0 x v c.args.ready.now c.args.entries.now c.requires.listed.1 c.deref-3.result.now c.deref-3.ensures.value c.deref_mut-3.result.now c.deref_mut-3.ensures.value)

pub put_at-requires-3 : goal.put_at-requires-3
put_at-requires-3 c =
    let to = c.requires.makes.0 in
    lent_within c.args.snapshot.now.tallies.items c.args.columns.now.tallies.items to.tallies.items c.requires.makes.1.tallies c.deref-4.result.now c.deref_mut-4.result.now c.deref-4.ensures.value c.deref_mut-4.ensures.value

-- the statuses that are written stand in the columns
written : (c : After-relist_all) → (with_items c.args.columns.now.statuses c.relist_all.new.statuses).items ≡ c.relist_all.new.statuses
written c = vector_written c.args.snapshot.now.statuses.items c.args.columns.now.statuses c.deref-3.result.now c.deref_mut-3.result.now c.relist_all.new.statuses c.deref-3.ensures.value c.deref_mut-3.ensures.value c.relist_all.ensures.statuses

pub returns-clause-ready : goal.returns-clause-ready
returns-clause-ready c P can =
    let stand = written (goal.at.returns-clause-ready c).After-relist_all in
    let x = c.args.snapshot.now.statuses.items in
    let l = c.args.columns.now in
    let size = ap length (vector_overwritten x l.statuses c.deref-3.result.now c.deref_mut-3.result.now c.relist_all.new.statuses c.deref-3.ensures.value c.deref_mut-3.ensures.value c.relist_all.ensures.statuses) ∙ length-overwritten x l.statuses.items in
    let can_lent = lent P x l.statuses.items c.args.ready.now c.args.entries.now can c.deref-3.result.now c.deref-3.ensures.value c.deref_mut-3.result.now c.deref_mut-3.ensures.value in
    record {
      size = size ∙ can.size;
      listed = subst (λ ss. AreEntriesBy P ss c.relist_all.new.ready.entries) (sym stand) (c.relist_all.ensures.listed P can_lent);
      room = omega (arith, can.room, c.relist_all.ensures.room);
    }

pub returns-clause-alike : goal.returns-clause-alike
returns-clause-alike c to makes =
    let x = c.args.snapshot.now in
    let l = c.args.columns.now in
    record {
      wait_states = led_there x.wait_states.items l.wait_states to.wait_states.items makes.wait_states c.deref.result.now c.deref_mut.result.now c.put_at.new.list c.deref.ensures.value c.deref_mut.ensures.value c.put_at.ensures;
      standings = led_there x.standings.items l.standings to.standings.items makes.standings c.deref-2.result.now c.deref_mut-2.result.now c.put_at-2.new.list c.deref-2.ensures.value c.deref_mut-2.ensures.value c.put_at-2.ensures;
      statuses = led_there x.statuses.items l.statuses to.statuses.items makes.statuses c.deref-3.result.now c.deref_mut-3.result.now c.relist_all.new.statuses c.deref-3.ensures.value c.deref_mut-3.ensures.value c.relist_all.ensures.statuses;
      tallies = led_there x.tallies.items l.tallies to.tallies.items makes.tallies c.deref-4.result.now c.deref_mut-4.result.now c.put_at-3.new.list c.deref-4.ensures.value c.deref_mut-4.ensures.value c.put_at-3.ensures;
    }
