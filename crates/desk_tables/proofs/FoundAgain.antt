-- What a stop left is found by an opening: the two are a schedule.
use Rattle.std.proofs.Common.{◌≡◌, inl, inr, refl, sym, subst, Option, None, Some, Result, Ok, Err, IfOk, IfErr}
use Rattle.sqlite.specs.Held.{Held as Connected}
use Rattle.sqlite.specs.State.{State as StoreState, HasCleanDisk}
use Rattle.sqlite_trees.specs.Tree.{Trees}
use Rattle.plan_basics.specs.declared.Refusal.{Refusal}
use Rattle.plan_basics.specs.declared.Refusal.TheVariants as refusal
use Rattle.store_schema.specs.declared.texts.Version.{Version}
use Rattle.store_schema.specs.declared.texts.Version.TheVariants.{First, Second}
use Rattle.plan_records.specs.Answer.{accepted}
use Rattle.plan_records.specs.Run.{State, Usable, to_be_reopened, usable}
use Rattle.plan_records.specs.Schedules.{Event, IsDeskState, Leaves, LeavesVersion, damaged, ended, found, nothing, opening, stop, stopped}
use Rattle.desk_tables.specs.Again.{IsFoundAfter, LeavesNoDesk}
use Rattle.desk_tables.specs.Desk.{DeskState, HasTables, HoldsState, TreesHold, TreesHoldIn, state_of}
use Rattle.desk_tables.specs.Stops.{connection_after, number_of, AreLeftBy, AreLeftIn, StopsLeave}
use Rattle.desk_tables.proofs.Answered.{step_legal}

-- ---- what an event leaves after which there is no desk

-- there is none
none_left : (s t : State) (d e : Option Usable) (event : Event) → LeavesNoDesk event → Leaves s d event t e → e ≡ None
none_left s t (Some usable) e (stopped c None) ends h = h.1
none_left s t (Some to_be_reopened) e (stopped c None) ends h = h.1
none_left s t None e (stopped c None) ends h = absurd h
none_left s t (Some usable) e stop ends h = h.1
none_left s t (Some to_be_reopened) e stop ends h = h.1
none_left s t None e stop ends h = h.1
none_left s t None e (opening nothing) ends h = h.1
none_left s t (Some usable) e (opening nothing) ends h = absurd h
none_left s t (Some to_be_reopened) e (opening nothing) ends h = absurd h
none_left s t d e (stopped c (Some v)) ends h = absurd ends
none_left s t d e (ended c reply) ends h = absurd ends
none_left s t d e (opening (found x)) ends h = absurd ends
none_left s t d e (opening damaged) ends h = absurd ends

-- a desk may have the state that is left
legal_left : (s t : State) (d e : Option Usable) (event : Event) → LeavesNoDesk event → IsDeskState s → Leaves s d event t e → IsDeskState t
legal_left s t (Some usable) e (stopped c None) ends legal (inl same, none) = subst IsDeskState (sym same) legal
legal_left s t (Some usable) e (stopped c None) ends legal (inr (named, step), none) = step_legal s t c (accepted named) legal step
legal_left s t (Some to_be_reopened) e (stopped c None) ends legal h = subst IsDeskState (sym h.0) legal
legal_left s t None e (stopped c None) ends legal h = absurd h
legal_left s t (Some usable) e stop ends legal h = subst IsDeskState (sym h.0) legal
legal_left s t (Some to_be_reopened) e stop ends legal h = subst IsDeskState (sym h.0) legal
legal_left s t None e stop ends legal h = subst IsDeskState (sym h.0) legal
legal_left s t None e (opening nothing) ends legal h = subst IsDeskState (sym h.0) legal
legal_left s t (Some usable) e (opening nothing) ends legal h = absurd h
legal_left s t (Some to_be_reopened) e (opening nothing) ends legal h = absurd h
legal_left s t d e (stopped c (Some v)) ends legal h = absurd ends
legal_left s t d e (ended c reply) ends legal h = absurd ends
legal_left s t d e (opening (found x)) ends legal h = absurd ends
legal_left s t d e (opening damaged) ends legal h = absurd ends

-- tables of the second version stay such
second_stays : (s : State) (event : Event) → LeavesVersion s 2 event 2
second_stays s (ended c reply) = (refl, refl)
second_stays s (stopped c d) = (refl, refl)
second_stays s stop = refl
second_stays s (opening (found x)) = refl
second_stays s (opening damaged) = refl
second_stays s (opening nothing) = inl refl

-- what is left of a desk's tables is left of those of the second version
left_in_second : (s : State) (d : Option Usable) (event : Event) (trees : Trees) → AreLeftBy s d event trees → AreLeftIn Second s d event trees
left_in_second s d event trees (t, e, leaves, held) = (t, e, Second, leaves, second_stays s event, held)

-- ---- an opening of it

-- the two are a schedule
after : (version : Version) (s : State) (d : Option Usable) (event : Event) (t : State) (e : Option Usable) (left : Version) → Leaves s d event t e → LeavesVersion s (number_of version) event (number_of left) → e ≡ None
    → (x : State) (now : StoreState) → IsDeskState t → x ≡ t → HasTables now → HoldsState x now.committed → IsFoundAfter version s d event x now
after version s d event t e left leaves versions none x now legal is has holds = record {
  schedule = (record { version = number_of left; stored = t; desk = None }, subst (Leaves s d event t) none leaves, versions, (record { version = 2; stored = x; desk = Some usable }, (legal, is, is, refl), refl, refl));
  has_tables = has;
  holds = holds;
}

-- that an opening found it
found_is : (x s : State) (trees : Trees) → AreLeftBy s None (opening (found x)) trees → x ≡ s
found_is x s trees (t, e, leaves, held) = leaves.1

found_first_is : (x s : State) (trees : Trees) → AreLeftIn First s None (opening (found x)) trees → x ≡ s
found_first_is x s trees (t, e, left, leaves, versions, held) = leaves.1

-- a connection, `was`, is had again, `again`, to what a stop of it may leave
module _ {S : Type 0} (shown : Connected S → StoreState) (was again : StoreState) (may : HasCleanDisk again → was.may_leave again.committed.trees) (early : HasCleanDisk again → HasCleanDisk was) where
  module _ (desk : DeskState S)
      (finds : HasCleanDisk (shown desk.conn) → (s : State) → IsDeskState s → TreesHold s again.committed.trees → HasTables (shown desk.conn) × AreLeftBy s None (opening (found (state_of desk))) (shown desk.conn).committed.trees)
      (finds_first : HasCleanDisk (shown desk.conn) → (s : State) → IsDeskState s → TreesHoldIn First s again.committed.trees → HasTables (shown desk.conn) × AreLeftIn First s None (opening (found (state_of desk))) (shown desk.conn).committed.trees)
      (tables : HasCleanDisk (shown desk.conn) → HasTables (shown desk.conn) → HoldsState (state_of desk) (shown desk.conn).committed) where
    found_in : (left : Version) (t : State) → HasCleanDisk (shown desk.conn) → IsDeskState t → TreesHoldIn left t again.committed.trees → HasTables (shown desk.conn) × (state_of desk ≡ t)
    found_in First t clean legal held = let it = finds_first clean t legal held in (it.0, found_first_is (state_of desk) t (shown desk.conn).committed.trees it.1)
    found_in Second t clean legal held = let it = finds clean t legal held in (it.0, found_is (state_of desk) t (shown desk.conn).committed.trees it.1)

    found_left : (version : Version) (s : State) (d : Option Usable) (event : Event) → IsDeskState s → LeavesNoDesk event → AreLeftIn version s d event again.committed.trees → HasCleanDisk (shown desk.conn) → IsFoundAfter version s d event (state_of desk) (shown desk.conn)
    found_left version s d event legal ends (t, e, left, leaves, versions, held) clean =
        let sound = legal_left s t d e event ends legal leaves in
        let it = found_in left t clean sound held in
        after version s d event t e left leaves versions (none_left s t d e event ends leaves) (state_of desk) (shown desk.conn) sound it.1 it.0 (tables clean it.0)

  never_left : (version : Version) (s : State) (d : Option Usable) (event : Event) → IsDeskState s → LeavesNoDesk event → ((t : State) → IsDeskState t → (left : Version) → ¬ TreesHoldIn left t again.committed.trees) → ¬ AreLeftIn version s d event again.committed.trees
  never_left version s d event legal ends none (t, e, left, leaves, versions, held) = none t (legal_left s t d e event ends legal leaves) left held

  -- so it is told of what came of an opening
  pub opened_found : (r : Result (DeskState S) (Refusal × Connected S)) → (HasCleanDisk (shown (connection_after r)) → HasCleanDisk again)
      → IfOk r (λ desk. HasCleanDisk (shown desk.conn) → (s : State) → IsDeskState s → TreesHold s again.committed.trees → HasTables (shown desk.conn) × AreLeftBy s None (opening (found (state_of desk))) (shown desk.conn).committed.trees)
      → IfOk r (λ desk. HasCleanDisk (shown desk.conn) → (s : State) → IsDeskState s → TreesHoldIn First s again.committed.trees → HasTables (shown desk.conn) × AreLeftIn First s None (opening (found (state_of desk))) (shown desk.conn).committed.trees)
      → IfOk r (λ desk. HasCleanDisk (shown desk.conn) → HasTables (shown desk.conn) → HoldsState (state_of desk) (shown desk.conn).committed)
      → IfOk r (λ desk. HasCleanDisk (shown desk.conn) → (version : Version) → (s : State) → (d : Option Usable) → (event : Event) → IsDeskState s → LeavesNoDesk event → StopsLeave was (AreLeftIn version s d event) → IsFoundAfter version s d event (state_of desk) (shown desk.conn))
  opened_found (Ok desk) late finds finds_first tables = λ clean version s d event legal ends stops.
      found_left desk finds finds_first tables version s d event legal ends (stops (early (late clean)) again.committed.trees (may (late clean))) clean
  opened_found (Err e) late finds finds_first tables = tt

  pub opened_undamaged : (r : Result (DeskState S) (Refusal × Connected S)) → (HasCleanDisk (shown (connection_after r)) → HasCleanDisk again)
      → IfErr r (λ e. e.0 ≡ refusal.Damaged → HasCleanDisk (shown e.1) → (s : State) → IsDeskState s → (version : Version) → ¬ TreesHoldIn version s again.committed.trees)
      → IfErr r (λ e. e.0 ≡ refusal.Damaged → HasCleanDisk (shown e.1) → (version : Version) → (s : State) → (d : Option Usable) → (event : Event) → IsDeskState s → LeavesNoDesk event → ¬ StopsLeave was (AreLeftIn version s d event))
  opened_undamaged (Ok desk) late none = tt
  opened_undamaged (Err (why, conn)) late none = λ is clean version s d event legal ends stops.
      never_left version s d event legal ends (λ t sound left. none is clean t sound left) (stops (early (late clean)) again.committed.trees (may (late clean)))

-- what is said of both versions is said of the second
pub found_in_second : {S : Type 0} (shown : Connected S → StoreState) (was : StoreState) (r : Result (DeskState S) (Refusal × Connected S))
    → IfOk r (λ desk. HasCleanDisk (shown desk.conn) → (version : Version) → (s : State) → (d : Option Usable) → (event : Event) → IsDeskState s → LeavesNoDesk event → StopsLeave was (AreLeftIn version s d event) → IsFoundAfter version s d event (state_of desk) (shown desk.conn))
    → IfOk r (λ desk. HasCleanDisk (shown desk.conn) → (s : State) → (d : Option Usable) → (event : Event) → IsDeskState s → LeavesNoDesk event → StopsLeave was (AreLeftBy s d event) → IsFoundAfter Second s d event (state_of desk) (shown desk.conn))
found_in_second shown was (Ok desk) told = λ clean s d event legal ends stops. told clean Second s d event legal ends (λ early trees may. left_in_second s d event trees (stops early trees may))
found_in_second shown was (Err e) told = tt
