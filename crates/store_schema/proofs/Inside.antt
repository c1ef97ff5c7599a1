-- What a text leaves that runs in a transaction.
use Rattle.std.proofs.Common.{ℕ, List, true, inl, inr, Ok, Err, Result, OnOk}
use Rattle.sqlite.specs.Order.{Row}
use Rattle.sqlite.specs.State.{State, Executes, ExecutesInside, Shows, KeepsCommit}
use Rattle.sqlite.specs.declared.error.Error.{Error}

-- what an executed text makes is made in the transaction
pub ran_inside : (old new : State) (sql : List ℕ) (params : Row) (r : Result ℕ Error) (P : Type 0) → ((count : ℕ) → Executes sql params old new (Ok count) → P) → ExecutesInside 0 sql params old new r → OnOk r P
ran_inside old new sql params (Ok count) P then ran = then count ran.0
ran_inside old new sql params (Err e) P then ran = tt

-- the transaction goes on, over what it began with
pub stays_inside : (old new : State) (sql : List ℕ) (params : Row) (r : Result ℕ Error) → ExecutesInside 0 sql params old new r → OnOk r (Shows old new new.now old.committed true)
stays_inside old new sql params (Ok count) ran = ran.1
stays_inside old new sql params (Err e) ran = tt

-- nothing is committed, accepted or refused
pub kept_inside : (old new : State) (sql : List ℕ) (params : Row) (r : Result ℕ Error) → ExecutesInside 0 sql params old new r → KeepsCommit old new
kept_inside old new sql params (Ok count) ran = record { was_open = λ _. ran.1.was_open; committed = λ _. ran.1.committed_is }
kept_inside old new sql params (Err e) (inl (x, inl same)) = record { was_open = λ _. same.0.was_open; committed = λ _. same.0.committed_is }
kept_inside old new sql params (Err e) (inl (x, inr back)) = record { was_open = back.was_open; committed = λ is_open. (back.undone is_open).1 }
kept_inside old new sql params (Err e) (inr barred) = record { was_open = λ _. barred.2.0.was_open; committed = λ _. barred.2.0.committed_is }
