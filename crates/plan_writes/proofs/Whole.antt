-- What runs in a transaction that is then committed.
use Rattle.std.proofs.Common.{◌≡◌, arith, subst, sym, ◌∙◌, false, true, refl, Ok, Err, Result, OnOk, IsTrue, []}
use Rattle.sqlite.specs.Effect.{Database}
use Rattle.sqlite.specs.Held.{Held, state}
use Rattle.sqlite.specs.State.{State, HasCleanDisk, KeepsCounts, Shows, Survives}
use Rattle.sqlite.specs.declared.error.Error.{Error}
use Rattle.sqlite.proofs.Callers.{survives_begin}
use Rattle.sqlite.proofs.StateLemmas.{survives_then}
use Rattle.sqlite_trees.specs.declared.store.Store.{Ghosts}
use Rattle.plan_writes.specs.Within.{IsCommitted, LeavesMade, RunsWithin}

-- what a commit says at Ok
abbrev pub Commits : State → State → Type 0
Commits mid end = IsTrue mid.in_transaction × Shows mid end mid.now mid.now false × KeepsCounts mid end × (end.marks ≡ [])

on_ok : {X E : Type 0} {P Q : Type 0} (r : Result X E) → (P → Q) → OnOk r P → OnOk r Q
on_ok (Ok x) f h = f h
on_ok (Err e) f h = tt

-- what is shown is what was last committed, if the connection is open
abbrev pub IsSettled : State → Type 0
IsSettled s = IsTrue s.is_open → s.now ≡ s.committed

-- a connection, that as a transaction begins, that as a commit ends it, and that which a caller gets back
module _ {S : Type 0} (store : Ghosts S) (Makes : Database → Database → Type 0) (conn began : Held S) (mid : State) (end back : Held S) (begins : began ≡ record conn { in_transaction = true }) (same : end ≡ back)
    (settled : IsSettled (state store conn)) (ran : RunsWithin Makes (state store began) mid (Ok tt)) (survives : Survives mid (state store end) (λ db. db ≡ mid.now.trees)) where
  within : RunsWithin Makes (state store (record conn { in_transaction = true })) mid (Ok tt)
  within = subst (λ h. RunsWithin Makes (state store h) mid (Ok tt)) begins ran

  late : HasCleanDisk (state store end) → HasCleanDisk mid
  late clean = omega (arith, clean, survives.clean)

  made : HasCleanDisk (state store end) → IsTrue (state store conn).is_open → Makes (state store conn).committed mid.now
  made clean was_open = subst (λ db. Makes db mid.now) (settled was_open) (within.made (late clean) refl)

  committed : HasCleanDisk (state store end) → Commits mid (state store end) → IsCommitted Makes (state store conn) (state store end)
  committed clean done =
      let was_open = (within.kept (late clean) refl).was_open done.1.was_open in
      (was_open, done.1.is_open, done.1.now_is ∙ sym done.1.committed_is, subst (Makes (state store conn).committed) (sym done.1.committed_is) (made clean was_open))

  -- at Ok it is committed
  pub whole_ok : {Y : Type 0} (r : Result Y Error) → (HasCleanDisk (state store end) → OnOk r (Commits mid (state store end))) → HasCleanDisk (state store back) → OnOk r (IsCommitted Makes (state store conn) (state store back))
  whole_ok r ok = subst (λ h. HasCleanDisk (state store h) → OnOk r (IsCommitted Makes (state store conn) (state store h))) same (λ clean. on_ok r (committed clean) (ok clean))

  -- a crash finds what there was, or what was made
  pub whole_crash : Survives (state store conn) (state store back) (LeavesMade Makes (state store conn))
  whole_crash = subst (λ h. Survives (state store conn) (state store h) (LeavesMade Makes (state store conn))) same
      (survives_begin store conn (state store end) (LeavesMade Makes (state store conn))
      (survives_then (state store (record conn { in_transaction = true })) mid (state store end) _ _ (LeavesMade Makes (state store conn)) (λ _ db none. absurd none) (λ clean db is. (mid.now, made clean, is)) within.survives survives))
