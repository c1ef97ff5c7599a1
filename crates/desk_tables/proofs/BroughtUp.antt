-- What reading the tables and then making those of the first version those of the second leaves.
use Rattle.std.proofs.Common.{◌≡◌, ◌≢◌, inl, inr, refl, sym, ap, subst, ◌∙◌, arith, IfErr, IsTrue, Err, Ok, Result}
use Rattle.std.specs.Result.{IsErrAnd}
use Rattle.sqlite.specs.Effect.{Database}
use Rattle.sqlite.specs.State.{State as StoreState, HasCleanDisk, KeepsCommit, Survives}
use Rattle.sqlite.proofs.StateLemmas.{survives_then, survives_weaker}
use Rattle.plan_basics.specs.declared.Refusal.{Refusal}
use Rattle.plan_basics.specs.declared.Refusal.TheVariants as refusal
use Rattle.store_reads.specs.Reads.{OnlyReads}
use Rattle.store_schema.specs.Schema.{first_schema, schema_of}
use Rattle.store_schema.specs.declared.texts.Version.{Version}
use Rattle.store_schema.specs.declared.texts.Version.TheVariants.{First, Second}
use Rattle.plan_records.specs.Run.{State}
use Rattle.plan_records.specs.Schedules.{IsDeskState}
use Rattle.desk_tables.specs.Desk.{HasFirstTables, HasTables, HoldsFirstState, HoldsNoStateIn, HoldsState, HoldsStateIn, IsClean, TreesHold}
use Rattle.desk_tables.specs.Opening.{IsOpenedFirst, MayBringUp}
use Rattle.desk_tables.proofs.Held.{brought_up}
use Rattle.plan_writes.specs.Upgrading.{Upgrades}
use Rattle.plan_writes.specs.Within.{IsCommitted, IsUndone, LeavesMade}
use Rattle.plan_writes.proofs.ReadFirst.{committed_since}

-- an error that is handed on
pub handed_on : {T E : Type 0} (A : E → Type 0) (r : Result T E) (e : E) → IsErrAnd r (λ y. y ≡ e) → A e → IfErr r A
handed_on A (Ok x) e same a = tt
handed_on A (Err y) e same a = subst A (sym same) a

-- nothing is committed where only is read
pub nothing_brought : (old new : StoreState) → OnlyReads old new → Survives old new (MayBringUp old)
nothing_brought old new reads = survives_weaker old new (λ _. ⊥) (MayBringUp old) (λ _ trees none. absurd none) reads.survives

-- the tables were read, `mid`, and those of the first version were made those of the second
module _ (old mid new : StoreState) (s : State) (named : Version) (reads : OnlyReads old mid) (is_open : HasCleanDisk mid → IsTrue mid.is_open)
    (tables : IsClean mid → (version : Version) → mid.committed.schema ≡ schema_of version → (named ≡ version) × HoldsStateIn version s mid.committed) where
  -- what the first version's tables held
  held_first : HasCleanDisk mid → HasFirstTables old → HoldsFirstState s old.committed
  held_first clean has =
      let same = (reads.kept clean).committed (is_open clean) in
      subst (HoldsFirstState s) same (tables (clean, is_open clean) First (ap (λ (db : Database). db.schema) same ∙ has)).1

  module _ (survives : Survives mid new (LeavesMade (Upgrades s.plan.loaded s.plan.clock) mid)) where
    late : HasCleanDisk new → HasCleanDisk mid
    late clean = let it : HasCleanDisk mid = omega (arith, clean, survives.clean) in it

    -- a desk's tables after it
    pub tables_brought : IsCommitted (Upgrades s.plan.loaded s.plan.clock) mid new → HasCleanDisk new → HasTables new → HoldsState s new.committed
    tables_brought done clean has =
        let back = done.3.back has in
        brought_up s mid.committed new.committed done.3 (tables (late clean, is_open (late clean)) First back).1

    pub first_brought : IsCommitted (Upgrades s.plan.loaded s.plan.clock) mid new → HasCleanDisk new → HasFirstTables old → IsOpenedFirst s old new
    first_brought done clean has = record {
      held = held_first (late clean) has;
      committed = committed_since (Upgrades s.plan.loaded s.plan.clock) old mid new reads.kept reads.survives survives clean done;
    }

    -- what a crash finds
    pub brought_survives : IsDeskState s → Survives old new (MayBringUp old)
    brought_survives legal = survives_then old mid new (λ _. ⊥) (LeavesMade (Upgrades s.plan.loaded s.plan.clock) mid) (MayBringUp old) (λ clean trees none. absurd none)
        (λ clean trees made. (
          s,
          legal,
          λ was_open has.
              let early = late clean in
              let up = made.1 (is_open early) in
              let same = (reads.kept early).committed (is_open early) in
              let held = held_first early has in
              (held, (made.0, brought_up s mid.committed made.0 up (subst (HoldsFirstState s) (sym same) held), made.2)),
        ))
        reads.survives survives

-- whatever the version that was read: tables of the second stay as they are
module _ (old mid new : StoreState) (s : State) (named : Version) (reads : OnlyReads old mid) (is_open : HasCleanDisk mid → IsTrue mid.is_open)
    (tables : IsClean mid → (version : Version) → mid.committed.schema ≡ schema_of version → (named ≡ version) × HoldsStateIn version s mid.committed)
    (stays : named ≡ Second → new ≡ mid) (survives : named ≡ First → Survives mid new (LeavesMade (Upgrades s.plan.loaded s.plan.clock) mid)) where
  read_only : named ≡ Second → OnlyReads old new
  read_only is = subst (OnlyReads old) (sym (stays is)) reads

  pub late_both : HasCleanDisk new → HasCleanDisk mid
  late_both clean = by named refl
    where
      by : (v : Version) → named ≡ v → HasCleanDisk mid
      by First is = late old mid new s named reads is_open tables (survives is) clean
      by Second is = subst HasCleanDisk (stays is) clean

  pub survives_both : IsDeskState s → Survives old new (MayBringUp old)
  survives_both legal = by named refl
    where
      by : (v : Version) → named ≡ v → Survives old new (MayBringUp old)
      by First is = brought_survives old mid new s named reads is_open tables (survives is) legal
      by Second is = nothing_brought old new (read_only is)

  -- where the desk's tables were read, they stay
  pub reads_both : named ≡ Second → OnlyReads old new
  reads_both = read_only

  -- it went well
  module _ (done : named ≡ First → HasCleanDisk new → IsCommitted (Upgrades s.plan.loaded s.plan.clock) mid new) where
    pub open_both : HasCleanDisk new → IsTrue new.is_open
    open_both clean = by named refl
      where
        by : (v : Version) → named ≡ v → IsTrue new.is_open
        by First is = (done is clean).1
        by Second is = subst (λ (z : StoreState). IsTrue z.is_open) (sym (stays is)) (is_open (late_both clean))

    pub tables_both : HasCleanDisk new → HasTables new → HoldsState s new.committed
    tables_both clean has = by named refl
      where
        by : (v : Version) → named ≡ v → HoldsState s new.committed
        by First is = tables_brought old mid new s named reads is_open tables (survives is) (done is clean) clean has
        by Second is =
            let early = late_both clean in
            subst (λ (z : StoreState). HoldsState s z.committed) (sym (stays is)) (tables (early, is_open early) Second (subst HasTables (stays is) has)).1

    pub first_both : HasCleanDisk new → HasFirstTables old → IsOpenedFirst s old new
    first_both clean has = by named refl
      where
        by : (v : Version) → named ≡ v → IsOpenedFirst s old new
        by First is = first_brought old mid new s named reads is_open tables (survives is) (done is clean) clean has
        by Second is =
            let early = late_both clean in
            let same = (reads.kept early).committed (is_open early) in
            let other : Second ≡ First = sym is ∙ (tables (early, is_open early) First (ap (λ (db : Database). db.schema) same ∙ has)).0 in
            absurd cc

  -- whatever came of it, the connection was open if it is
  pub kept_both : HasCleanDisk new → IsTrue old.is_open
  kept_both clean = let early = late_both clean in (reads.kept early).was_open (is_open early)

  -- it was refused
  module _ (never : named ≡ Second → ⊥) (undone : named ≡ First → HasCleanDisk new → IsTrue new.is_open → IsUndone mid new) where
    back : IsClean new → new.committed ≡ mid.committed
    back clean = by named refl
      where
        by : (v : Version) → named ≡ v → new.committed ≡ mid.committed
        by First is = (undone is clean.0 clean.1).2
        by Second is = absurd (never is)

    pub undone_both : IsClean new → new.committed ≡ old.committed
    undone_both clean = let early = late_both clean.0 in back clean ∙ (reads.kept early).committed (is_open early)

    -- for a name: then the tables are none of a version
    pub named_both : (IsTrue new.is_open → mid.committed.schema ≢ first_schema) → IsClean new → (version : Version) → new.committed.schema ≡ schema_of version → ⊥
    named_both taken clean version has =
        let early = late_both clean.0 in
        let own : mid.committed.schema ≡ schema_of version = ap (λ (db : Database). db.schema) (sym (back clean)) ∙ has in
        by version own (tables (early, is_open early) version own).0
      where
        by : (v : Version) → mid.committed.schema ≡ schema_of v → named ≡ v → ⊥
        by First own is = taken clean.1 own
        by Second own is = never is

    -- so no state of one is held where that is told
    pub told_both : (e : Refusal) → (e ≡ refusal.Damaged → HasCleanDisk new → IsTrue new.is_open → mid.committed.schema ≢ first_schema) → e ≡ refusal.Damaged → IsClean new → (version : Version) → new.committed.schema ≡ schema_of version → HoldsNoStateIn version new.committed
    told_both e taken told clean version has = absurd (named_both (taken told clean.0) clean version has)
