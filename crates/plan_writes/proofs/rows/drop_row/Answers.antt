use Rattle.std.proofs.Common.{◌≡◌, inl, inr, refl, sym, ap, subst}
use Rattle.sqlite.specs.Held.{state}
use Rattle.store_schema.specs.StoredPlans.{Held, Stores}
use Rattle.store_schema.specs.WrittenTables.{without_row}
use Rattle.plan_writes.specs.Within.{Rewrites}
use Rattle.plan_writes.proofs.Within.{nothing_done}
use Rattle.plan_writes.proofs.rows.drop_row.Goals as goal

pub returns-in-Interval-clause-written : goal.returns-in-Interval-clause-written
returns-in-Interval-clause-written g c = rw c.in-Interval.is c.drop_interval.ensures.written

pub returns-in-Occurrence-clause-written : goal.returns-in-Occurrence-clause-written
returns-in-Occurrence-clause-written g c = rw c.in-Occurrence.is c.drop_occurrence.ensures.written

pub returns-in-Operation-clause-written : goal.returns-in-Operation-clause-written
returns-in-Operation-clause-written g c = rw c.in-Operation.is c.drop_operation.ensures.written

pub returns-in-Dependency-clause-written : goal.returns-in-Dependency-clause-written
returns-in-Dependency-clause-written g c = rw c.in-Dependency.is c.drop_dependency.ensures.written

pub returns-in-Need-clause-written : goal.returns-in-Need-clause-written
returns-in-Need-clause-written g c = rw c.in-Need.is c.drop_need.ensures.written

pub returns-in-Amount-clause-written : goal.returns-in-Amount-clause-written
returns-in-Amount-clause-written g c = rw c.in-Amount.is c.drop_amount.ensures.written

pub returns-in-Meta-clause-written : goal.returns-in-Meta-clause-written
returns-in-Meta-clause-written g c =
    let now = state g.S.Store c.args.tx.now.conn.now in
    let stays : (held : Held) → without_row c.args.key.now held ≡ held = λ held. elim c.in-Meta.is [
      | inl e ↦ ap (λ k. without_row k held) e
      | inr (inl e) ↦ ap (λ k. without_row k held) e.1
      | inr (inr (inl e)) ↦ ap (λ k. without_row k held) e.1
      | inr (inr (inr e)) ↦ ap (λ k. without_row k held) e.1
    ] in
    nothing_done (Rewrites (without_row c.args.key.now)) now (record { turns = λ held was. subst (Stores now.now) (sym (stays held)) was; schema_stays = refl })
