use Rattle.std.proofs.Common.{arith, ℕ, ◌≡◌, false, length, inl, inr, ap, sym, subst, ◌∙◌}
use Rattle.sqlite.specs.Effect.{Database, IsDatabase}
use Rattle.sqlite.specs.Held.{state}
use Rattle.sqlite.specs.State.{HasCleanDisk}
use Rattle.store_schema.specs.Rows.{IsEmpty}
use Rattle.store_schema.specs.Tables.{no_schema}
use Rattle.store_schema.specs.Schema.{desk_schema}
use Rattle.store_schema.specs.StoredPlans.{Stores, none_held, with_meta}
use Rattle.store_schema.proofs.Empty.{stores_none}
use Rattle.store_schema.specs.Columns.{meta_columns}
use Rattle.plan_writes.proofs.Within.{as_err, then_runs}
use Rattle.plan_writes.specs.Within.{Begins, Grows, Rewrites}
use Rattle.plan_writes.proofs.creation.create_all.Goals as goal

-- eleven tables aren't none, so that something was done
sound : (before between : Database) → IsEmpty no_schema before → Grows no_schema desk_schema before between → IsDatabase between
sound before between empty grew = elim grew.sound [
  | inl is ↦ is
  | inr same ↦ absurd (let e : ◌≡◌ {A = ℕ} 11 0 = sym (ap (λ s. length s.tables) (grew.empty empty).schema_is) ∙ ap (λ (d : Database). length d.schema.tables) same ∙ ap (λ s. length s.tables) empty.schema_is in cc)
]

pub returns-in_err-create_empty-clause-made : goal.returns-in_err-create_empty-clause-made
returns-in_err-create_empty-clause-made g c =
    as_err (Grows no_schema desk_schema) Begins (state g.S.Store c.args.tx.now.conn.now) (state g.S.Store c.create_empty.new.tx.conn.now)
    c.in_err-create_empty.field-0.0 c.from_residual.result c.from_residual.ensures.0 c.in_err-create_empty.ensures.made

pub returns-clause-made : goal.returns-clause-made
returns-clause-made g c =
    let clock = c.first_minute.result in
    let Puts = Rewrites (with_meta (meta_columns 2 false clock)) in
    let mid = state g.S.Store c.create_empty.new.tx.conn.now in
    let new = state g.S.Store c.put_meta.new.tx.conn.now in
    then_runs (Grows no_schema desk_schema) Puts Begins (state g.S.Store c.args.tx.now.conn.now) mid new c.in_ok-create_empty.ensures.made
    (λ before between after grew put. record {
      stores = λ empty. subst (λ m. Stores after (with_meta (meta_columns 2 false m) none_held)) c.first_minute.ensures (put.turns none_held (stores_none between (grew.empty empty) (sound before between empty grew)));
      back = λ e. grew.back (sym put.schema_stays ∙ e);
    })
    c.put_meta.result c.put_meta.ensures.written

pub returns-clause-names : goal.returns-clause-names
returns-clause-names g c clean inside empty =
    let one = c.in_ok-create_empty.ensures.made in
    let late : HasCleanDisk (state g.S.Store c.create_empty.new.tx.conn.now) = omega (arith, clean, c.put_meta.ensures.written.survives.clean) in
    c.put_meta.ensures.names clean (one.inside late inside).0 ((one.made late inside).empty empty).schema_is
