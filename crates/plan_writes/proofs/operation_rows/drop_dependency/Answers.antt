use Rattle.std.proofs.Common.{pos, ◌∷◌, []}
use Rattle.sqlite.specs.Held.{state}
use Rattle.sqlite.specs.declared.types.Value.TheVariants.{Text, Int}
use Rattle.store_schema.specs.declared.texts.TheConstants.{DROP_DEPENDENCY}
use Rattle.store_schema.proofs.Dependencies.{dependency_dropped}
use Rattle.store_schema.specs.WrittenTables.{without_row}
use Rattle.store_schema.specs.plan_drafts.specs.declared.RowKey.TheVariants as key
use Rattle.plan_writes.proofs.Growth.{rewrites_so}
use Rattle.plan_writes.proofs.Texts.{drops_dependency}
use Rattle.plan_writes.proofs.operation_rows.drop_dependency.Goals as goal

pub returns-clause-written : goal.returns-clause-written
returns-clause-written g c =
    let old = state g.S.Store c.args.tx.now.conn.now in
    let new = state g.S.Store c.run_text.new.tx.conn.now in
    let p = c.args.predecessor.now in
    let s = c.args.successor.now in
    rewrites_so (without_row (key.Dependency p s)) DROP_DEPENDENCY.now drops_dependency (Text p.occurrence.app ∷ Int (pos p.occurrence.arrival) ∷ Int (pos p.number) ∷ Text s.occurrence.app ∷ Int (pos s.occurrence.arrival) ∷ Int (pos s.number) ∷ []) old new (dependency_dropped old new p.occurrence.app (pos p.occurrence.arrival) (pos p.number) s.occurrence.app (pos s.occurrence.arrival) (pos s.number)) c.run_text.result
    (λ clean inside. rw (c.letters.ensures, c.as_bytes.ensures.text, c.minute.ensures, c.number.ensures, c.from.ensures, c.letters-2.ensures, c.as_bytes-2.ensures.text, c.minute-2.ensures, c.number-2.ensures, c.from-2.ensures) at (c.run_text.ensures.runs clean inside))
    c.run_text.ensures.survives
