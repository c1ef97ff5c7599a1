use Rattle.std.proofs.Common.{◌≡◌, ◌∷◌, [], length, refl, sym, ap, subst, ◌∙◌, arith}
use Rattle.plan_basics.specs.Intervals.{IsInterval}
use Rattle.store_schema.specs.StoredPlans.{interval_row}
use Rattle.store_schema.specs.Columns.{interval_columns}
use Rattle.store_reads.proofs.RecordLaws.{at, whole, no_interval}
use Rattle.store_reads.proofs.decoding.records.read_interval.Goals as goal

pub returns-in_err-servers : goal.returns-in_err-servers
returns-in_err-servers c = rw c.from_residual-in_err-servers.ensures (no_interval c.args.row.now (λ w x named legal is. c.in_err-servers.ensures x.servers (omega (arith, legal.servers), at c.args.row.now (interval_row (interval_columns w x)) 3 is)))

pub returns-in_err-r1 : goal.returns-in_err-r1
returns-in_err-r1 c = rw c.from_residual-in_err-r1.ensures (no_interval c.args.row.now (λ w x named legal is. c.in_err-r1.ensures x.r1 (omega (arith, legal.fixed.0), at c.args.row.now (interval_row (interval_columns w x)) 4 is)))

pub returns-in_err-r2 : goal.returns-in_err-r2
returns-in_err-r2 c = rw c.from_residual-in_err-r2.ensures (no_interval c.args.row.now (λ w x named legal is. c.in_err-r2.ensures x.r2 (omega (arith, legal.fixed.1), at c.args.row.now (interval_row (interval_columns w x)) 5 is)))

pub returns : goal.returns
returns c =
    let same = c.in_ok-interval.ensures.value in (
      refl,
      (c.in_ok-ws.ensures.0, subst IsInterval (sym same) (c.in_ok-interval.ensures.some.0 refl)),
      whole 6 c.args.row.now (let long : c.column_count.result ≡ length c.args.row.now = c.column_count.ensures in omega (arith, c.if-column_count-ne7.false, long)) ∙ (λ i. c.in_ok-ws.ensures.1 i ∷ c.in_ok-from.ensures.1 i ∷ c.in_ok-end.ensures.1 i ∷ c.in_ok-servers.ensures.1 i ∷ c.in_ok-r1.ensures.1 i ∷ c.in_ok-r2.ensures.1 i ∷ [])
          ∙ ap (λ x. interval_row (interval_columns c.in_ok-ws.ws x)) (sym same),
    )
