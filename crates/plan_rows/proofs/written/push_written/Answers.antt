use Rattle.std.proofs.Common.{arith, sym, subst}
use Rattle.std.proofs.lemmas.List.Elements.{Contains-get_or}
use Rattle.std.specs.Prelude.{Contains}
use Rattle.plan_rows.proofs.WrittenOfEach.{written_all, written_next, written_none}
use Rattle.plan_rows.proofs.written.push_written.Goals as goal

pub loop-item-init : goal.loop-item-init
loop-item-init g c = written_none (λ x r. g.F.Fn.post c.args.write (x, tt) r) c.args.items.now c.args.rows.now.items

pub write-requires : goal.write-requires
write-requires g c =
    let item = c.item-item.result in
    c.requires item (subst (Contains c.args.items.now) (sym c.item-item.is) (Contains-get_or c.args.items.now c.loop-item.item-index item c.loop-item-test.true))

pub loop-item-preserved : goal.loop-item-preserved
loop-item-preserved g c =
    let lt = c.loop-item-test.true in
    written_next (λ x r. g.F.Fn.post c.args.write (x, tt) r) c.args.items.now c.loop-item.item-index c.args.rows.now.items c.loop-item.rows.items c.push_one.new.rows.items c.item-item.result c.write.result (omega (arith, lt)) c.item-item.is c.loop-item.invariant c.write.ensures c.in_ok-push_one.ensures

pub returns : goal.returns
returns g c =
    let ge = c.loop-item-test.false in
    written_all (λ x r. g.F.Fn.post c.args.write (x, tt) r) c.args.items.now c.loop-item.item-index c.args.rows.now.items c.loop-item.rows.items (omega (arith, ge)) c.loop-item.invariant
