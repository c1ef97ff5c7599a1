use Rattle.std.proofs.Common.{arith, sym, subst}
use Rattle.std.proofs.lemmas.List.Elements.{Contains-get_or}
use Rattle.std.specs.Prelude.{Contains}
use Rattle.plan_rows.proofs.MadeOfEach.{made_all, made_next, made_none}
use Rattle.plan_rows.proofs.needs.push_each.Goals as goal

pub loop-item-init : goal.loop-item-init
loop-item-init g c = made_none (λ n r. g.F.Fn.post c.args.make (n, tt) r) c.args.items.now c.args.rows.now.items

pub make-requires : goal.make-requires
make-requires g c =
    let item = c.item-item.result in
    c.requires item (subst (Contains c.args.items.now) (sym c.item-item.is) (Contains-get_or c.args.items.now c.loop-item.item-index item c.loop-item-test.true))

pub loop-item-preserved : goal.loop-item-preserved
loop-item-preserved g c =
    let lt = c.loop-item-test.true in
    rw c.in_ok-push.ensures.items
    (made_next (λ n r. g.F.Fn.post c.args.make (n, tt) r) c.args.items.now c.loop-item.item-index c.args.rows.now.items c.loop-item.rows.items c.item-item.result c.make.result (omega (arith, lt)) c.item-item.is c.loop-item.invariant c.make.ensures)

pub returns : goal.returns
returns g c =
    let ge = c.loop-item-test.false in
    made_all (λ n r. g.F.Fn.post c.args.make (n, tt) r) c.args.items.now c.loop-item.item-index c.args.rows.now.items c.loop-item.rows.items (omega (arith, ge)) c.loop-item.invariant
