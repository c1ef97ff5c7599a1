use Rattle.std.proofs.Common.{sym, ap, subst, ◌∙◌, arith, length, length-set}
use Rattle.satisfaction.specs.Journal.{undone, AreWithin}
use Rattle.satisfaction.proofs.Journals.{undone_last, within_left, within_last}
use Rattle.satisfaction.proofs.journal.take_back.Goals as goal

pub put-requires : goal.put-requires
put-requires c =
    let all = subst (λ js. AreWithin (length c.args.wait_states.now) js) c.in-Some.ensures.items c.loop-node.invariant.within in
    omega (arith, c.loop-node.invariant.size, within_last (length c.args.wait_states.now) c.pop.new.self.items (c.in-Some.node, c.in-Some.old) all)

pub loop-node-preserved : goal.loop-node-preserved
loop-node-preserved c =
    let left = c.pop.new.self.items in
    let all = subst (λ js. AreWithin (length c.args.wait_states.now) js) c.in-Some.ensures.items c.loop-node.invariant.within in
    record {
      size = ap length c.put.ensures ∙ length-set c.loop-node.wait_states c.in-Some.node c.in-Some.old ∙ c.loop-node.invariant.size;
      within = within_left (length c.args.wait_states.now) left (c.in-Some.node, c.in-Some.old) all;
      back = ap (undone left) c.put.ensures ∙ sym (undone_last left (c.in-Some.node, c.in-Some.old) c.loop-node.wait_states) ∙ ap (λ js. undone js c.loop-node.wait_states) (sym c.in-Some.ensures.items) ∙ c.loop-node.invariant.back;
    }
