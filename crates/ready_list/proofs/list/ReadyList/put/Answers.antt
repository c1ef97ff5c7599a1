use Rattle.std.proofs.Common.{sym, subst, ap, ◌≡◌, ◌+◌, ◌∙◌, arith, length}
use Rattle.ready_list.specs.declared.entry.ReadyEntry.{ReadyEntry}
use Rattle.ready_list.specs.Entries.{IsListed, ReadyEntries, comes_before}
use Rattle.ready_list.proofs.Indexing.{in_order_more, length_placed}
use Rattle.ready_list.proofs.list.ReadyList.put.Goals as goal

pub invariant_of-self : goal.invariant_of-self
invariant_of-self c =
    let old = c.self.invariant in
    let es = c.self.inside.entries.items in
    let x : ReadyEntry = c.args.entry.now in
    let free : ¬ IsListed x.key es = subst (λ (v : ReadyEntries). ¬ IsListed x.key v.entries) (sym c.self.view_is) c.requires.new in
    let longer : length c.put_in.new.entries.items ≡ length es + 1 = ap length c.put_in.ensures.items ∙ length_placed (comes_before x.key) x es in
    let some = ap (λ (v : ReadyEntries). v.room) c.self.view_is in
    record {
      in_order = rw c.put_in.ensures.items (in_order_more es old.in_order x free);
      fit = omega (arith, longer, some, c.requires.room, old.fit, c.put_in.ensures.capacity);
    }
