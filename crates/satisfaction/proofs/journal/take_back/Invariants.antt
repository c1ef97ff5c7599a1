use Rattle.std.proofs.Common.{◌≡◌, length, vec_len}
use Rattle.satisfaction.specs.Journal.{undone, AreWithin}
use Rattle.satisfaction.proofs.journal.take_back.Given as goal

abbrev pub invariant-loop-node : goal.invariant-loop-node
invariant-loop-node l = record {
  size : length l.wait_states ≡ length l.fn.wait_states;
  within : AreWithin (length l.fn.wait_states) l.journal.items;
  back : undone l.journal.items l.wait_states ≡ undone l.fn.journal.items l.fn.wait_states;
}

abbrev pub decreases-loop-node : goal.decreases-loop-node
decreases-loop-node l = vec_len l.journal
