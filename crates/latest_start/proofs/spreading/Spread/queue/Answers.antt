use Rattle.std.proofs.Common.{◌≡◌, ◌∙◌, ◌<◌, ◌≤◌, ◌∷◌, sym, arith, length, get_or, false}
use Rattle.std.proofs.lemmas.List.{get_or_read}
use Rattle.std.specs.BinaryHeap.{heap_items}
use Rattle.operation_graph.specs.Graphs.{IsSet}
use Rattle.latest_start.proofs.Queueing.{queue_passed, queue_pushed, unqueued_less, waiting_nodes, waiting_now, waiting_still}
use Rattle.latest_start.proofs.Settling.{settled_on}
use Rattle.latest_start.proofs.spreading.Spread.queue.Goals as goal
use Rattle.latest_start.proofs.spreading.Spread.queue.Goals.{else-node-len-via-then-node-len+else-not-index, else-node-len-via-else-node-len}

pub returns-in_ok-push-clause-step : goal.returns-in_ok-push-clause-step
returns-in_ok-push-clause-step c items old rest top h =
    let g = c.args.graph.now in
    let s = c.args.node in
    let t = c.args.self.now in
    let heap = heap_items t.waiting in
    let more = heap_items c.push.new.self in
    let in_g : s < g.nodes = omega (arith, c.if-node-len.true, c.len.ensures, c.requires.size.1, t.queued.ok.0) in
    let off : get_or t.queued.items s false ≡ false = sym (get_or_read t.queued.items s c.index.result.now (omega (arith, in_g, c.requires.size.1)) c.index.ensures false) ∙ c.if-not-index.true in
    record {
      queue = queue_pushed g heap more rest s c.rank-rank.result c.rank-rank.ensures.rank c.in_ok-push.ensures.permutation t.queued.items t.values.items top in_g off c.in_ok-push.ensures.heap_order h.queue;
      settled = settled_on g items old t.starts.items heap more t.values.items (s ∷ rest) rest (λ b lt waits. waiting_now g heap more rest s c.rank-rank.result c.rank-rank.ensures.rank c.in_ok-push.ensures.permutation b waits) h.settled;
    }

pub returns-in_ok-push-clause-nearer : goal.returns-in_ok-push-clause-nearer
returns-in_ok-push-clause-nearer c =
    let s = c.args.node in
    let t = c.args.self.now in
    let within : s < length t.queued.items = omega (arith, c.if-node-len.true, c.len.ensures, t.queued.ok.0) in
    let off : get_or t.queued.items s false ≡ false = sym (get_or_read t.queued.items s c.index.result.now within c.index.ensures false) ∙ c.if-not-index.true in
    let less = unqueued_less t.queued.items s within off in
    omega (arith, less, c.in_ok-push.ensures.len)

pub returns-else-node-len-clause-step : goal.returns-else-node-len-clause-step
returns-else-node-len-clause-step c items old rest top h =
    let g = c.args.graph.now in
    let s = c.args.node in
    let t = c.args.self.now in
    let heap = heap_items t.waiting in
    record {
      queue = queue_passed g t.queued.items heap t.values.items rest top s h.queue;
      settled = settled_on g items old t.starts.items heap heap t.values.items (s ∷ rest) rest (λ b lt waits. elim c.else-node-len.branch [
        | else-node-len-via-then-node-len+else-not-index w ↦
            let within : s < length t.queued.items = omega (arith, w.if-node-len.true, c.len.ensures, t.queued.ok.0) in
            let on : IsSet t.queued.items s = sym (get_or_read t.queued.items s w.index.result.now within w.index.ensures false) ∙ w.if-not-index.false in
            waiting_still g t.queued.items heap t.values.items rest top s on h.queue b waits
        | else-node-len-via-else-node-len w ↦
            let past : g.nodes ≤ s = omega (arith, w.if-node-len.false, c.len.ensures, c.requires.size.1, t.queued.ok.0) in
            waiting_nodes g heap rest s past b lt waits
      ]) h.settled;
    }
