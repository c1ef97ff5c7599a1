use Rattle.std.proofs.Common.{◌⊎◌, ◌↔◌, sym, ◌∙◌, ap, subst, arith, ℕ, ◌+◌, ◌<◌, All, Bool, Contains, false, true≢false, List, length, not, replicate}
use Rattle.std.specs.FinMap.{entries}
use Rattle.std.proofs.lemmas.List.{length-map, length-replicate}
use Rattle.forecasting.specs.Known.{since_in}
use Rattle.plan_model.specs.Contents.{Contents}
use Rattle.plan_model.specs.operation_graph.specs.Graphs.{AreExactly, HasEdge, IsSet}
use Rattle.plan_model.specs.operation_graph.specs.Paths.{ReachesBy}
use Rattle.plan_reasons.specs.Places.{unsatisfied_flags}
use Rattle.plan_reasons.specs.plan_drafts.proofs.RowPlaces.{row_at}
use Rattle.status_rules.specs.Classes.{is_satisfied}
use Rattle.status_rules.specs.declared.Status.{Status}
use Rattle.plan_outlooks.proofs.TakenOnes.{AreTakenBefore, as_many, reached_within, taken_all, taken_more, taken_none, taken_same}
use Rattle.plan_outlooks.proofs.overruns.taken_of.Goals as goal
use Rattle.plan_outlooks.proofs.overruns.taken_of.Goals.{then-runs_over+in_ok-reached, else-runs_over}

pub loop-place-init : goal.loop-place-init
loop-place-init c =
    let P = c.args.loaded.now in
    let many = ap length (c.operations-count.ensures.rows ∙ ap (λ (Q : Contents). entries Q.operations) c.contents.ensures.contents) in
    let is = c.in_ok-taken.ensures.items_if_clones_equal (λ y e. e) in
    record {
      size = ap length is ∙ length-replicate (length c.operations-count.result.now) false ∙ many;
      so = taken_none P (since_in c.args.known.now) c.args.at c.in_ok-taken.taken.items (is ∙ ap (λ n. replicate n false) many);
    }

pub runs_over-requires : goal.runs_over-requires
runs_over-requires c =
    let many = ap length (c.operations-count.ensures.rows ∙ ap (λ (Q : Contents). entries Q.operations) c.contents.ensures.contents) in
    let less = c.loop-place-test.true in
    omega (arith, less, many)

pub reach-requires-clause-from : goal.reach-requires-clause-from
reach-requires-clause-from c =
    let many = ap length (c.operations-count.ensures.rows ∙ ap (λ (Q : Contents). entries Q.operations) c.contents.ensures.contents) in
    let less = c.loop-place-test.true in
    let nodes = as_many c.args.loaded.now c.read_for_proof.ensures.valid c.graph.result.now c.graph.ensures c.statuses.result.now c.statuses.ensures in
    omega (arith, less, many, nodes)

pub reach-requires-clause-live : goal.reach-requires-clause-live
reach-requires-clause-live c =
    let nodes = as_many c.args.loaded.now c.read_for_proof.ensures.valid c.graph.result.now c.graph.ensures c.statuses.result.now c.statuses.ensures in
    ap length (c.deref.ensures.value ∙ c.in_ok-waiting.ensures) ∙ length-map c.statuses.result.now (λ (s : Status). not (is_satisfied s)) ∙ c.statuses.ensures.size ∙ sym nodes

pub set_flags-requires : goal.set_flags-requires
set_flags-requires c =
    let P = c.args.loaded.now in
    let many = ap length (c.operations-count.ensures.rows ∙ ap (λ (Q : Contents). entries Q.operations) c.contents.ensures.contents) in
    let less = c.loop-place-test.true in
    let within = reached_within P c.read_for_proof.ensures.valid c.graph.result.now c.graph.ensures c.statuses.result.now c.statuses.ensures (IsSet c.deref.result.now) c.loop-place.place c.in_ok-reached.reached.items (omega (arith, less, many)) c.in_ok-reached.ensures.reached in
    let size = c.loop-place.invariant.size in
    subst (λ (ps : List ℕ). All (λ place. place < length c.loop-place.taken.items) ps) (sym c.deref-then-runs_over.ensures.value) (λ k d lt. (let h = within k d lt in omega (arith, h, size)))

pub loop-place-preserved : goal.loop-place-preserved
loop-place-preserved c =
    let P = c.args.loaded.now in
    let known = since_in c.args.known.now in
    let n = c.loop-place.place in
    let many = ap length (c.operations-count.ensures.rows ∙ ap (λ (Q : Contents). entries Q.operations) c.contents.ensures.contents) in
    let less = c.loop-place-test.true in
    let r = row_at (entries P.operations) n (omega (arith, less, many)) in
    elim c.if-runs_over.branch [
      | then-runs_over+in_ok-reached w ↦
          let statuses = c.statuses.result.now in
          let flags = w.deref.ensures.value ∙ c.in_ok-waiting.ensures in
          let exactly : AreExactly (ReachesBy (HasEdge w.graph.result.now) (IsSet (unsatisfied_flags statuses)) n) w.in_ok-reached.reached.items =
          subst (λ (fs : List Bool). AreExactly (ReachesBy (HasEdge w.graph.result.now) (IsSet fs) n) w.in_ok-reached.reached.items) flags w.in_ok-reached.ensures.reached in
          let sets = subst (λ (ps : List ℕ). (i : ℕ) → IsSet w.set_flags.new.flags.items i ↔ (IsSet c.loop-place.taken.items i ⊎ Contains ps i)) w.deref-then-runs_over.ensures.value w.set_flags.ensures.set in
          let more = taken_more P c.read_for_proof.ensures.valid w.graph.result.now w.graph.ensures statuses c.statuses.ensures known c.args.at n c.loop-place.taken.items w.set_flags.new.flags.items w.in_ok-reached.reached.items r.0.0 r.0.1 r.1
          ((c.runs_over.ensures r.0.0 r.0.1 r.1).0 w.if-runs_over.true) exactly sets c.loop-place.invariant.so in
          record {
            size = ap (λ v. length v.items) w.taken-is ∙ w.set_flags.ensures.size ∙ c.loop-place.invariant.size;
            so = subst (λ v. AreTakenBefore P known c.args.at (n + 1) v.items) (sym w.taken-is) more;
          }
      | else-runs_over w ↦
          let same = taken_same P known c.args.at n c.loop-place.taken.items (λ p op at over. true≢false (sym ((c.runs_over.ensures p op at).1 over) ∙ w.if-runs_over.false)) c.loop-place.invariant.so in
          record {
            size = ap (λ v. length v.items) w.taken-is ∙ c.loop-place.invariant.size;
            so = subst (λ v. AreTakenBefore P known c.args.at (n + 1) v.items) (sym w.taken-is) same;
          }
    ]

pub returns-clause-taken : goal.returns-clause-taken
returns-clause-taken c =
    let many = ap length (c.operations-count.ensures.rows ∙ ap (λ (Q : Contents). entries Q.operations) c.contents.ensures.contents) in
    let past = c.loop-place-test.false in
    taken_all c.args.loaded.now (since_in c.args.known.now) c.args.at c.loop-place.place c.loop-place.taken.items (omega (arith, past, many)) c.loop-place.invariant.size c.loop-place.invariant.so
