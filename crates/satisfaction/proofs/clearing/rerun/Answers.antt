use Rattle.std.proofs.Common.{sym, arith, ◌∷◌, [], subst, refl, inl, inr, drop, get_or, ◌+◌, Contains, ℕ, List}
use Rattle.std.proofs.lemmas.Result.{on_ok_weaker}
use Rattle.std.proofs.lemmas.List.{drop_more, drop_all}
use Rattle.std.proofs.lemmas.List.Elements.{Contains-get_or}
use Rattle.plan_basics.proofs.Members.{contains_head, contains_later, contains_cases, contains_none}
use Rattle.satisfaction.specs.Changes.{HoldFollowers}
use Rattle.satisfaction.proofs.Clearings.{begun, to_settle, waiting_cleared}
use Rattle.satisfaction.proofs.Lowerings.{around}
use Rattle.satisfaction.proofs.Journals.{journaled_on}
use Rattle.satisfaction.proofs.clearing.rerun.Goals as goal

pub loop-node-init : goal.loop-node-init
loop-node-init g c = record {
  gone = [];
  among = λ n has. absurd (contains_none n has);
  covered = λ n has. inr has;
  clearing = begun c.args.graph.now c.args.wait_states.now c.requires.rerun.0 c.requires.rerun.1;
  places = λ e has. inl has;
  journaled = record { size = refl; back = refl; within = λ all. all };
}

pub returns-in_err-clear-clause-journaled : goal.returns-in_err-clear-clause-journaled
returns-in_err-clear-clause-journaled g c = journaled_on c.args.wait_states.now c.loop-node.wait_states c.clear.new.wait_states c.args.journal.now.items c.loop-node.journal.items c.clear.new.journal.items
    c.loop-node.invariant.journaled c.in_err-clear.ensures.journaled

pub loop-node-preserved : goal.loop-node-preserved
loop-node-preserved g c =
    let xs = c.args.reached.now in
    let i = c.loop-node.node-index in
    let s = get_or xs i 0 in
    record {
      gone = s ∷ c.loop-node.invariant.gone;
      among = λ n has. elim (contains_cases s c.loop-node.invariant.gone n has) [
        | inl is ↦ subst (Contains xs) is (Contains-get_or xs i 0 c.loop-node-test.true)
        | inr old ↦ c.loop-node.invariant.among n old
      ];
      covered = λ n has. elim (c.loop-node.invariant.covered n has) [
        | inl old ↦ inl (contains_later s c.loop-node.invariant.gone n old)
        | inr left ↦ elim (contains_cases s (drop (i + 1) xs) n (subst (λ ys. Contains ys n) (drop_more xs i 0 c.loop-node-test.true) left)) [
          | inl is ↦ inl (subst (Contains (s ∷ c.loop-node.invariant.gone)) is (contains_head s c.loop-node.invariant.gone))
          | inr later ↦ inr later
        ]
      ];
      clearing = c.in_ok-clear.ensures.step c.args.wait_states.now c.loop-node.invariant.gone c.loop-node.invariant.clearing;
      places = λ e has. elim (c.in_ok-clear.ensures.places e has) [
        | inl before ↦ c.loop-node.invariant.places e before
        | inr there ↦ inr (elim there [
          | inl is ↦ inl (subst (Contains xs) (sym is) (Contains-get_or xs i 0 c.loop-node-test.true))
          | inr edge ↦ inr (s, Contains-get_or xs i 0 c.loop-node-test.true, edge)
        ])
      ];
      journaled = journaled_on c.args.wait_states.now c.loop-node.wait_states c.clear.new.wait_states c.args.journal.now.items c.loop-node.journal.items c.clear.new.journal.items
          c.loop-node.invariant.journaled c.in_ok-clear.ensures.journaled;
    }

pub settle-requires-clause-begun : goal.settle-requires-clause-begun
settle-requires-clause-begun g c =
    let inv = c.loop-node.invariant in
    to_settle c.args.graph.now c.requires.rerun.0 (g.R.Rules.listed c.args.rules.now) c.args.reached.now c.requires.rerun.2 c.requires.graph c.args.wait_states.now c.loop-node.wait_states inv.gone c.requires.rerun.1
    (λ n. (
      inv.among n,
      λ has. elim (inv.covered n has) [
        | inl old ↦ old
        | inr left ↦ absurd (contains_none n (subst (λ ys. Contains ys n) (drop_all c.loop-node.node-index c.args.reached.now c.loop-node-test.false) left))
      ],
    ))
    inv.clearing

pub returns-clause-most : goal.returns-clause-most
returns-clause-most g c =
    let inv = c.loop-node.invariant in
    let cleared = λ (followers : List ℕ) (hold : HoldFollowers c.args.graph.now c.args.reached.now followers).
    waiting_cleared c.args.graph.now c.requires.rerun.0 (g.R.Rules.listed c.args.rules.now) c.args.reached.now c.requires.rerun.2 c.args.wait_states.now c.loop-node.wait_states inv.gone followers c.requires.rerun.1
    (λ n. (
      inv.among n,
      λ has. elim (inv.covered n has) [
        | inl old ↦ old
        | inr left ↦ absurd (contains_none n (subst (λ ys. Contains ys n) (drop_all c.loop-node.node-index c.args.reached.now c.loop-node-test.false) left))
      ],
    ))
    inv.clearing hold in
    on_ok_weaker c.settle.result (λ most followers hold. omega (arith, most, cleared followers hold)) c.settle.ensures.most

pub returns-clause-places : goal.returns-clause-places
returns-clause-places g c =
    let inv = c.loop-node.invariant in
    on_ok_weaker c.settle.result (λ settled. around c.args.graph.now c.requires.rerun.0 c.args.reached.now c.args.wait_states.now c.loop-node.wait_states c.settle.new.wait_states inv.gone c.args.journal.now.items c.loop-node.journal.items c.settle.new.journal.items
    c.requires.rerun.1 inv.clearing inv.among inv.places settled) c.settle.ensures.places

pub returns-clause-journaled : goal.returns-clause-journaled
returns-clause-journaled g c = journaled_on c.args.wait_states.now c.loop-node.wait_states c.settle.new.wait_states c.args.journal.now.items c.loop-node.journal.items c.settle.new.journal.items
    c.loop-node.invariant.journaled c.settle.ensures.journaled
