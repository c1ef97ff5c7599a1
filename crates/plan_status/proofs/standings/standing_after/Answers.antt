use Rattle.std.proofs.Common.{◌≡◌, sym, ◌∙◌, ap, true, false, true≢false, Decides, rules}
use Rattle.plan_basics.specs.declared.Attr.TheVariants.{Nonreporting}
use Rattle.status_rules.proofs.Live.{live_mark, mark_live}
use Rattle.status_rules.specs.Classes.{is_live}
use Rattle.plan_model.specs.Contents.{Operation}
use Rattle.std.proofs.lemmas.Option.{same_Some}
use Rattle.plan_status.specs.Incoming.{with_pairs}
use Rattle.plan_status.proofs.Alike.{decides_on}
use Rattle.plan_status.proofs.Summarized.{summarized_with}
use Rattle.plan_status.proofs.Incoming.{dead_changes_nothing, stands_behind}
use Rattle.plan_status.proofs.standings.standing_after.Goals as goal
use Rattle.plan_status.proofs.standings.standing_after.Goals.{in-Nonreporting, in_default}

pub returns-then-not-is_live-clause-standing : goal.returns-then-not-is_live-clause-standing
returns-then-not-is_live-clause-standing c P pairs pair (op, found, is) next its =
    let no : c.is_live.result ≡ false = search rules in
    let dead : is_live op.mark ≡ false = ap is_live (sym is.mark) ∙ sym c.is_live.ensures ∙ no in
    dead_changes_nothing P pairs pair next
    (λ live. true≢false (sym (mark_live live.0.mark live.2) ∙ ap (λ (x : Operation). is_live x.mark) (same_Some live.0 op (sym live.1 ∙ found)) ∙ dead))
    c.args.standing.now

pub returns-clause-standing : goal.returns-clause-standing
returns-clause-standing c P pairs pair (op, found, is) next its stands =
    let yes : c.is_live.result ≡ true = search rules in
    let other = live_mark op.mark (ap is_live (sym is.mark) ∙ sym c.is_live.ensures ∙ yes) in
    let attribute = c.args.predecessor.now.attribute in
    let nonreporting : Decides c.match-matches.matches (attribute ≡ Nonreporting) = elim c.match-matches.branch [
      | in-Nonreporting w ↦ (λ _. w.in-Nonreporting.is, λ _. w.matches-is)
      | in_default w ↦ (λ e. absurd (true≢false (sym e ∙ w.matches-is)), λ e. absurd (w.in_default.not-Nonreporting e))
    ] in
    let t = c.with_one_more.ensures in
    stands_behind P pairs pair next (op, found, other) c.args.standing.now stands
    c.is_satisfied-satisfied.result c.match-matches.matches
    (c.is_satisfied-satisfied.ensures (with_pairs pairs P) pair.0 (summarized_with P pairs pair.0 c.args.predecessor.now (op, found, is)) its)
    (decides_on P pair.0 op attribute c.match-matches.matches found is.attribute nonreporting)
    c.with_one_more.result t.live t.satisfied t.nonreporting t.waiting
