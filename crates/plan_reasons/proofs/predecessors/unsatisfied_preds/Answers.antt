use Rattle.std.proofs.Common.{◌<◌, ◌∙◌, ap, sym, subst, Contains}
use Rattle.std.specs.Prelude.{filter}
use Rattle.std.proofs.lemmas.List.Kept.{AllPairs-filter}
use Rattle.graph_paths.specs.Upstream.{AreAscending}
use Rattle.ready_list.proofs.Members.{contains_filter, contains_from_filter}
use Rattle.plan_reasons.specs.Places.{is_unsatisfied_at}
use Rattle.plan_reasons.proofs.predecessors.unsatisfied_preds.Goals as goal

pub returns-clause-in_order : goal.returns-clause-in_order
returns-clause-in_order c =
    let keep = is_unsatisfied_at c.args.statuses.now in
    let kept = c.in_ok-unsatisfied_of.ensures ∙ ap (filter keep) c.deref.ensures.value in
    subst AreAscending (sym kept) (AllPairs-filter (λ a b. a < b) keep c.in_ok-preds.preds.items c.in_ok-preds.ensures.in_order)

pub returns-clause-nodes : goal.returns-clause-nodes
returns-clause-nodes c p =
    let keep = is_unsatisfied_at c.args.statuses.now in
    let preds = c.in_ok-preds.preds.items in
    let kept = c.in_ok-unsatisfied_of.ensures ∙ ap (filter keep) c.deref.ensures.value in
    let nodes = c.in_ok-preds.ensures.nodes p in (
      λ has. let h = contains_from_filter keep preds p (subst (λ xs. Contains xs p) kept has) in (nodes.0 h.0, h.1),
      λ h. subst (λ xs. Contains xs p) (sym kept) (contains_filter keep preds p h.1 (nodes.1 h.0)),
    )
