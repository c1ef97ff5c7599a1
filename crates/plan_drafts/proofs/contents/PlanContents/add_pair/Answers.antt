use Rattle.std.proofs.Common.{ap, sym, subst, ◌∙◌, ◌≤◌, List, length, Contains, Err}
use Rattle.std.specs.FinSet as set
use Rattle.std.specs.List.Sorted.{IsBinarySearchResult, IsStrictlySortedBy}
use Rattle.plan_basics.specs.declared.keys.OpKey.{OpKey}
use Rattle.plan_drafts.proofs.KeyPlaces.{in_listed, pair_cmp_total, pair_cmp-IsAntisymmetric}
use Rattle.plan_model.specs.Contents.{Contents, pair_cmp}
use Rattle.plan_drafts.specs.Contents.{held_in}
use Rattle.plan_drafts.proofs.OnePair.{found_there, inserted_in_order, inserted_known, inserted_set}
use Rattle.plan_drafts.proofs.contents.PlanContents.add_pair.Goals as goal

pub invariant_of-self : goal.invariant_of-self
invariant_of-self c =
    let pair : OpKey × OpKey = (c.args.predecessor.now, c.args.successor.now) in
    let xs = c.self.inside.pairs.items in
    record {
      workstations = c.self.invariant.workstations;
      resources = c.self.invariant.resources;
      occurrences = c.self.invariant.occurrences;
      operations = c.self.invariant.operations;
      pairs = subst (IsStrictlySortedBy pair_cmp) (sym c.in_ok-insert.ensures.items)
          (inserted_in_order pair_cmp_total pair_cmp-IsAntisymmetric xs pair c.in-Err.place c.self.invariant.pairs
          (subst (λ (zs : List (OpKey × OpKey)). c.in-Err.place ≤ length zs) c.deref.ensures.value c.in-Err.ensures.bound)
          (subst (λ (zs : List (OpKey × OpKey)). IsBinarySearchResult (λ y. pair_cmp y pair) zs (Err c.in-Err.place)) c.deref.ensures.value c.in-Err.ensures.position));
    }

pub returns-in_ok-insert : goal.returns-in_ok-insert
returns-in_ok-insert c =
    let pair : OpKey × OpKey = (c.args.predecessor.now, c.args.successor.now) in
    ap (λ m. record (held_in c.self.inside) { pairs = m })
    (ap (set.from_list {R = pair_cmp}) c.in_ok-insert.ensures.items ∙ inserted_set pair_cmp_total pair_cmp-IsAntisymmetric c.self.inside.pairs.items pair c.in-Err.place)
    ∙ ap (λ (v : Contents). record v { pairs = set.insert v.pairs pair }) c.self.view_is

pub returns-in_default : goal.returns-in_default
returns-in_default c =
    let pair : OpKey × OpKey = (c.args.predecessor.now, c.args.successor.now) in
    let has = subst (λ (zs : List (OpKey × OpKey)). Contains zs pair) c.deref.ensures.value
    (found_there pair_cmp-IsAntisymmetric c.deref.result.now pair c.binary_search.result c.in_default.field-0 c.in_default.is c.binary_search.ensures.bound c.binary_search.ensures.position) in
    sym c.self.view_is
    ∙ ap (λ m. record (held_in c.self.inside) { pairs = m }) (sym (inserted_known pair_cmp_total pair_cmp-IsAntisymmetric (set.from_list c.self.inside.pairs.items) pair (in_listed pair_cmp_total pair_cmp-IsAntisymmetric c.self.inside.pairs.items pair has)))
    ∙ ap (λ (v : Contents). record v { pairs = set.insert v.pairs pair }) c.self.view_is
