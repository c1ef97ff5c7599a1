use Rattle.std.proofs.Common.{◌≡◌, ◌∙◌, sym, ap, Some, slice_get}
use Rattle.std.specs.FinMap.{get, insert}
use Rattle.std.proofs.lemmas.Option.{same_Some, none-some}
use Rattle.plan_basics.specs.Keys.{operation_cmp_total, operation_cmp-IsAntisymmetric}
use Rattle.plan_basics.specs.declared.keys.OpKey.{OpKey}
use Rattle.plan_model.specs.Contents.{Contents, Operation}
use Rattle.plan_model.specs.Markings.{with_marking}
use Rattle.plan_drafts.specs.Contents.{held_in}
use Rattle.plan_drafts.proofs.Held.{looked_up, row_in_order, row_is, row_read}
use Rattle.plan_drafts.proofs.contents.PlanContents.set_marking.Goals as goal

module _ (c : goal.After-self-in-Some-1) where
  -- the row that is there
  found : (op : Operation) × (slice_get c.deref.result.now c.in-Some.place ≡ Some (c.args.key.now, op))
  found = c.in-Some.ensures.found

  read : c.index_mut.result.now ≡ (c.args.key.now, found.0)
  read = row_read operation_cmp_total operation_cmp-IsAntisymmetric c.deref.result.now c.self.inside.operations.items c.deref.ensures.value c.args.self.now.operations (ap (λ v. v.operations) c.self.view_is) c.self.invariant.operations c.args.key.now c.in-Some.place found c.index_mut.result.now c.index_mut.ensures.value

  there : get c.args.self.now.operations c.args.key.now ≡ Some found.0
  there =
      looked_up operation_cmp_total operation_cmp-IsAntisymmetric c.deref.result.now c.self.inside.operations.items c.deref.ensures.value c.args.self.now.operations (ap (λ v. v.operations) c.self.view_is) c.self.invariant.operations c.args.key.now c.in-Some.place found c.index_mut.result.now c.index_mut.ensures.value
      ∙ ap (λ (row : OpKey × Operation). Some row.1) read

  -- the row that is put there
  put : c.put_marking.new.row ≡ (c.args.key.now, with_marking c.args.marking.now found.0)
  put = c.put_marking.ensures ∙ ap (λ (row : OpKey × Operation). (row.0, with_marking c.args.marking.now row.1)) read

pub invariant_of-self : goal.invariant_of-self
invariant_of-self c = record {
  workstations = c.self.invariant.workstations;
  resources = c.self.invariant.resources;
  occurrences = c.self.invariant.occurrences;
  operations = row_in_order operation_cmp_total operation_cmp-IsAntisymmetric c.deref.result.now c.self.inside.operations.items c.deref.ensures.value c.args.self.now.operations (ap (λ v. v.operations) c.self.view_is) c.self.invariant.operations c.args.key.now c.in-Some.place (found c) c.put_marking.new.row (with_marking c.args.marking.now (found c).0) (put c);
  pairs = c.self.invariant.pairs;
}

pub returns-in-Some-clause-there : goal.returns-in-Some-clause-there
returns-in-Some-clause-there c op is =
    let operation = with_marking c.args.marking.now (found c).0 in
    ap (λ m. record (held_in c.self.inside) { operations = m })
    (row_is operation_cmp_total operation_cmp-IsAntisymmetric c.deref.result.now c.self.inside.operations.items c.deref.ensures.value c.args.self.now.operations (ap (λ v. v.operations) c.self.view_is) c.self.invariant.operations c.args.key.now c.in-Some.place (found c) c.put_marking.new.row operation (put c))
    ∙ ap (λ (v : Contents). record v { operations = insert v.operations c.args.key.now operation }) c.self.view_is
    ∙ ap (λ (x : Operation). record c.args.self.now { operations = insert c.args.self.now.operations c.args.key.now (with_marking c.args.marking.now x) }) (same_Some (found c).0 op (sym (there c) ∙ is))

pub returns-in-Some-clause-absent : goal.returns-in-Some-clause-absent
returns-in-Some-clause-absent c none = absurd (none-some (found c).0 (sym none ∙ there c))
