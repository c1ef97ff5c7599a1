use Rattle.std.proofs.Common.{◌≡◌, ◌∙◌, ap, Some, slice_get}
use Rattle.plan_basics.specs.Keys.{Name, name_cmp_total, name_cmp-IsAntisymmetric}
use Rattle.plan_model.specs.Contents.{Contents, with_availability}
use Rattle.plan_model.specs.Revise.{revise}
use Rattle.plan_model.specs.declared.Stock.{Stock}
use Rattle.plan_drafts.specs.Contents.{held_in}
use Rattle.plan_drafts.proofs.Held.{anew_in_order, known_in, made_anew, row_read}
use Rattle.plan_drafts.proofs.contents.PlanContents.set_available.Goals as goal

pub known_row-place-requires-clause-known : goal.known_row-place-requires-clause-known
known_row-place-requires-clause-known c =
    known_in name_cmp_total name_cmp-IsAntisymmetric c.deref.result.now c.self.inside.resources.items c.deref.ensures.value c.args.self.now.resources (ap (λ v. v.resources) c.self.view_is) c.self.invariant.resources c.args.name.now c.requires

module _ (c : goal.After-self-1) where
  -- the row that is there
  found : (stock : Stock) × (slice_get c.deref.result.now c.known_row-place.result ≡ Some (c.args.name.now, stock))
  found = c.known_row-place.ensures.at

  abbrev made : Stock → Stock
  made stock = record stock { available = c.args.available }

  -- the row that is put there
  put : c.put_available.new.row ≡ (c.args.name.now, made found.0)
  put =
      c.put_available.ensures
      ∙ ap (λ (row : Name × Stock). (row.0, made row.1)) (row_read name_cmp_total name_cmp-IsAntisymmetric c.deref.result.now c.self.inside.resources.items c.deref.ensures.value c.args.self.now.resources (ap (λ v. v.resources) c.self.view_is) c.self.invariant.resources c.args.name.now c.known_row-place.result found c.index_mut.result.now c.index_mut.ensures.value)

pub invariant_of-self : goal.invariant_of-self
invariant_of-self c = record {
  workstations = c.self.invariant.workstations;
  resources = anew_in_order name_cmp_total name_cmp-IsAntisymmetric c.deref.result.now c.self.inside.resources.items c.deref.ensures.value c.args.self.now.resources (ap (λ v. v.resources) c.self.view_is) c.self.invariant.resources c.args.name.now c.known_row-place.result (found c) c.put_available.new.row (made c) (put c);
  occurrences = c.self.invariant.occurrences;
  operations = c.self.invariant.operations;
  pairs = c.self.invariant.pairs;
}

pub returns : goal.returns
returns c =
    ap (λ m. record (held_in c.self.inside) { resources = m })
    (made_anew name_cmp_total name_cmp-IsAntisymmetric c.deref.result.now c.self.inside.resources.items c.deref.ensures.value c.args.self.now.resources (ap (λ v. v.resources) c.self.view_is) c.self.invariant.resources c.args.name.now c.known_row-place.result (found c) c.put_available.new.row (made c) (put c))
    ∙ ap (λ (v : Contents). record v { resources = revise (with_availability c.args.name.now c.args.available) v.resources }) c.self.view_is
