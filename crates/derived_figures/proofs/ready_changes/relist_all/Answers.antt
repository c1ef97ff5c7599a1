use Rattle.std.proofs.Common.{arith, ◌≡◌, sym, ap, ◌∙◌, ℕ, Some, get_or, option_map, slice_get}
use Rattle.std.proofs.lemmas.List.{drop_more, length-map, length-set}
use Rattle.std.proofs.lemmas.Option.{slice_get-get_or, slice_get-map}
use Rattle.status_rules.specs.declared.Status.{Status}
use Rattle.status_rules.specs.declared.Status.TheVariants as status
use Rattle.plan_model.specs.Contents.{Contents}
use Rattle.derived_figures.specs.Entries.{CanBeRelisted, IsEntryAt}
use Rattle.derived_figures.specs.Overwritten.{overwritten}
use Rattle.derived_figures.proofs.ready_changes.relist_all.Goals as goal
use Rattle.derived_figures.proofs.ready_changes.relist_all.Goals.{After-index-entries-index}

-- the value that is written next
abbrev next : After-index-entries-index → ℕ × Status
next c = get_or c.args.to.now c.loop-index.index (0, status.Started)

module _ (c : After-index-entries-index) where
  -- what stands there
  stood : slice_get c.loop-index.statuses (next c).0 ≡ Some (get_or c.loop-index.statuses (next c).0 status.Started)
  stood =
      let lt = c.requires.1.within c.loop-index.index (0, status.Started) c.loop-index-test.true in
      slice_get-get_or c.loop-index.statuses (next c).0 status.Started (omega (arith, lt, c.loop-index.invariant.size))

  -- the entry is that of the operation there
  its_entry : (P : Contents) → CanBeRelisted P c.args.statuses.now c.args.ready.now c.args.to.now c.args.entries.now → IsEntryAt P (next c).0 c.index-entries-index.result
  its_entry P can =
      let k = c.loop-index.index in
      let to = c.args.to.now in
      let e = c.index-entries-index.result in
      can.entries_there.each k (next c).0 e
      (slice_get-map (λ (value : ℕ × Status). value.0) to k ∙ ap (option_map (λ (value : ℕ × Status). value.0)) (slice_get-get_or to k (0, status.Started) c.loop-index-test.true))
      (slice_get-get_or c.args.entries.now k e (omega (arith, c.loop-index-test.true, can.entries_there.size, length-map to (λ (value : ℕ × Status). value.0))) ∙ ap Some (sym c.index-entries-index.is))

pub relist-requires : goal.relist-requires
relist-requires c =
    let p = (goal.at.relist-requires c).After-index-entries-index in
    let P = c.requires.0 in
    let can = c.requires.1 in
    (P, (next p).0, c.loop-index.statuses, its_entry p P can, stood p, c.loop-index.invariant.listed P can, omega (arith, can.room, c.loop-index.invariant.room))

pub loop-index-preserved : goal.loop-index-preserved
loop-index-preserved c =
    let p = (goal.at.loop-index-preserved c).After-index-entries-index in
    let n = c.loop-index.index in
    let e = next p in
    let statuses = c.loop-index.statuses in
    let inv = c.loop-index.invariant in
    record {
      left = ap (λ vs. overwritten vs statuses) (sym (drop_more c.args.to.now n (0, status.Started) c.loop-index-test.true)) ∙ inv.left;
      size = length-set statuses e.0 e.1 ∙ inv.size;
      listed = λ P can. c.relist.ensures.listed P e.0 statuses (its_entry p P can) (stood p) (inv.listed P can);
      room = c.relist.ensures.room ∙ inv.room;
    }
