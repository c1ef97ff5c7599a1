use Rattle.std.proofs.Common.{◌<◌, ◌∙◌, ap, subst, sym, Some, ℕ}
use Rattle.std.proofs.lemmas.Option.{slice_get-get_or}
use Rattle.plan_records.specs.plan_drafts.proofs.Lists.{length_map}
use Rattle.plan_records.specs.Rows.{key_of}
use Rattle.plan_rows.proofs.all_rows.row_at.Goals as goal

pub bounds-rows-place : goal.bounds-rows-place
bounds-rows-place c = subst (λ (n : ℕ). c.args.place < n) (length_map key_of c.args.rows.now) c.requires

pub returns : goal.returns
returns c =
    slice_get-get_or c.args.rows.now c.args.place c.index-rows-place.result (subst (λ (n : ℕ). c.args.place < n) (length_map key_of c.args.rows.now) c.requires)
    ∙ ap Some (sym c.index-rows-place.is)
