use Rattle.std.proofs.Common.{◌∙◌, ap, sym, Some, option_map}
use Rattle.std.proofs.lemmas.Option.{slice_get-map}
use Rattle.plan_records.specs.Rows.{key_of}
use Rattle.plan_rows.proofs.all_rows.key_at.Goals as goal

pub returns : goal.returns
returns c = slice_get-map key_of c.args.rows.now c.args.place ∙ ap (option_map key_of) c.row_at.ensures ∙ ap Some (sym c.key.ensures)
