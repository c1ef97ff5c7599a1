use Rattle.std.proofs.Common.{refl, take}
use Rattle.request_json.specs.Replies.{occurrence_data}
use Rattle.request_json.proofs.Written.{no_float}
use Rattle.request_json.proofs.rows.occurrences_text.Goals as goal

pub array_text-requires : goal.array_text-requires
array_text-requires c = rw c.loop-row.invariant (no_float occurrence_data (λ row. refl) (take c.loop-row.row-index c.args.rows.now))
