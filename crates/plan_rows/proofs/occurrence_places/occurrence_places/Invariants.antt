use Rattle.std.specs.Prelude.{take}
use Rattle.std.specs.List.{AllZip}
use Rattle.plan_rows.proofs.occurrence_places.occurrence_places.Given as goal
use Rattle.plan_rows.specs.Touched.{BelongsAt}

-- of each touched operation so far its occurrence
abbrev pub invariant-loop-place : goal.invariant-loop-place
invariant-loop-place l = AllZip (BelongsAt l.records.contents) (take l.place-index l.touched) l.places.items
