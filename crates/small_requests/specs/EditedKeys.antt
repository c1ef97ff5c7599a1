-- The keys of what a request edits.
use Rattle.std.specs.Prelude.{◌≡◌, ◌↔◌, true, List}
use Rattle.plan_basics.specs.declared.keys.OpKey.{OpKey}
use Rattle.small_requests.specs.RequestEdits.{Edits}
use Rattle.plan_model.specs.Contents.{Contents}
use Rattle.plan_records.specs.declared.What.{What}
use Rattle.ready_list.specs.Choice.{is_among}

-- these are the keys of the operations that the small request edits
abbrev pub AreEditedKeys : Contents → What → List OpKey → Type 0
AreEditedKeys P w keys = (o : OpKey) → (is_among keys o ≡ true) ↔ Edits P w o
