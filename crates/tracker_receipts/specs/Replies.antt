-- The text of a reply: the keys of the operations that it names.
use Rattle.std.specs.Prelude.{◌≡◌, ℕ, List, map, All}
use Rattle.std.specs.List.{join_with_byte}
use Rattle.plan_basics.specs.declared.keys.OpKey.{OpKey}
use Rattle.plan_basics.specs.Keys.{IsOperationKey}
use Rattle.plan_basics.specs.KeyTexts.{operation_text}

-- the keys' texts in their order, with one blank between each two; nothing where there is none
abbrev pub joined : List OpKey → List ℕ
joined keys = join_with_byte 32 (map operation_text keys)

-- the text is that of these keys, each of an operation
abbrev pub Joins : List ℕ → List OpKey → Type 0
Joins text keys = All IsOperationKey keys × (text ≡ joined keys)
