-- Values that stand in several columns of a row, from one on.
use Rattle.std.specs.Prelude.{◌≡◌, ℕ, ◌+◌, pos, List}
use Rattle.sqlite.specs.Order.{Row, column}
use Rattle.sqlite.specs.declared.types.Value.TheVariants.{Int, Text}
use Rattle.plan_basics.specs.Keys.{IsOccurrenceKey}
use Rattle.plan_basics.specs.declared.keys.OccKey.{OccKey}
use Rattle.plan_basics.specs.declared.keys.OpKey.{OpKey}
use Rattle.status_rules.specs.Texts.{IsWrittenAs}
use Rattle.status_rules.specs.declared.Mark.{Mark}
use Rattle.store_reads.specs.Rows.{IsKeyInRange}

-- a mark's text, and its code
abbrev pub IsMarkAt : Row → ℕ → Mark → Type 0
IsMarkAt stored at m = (text : List ℕ) × (code : List ℕ) × IsWrittenAs m text code × (column stored at ≡ Text text) × (column stored (at + 1) ≡ Text code)

-- an occurrence's key in the ranges of its types: application and input arrival
abbrev pub IsOccurrenceKeyAt : Row → ℕ → OccKey → Type 0
IsOccurrenceKeyAt stored at k = IsOccurrenceKey k × (column stored at ≡ Text k.app) × (column stored (at + 1) ≡ Int (pos k.arrival))

-- an operation's key in the ranges of its types: application, input arrival and number
abbrev pub IsOperationKeyAt : Row → ℕ → OpKey → Type 0
IsOperationKeyAt stored at k = IsKeyInRange k × (column stored at ≡ Text k.occurrence.app) × (column stored (at + 1) ≡ Int (pos k.occurrence.arrival)) × (column stored (at + 2) ≡ Int (pos k.number))
