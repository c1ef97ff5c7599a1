-- The mark and the flags of an operation.
use Rattle.plan_model.specs.Contents.{Operation}
use Rattle.plan_model.specs.declared.moves.Marking.{Marking}

-- those of an operation
abbrev pub marking_of : Operation → Marking
marking_of op = record { mark = op.mark; held = op.held; nop = op.nop }

-- an operation with these in place of its own
abbrev pub with_marking : Marking → Operation → Operation
with_marking m op = record op { mark = m.mark; held = m.held; nop = m.nop }
