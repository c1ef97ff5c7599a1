-- What a request is answered, as a value: two replies with the same keys are one answer.
use Rattle.std.specs.Prelude.{List}
use Rattle.plan_basics.specs.declared.keys.OpKey.{OpKey}
use Rattle.plan_basics.specs.declared.Refusal.{Refusal}
use Rattle.plan_records.specs.declared.Reply.{Reply}
use Rattle.plan_records.specs.declared.Reply.TheVariants as reply

-- it is carried out, and these operations are named, in this order; or it isn't, for this reason
pub data Answer : Type 0 where
  accepted : List OpKey → Answer
  refused : Refusal → Answer

-- what a reply says
abbrev pub answer_of : Reply → Answer
answer_of (reply.Accepted named) = accepted named.items
answer_of (reply.Refused refusal) = refused refusal
