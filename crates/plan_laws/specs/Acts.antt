-- Which requests of trackers acted in a run, and which were answered again.
use Rattle.std.specs.Prelude.{◌≡◌, ℕ, List, [], ◌∷◌, Contains, Some, slice_get}
use Rattle.std.specs.FinMap.{get}
use Rattle.plan_basics.specs.declared.keys.OpKey.{OpKey}
use Rattle.plan_records.specs.Answer.{Answer, accepted}
use Rattle.plan_records.specs.Run.{State, Call, CallStep, plain, numbered}
use Rattle.plan_records.specs.Step.{AnswersAgain, Numbered, StepsAnew}
use Rattle.plan_records.specs.declared.Request.{Request}

-- a tracker's request that acted, and the keys that it named
pub record Act : Type 0 where
  pub request : Numbered
  pub named : List OpKey

-- a run of calls that are all accepted, and in their order the trackers' requests that acted in it: a request of an operator is no tracker's, one of the next number acts, and one that is repeated is answered with the keys that were kept
pub data RunWithActs : State → List Call → List Answer → State → List Act → Type 0 where
  at_end : {s : State} → RunWithActs s [] [] s []
  plainly : {s mid t : State} {q : Request} {named : List OpKey} {calls : List Call} {replies : List Answer} {acts : List Act}
      → CallStep s (plain q) (accepted named) mid → RunWithActs mid calls replies t acts → RunWithActs s (plain q ∷ calls) (accepted named ∷ replies) t acts
  anew : {s mid t : State} {n : Numbered} {named : List OpKey} {calls : List Call} {replies : List Answer} {acts : List Act}
      → StepsAnew s.plan s.receipts n (accepted named) mid.plan mid.receipts → RunWithActs mid calls replies t acts
      → RunWithActs s (numbered n ∷ calls) (accepted named ∷ replies) t (record { request = n; named = named } ∷ acts)
  again : {s t : State} {n : Numbered} {named : List OpKey} {calls : List Call} {replies : List Answer} {acts : List Act}
      → AnswersAgain (get s.receipts n.tracker) n (accepted named) → RunWithActs s calls replies t acts → RunWithActs s (numbered n ∷ calls) (accepted named ∷ replies) t acts

-- both are of one tracker, and have one number
abbrev pub HaveOneNumber : Numbered → Numbered → Type 0
HaveOneNumber a b = (a.tracker ≡ b.tracker) × (a.number ≡ b.number)

-- of each tracker and number one request at most acted, and it acted once
abbrev pub EachActedOnce : List Act → Type 0
EachActedOnce acts = (i j : ℕ) (a b : Act) → slice_get acts i ≡ Some a → slice_get acts j ≡ Some b → HaveOneNumber a.request b.request → i ≡ j

-- a request of this tracker, number and text acted, and named these keys
abbrev pub HasActed : List Act → Numbered → List OpKey → Type 0
HasActed acts n named = (d : Act) × Contains acts d × HaveOneNumber d.request n × (d.request.text ≡ n.text) × (d.named ≡ named)
