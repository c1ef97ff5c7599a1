-- One request: its reply, and the plan that it leaves.
use Rattle.std.specs.Prelude.{◌≡◌, ◌≢◌, ◌⊎◌, ℕ, ◌+◌, ◌<◌, ◌≤◌, true, List, length, All, Option, Some, None}
use Rattle.std.specs.FinMap.{FinMap, get, insert, len, contains_key}
use Rattle.plan_basics.specs.declared.keys.OpKey.{OpKey}
use Rattle.plan_basics.specs.declared.Refusal.{Refusal}
use Rattle.plan_basics.specs.declared.Refusal.TheVariants as refusal
use Rattle.plan_basics.specs.declared.limits.TheConstants.{MOST_TRACKERS, GREATEST_REQUEST_NUMBER, LONGEST_REQUEST_TEXT}
use Rattle.plan_basics.specs.Keys.{Name, name_cmp}
use Rattle.plan_basics.specs.Names.{IsName}
use Rattle.plan_basics.specs.Refusals.{IsLeastRefusal, NoneRefuses}
use Rattle.plan_drafts.specs.plan_model.specs.Plan.{Plan}
use Rattle.plan_drafts.specs.plan_model.specs.Contents.{Contents}
use Rattle.plan_drafts.specs.plan_model.specs.Ready.{IsChosen, named}
use Rattle.plan_records.specs.declared.Request.{Request}
use Rattle.plan_records.specs.Answer.{Answer}
use Rattle.plan_records.specs.Answer.{accepted, refused}
use Rattle.plan_records.specs.Acceptance.{MayBeAccepted, minute_of}
use Rattle.plan_records.specs.Changes.{IsRequest, Changes}

-- the request is accepted: it changes what P holds to `changed`, at its moment these are chosen, and they are named; a plan is loaded then, and its clock is at that moment
pub record IsAccepted (allows : Refusal → Type 0) (P : Plan) (q : Request) (chosen : List OpKey) (after : Plan) : Type 0 where
  pub none_refuses : NoneRefuses allows
  pub is_request : IsRequest q.what
  pub changed : Contents
  pub changes : Changes P.contents q.what changed
  pub is_chosen : IsChosen changed (minute_of q.at) chosen
  pub is_after : after ≡ record { loaded = true; clock = minute_of q.at; contents = named chosen changed }

-- the request is refused, for the least number that applies
pub record IsRefused (allows : Refusal → Type 0) (P : Plan) (r : Refusal) (after : Plan) : Type 0 where
  pub least : IsLeastRefusal allows r
  pub is_after : after ≡ P

-- the answer, and the plan that it leaves, by these rules of acceptance
abbrev pub StepBy : (Refusal → Type 0) → Plan → Request → Answer → Plan → Type 0
StepBy allows P q (accepted chosen) after = IsAccepted allows P q chosen after
StepBy allows P q (refused r) after = IsRefused allows P r after

-- the answer to a request, and the plan that it leaves
abbrev pub Step : Plan → Request → Answer → Plan → Type 0
Step P q reply after = StepBy (MayBeAccepted P q) P q reply after

-- ---- numbered requests

-- a tracker's last accepted request: its number, its text, and the keys that it named
pub record Receipt : Type 0 where
  pub number : ℕ
  pub text : List ℕ
  pub named : List OpKey

-- the last receipt of each tracker
abbrev pub Receipts : Type 0
Receipts = FinMap name_cmp Receipt

-- a request with its tracker, its number and the text that it was read from
pub record Numbered : Type 0 where
  pub tracker : Name
  pub number : ℕ
  pub text : List ℕ
  pub request : Request

-- the tracker's name is legal, and the text of its request is of bytes
abbrev pub IsNumbered : Numbered → Type 0
IsNumbered n = IsName 8 n.tracker × All (λ b. b < 256) n.text

-- the number of a tracker's last accepted request, 0 where it has none
abbrev pub last_number : Option Receipt → ℕ
last_number (Some receipt) = receipt.number
last_number None = 0

-- there is room for its receipt
abbrev pub HasReceiptRoom : Receipts → Numbered → Type 0
HasReceiptRoom T n = ((contains_key T n.tracker ≡ true) ⊎ (len T < MOST_TRACKERS)) × (length n.text ≤ LONGEST_REQUEST_TEXT) × (n.number ≤ GREATEST_REQUEST_NUMBER)

-- a new request of a tracker may be accepted: its own rules, and room for its receipt
abbrev pub NumberedMayBeAccepted : Plan → Receipts → Numbered → Refusal → Type 0
NumberedMayBeAccepted P T n r = MayBeAccepted P n.request r × (r ≡ refusal.Limit → HasReceiptRoom T n)

-- an accepted request becomes its tracker's receipt
abbrev pub receipts_after : Receipts → Numbered → Answer → Receipts
receipts_after T n (accepted chosen) = insert T n.tracker (record { number = n.number; text = n.text; named = chosen })
receipts_after T n (refused r) = T

-- a number that isn't the next one: what it is answered; nothing changes
abbrev pub AnswersAgain : Option Receipt → Numbered → Answer → Type 0
AnswersAgain (Some receipt) n (accepted chosen) = (0 < n.number) × (n.number ≡ receipt.number) × (n.text ≡ receipt.text) × (chosen ≡ receipt.named)
AnswersAgain (Some receipt) n (refused refusal.Reused) = (0 < n.number) × (n.number ≡ receipt.number) × (n.text ≢ receipt.text)
AnswersAgain last n (refused refusal.Old) = (n.number < last_number last) ⊎ (n.number ≡ 0)
AnswersAgain last n (refused refusal.Gap) = last_number last + 1 < n.number
AnswersAgain last n _ = ⊥

-- the next number: a step by the tracker's rules, and the receipts after it
abbrev pub StepsAnew : Plan → Receipts → Numbered → Answer → Plan → Receipts → Type 0
StepsAnew P T n reply after receipts =
    (n.number ≡ last_number (get T n.tracker) + 1)
    × ((chosen : List OpKey) → reply ≡ accepted chosen → IsNumbered n)
    × StepBy (NumberedMayBeAccepted P T n) P n.request reply after
    × (receipts ≡ receipts_after T n reply)

-- a numbered request: answered again, and nothing changes, or new, and then a step
abbrev pub NumberedStep : Plan → Receipts → Numbered → Answer → Plan → Receipts → Type 0
NumberedStep P T n reply after receipts = (AnswersAgain (get T n.tracker) n reply × (after ≡ P) × (receipts ≡ T)) ⊎ StepsAnew P T n reply after receipts
