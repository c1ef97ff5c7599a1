-- What holds of every step and every run.
use Rattle.std.specs.Prelude.{◌≡◌, ◌⊎◌, ℕ, ℤ, List, ◌∷◌, ◌++◌}
use Rattle.plan_basics.specs.declared.keys.OpKey.{OpKey}
use Rattle.plan_basics.specs.Refusals.{NoneRefuses}
use Rattle.plan_basics.specs.declared.Refusal.TheVariants as refusal
use Rattle.plan_drafts.specs.status_rules.specs.declared.Status.TheVariants as status
use Rattle.plan_drafts.specs.plan_model.specs.Plan.{Plan, IsSoundPlan}
use Rattle.plan_drafts.specs.plan_model.specs.Contents.{Contents, Has}
use Rattle.plan_drafts.specs.plan_model.specs.Status.{HasStatus, AllPredecessorsSatisfied}
use Rattle.plan_drafts.specs.plan_model.specs.Starts.{MayStart}
use Rattle.plan_drafts.specs.plan_model.specs.Ready.{named, IsChosen}
use Rattle.plan_drafts.specs.plan_model.specs.Valid.{IsSound}
use Rattle.plan_records.specs.declared.Request.{Request}
use Rattle.plan_records.specs.Answer.{Answer}
use Rattle.plan_records.specs.Answer.{accepted}
use Rattle.plan_records.specs.declared.What.{What}
use Rattle.plan_records.specs.declared.What.TheVariants as what
use Rattle.plan_records.specs.Changes.{IsRequest, Changes}
use Rattle.plan_records.specs.Acceptance.{MayBeAccepted, minute_of}
use Rattle.plan_records.specs.Step.{Step}
use Rattle.plan_records.specs.Run.{State, Call, plain, numbered, Usable, usable, Answers, Run}

-- o is started after, and wasn't before
abbrev pub BecomesStarted : Plan → Plan → OpKey → Type 0
BecomesStarted before after o = ¬ HasStatus before.contents o status.Started × HasStatus after.contents o status.Started

-- its predecessors are satisfied, its workstation is open, and servers, fixed and special resources suffice
pub record IsProvidedFor (P : Contents) (o : OpKey) (m : ℕ) : Type 0 where
  pub predecessors : AllPredecessorsSatisfied P o
  pub provided : Has P o (λ op. MayStart P o op m refusal.Closed × MayStart P o op m refusal.NoServer × MayStart P o op m refusal.NoFixed × MayStart P o op m refusal.ResourceBusy)

-- that from which o is named: what the request changes what the plan holds to, with the operations that are named before o marked so
-- (the plan before the request would let two take one server: what is named before o holds what it takes)
abbrev pub IsAtNaming : Plan → Request → Answer → OpKey → Contents → Type 0
IsAtNaming P q reply o at_start =
    (changed : Contents) × (before : List OpKey) × (after : List OpKey)
    × Changes P.contents q.what changed
    × (reply ≡ accepted (before ++ o ∷ after))
    × (at_start ≡ named before changed)

-- that in which a start is judged: of one that is reported what the plan holds before the request, of one that is named that from which it is
abbrev pub IsAtStart : Plan → Request → Answer → OpKey → Contents → Type 0
IsAtStart P q reply o at_start = ((q.what ≡ what.Started o) × (at_start ≡ P.contents)) ⊎ IsAtNaming P q reply o at_start

-- at the request's moment there was all that o needs to start
abbrev pub WasProvidedFor : Plan → Request → Answer → OpKey → Type 0
WasProvidedFor P q reply o = (at_start : Contents) × IsAtStart P q reply o at_start × IsProvidedFor at_start o (minute_of q.at)

-- no operation becomes started unless there is all that it needs
abbrev pub StartsAreProvidedFor : Type 0
StartsAreProvidedFor = (P after : Plan) (q : Request) (reply : Answer) → IsSoundPlan P → Step P q reply after → (o : OpKey) → BecomesStarted P after o → WasProvidedFor P q reply o

-- the request of a call, numbered or not
abbrev pub request_of : Call → Request
request_of (plain q) = q
request_of (numbered n) = n.request

-- the same, after any run from a sound plan, as from the empty one, and whatever the next call is
-- (any sound plan, since a desk may be opened on one)
abbrev pub ReachedStartsAreProvidedFor : Type 0
ReachedStartsAreProvidedFor =
    (first : State) (calls : List Call) (replies : List Answer) (s t : State) (u v : Usable) (c : Call) (reply : Answer)
    → IsSoundPlan first.plan → Run first usable calls replies s u → Answers s u c reply t v
    → (o : OpKey) → BecomesStarted s.plan t.plan o → WasProvidedFor s.plan (request_of c) reply o

-- the choice keeps what a plan holds sound
abbrev pub ChoiceKeepsSound : Type 0
ChoiceKeepsSound = (P : Contents) (m : ℕ) (chosen : List OpKey) → IsSound P → IsChosen P m chosen → IsSound (named chosen P)

-- what an accepted request changes keeps it sound
abbrev pub ChangeKeepsSound : What → Type 0
ChangeKeepsSound w = (P : Plan) (Q : Contents) (at : ℤ) → IsSoundPlan P → NoneRefuses (MayBeAccepted P (record { at = at; what = w })) → IsRequest w → Changes P.contents w Q → IsSound Q

-- so does every step
abbrev pub StepKeepsSound : Type 0
StepKeepsSound = (P after : Plan) (q : Request) (reply : Answer) → IsSoundPlan P → Step P q reply after → IsSoundPlan after

-- a run that begins with a sound plan ends with one
abbrev pub RunKeepsSound : Type 0
RunKeepsSound = (s t : State) (u v : Usable) (calls : List Call) (replies : List Answer) → IsSoundPlan s.plan → Run s u calls replies t v → IsSoundPlan t.plan
