-- The night ahead of a plan: requests that are accepted one after another, each at the first moment that has work.
use Rattle.std.specs.Prelude.{◌≡◌, ◌⊎◌, ℕ, ◌+◌, ◌<◌, ◌≤◌, max, pos, false, List, [], ◌∷◌, ◌++◌, Contains, Option, Some, None, MatchOption, option_map}
use Rattle.std.specs.FinMap.{get}
use Rattle.std.specs.declared.cmp.Ordering.TheVariants.{Less}
use Rattle.plan_basics.specs.Keys.{operation_cmp}
use Rattle.plan_basics.specs.declared.Attr.{Attr}
use Rattle.plan_basics.specs.declared.Attr.TheVariants as attribute
use Rattle.plan_basics.specs.declared.keys.OpKey.{OpKey}
use Rattle.status_rules.specs.declared.Mark.{Mark}
use Rattle.status_rules.specs.declared.Mark.TheVariants as mark
use Rattle.status_rules.specs.declared.Status.TheVariants as status
use Rattle.ready_list.specs.declared.ReadyKey.{ReadyKey}
use Rattle.ready_list.specs.Choice.{operations_of}
use Rattle.plan_model.specs.Contents.{Contents, Has, HasAttribute, Operation}
use Rattle.plan_model.specs.Plan.{Plan}
use Rattle.plan_model.specs.Ready.{IsReadyList}
use Rattle.plan_model.specs.Starts.{IsAllowedToStart}
use Rattle.plan_model.specs.Status.{HasStatus, IsReady}
use Rattle.plan_records.specs.Answer.{accepted}
use Rattle.plan_records.specs.Step.{Step}
use Rattle.plan_records.specs.declared.Request.{Request}
use Rattle.plan_records.specs.declared.What.{What}
use Rattle.plan_records.specs.declared.What.TheVariants as what

-- a plan ahead, and of each operation the minute since which it is going, and the one at which it was complete, where these are known
pub record Ahead : Type 0 where
  pub plan : Plan
  pub since : OpKey → Option ℕ
  pub done : OpKey → Option ℕ

-- it is started; or it is on a workstation that reports completion alone, ready and not held
abbrev pub IsGoing : Contents → OpKey → Type 0
IsGoing P o = HasStatus P o status.Started ⊎ (IsReady P o × Has P o (λ op. HasAttribute P op.workstation attribute.CompletionOnly × (op.held ≡ false)))

-- it is going, and its duration is over at x
abbrev pub IsDue : Ahead → OpKey → ℕ → Type 0
IsDue s o x = IsGoing s.plan.contents o × Has s.plan.contents o (λ op. (b : ℕ) × (s.since o ≡ Some b) × (b + op.duration ≤ x))

-- it is ready on a workstation of this attribute, and allowed to start at x
abbrev pub MayBegin : Attr → Contents → OpKey → ℕ → Type 0
MayBegin a P o x = IsReady P o × Has P o (λ op. HasAttribute P op.workstation a) × IsAllowedToStart P o x

-- some operation is due at x
abbrev pub SomeIsDue : Ahead → ℕ → Type 0
SomeIsDue s x = (o : OpKey) × IsDue s o x

-- some operation may begin at x on a workstation of this attribute
abbrev pub SomeMayBegin : Attr → Ahead → ℕ → Type 0
SomeMayBegin a s x = (o : OpKey) × MayBegin a s.plan.contents o x

-- something is due at x, or may begin
abbrev pub HasWork : Ahead → ℕ → Type 0
HasWork s x = SomeIsDue s x ⊎ SomeMayBegin attribute.Automatic s x ⊎ SomeMayBegin attribute.StartAndCompletion s x

-- o is the first of the ready list that may begin at x on a workstation where starts are reported
pub record BeginsFirst (s : Ahead) (x : ℕ) (o : OpKey) : Type 0 where
  pub ready : List ReadyKey
  pub is_ready_list : IsReadyList s.plan.contents ready
  pub before : List OpKey
  pub after : List OpKey
  pub split : operations_of ready ≡ before ++ o ∷ after
  pub may : MayBegin attribute.StartAndCompletion s.plan.contents o x
  pub first : (p : OpKey) → Contains before p → ¬ MayBegin attribute.StartAndCompletion s.plan.contents p x

-- what is done at a moment with work: the due operation of the least key is ended; where none is due the clock ticks, if the desk may start something; else the first that may begin is started
abbrev pub IsWork : Ahead → ℕ → What → Type 0
IsWork s x (what.Ended o) = IsDue s o x × ((p : OpKey) → IsDue s p x → ¬ (operation_cmp p o ≡ Less))
IsWork s x what.Tick = ¬ SomeIsDue s x × SomeMayBegin attribute.Automatic s x
IsWork s x (what.Started o) = ¬ SomeIsDue s x × ¬ SomeMayBegin attribute.Automatic s x × BeginsFirst s x o
IsWork s x w = ⊥

-- there is work at no moment from the clock on before x
abbrev pub IsIdleUntil : Ahead → ℕ → Type 0
IsIdleUntil s x = (y : ℕ) → s.plan.clock ≤ y → y < x → ¬ HasWork s y

-- q is what is done at the first moment with work, which is x
pub record IsNext (s : Ahead) (x : ℕ) (q : Request) : Type 0 where
  pub from : s.plan.clock ≤ x
  pub idle : IsIdleUntil s x
  pub at : q.at ≡ pos x
  pub work : IsWork s x q.what

-- the minute from which it counts that is going from m on: where only its completion is reported, so that it has no mark, not before its not-before
abbrev pub counted_by : Mark → ℕ → ℕ → ℕ
counted_by mark.Unmarked not_before m = max m not_before
counted_by other not_before m = m

-- so it is of an operation of the plan, if it is there
abbrev pub counted_of : Option Operation → ℕ → ℕ
counted_of None m = m
counted_of (Some op) m = counted_by op.mark op.not_before m

-- so it is of the operation of a plan that has this key
abbrev pub counted_from : Contents → ℕ → OpKey → ℕ
counted_from P m o = counted_of (get P.operations o) m

-- a time that there was stays; where there was none, it is m if it is so
abbrev pub IsTimeAfter : Type 0 → ℕ → Option ℕ → Option ℕ → Type 0
IsTimeAfter is_so m old new = MatchOption old ((is_so × (new ≡ Some m)) ⊎ (¬ is_so × (new ≡ None))) (λ x. new ≡ Some x)

-- so it is of each operation
abbrev pub AreTimesAfter : (OpKey → Type 0) → (OpKey → ℕ) → (OpKey → Option ℕ) → (OpKey → Option ℕ) → Type 0
AreTimesAfter is_so at old new = (o : OpKey) → IsTimeAfter (is_so o) (at o) (old o) (new o)

-- q is accepted, and by its moment is timed what is going then, or complete, for the first time
pub record LeadsTo (s : Ahead) (q : Request) (t : Ahead) : Type 0 where
  pub chosen : List OpKey
  pub step : Step s.plan q (accepted chosen) t.plan
  pub since : AreTimesAfter (IsGoing t.plan.contents) (counted_from t.plan.contents t.plan.clock) s.since t.since
  pub done : AreTimesAfter (λ o. HasStatus t.plan.contents o status.Complete) (λ o. t.plan.clock) s.done t.done

-- these are made one after another, each as soon as there is work, up to the moment `until`; no work is left then up to it
abbrev pub LeadsOn : ℕ → Ahead → List Request → Ahead → Type 0
LeadsOn until s [] t = (t ≡ s) × ((x : ℕ) → s.plan.clock ≤ x → x ≤ until → ¬ HasWork s x)
LeadsOn until s (q ∷ qs) t = (x : ℕ) × (mid : Ahead) × (x ≤ until) × IsNext s x q × LeadsTo s q mid × LeadsOn until mid qs t

-- a tick at this minute
abbrev pub tick : ℕ → Request
tick m = record { at = pos m; what = what.Tick }

-- nothing is known
abbrev pub unknown : OpKey → Option ℕ
unknown o = None

-- what counts of what is known of it: nothing where it is named alone, since that it was named is no start; else from when it counts
abbrev pub start_by : Mark → ℕ → Option ℕ → Option ℕ
start_by mark.Named not_before known = None
start_by other not_before known = option_map (counted_by other not_before) known

-- so it is of an operation of the plan
abbrev pub start_of : Option Operation → Option ℕ → Option ℕ
start_of None known = None
start_of (Some op) known = start_by op.mark op.not_before known

-- the starts that are known in a plan: those of what runs, and of what is ready where its completion alone is reported
abbrev pub starts_in : Contents → (OpKey → Option ℕ) → OpKey → Option ℕ
starts_in P known o = start_of (get P.operations o) (known o)

-- before the forecast's first request, which is a tick
abbrev pub before_it : Plan → (OpKey → Option ℕ) → Ahead
before_it P known = record { plan = P; since = starts_in P.contents known; done = unknown }

-- a forecast from the moment m up to `until`: a tick then, and what it leads on to
abbrev pub IsForecast : Plan → (OpKey → Option ℕ) → ℕ → ℕ → List Request → Ahead → Type 0
IsForecast P known m until requests last =
    (mid : Ahead) × (rest : List Request) × (requests ≡ tick m ∷ rest) × LeadsTo (before_it P known) (tick m) mid × LeadsOn until mid rest last
