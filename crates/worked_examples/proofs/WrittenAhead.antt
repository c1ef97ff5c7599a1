-- A forecast of a plan of lines, request by request, by a test that computes.
use Rattle.std.proofs.Common.{arith, ◌≡◌, ◌⊎◌, inl, inr, refl, sym, ◌∙◌, ap, subst, true≢false, ℕ, ◌+◌, ◌-◌, ◌<◌, ◌≤◌, Bool, true, false, not, cond, ◌&&◌, ◌||◌, Decides, List, [], ◌∷◌, ◌++◌, drop, map, filter, Option, Some, None, option_map, is_some, pos}
use Rattle.std.specs.Prelude.{nat_le}
use Rattle.std.specs.Ordering.{eq_by_cmp, is_lt}
use Rattle.std.specs.List.{list_all, list_any}
use Rattle.std.specs.FinMap.{get}
use Rattle.std.specs.FinSet.{from_list}
use Rattle.std.specs.FinMap.Entries.{find-where_key}
use Rattle.std.proofs.lemmas.Bool.{and_from, leb-true, or_cases}
use Rattle.std.proofs.lemmas.Int.{ints}
use Rattle.std.proofs.lemmas.Option.{same_Some}
use Rattle.plan_basics.proofs.Members.{contains_none}
use Rattle.plan_basics.specs.declared.Attr.{Attr}
use Rattle.plan_basics.specs.declared.Attr.TheVariants as attribute
use Rattle.plan_basics.specs.declared.keys.OpKey.{OpKey}
use Rattle.plan_basics.specs.declared.Refusal.{Refusal}
use Rattle.plan_basics.specs.declared.Refusal.TheVariants as refusal
use Rattle.plan_basics.specs.Intervals.{IsOpenAt}
use Rattle.plan_basics.specs.Keys.{operation_cmp, operation_cmp-IsAntisymmetric}
use Rattle.plan_basics.specs.Minutes.{IsMoment}
use Rattle.plan_basics.specs.Refusals.{NoneRefuses}
use Rattle.ready_list.specs.Choice.{is_among}
use Rattle.status_rules.specs.declared.Mark.TheVariants as mark
use Rattle.status_rules.specs.declared.Status.TheVariants as status
use Rattle.plan_model.specs.Contents.{Contents, Has, HasAttribute, Operation, attribute_at}
use Rattle.plan_model.specs.Plan.{Plan}
use Rattle.plan_model.specs.Revise.{or_else}
use Rattle.plan_model.specs.Starts.{MayStart}
use Rattle.plan_model.specs.Status.{HasStatus, IsReady}
use Rattle.plan_model.specs.Valid.{IsAcyclic}
use Rattle.plan_records.specs.declared.Request.{Request}
use Rattle.plan_records.specs.declared.What.{What}
use Rattle.plan_records.specs.declared.What.TheVariants as what
use Rattle.plan_records.specs.Acceptance.{IsLoad, minute_of, MayBeAccepted, MayBeDone, MayBeEnded, MayBeStarted, OfOperation}
use Rattle.plan_records.specs.Changes.{Changes, IsRequest, is_at}
use Rattle.plan_forecast.specs.Ahead.{Ahead, HasWork, IsDue, IsForecast, IsGoing, IsTimeAfter, IsWork, LeadsOn, LeadsTo, MayBegin, SomeIsDue, SomeMayBegin, counted_by, counted_from, counted_of, start_by, start_of, starts_in, tick, unknown}
use Rattle.worked_examples.specs.Day.{loaded_at}
use Rattle.worked_examples.specs.Written.{Line, Lines, Sheet, line_at, operation_of, plan_of, time_of}
use Rattle.worked_examples.proofs.Literal.{EachEntry, at_entry, found_entry}
use Rattle.worked_examples.proofs.WrittenLines.{all_at, all_three, either, find-map, if_so, is_listed, keys_of, line_of, mark_lines, none_so, refuted, operation_at, plan_with, some_in, there}
use Rattle.worked_examples.proofs.WrittenReady.{FitAlong, IsInOrder, are_chosen, chosen_from, is_ready_list, named_lines, operations_are, ready_key, ready_of}
use Rattle.worked_examples.proofs.WrittenRoom.{allowed_at, allowed_later, allowed_told}
use Rattle.worked_examples.proofs.WrittenTold.{common, complete_told, done_at, due_at, due_told, going_at, going_told, IsFit, is_on, on_told, ready_at, ready_told, started_at, started_told}

-- ---- work

-- a plan of lines, since when each operation is going, and when it was complete
pub record State : Type 0 where
  pub clock : ℕ
  pub lines : Lines
  pub begins : List (OpKey × ℕ)
  pub ends : List (OpKey × ℕ)

-- the plan ahead
abbrev pub ahead : Sheet → State → Ahead
ahead S t = record { plan = loaded_at t.clock (plan_of S t.lines); since = time_of t.begins; done = time_of t.ends }

-- it may begin at x on a workstation of this attribute
abbrev pub begins_at : Sheet → Lines → Attr → ℕ → OpKey → Bool
begins_at S lines a x o = ready_at S lines o && (is_on S lines a o && allowed_at S lines x o)

-- some operation is due at x
abbrev pub some_due : Sheet → State → ℕ → Bool
some_due S t x = list_any (due_at S t.lines t.begins x) (keys_of t.lines)

-- some operation may begin so
abbrev pub some_begins : Sheet → Lines → Attr → ℕ → Bool
some_begins S lines a x = list_any (begins_at S lines a x) (keys_of lines)

-- there is work at x
abbrev pub works_at : Sheet → State → ℕ → Bool
works_at S t x = some_due S t x || (some_begins S t.lines attribute.Automatic x || some_begins S t.lines attribute.StartAndCompletion x)

-- the tests say that this is the work at x
abbrev pub IsWorkBy : Sheet → State → ℕ → What → Type 0
IsWorkBy S t x (what.Ended o) =
    (due_at S t.lines t.begins x o ≡ true)
    × (list_all (λ p. not (due_at S t.lines t.begins x p && is_lt (operation_cmp p o))) (keys_of t.lines) ≡ true)
    × ((not (started_at t.lines o) || (is_on S t.lines attribute.Automatic o || is_on S t.lines attribute.StartAndCompletion o)) ≡ true)
IsWorkBy S t x what.Tick = (not (some_due S t x) ≡ true) × (some_begins S t.lines attribute.Automatic x ≡ true)
IsWorkBy S t x (what.Started o) =
    (not (some_due S t x) ≡ true)
    × (not (some_begins S t.lines attribute.Automatic x) ≡ true)
    × (begins_at S t.lines attribute.StartAndCompletion x o ≡ true)
    × (ready_of S t.lines ≡ o ∷ drop 1 (ready_of S t.lines))
IsWorkBy S t x w = ⊥

-- what the report of it changes
abbrev pub changed_lines : What → Lines → Lines
changed_lines (what.Ended o) lines = mark_lines mark.Done (is_at o) lines
changed_lines (what.Started o) lines = mark_lines mark.Running (is_at o) lines
changed_lines w lines = lines

-- there is none from the clock on before x
abbrev pub is_idle : Sheet → State → ℕ → Bool
is_idle S t x = nat_le x t.clock || not (works_at S t (x - 1))

module _ (S : Sheet) (acyclic : IsAcyclic (from_list S.pairs)) (t : State) (fit : IsFit S t.lines) (up : IsInOrder S acyclic t.lines) where
  abbrev lines : Lines
  lines = t.lines

  abbrev P : Contents
  P = plan_of S lines

  abbrev s : Ahead
  s = ahead S t

  due : (x : ℕ) (o : OpKey) → Decides (due_at S lines t.begins x o) (IsDue s o x)
  due x o = due_told S lines fit o t.begins (time_of t.ends) t.clock x

  some_due_told : (x : ℕ) → Decides (some_due S t x) (SomeIsDue s x)
  some_due_told x = some_in S lines (due_at S lines t.begins x) (λ o. IsDue s o x) (due x) (λ o h. (h.1.0, h.1.1, tt))

  module _ (x : ℕ) (now : IsOpenAt S.interval x) where
    may_told : (a : Attr) (o : OpKey) → Decides (begins_at S lines a x o) (MayBegin a P o x)
    may_told a o = all_three (ready_told S lines fit o) (on_told S lines fit o a) (allowed_told S lines fit o x now)

    some_may_told : (a : Attr) → Decides (some_begins S lines a x) (SomeMayBegin a s x)
    some_may_told a = some_in S lines (begins_at S lines a x) (λ o. MayBegin a P o x) (may_told a) (λ o h. (h.1.0, h.1.1, tt))

    works_told : Decides (works_at S t x) (HasWork s x)
    works_told =
        either (some_due_told x)
        (either (some_may_told attribute.Automatic) (some_may_told attribute.StartAndCompletion))

  -- while the workstations are open work stays
  module _ (y z : ℕ) (later : y ≤ z) (then_open : IsOpenAt S.interval y) (now : IsOpenAt S.interval z) where
    may_stay : (a : Attr) → SomeMayBegin a s y → SomeMayBegin a s z
    may_stay a h = (h.0, (h.1.0, h.1.1, (allowed_told S lines fit h.0 z now).0 (allowed_later S lines h.0 y z later ((allowed_told S lines fit h.0 y then_open).1 h.1.2))))

    work_stays : HasWork s y → HasWork s z
    work_stays (inl h) = inl (h.0, (h.1.0, (h.1.1.0, h.1.1.1, (h.1.1.2.0, h.1.1.2.1, let over = h.1.1.2.2 in omega (arith, over, later)))))
    work_stays (inr (inl h)) = inr (inl (may_stay attribute.Automatic h))
    work_stays (inr (inr h)) = inr (inr (may_stay attribute.StartAndCompletion h))

  module _ (opened : S.interval.from ≤ t.clock) (x : ℕ) (before_end : x ≤ S.interval.end) where
    no_work : is_idle S t x ≡ true → (y : ℕ) → t.clock ≤ y → y < x → HasWork s y → ⊥
    no_work idle y from before work = elim (or_cases (nat_le x t.clock) (not (works_at S t (x - 1))) idle) [
      | inl e ↦ let none = leb-true x t.clock e in omega (arith, none, from, before)
      | inr none ↦ none_so (works_told (x - 1) (omega arith, omega arith)) none (work_stays y (x - 1) (omega arith) (omega arith, omega arith) (omega arith, omega arith) work)
    ]

  -- ---- what is done at x

  module _ (x : ℕ) (now : IsOpenAt S.interval x) where
    -- it is the work, is asked for, and changes the lines
    abbrev pub IsDone : What → Type 0
    IsDone w = IsWork s x w × ((r : Refusal) → MayBeDone P x w r) × (IsLoad w → ⊥) × IsRequest w × Changes P w (plan_of S (changed_lines w lines))

    -- on a workstation of this attribute
    abbrev On : Attr → OpKey → Type 0
    On a o = Has P o (λ op. HasAttribute P op.workstation a)

    -- what is asked of a report of it
    on_by : (o : OpKey) (asks : Operation → Option Attr → Refusal → Type 0) (a : Attr) → On a o → ((op : Operation) → get P.operations o ≡ Some op → (r : Refusal) → asks op (Some a) r) → (r : Refusal)
        → OfOperation P o (λ op. asks op (attribute_at P op.workstation)) r
    on_by o asks a on f refusal.UnknownOperation = (on.0, on.1, tt)
    on_by o asks a on f r = λ op is. subst (λ b. asks op b r) (sym (subst (λ z. HasAttribute P z.workstation a) (same_Some on.0 op (sym on.1 ∙ is)) on.2)) (f op is r)

    ends_automatic : (o : OpKey) (op : Operation) → HasStatus P o status.Started → (r : Refusal) → MayBeEnded P o op (Some attribute.Automatic) r
    ends_automatic o op h refusal.WrongStatus = inl h
    ends_automatic o op h r = tt

    ends_by_hand : (o : OpKey) (op : Operation) → HasStatus P o status.Started → (r : Refusal) → MayBeEnded P o op (Some attribute.StartAndCompletion) r
    ends_by_hand o op h refusal.WrongStatus = inl h
    ends_by_hand o op h r = tt

    completes : (o : OpKey) (op : Operation) → IsReady P o → op.held ≡ false → (r : Refusal) → MayBeEnded P o op (Some attribute.CompletionOnly) r
    completes o op h unheld refusal.WrongStatus = h
    completes o op h unheld refusal.Held = unheld
    completes o op h unheld r = tt

    may_end : (o : OpKey) → IsGoing P o → (HasStatus P o status.Started → On attribute.Automatic o ⊎ On attribute.StartAndCompletion o) → (r : Refusal) → MayBeDone P x (what.Ended o) r
    may_end o (inl h) on = elim (on h) [
      | inl k ↦ on_by o (MayBeEnded P o) attribute.Automatic k (λ op is. ends_automatic o op h)
      | inr k ↦ on_by o (MayBeEnded P o) attribute.StartAndCompletion k (λ op is. ends_by_hand o op h)
    ]
    may_end o (inr h) on = on_by o (MayBeEnded P o) attribute.CompletionOnly (h.1.0, h.1.1, h.1.2.0) (λ op is. completes o op h.0 (common S lines fit o op is).2)

    may_start : (o : OpKey) → MayBegin attribute.StartAndCompletion P o x → (r : Refusal) → MayBeDone P x (what.Started o) r
    may_start o h = on_by o (MayBeStarted P x o) attribute.StartAndCompletion h.1 (λ op is r. subst (λ z. MayStart P o z x r) (same_Some h.2.0 op (sym h.2.1 ∙ is)) (h.2.2 r))

    is_done : (w : What) → IsWorkBy S t x w → IsDone w
    is_done (what.Ended o) h =
        let is_due = (due x o).0 h.0 in
        let on = either (on_told S lines fit o attribute.Automatic) (on_told S lines fit o attribute.StartAndCompletion) in (
          (
            is_due,
            λ p also less. refuted
                (all_at (λ q. not (due_at S lines t.begins x q && is_lt (operation_cmp q o))) (keys_of lines) h.1 p (is_listed S lines p also.1.0 also.1.1))
                (and_from _ _ ((due x p).1 also) (ap is_lt less)),
          ),
          may_end o is_due.0 ((if_so (started_told S lines fit o) on).0 h.2),
          λ load. load,
          tt,
          sym (plan_with S mark.Done (is_at o) lines),
        )
    is_done what.Tick h = ((none_so (some_due_told x) h.0, (some_may_told x now attribute.Automatic).0 h.1), λ r. tt, λ load. load, tt, refl)
    is_done (what.Started o) h =
        let may = (may_told x now attribute.StartAndCompletion o).0 h.2 in (
          (
            none_so (some_due_told x) h.0,
            none_so (some_may_told x now attribute.Automatic) h.1,
            record {
              ready = map (ready_key S acyclic lines) (ready_of S lines);
              is_ready_list = is_ready_list S acyclic lines fit up;
              before = [];
              after = drop 1 (ready_of S lines);
              split = operations_are (ready_key S acyclic lines) (λ q. refl) (ready_of S lines) ∙ h.3;
              may = may;
              first = λ p has. absurd (contains_none p has);
            },
          ),
          may_start o may,
          λ load. load,
          tt,
          sym (plan_with S mark.Running (is_at o) lines),
        )
    is_done w h = absurd h

-- ---- what it leads to

-- with the times of those of which it is so now, and wasn't before
abbrev pub with_times : (OpKey → Bool) → (Line → ℕ) → Lines → List (OpKey × ℕ) → List (OpKey × ℕ)
with_times so at lines times = times ++ filter (λ e. so e.0 && not (is_some (time_of times e.0))) (map (λ e. (e.0, at e.1)) lines)

found_first : (es fs : List (OpKey × ℕ)) (o : OpKey) → time_of (es ++ fs) o ≡ or_else (time_of es o) (time_of fs o)
found_first [] fs o = refl
found_first (e ∷ es) fs o = elim (eq_by_cmp operation_cmp o e.0) as (λ b. cond b (Some e.1) (time_of (es ++ fs) o) ≡ or_else (cond b (Some e.1) (time_of es o)) (time_of fs o)) [ true ↦ refl | false ↦ found_first es fs o ]

module _ (so : OpKey → Bool) (at : Line → ℕ) (lines : Lines) (times : List (OpKey × ℕ)) (o : OpKey) where
  -- the time of an operation
  time_is : time_of (with_times so at lines times) o ≡ or_else (time_of times o) (cond (so o && not (is_some (time_of times o))) (option_map at (line_at lines o)) None)
  time_is =
      found_first times _ o
      ∙ ap (or_else (time_of times o)) (find-where_key operation_cmp (λ q. so q && not (is_some (time_of times q))) o (λ q tie. ap (λ z. so z && not (is_some (time_of times z))) (sym (operation_cmp-IsAntisymmetric o q tie))) (map (λ e. (e.0, at e.1)) lines)
      ∙ ap (λ x. cond (so o && not (is_some (time_of times o))) x None) (find-map operation_cmp at lines o))

  timed : (A : Type 0) (m : ℕ) → Decides (so o) A → (A → option_map at (line_at lines o) ≡ Some m) → IsTimeAfter A m (time_of times o) (time_of (with_times so at lines times) o)
  timed A m told now = subst (IsTimeAfter A m (time_of times o)) (sym time_is) (by (time_of times o) (so o) told)
    where
      by : (x : Option ℕ) (b : Bool) → Decides b A → IsTimeAfter A m x (or_else x (cond (b && not (is_some x)) (option_map at (line_at lines o)) None))
      by (Some k) b d = refl
      by None true d = inl (d.0 refl, now (d.0 refl))
      by None false d = inr (λ a. true≢false (sym (d.1 a)), refl)

-- the minute from which it counts that a line's operation is going from m on
abbrev pub counted_at : ℕ → Line → ℕ
counted_at m l = counted_by l.mark l.planned.not_before m

-- what is chosen at m
abbrev pub chosen_at : Sheet → ℕ → Lines → List OpKey
chosen_at S m lines = chosen_from S lines m [] (ready_of S lines)

-- with what is chosen named
abbrev pub then_named : Sheet → ℕ → Lines → Lines
then_named S m lines = named_lines (chosen_at S m lines) lines

-- the tests can show that it is
abbrev pub ShowsChoice : (S : Sheet) → IsAcyclic (from_list S.pairs) → ℕ → Lines → Type 0
ShowsChoice S acyclic m lines = IsFit S lines × IsInOrder S acyclic lines × FitAlong S lines m [] (ready_of S lines) × IsFit S (then_named S m lines)

-- with the times of what is going or complete at m
abbrev pub with_all_times : Sheet → ℕ → State → Lines → State
with_all_times S m t lines = record { clock = m; lines = lines; begins = with_times (going_at S lines) (counted_at m) lines t.begins; ends = with_times (done_at lines) (λ l. m) lines t.ends }

-- what a request at m leaves
abbrev pub left : Sheet → ℕ → What → State → State
left S m w t = with_all_times S m t (then_named S m (changed_lines w t.lines))

-- a request at a minute
abbrev pub request_at : ℕ → What → Request
request_at m w = record { at = pos m; what = w }

module _ (S : Sheet) (acyclic : IsAcyclic (from_list S.pairs)) (t : State) (m : ℕ) (w : What) (now : IsOpenAt S.interval m) (from : t.clock ≤ m) (moment : IsMoment m) (shows : ShowsChoice S acyclic m (changed_lines w t.lines)) where
  abbrev before : Plan
  before = loaded_at t.clock (plan_of S t.lines)

  abbrev changed : Lines
  changed = changed_lines w t.lines

  abbrev N : Lines
  N = then_named S m changed

  accepts : ((r : Refusal) → MayBeDone before.contents m w r) → (IsLoad w → ⊥) → NoneRefuses (MayBeAccepted before (request_at m w))
  accepts done new refusal.Past = omega (arith, ints, from)
  accepts done new refusal.MomentRange = (m, refl, moment)
  accepts done new refusal.NotLoaded = λ needs. refl
  accepts done new refusal.Loaded = λ load. absurd (new load)
  accepts done new r = done r

  leads : ((r : Refusal) → MayBeDone before.contents m w r) → (IsLoad w → ⊥) → IsRequest w → Changes before.contents w (plan_of S changed) → LeadsTo (ahead S t) (request_at m w) (ahead S (left S m w t))
  leads allow new request changes = record {
    chosen = chosen_at S m changed;
    step = record {
      none_refuses = accepts allow new;
      is_request = request;
      changed = plan_of S changed;
      changes = changes;
      is_chosen = are_chosen S acyclic changed shows.0 shows.1 m now shows.2;
      is_after = ap (loaded_at m) (sym (plan_with S mark.Named (is_among (chosen_at S m changed)) changed));
    };
    since = λ o. timed (going_at S N) (counted_at m) N t.begins o (IsGoing (plan_of S N) o) (counted_from (plan_of S N) m o) (going_told S N shows.3 o) (going_from o);
    done = λ o. timed (done_at N) (λ l. m) N t.ends o (HasStatus (plan_of S N) o status.Complete) m (complete_told S N shows.3 o) (λ h. ap (option_map (λ l. m)) (line_of S N o h.0 h.1).1);
  }
    where
      counted : (o : OpKey) (op : Operation) → get (plan_of S N).operations o ≡ Some op → option_map (counted_at m) (line_at N o) ≡ Some (counted_from (plan_of S N) m o)
      counted o op is = let k = line_of S N o op is in ap (option_map (counted_at m)) k.1 ∙ ap (λ x. Some (counted_of x m)) (sym (there S N o k.0 k.1))

      going_from : (o : OpKey) → IsGoing (plan_of S N) o → option_map (counted_at m) (line_at N o) ≡ Some (counted_from (plan_of S N) m o)
      going_from o (inl h) = counted o h.0 h.1
      going_from o (inr h) = counted o h.1.0 h.1.1

-- ---- on and on

-- what they leave, one after another
abbrev pub run : Sheet → State → List Request → State
run S t [] = t
run S t (q ∷ qs) = run S (left S (minute_of q.at) q.what t) qs

-- each is the work at its moment, up to the last one, and there is none before it
abbrev pub GoesOn : (S : Sheet) → IsAcyclic (from_list S.pairs) → ℕ → State → List Request → Type 0
GoesOn S acyclic until t [] = IsFit S t.lines × IsInOrder S acyclic t.lines × (is_idle S t (until + 1) ≡ true)
GoesOn S acyclic until t (q ∷ qs) =
    (q.at ≡ pos (minute_of q.at))
    × (nat_le t.clock (minute_of q.at) ≡ true)
    × (nat_le (minute_of q.at) until ≡ true)
    × IsFit S t.lines
    × IsInOrder S acyclic t.lines
    × (is_idle S t (minute_of q.at) ≡ true)
    × IsWorkBy S t (minute_of q.at) q.what
    × ShowsChoice S acyclic (minute_of q.at) (changed_lines q.what t.lines)
    × GoesOn S acyclic until (left S (minute_of q.at) q.what t) qs

module _ (S : Sheet) (acyclic : IsAcyclic (from_list S.pairs)) (until : ℕ) (moment : IsMoment until) (closes : until < S.interval.end) where
  leads_on : (t : State) (qs : List Request) → S.interval.from ≤ t.clock → GoesOn S acyclic until t qs → LeadsOn until (ahead S t) qs (ahead S (run S t qs))
  leads_on t [] opened h = (refl, λ x from within. no_work S acyclic t h.0 h.1 opened (until + 1) (omega (arith, closes)) h.2 x from (omega (arith, within)))
  leads_on t (q ∷ qs) opened h =
      let m = minute_of q.at in
      let next = left S m q.what t in
      let from = leb-true t.clock m h.1 in
      let within = leb-true m until h.2 in
      let now : IsOpenAt S.interval m = (omega (arith, opened, from), omega (arith, within, closes)) in
      let done = is_done S acyclic t h.3 h.4 m now q.what h.6 in (
        m,
        ahead S next,
        within,
        record { from = from; idle = no_work S acyclic t h.3 h.4 opened m (omega (arith, within, closes)) h.5; at = h.0; work = done.0 },
        subst (λ z. LeadsTo (ahead S t) z (ahead S next)) (λ i. record { at = sym h.0 i; what = q.what }) (leads S acyclic t m q.what now from (omega (arith, within, moment)) h.7 done.1 done.2 done.3 done.4),
        leads_on next qs (omega (arith, opened, from)) h.8,
      )

  -- what is known of these starts counts
  abbrev pub Counts : Lines → OpKey → ℕ → Type 0
  Counts lines o b = start_of (option_map operation_of (line_at lines o)) (Some b) ≡ Some b

  starts_are : (lines : Lines) (known : List (OpKey × ℕ)) → EachEntry (Counts lines) known → (o : OpKey) → time_of known o ≡ starts_in (plan_of S lines) (time_of known) o
  starts_are lines known each o = by (time_of known o) refl ∙ ap (λ x. start_of x (time_of known o)) (sym (operation_at S lines o))
    where
      none : (x : Option Operation) → None ≡ start_of x None
      none None = refl
      none (Some op) = elim op.mark as (λ k. None ≡ start_by k op.not_before None) [ mark.Named ↦ refl | k ↦ refl ]

      by : (x : Option ℕ) → time_of known o ≡ x → x ≡ start_of (option_map operation_of (line_at lines o)) x
      by None is = none (option_map operation_of (line_at lines o))
      by (Some b) is = sym (at_entry (Counts lines) known o b each (found_entry operation_cmp-IsAntisymmetric known o b is))

  -- from a tick at m on
  pub forecast_by : (known : List (OpKey × ℕ)) (clock m : ℕ) (lines : Lines) (qs : List Request) → S.interval.from ≤ m → clock ≤ m → m ≤ until → EachEntry (Counts lines) known → ShowsChoice S acyclic m lines
      → GoesOn S acyclic until (left S m what.Tick (record { clock = clock; lines = lines; begins = known; ends = [] })) qs
      → IsForecast (loaded_at clock (plan_of S lines)) (time_of known) m until (tick m ∷ qs) (ahead S (run S (left S m what.Tick (record { clock = clock; lines = lines; begins = known; ends = [] })) qs))
  forecast_by known clock m lines qs opened from within each shows goes =
      let t : State = record { clock = clock; lines = lines; begins = known; ends = [] } in
      let next = left S m what.Tick t in (
        ahead S next,
        qs,
        refl,
        subst (λ since. LeadsTo (record { plan = loaded_at clock (plan_of S lines); since = since; done = unknown }) (tick m) (ahead S next)) (λ i o. starts_are lines known each o i)
            (leads S acyclic t m what.Tick (opened, omega (arith, within, closes)) from (omega (arith, within, moment)) shows (λ r. tt) (λ load. load) tt refl),
        leads_on next qs opened goes,
      )
