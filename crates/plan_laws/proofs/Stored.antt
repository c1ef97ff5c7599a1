-- What is stored after a schedule: what a run over the accepted and some of the stopped calls leaves.
use Rattle.std.proofs.Common.{◌≡◌, inl, inr, refl, sym, ap, subst, subst₂, List, [], ◌∷◌, ◌++◌, Option, Some, None}
use Rattle.plan_records.specs.Answer.{accepted, refused}
use Rattle.plan_laws.proofs.Receipts.{answer_keeps_receipts, empty_is_desk_state}
use Rattle.plan_laws.proofs.Runs.{accepted_alone, accepted_call, refused_changes_nothing}
use Rattle.plan_records.specs.plan_model.specs.Ready.{named}
use Rattle.plan_records.specs.Run.{Call, Run, State, Usable, accepted_calls, accepted_replies, empty_state, to_be_reopened, usable}
use Rattle.plan_records.specs.Schedules.{Begins, Event, IsDeskState, IsWithin, Leaves, Schedule, World, was_accepted, between, damaged, ended, ended_calls, found, no_more, nothing, opened, opening, was_refused, stop, stopped, was_in, was_out}
use Rattle.plan_records.specs.Answer.{Answer}

-- a run from s to x over calls of these events
abbrev pub Runs : State → List Event → State → Type 0
Runs s events x = (calls : List Call) × (replies : List Answer) × Run s usable calls replies x usable × IsWithin events calls replies

same_start : (s t x : State) (event : Event) (events : List Event) → ((calls : List Call) (replies : List Answer) → IsWithin events calls replies → IsWithin (event ∷ events) calls replies) → t ≡ s → Runs t events x → Runs s (event ∷ events) x
same_start s t x event events f same r = (r.0, r.1, subst (λ z. Run z usable r.0 r.1 x usable) same r.2, f r.0 r.1 r.3)

one_event : (s t x : State) (d e : Option Usable) (event : Event) (events : List Event) → Leaves s d event t e → Runs t events x → Runs s (event ∷ events) x
one_event s t x (Some u) e (ended c (accepted named)) events h r = (c ∷ r.0, accepted named ∷ r.1, (t, usable, (accepted_call s t u h.0 c named h.1, refl), r.2), was_accepted r.3)
one_event s t x (Some u) e (ended c (refused why)) events h r = same_start s t x (ended c (refused why)) events (λ cs rs k. was_refused k) (refused_changes_nothing s t u h.0 c why h.1) r
one_event s t x (Some usable) e (stopped c None) events (inl same, gone) r = same_start s t x (stopped c None) events (λ cs rs k. was_out k) same r
one_event s t x (Some usable) e (stopped c None) events (inr step, gone) r = (c ∷ r.0, accepted step.0 ∷ r.1, (t, usable, (step.1, refl), r.2), was_in r.3)
one_event s t x (Some usable) e (stopped c (Some v)) events (inl same, stays, after) r = same_start s t x (stopped c (Some v)) events (λ cs rs k. was_out k) same r
one_event s t x (Some usable) e (stopped c (Some v)) events (inr step, stays, after) r = (c ∷ r.0, accepted step.0 ∷ r.1, (t, usable, (step.1, refl), r.2), was_in r.3)
one_event s t x (Some to_be_reopened) e (stopped c None) events h r = same_start s t x (stopped c None) events (λ cs rs k. was_out k) h.0 r
one_event s t x (Some to_be_reopened) e (stopped c (Some v)) events h r = absurd h
one_event s t x None e (ended c reply) events h r = absurd h
one_event s t x None e (stopped c d) events h r = absurd h
one_event s t x (Some usable) e stop events h r = same_start s t x stop events (λ cs rs k. between k) h.0 r
one_event s t x (Some to_be_reopened) e stop events h r = same_start s t x stop events (λ cs rs k. between k) h.0 r
one_event s t x None e stop events h r = same_start s t x stop events (λ cs rs k. between k) h.0 r
one_event s t x None e (opening (found y)) events h r = same_start s t x (opening (found y)) events (λ cs rs k. opened k) h.2 r
one_event s t x None e (opening damaged) events h r = same_start s t x (opening damaged) events (λ cs rs k. opened k) h.1 r
one_event s t x None e (opening nothing) events h r = same_start s t x (opening nothing) events (λ cs rs k. opened k) h.0 r
one_event s t x (Some usable) e (opening y) events h r = absurd h
one_event s t x (Some to_be_reopened) e (opening y) events h r = absurd h

runs_through : (events : List Event) (w x : World) → Schedule w events x → Runs w.stored events x.stored
runs_through [] w x h = ([], [], (ap (λ z. z.stored) h, refl), no_more)
runs_through (event ∷ events) w x h = one_event w.stored h.0.stored x.stored w.desk h.0.desk event events h.1 (runs_through events h.0 x h.3)

run_keeps_desk_state : (s t : State) (u v : Usable) (calls : List Call) (replies : List Answer) → IsDeskState s → Run s u calls replies t v → IsDeskState t
run_keeps_desk_state s t u v [] [] d h = subst IsDeskState (sym h.0) d
run_keeps_desk_state s t u v (c ∷ cs) (reply ∷ replies) d h = run_keeps_desk_state h.0 t h.1 v cs replies (answer_keeps_receipts s h.0 u h.1 c reply d h.2) h.3
run_keeps_desk_state s t u v [] (reply ∷ replies) d h = absurd h
run_keeps_desk_state s t u v (c ∷ cs) [] d h = absurd h

-- ---- what was called before

-- of a run the accepted calls are within all of them, as events
within_ended : (s t : State) (u v : Usable) (calls : List Call) (replies : List Answer) → Run s u calls replies t v → IsWithin (ended_calls calls replies) (accepted_calls calls replies) (accepted_replies replies)
within_ended s t u v [] [] run = no_more
within_ended s t u v (c ∷ calls) (accepted named ∷ replies) run = was_accepted (within_ended run.0 t run.1 v calls replies run.3)
within_ended s t u v (c ∷ calls) (refused r ∷ replies) run = was_refused (within_ended run.0 t run.1 v calls replies run.3)
within_ended s t u v [] (reply ∷ replies) run = absurd run
within_ended s t u v (c ∷ calls) [] run = absurd run

-- a run after another
run_then : (s m t : State) (u v w : Usable) (calls more : List Call) (replies others : List Answer) → Run s u calls replies m v → Run m v more others t w → Run s u (calls ++ more) (replies ++ others) t w
run_then s m t u v w [] more [] others one two = subst₂ (λ x y. Run x y more others t w) one.0 one.1 two
run_then s m t u v w (c ∷ calls) more (reply ∷ replies) others one two = (one.0, one.1, one.2, run_then one.0 m t one.1 v w calls more replies others one.3 two)
run_then s m t u v w [] more (reply ∷ replies) others one two = absurd one
run_then s m t u v w (c ∷ calls) more [] others one two = absurd one

within_then : (events later : List Event) (calls more : List Call) (replies others : List Answer) → IsWithin events calls replies → IsWithin later more others → IsWithin (events ++ later) (calls ++ more) (replies ++ others)
within_then events later calls more replies others no_more two = two
within_then events later calls more replies others (was_accepted {events = es} {calls = cs} {replies = rs} one) two = was_accepted (within_then es later cs more rs others one two)
within_then events later calls more replies others (was_refused {events = es} one) two = was_refused (within_then es later calls more replies others one two)
within_then events later calls more replies others (was_in {events = es} {calls = cs} {replies = rs} one) two = was_in (within_then es later cs more rs others one two)
within_then events later calls more replies others (was_out {events = es} one) two = was_out (within_then es later calls more replies others one two)
within_then events later calls more replies others (between {events = es} one) two = between (within_then es later calls more replies others one two)
within_then events later calls more replies others (opened {events = es} one) two = opened (within_then es later calls more replies others one two)

-- what a schedule begins with is what a run over the calls before it leaves
begun_by : (earlier : List Event) (w : World) → Begins earlier w → Runs empty_state earlier w.stored
begun_by earlier w (inl fresh) = subst (λ es. Runs empty_state es w.stored) (sym fresh.0) ([], [], (ap (λ z. z.stored) fresh.1, refl), no_more)
begun_by earlier w (inr (calls, replies, u, run, is, version, none)) =
    subst (λ es. Runs empty_state es w.stored) (sym is) (accepted_calls calls replies, accepted_replies replies, accepted_alone empty_state w.stored usable u calls replies run, within_ended empty_state w.stored usable u calls replies run)

pub stored_is_left : (earlier events : List Event) (start w : World) → Begins earlier start → Schedule start events w → IsDeskState w.stored × Runs empty_state (earlier ++ events) w.stored
stored_is_left earlier events start w begins h =
    let a = begun_by earlier start begins in
    let b = runs_through events start w h in
    let run = run_then empty_state start.stored w.stored usable usable usable a.0 b.0 a.1 b.1 a.2 b.2 in
    (run_keeps_desk_state empty_state w.stored usable usable (a.0 ++ b.0) (a.1 ++ b.1) empty_is_desk_state run, (a.0 ++ b.0, a.1 ++ b.1, run, within_then earlier events a.0 b.0 a.1 b.1 a.3 b.3))
