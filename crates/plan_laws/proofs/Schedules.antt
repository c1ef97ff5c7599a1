-- What every schedule keeps.
use Rattle.std.proofs.Common.{◌≡◌, inl, inr, refl, sym, ◌∙◌, ap, subst, List, [], ◌∷◌, ◌++◌, Contains, Option, Some, None}
use Rattle.plan_basics.proofs.Members.{contains_cases, contains_head, contains_later, contains_none}
use Rattle.plan_records.specs.Answer.{Answer}
use Rattle.plan_records.specs.Run.{Call, State, Usable, empty_state, to_be_reopened, usable}
use Rattle.plan_records.specs.Schedules.{Begins, Event, IsDeskState, Leaves, Schedule, World, damaged, ended, ended_calls, found, opening, Opened}
use Rattle.plan_laws.specs.Acts.{Act}
use Rattle.plan_laws.specs.Laws.{EachOpeningFinds, EverySchedule, IsLeftBy, NumbersNameTheSame}
use Rattle.plan_laws.proofs.Stored.{stored_is_left}
use Rattle.plan_laws.proofs.Acts.{accepted_acted, once, one_act, run_with_acts}

left : (earlier events : List Event) (start w : World) → Begins earlier start → Schedule start events w → IsLeftBy (earlier ++ events) w.stored
left earlier events start w begins h =
    let it = stored_is_left earlier events start w begins h in
    let r = it.1 in
    let all = earlier ++ events in
    let did = run_with_acts all empty_state w.stored usable r.0 r.1 r.3 r.2 in
    record {
      legal = it.0;
      calls = r.0;
      replies = r.1;
      within = r.3;
      run = r.2;
      acts = did.0;
      acted = did.1;
      once = once empty_state w.stored r.0 r.1 did.0 did.1;
      accepted_acted = accepted_acted all r.0 r.1 r.3 w.stored did.0 did.1;
    }

-- a schedule up to one of its events
split : (before after : List Event) (event : Event) (w x : World) → Schedule w (before ++ event ∷ after) x → (mid next : World) × Schedule w before mid × Leaves mid.stored mid.desk event next.stored next.desk
split [] after event w x h = (w, h.0, refl, h.1)
split (e ∷ before) after event w x h = let rest = split before after event h.0 x h.3 in (rest.0, rest.1, (h.0, h.1, h.2, rest.2), rest.3)

-- an opening that finds a state finds what is stored
found_stored : (s t : State) (d e : Option Usable) (x : State) → Leaves s d (opening (found x)) t e → x ≡ s
found_stored s t (Some usable) e x h = absurd h
found_stored s t (Some to_be_reopened) e x h = absurd h
found_stored s t None e x h = h.1

-- and one that finds the tables damaged finds no desk's state
not_damaged : (s t : State) (d e : Option Usable) → Leaves s d (opening damaged) t e → ¬ IsDeskState s
not_damaged s t (Some usable) e h = absurd h
not_damaged s t (Some to_be_reopened) e h = absurd h
not_damaged s t None e h = h.0

-- ---- what was called before opens nothing

no_opening : (calls : List Call) (replies : List Answer) (x : Opened) → ¬ Contains (ended_calls calls replies) (opening x)
no_opening [] replies x has = contains_none (opening x) has
no_opening (c ∷ calls) [] x has = contains_none (opening x) has
no_opening (c ∷ calls) (reply ∷ replies) x has = elim (contains_cases (ended c reply) (ended_calls calls replies) (opening x) has) [
  | inl is ↦ absurd cc
  | inr later ↦ no_opening calls replies x later
]

none_earlier : (earlier : List Event) (w : World) (x : Opened) → Begins earlier w → ¬ Contains earlier (opening x)
none_earlier earlier w x (inl fresh) has = contains_none (opening x) (subst (λ es. Contains es (opening x)) fresh.0 has)
none_earlier earlier w x (inr it) has = no_opening it.0 it.1 x (subst (λ es. Contains es (opening x)) it.4 has)

-- an event that isn't among the earlier is among the others
behind : (earlier events before after : List Event) (x : Event) → ¬ Contains earlier x → earlier ++ events ≡ before ++ x ∷ after → (more : List Event) × (before ≡ earlier ++ more) × (events ≡ more ++ x ∷ after)
behind [] events before after x none e = (before, refl, e)
behind (y ∷ earlier) events [] after x none e = let same : y ≡ x = cc in absurd (none (subst (Contains (y ∷ earlier)) same (contains_head y earlier)))
behind (y ∷ earlier) events (z ∷ before) after x none e =
    let same : y ≡ z = cc in
    let rest : earlier ++ events ≡ before ++ x ∷ after = cc in
    let it = behind earlier events before after x (λ has. none (contains_later y earlier x has)) rest in
    (it.0, (λ i. sym same i ∷ it.1 i), it.2)

each_finds : (earlier events : List Event) (start w : World) → Begins earlier start → Schedule start events w → EachOpeningFinds (earlier ++ events)
each_finds earlier events start w begins h before after s e =
    let at = behind earlier events before after (opening (found s)) (none_earlier earlier start (found s) begins) e in
    let it = split at.0 after (opening (found s)) start w (subst (λ es. Schedule start es w) at.2 h) in
    subst (IsLeftBy before) (sym (found_stored it.0.stored it.1.stored it.0.desk it.1.desk s it.3)) (subst (λ es. IsLeftBy es it.0.stored) (sym at.1) (left earlier at.0 start it.0 begins it.2))

-- what a list contains has events before and after it
around : (events : List Event) (x : Event) → Contains events x → (before after : List Event) × (events ≡ before ++ x ∷ after)
around [] x has = absurd (contains_none x has)
around (e ∷ events) x has = elim (contains_cases e events x has) [
  | inl is ↦ ([], events, ap (λ z. z ∷ events) is)
  | inr later ↦ (let rest = around events x later in (e ∷ rest.0, rest.1, ap (λ z. e ∷ z) rest.2))
]

undamaged : (earlier events : List Event) (start w : World) → Begins earlier start → Schedule start events w → ¬ Contains (earlier ++ events) (opening damaged)
undamaged earlier events start w begins h has =
    let all = around (earlier ++ events) (opening damaged) has in
    let at = behind earlier events all.0 all.1 (opening damaged) (none_earlier earlier start damaged begins) all.2 in
    let it = split at.0 all.1 (opening damaged) start w (subst (λ es. Schedule start es w) at.2 h) in
    not_damaged it.0.stored it.1.stored it.0.desk it.1.desk it.3 (stored_is_left earlier at.0 start it.0 begins it.2).0

same_keys : (events : List Event) (s : State) → IsLeftBy events s → NumbersNameTheSame events
same_keys events s h a b x y has_a has_b one =
    let p = h.accepted_acted a x has_a in
    let q = h.accepted_acted b y has_b in
    let same = one_act h.acts h.once p.0 q.0 p.1 q.1 (p.2.0 ∙ one.0 ∙ sym q.2.0, p.2.1 ∙ one.1 ∙ sym q.2.1) in
    (sym p.3 ∙ ap (λ (d : Act). d.request.text) same ∙ q.3, sym p.4 ∙ ap (λ (d : Act). d.named) same ∙ q.4)

pub every_schedule : EverySchedule
every_schedule earlier events start w begins h =
    let is = left earlier events start w begins h in
    record {
      left = is;
      undamaged = undamaged earlier events start w begins h;
      found_left = each_finds earlier events start w begins h;
      same = same_keys (earlier ++ events) w.stored is;
    }
