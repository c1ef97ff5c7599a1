-- What a run of accepted calls did for trackers' numbers.
use Rattle.std.proofs.Common.{◌≡◌, ◌⊎◌, inl, inr, refl, sym, ◌∙◌, ap, subst, arith, zero, suc, ◌+◌, ◌<◌, ◌≤◌, Bool, true, false, cond, List, [], ◌∷◌, Contains, slice_get, Option, Some, None}
use Rattle.std.specs.Cmp.{Equal-is, tied_itself}
use Rattle.std.specs.Ordering.{eq_by_cmp, is_eq}
use Rattle.std.specs.FinMap.{get, insert, get-insert, get-empty}
use Rattle.std.proofs.lemmas.Option.{none-some, same_Some}
use Rattle.plan_basics.proofs.Members.{at_place, contains_cases, contains_head, contains_later, contains_none, place_of}
use Rattle.plan_basics.specs.Keys.{Name, name_cmp, name_cmp-IsAntisymmetric, name_cmp_total}
use Rattle.plan_basics.specs.declared.keys.OpKey.{OpKey}
use Rattle.plan_laws.proofs.Runs.{accepted_call}
use Rattle.plan_records.specs.Answer.{Answer, accepted}
use Rattle.plan_records.specs.Run.{Call, CallStep, Run, State, Usable, empty_state, numbered, plain, usable}
use Rattle.plan_records.specs.Schedules.{Event, IsWithin, between, ended, no_more, opened, was_accepted, was_in, was_out, was_refused}
use Rattle.plan_records.specs.Step.{AnswersAgain, Numbered, Receipt, Receipts, StepsAnew, last_number}
use Rattle.plan_laws.specs.Acts.{RunWithActs, Act, EachActedOnce, HasActed, HaveOneNumber, again, anew, at_end, plainly}

-- ---- a run has its acts

same_states : (s t : State) → t.plan ≡ s.plan → t.receipts ≡ s.receipts → t ≡ s
same_states s t p q = λ i. record { plan = p i; receipts = q i }

acts_more : (s mid t : State) (c : Call) (named : List OpKey) (calls : List Call) (replies : List Answer) → CallStep s c (accepted named) mid → (acts : List Act) × RunWithActs mid calls replies t acts → (acts : List Act) × RunWithActs s (c ∷ calls) (accepted named ∷ replies) t acts
acts_more s mid t (plain q) named calls replies step rest = (rest.0, plainly step rest.1)
acts_more s mid t (numbered n) named calls replies (inl old) rest = (rest.0, again old.0 (subst (λ z. RunWithActs z calls replies t rest.0) (same_states s mid old.1 old.2) rest.1))
acts_more s mid t (numbered n) named calls replies (inr new) rest = (record { request = n; named = named } ∷ rest.0, anew new rest.1)

pub run_with_acts : (events : List Event) (s t : State) (u : Usable) (calls : List Call) (replies : List Answer) → IsWithin events calls replies → Run s u calls replies t usable → (acts : List Act) × RunWithActs s calls replies t acts
run_with_acts events s t u calls replies no_more run = ([], subst (λ z. RunWithActs s [] [] z []) (sym run.0) at_end)
run_with_acts events s t u calls replies (was_accepted {c} {named} w) run =
    acts_more s run.0 t c named _ _ (accepted_call s run.0 u run.1 c named run.2) (run_with_acts _ run.0 t run.1 _ _ w run.3)
run_with_acts events s t u calls replies (was_refused w) run = run_with_acts _ s t u calls replies w run
run_with_acts events s t u calls replies (was_in {c} {d} {named} w) run =
    acts_more s run.0 t c named _ _ (accepted_call s run.0 u run.1 c named run.2) (run_with_acts _ run.0 t run.1 _ _ w run.3)
run_with_acts events s t u calls replies (was_out w) run = run_with_acts _ s t u calls replies w run
run_with_acts events s t u calls replies (between w) run = run_with_acts _ s t u calls replies w run
run_with_acts events s t u calls replies (opened w) run = run_with_acts _ s t u calls replies w run

-- ---- numbers rise

-- what is kept of a tracker once a request has acted
kept_after : (T : Receipts) (n : Numbered) (r : Receipt) (tracker : Name) → ((tracker ≡ n.tracker) × (get (insert T n.tracker r) tracker ≡ Some r)) ⊎ (get (insert T n.tracker r) tracker ≡ get T tracker)
kept_after T n r tracker = at (eq_by_cmp name_cmp tracker n.tracker) refl (get-insert name_cmp_total T n.tracker r tracker)
  where
    at : (b : Bool) → eq_by_cmp name_cmp tracker n.tracker ≡ b → get (insert T n.tracker r) tracker ≡ cond b (Some r) (get T tracker)
        → ((tracker ≡ n.tracker) × (get (insert T n.tracker r) tracker ≡ Some r)) ⊎ (get (insert T n.tracker r) tracker ≡ get T tracker)
    at true same found = inl (name_cmp-IsAntisymmetric tracker n.tracker ((Equal-is (name_cmp tracker n.tracker)).0 same), found)
    at false other found = inr found

-- the last number of a tracker, once a request of its next number has acted
last_rises : (T : Receipts) (n : Numbered) (r : Receipt) → r.number ≡ n.number → n.number ≡ last_number (get T n.tracker) + 1 → (tracker : Name) → last_number (get T tracker) ≤ last_number (get (insert T n.tracker r) tracker)
last_rises T n r is next tracker = elim (kept_after T n r tracker) [
  | inl same ↦
      (let now : last_number (get (insert T n.tracker r) tracker) ≡ r.number = ap last_number same.1 in
      let was : last_number (get T tracker) ≡ last_number (get T n.tracker) = ap (λ k. last_number (get T k)) same.0 in
      omega (arith, now, was, is, next))
  | inr stays ↦ (let e : last_number (get (insert T n.tracker r) tracker) ≡ last_number (get T tracker) = ap last_number stays in omega (arith, e))
]

-- and it is that request's number
last_is : (T : Receipts) (n : Numbered) (r : Receipt) (tracker : Name) → tracker ≡ n.tracker → last_number (get (insert T n.tracker r) tracker) ≡ r.number
last_is T n r tracker same = ap last_number (get-insert name_cmp_total T n.tracker r tracker ∙ ap (λ b. cond b (Some r) (get T tracker)) (ap (eq_by_cmp name_cmp tracker) (sym same) ∙ ap is_eq (tied_itself name_cmp_total tracker)))

-- each that acts later has a number above the last one
above_last : (s t : State) (calls : List Call) (replies : List Answer) (acts : List Act) → RunWithActs s calls replies t acts → (d : Act) → Contains acts d → last_number (get s.receipts d.request.tracker) < d.request.number
above_last s t calls replies acts at_end d has = absurd (contains_none d has)
above_last s t calls replies acts (plainly {mid = mid} step rest) d has = subst (λ (T : Receipts). last_number (get T d.request.tracker) < d.request.number) step.1 (above_last mid t _ _ _ rest d has)
above_last s t calls replies acts (anew {mid = mid} {n = n} {named = named} {acts = later_acts} step rest) d has = elim (contains_cases (record { request = n; named = named }) later_acts d has) [
  | inl is ↦ subst (λ (x : Act). last_number (get s.receipts x.request.tracker) < x.request.number) is (let next = step.0 in omega (arith, next))
  | inr later ↦
      (let less = subst (λ (T : Receipts). last_number (get T d.request.tracker) < d.request.number) step.3 (above_last mid t _ _ _ rest d later) in
      let rises = last_rises s.receipts n (record { number = n.number; text = n.text; named = named }) refl step.0 d.request.tracker in
      omega (arith, less, rises))
]
above_last s t calls replies acts (again old rest) d has = above_last s t _ _ _ rest d has

-- so what acts later than a request isn't of its tracker and number
not_later : (s mid t : State) (n : Numbered) (named : List OpKey) (calls : List Call) (replies : List Answer) (acts : List Act) → StepsAnew s.plan s.receipts n (accepted named) mid.plan mid.receipts
    → RunWithActs mid calls replies t acts → (d : Act) → Contains acts d → HaveOneNumber d.request n → ⊥
not_later s mid t n named calls replies acts step rest d has one =
    let less = subst (λ (T : Receipts). last_number (get T d.request.tracker) < d.request.number) step.3 (above_last mid t calls replies acts rest d has) in
    let is = last_is s.receipts n (record { number = n.number; text = n.text; named = named }) d.request.tracker one.0 in
    let number = one.1 in
    omega (arith, less, is, number)

pub once : (s t : State) (calls : List Call) (replies : List Answer) (acts : List Act) → RunWithActs s calls replies t acts → EachActedOnce acts
once s t calls replies acts at_end i j a b at_i at_j one = cc
once s t calls replies acts (plainly {mid = mid} step rest) i j a b at_i at_j one = once mid t _ _ _ rest i j a b at_i at_j one
once s t calls replies acts (anew step rest) zero zero a b at_i at_j one = refl
once s t calls replies acts (anew {mid = mid} {n = n} {named = named} {acts = later_acts} step rest) zero (suc j) a b at_i at_j one =
    let is : record { request = n; named = named } ≡ a = same_Some (record { request = n; named = named }) a at_i in
    absurd (not_later s mid t n named _ _ later_acts step rest b (at_place later_acts j b at_j) (sym one.0 ∙ ap (λ (x : Act). x.request.tracker) (sym is), sym one.1 ∙ ap (λ (x : Act). x.request.number) (sym is)))
once s t calls replies acts (anew {mid = mid} {n = n} {named = named} {acts = later_acts} step rest) (suc i) zero a b at_i at_j one =
    let is : record { request = n; named = named } ≡ b = same_Some (record { request = n; named = named }) b at_j in
    absurd (not_later s mid t n named _ _ later_acts step rest a (at_place later_acts i a at_i) (one.0 ∙ ap (λ (x : Act). x.request.tracker) (sym is), one.1 ∙ ap (λ (x : Act). x.request.number) (sym is)))
once s t calls replies acts (anew {mid = mid} {acts = later_acts} step rest) (suc i) (suc j) a b at_i at_j one = ap suc (once mid t _ _ later_acts rest i j a b at_i at_j one)
once s t calls replies acts (again old rest) i j a b at_i at_j one = once s t _ _ _ rest i j a b at_i at_j one

-- ---- what was answered accepted has acted

-- the tracker's receipt is of this request, and has these keys
abbrev pub IsKept : Option Receipt → Numbered → List OpKey → Type 0
IsKept kept n named = (r : Receipt) × (kept ≡ Some r) × (n.number ≡ r.number) × (n.text ≡ r.text) × (named ≡ r.named)

again_kept : (kept : Option Receipt) (n : Numbered) (named : List OpKey) → AnswersAgain kept n (accepted named) → IsKept kept n named
again_kept (Some r) n named h = (r, refl, h.1, h.2, h.3)
again_kept None n named h = absurd h

has_more : (d : Act) (acts : List Act) (n : Numbered) (named : List OpKey) → HasActed acts n named → HasActed (d ∷ acts) n named
has_more d acts n named h = (h.0, contains_later d acts h.0 h.1, h.2, h.3, h.4)

-- it acted, or it was kept before
abbrev pub HasOrKept : State → List Act → Numbered → List OpKey → Type 0
HasOrKept s acts n named = HasActed acts n named ⊎ IsKept (get s.receipts n.tracker) n named

-- what is kept after a request has acted is its own receipt, or was kept before
kept_before : (T U : Receipts) (m : Numbered) (chosen : List OpKey) (acts : List Act) (n : Numbered) (named : List OpKey) → U ≡ insert T m.tracker (record { number = m.number; text = m.text; named = chosen })
    → IsKept (get U n.tracker) n named → HasActed (record { request = m; named = chosen } ∷ acts) n named ⊎ IsKept (get T n.tracker) n named
kept_before T U m chosen acts n named e h = elim (kept_after T m made n.tracker) [
  | inl same ↦
      (let is : made ≡ h.0 = same_Some made h.0 (sym same.1 ∙ ap (λ (V : Receipts). get V n.tracker) (sym e) ∙ h.1) in
      inl (
        record { request = m; named = chosen },
        contains_head (record { request = m; named = chosen }) acts,
        (sym same.0, ap (λ (r : Receipt). r.number) is ∙ sym h.2),
        ap (λ (r : Receipt). r.text) is ∙ sym h.3,
        ap (λ (r : Receipt). r.named) is ∙ sym h.4,
      ))
  | inr stays ↦ inr (h.0, sym stays ∙ ap (λ (V : Receipts). get V n.tracker) (sym e) ∙ h.1, h.2, h.3, h.4)
]
  where
    made : Receipt
    made = record { number = m.number; text = m.text; named = chosen }

-- one call more, at the front of a run
before_call : (s t : State) (c : Call) (chosen : List OpKey) (calls : List Call) (replies : List Answer) (acts : List Act) → RunWithActs s (c ∷ calls) (accepted chosen ∷ replies) t acts → (n : Numbered) (named : List OpKey)
    → ((mid : State) (later : List Act) → RunWithActs mid calls replies t later → HasOrKept mid later n named) → HasOrKept s acts n named
before_call s t c chosen calls replies acts (plainly {mid = mid} {acts = later} step rest) n named found = subst (λ (T : Receipts). HasActed later n named ⊎ IsKept (get T n.tracker) n named) step.1 (found mid later rest)
before_call s t c chosen calls replies acts (anew {mid = mid} {n = m} {acts = later} step rest) n named found = elim (found mid later rest) [
  | inl has ↦ inl (has_more (record { request = m; named = chosen }) later n named has)
  | inr kept ↦ kept_before s.receipts mid.receipts m chosen later n named step.3 kept
]
before_call s t c chosen calls replies acts (again {acts = later} old rest) n named found = found s later rest

-- the first call itself
first_call : (s t : State) (n : Numbered) (named : List OpKey) (calls : List Call) (replies : List Answer) (acts : List Act) → RunWithActs s (numbered n ∷ calls) (accepted named ∷ replies) t acts → HasOrKept s acts n named
first_call s t n named calls replies acts (anew {acts = later} step rest) = inl (record { request = n; named = named }, contains_head (record { request = n; named = named }) later, (refl, refl), refl, refl)
first_call s t n named calls replies acts (again old rest) = inr (again_kept (get s.receipts n.tracker) n named old)

-- ---- among the events

accepted_in : (events : List Event) (calls : List Call) (replies : List Answer) → IsWithin events calls replies → (s t : State) (acts : List Act) → RunWithActs s calls replies t acts → (n : Numbered) (named : List OpKey) → Contains events (ended (numbered n) (accepted named)) → HasOrKept s acts n named
accepted_in events calls replies no_more s t acts acted n named has = absurd (contains_none (ended (numbered n) (accepted named)) has)
accepted_in events calls replies (was_accepted {c = c} {named = chosen} {events = es} {calls = cs} {replies = rs} w) s t acts acted n named has = elim (contains_cases (ended c (accepted chosen)) es (ended (numbered n) (accepted named)) has) [
  | inl is ↦
      (let call : c ≡ numbered n = cc in
      let keys : chosen ≡ named = cc in
      first_call s t n named cs rs acts (subst (λ os. RunWithActs s (numbered n ∷ cs) (accepted os ∷ rs) t acts) keys (subst (λ d. RunWithActs s (d ∷ cs) (accepted chosen ∷ rs) t acts) call acted)))
  | inr later ↦ before_call s t c chosen cs rs acts acted n named (λ mid more rest. accepted_in es cs rs w mid t more rest n named later)
]
accepted_in events calls replies (was_in {c = c} {named = chosen} {events = es} {calls = cs} {replies = rs} w) s t acts acted n named has = elim (contains_cases _ es (ended (numbered n) (accepted named)) has) [
  | inl is ↦ absurd cc
  | inr later ↦ before_call s t c chosen cs rs acts acted n named (λ mid more rest. accepted_in es cs rs w mid t more rest n named later)
]
accepted_in events calls replies (was_refused {events = es} w) s t acts acted n named has = elim (contains_cases _ es (ended (numbered n) (accepted named)) has) [
  | inl is ↦ absurd cc
  | inr later ↦ accepted_in es calls replies w s t acts acted n named later
]
accepted_in events calls replies (was_out {events = es} w) s t acts acted n named has = elim (contains_cases _ es (ended (numbered n) (accepted named)) has) [
  | inl is ↦ absurd cc
  | inr later ↦ accepted_in es calls replies w s t acts acted n named later
]
accepted_in events calls replies (between {events = es} w) s t acts acted n named has = elim (contains_cases _ es (ended (numbered n) (accepted named)) has) [
  | inl is ↦ absurd cc
  | inr later ↦ accepted_in es calls replies w s t acts acted n named later
]
accepted_in events calls replies (opened {events = es} w) s t acts acted n named has = elim (contains_cases _ es (ended (numbered n) (accepted named)) has) [
  | inl is ↦ absurd cc
  | inr later ↦ accepted_in es calls replies w s t acts acted n named later
]

-- from the empty receipts: what was answered accepted acted
pub accepted_acted : (events : List Event) (calls : List Call) (replies : List Answer) → IsWithin events calls replies → (t : State) (acts : List Act) → RunWithActs empty_state calls replies t acts → (n : Numbered) (named : List OpKey) → Contains events (ended (numbered n) (accepted named)) → HasActed acts n named
accepted_acted events calls replies w t acts acted n named has = elim (accepted_in events calls replies w empty_state t acts acted n named has) [
  | inl it ↦ it
  | inr kept ↦ absurd (none-some kept.0 (sym (get-empty name_cmp n.tracker) ∙ kept.1))
]

-- two that acted, of one tracker and number, are one
pub one_act : (acts : List Act) → EachActedOnce acts → (a b : Act) → Contains acts a → Contains acts b → HaveOneNumber a.request b.request → a ≡ b
one_act acts each a b has_a has_b one =
    let p = place_of acts a has_a in
    let q = place_of acts b has_b in
    same_Some a b (sym p.1 ∙ ap (slice_get acts) (each p.0 q.0 a b p.1 q.1 one) ∙ q.1)
