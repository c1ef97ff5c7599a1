-- A sound plan has a forecast.
use Rattle.std.proofs.Common.{◌≡◌, ◌⊎◌, inl, inr, refl, sym, ap, subst, arith, ℕ, zero, suc, ◌+◌, ◌<◌, ◌≤◌, pos, true, false, List, [], ◌∷◌, ◌++◌, Contains, Option, Some, None, Less}
use Rattle.std.proofs.lemmas.Bool.{cases_lt, cases_order}
use Rattle.std.proofs.lemmas.Option.{same_Some, none-some}
use Rattle.std.specs.FinMap.{get, keys}
use Rattle.std.specs.List.Sorted.{IsStrictlySortedBy}
use Rattle.plan_basics.specs.Keys.{operation_cmp, operation_cmp-IsAntisymmetric, operation_cmp_total}
use Rattle.plan_basics.specs.Minutes.{IsMoment}
use Rattle.plan_basics.specs.Refusals.{NoneRefuses}
use Rattle.plan_basics.specs.declared.Attr.{Attr}
use Rattle.plan_basics.specs.declared.Attr.TheVariants as attribute
use Rattle.plan_basics.specs.declared.keys.OpKey.{OpKey}
use Rattle.plan_laws.proofs.Allowing.{allowed_told, told_le}
use Rattle.plan_laws.proofs.Decide.{told_attribute}
use Rattle.plan_laws.proofs.Entries.{told_has, told_operation}
use Rattle.plan_laws.proofs.Every.{every_step_keeps_sound}
use Rattle.plan_laws.proofs.Latest.{some_latest_start}
use Rattle.plan_laws.proofs.Listed.{Listed, alike_listed, one_listed, union_listed, where_told}
use Rattle.plan_laws.proofs.Readying.{ready_list, ready_told}
use Rattle.plan_laws.proofs.Sorted.{at_member, contains_cases, contains_head, contains_none, not_itself}
use Rattle.plan_laws.proofs.Sorting.{ascending}
use Rattle.plan_laws.proofs.Standing.{status_told}
use Rattle.plan_laws.proofs.Stepping.{some_step}
use Rattle.operation_graph.proofs.Telling.{Told, told_and, told_or, told_three, told_true}
use Rattle.plan_records.specs.plan_drafts.proofs.Lists.{in_map}
use Rattle.plan_records.specs.plan_drafts.proofs.Tables.{is_found}
use Rattle.plan_model.proofs.Members.{in_keys}
use Rattle.plan_model.specs.Contents.{Contents, HasAttribute, Operation}
use Rattle.plan_model.specs.Plan.{IsSoundPlan, Plan}
use Rattle.plan_model.specs.Ready.{IsReadyList}
use Rattle.plan_model.specs.Status.{IsReady}
use Rattle.plan_model.specs.Valid.{IsAcyclic, IsValid}
use Rattle.ready_list.specs.Choice.{operations_of}
use Rattle.ready_list.specs.declared.ReadyKey.{ReadyKey}
use Rattle.status_rules.specs.declared.Status.TheVariants as status
use Rattle.plan_records.specs.Acceptance.{MayBeAccepted}
use Rattle.plan_records.specs.Answer.{Answer, accepted, refused}
use Rattle.plan_records.specs.Changes.{IsRequest}
use Rattle.plan_records.specs.Step.{Step}
use Rattle.plan_records.specs.declared.Request.{Request}
use Rattle.plan_records.specs.declared.What.{What}
use Rattle.plan_records.specs.declared.What.TheVariants as what
use Rattle.plan_forecast.specs.Ahead.{Ahead, BeginsFirst, HasWork, IsDue, IsGoing, IsIdleUntil, IsNext, IsTimeAfter, IsWork, LeadsOn, LeadsTo, MayBegin, SomeIsDue, SomeMayBegin, before_it, counted_from, tick}
use Rattle.plan_forecast.specs.Laws.{SomeForecast}
use Rattle.plan_forecast.proofs.Accepted.{tick_accepted, work_accepted, work_is_request}
use Rattle.plan_forecast.proofs.Short.{Covers, by_keys, still_covers, step_drops, sum_less, to_come, weight_at}

-- ---- what can be decided

over_told : (z : Option ℕ) (d x : ℕ) → Told ((b : ℕ) × (z ≡ Some b) × (b + d ≤ x))
over_told None d x = inr (λ h. none-some h.0 h.1)
over_told (Some b) d x = elim (told_le (b + d) x) [
  | inl le ↦ inl (b, refl, le)
  | inr more ↦ inr (λ h. more (subst (λ n. n + d ≤ x) (sym (same_Some b h.0 h.1)) h.2))
]

module _ (P : Contents) (acyclic : IsAcyclic P.pairs) where
  pub going_told : (o : OpKey) → Told (IsGoing P o)
  going_told o = told_or (status_told P acyclic o status.Started)
      (told_and (ready_told P acyclic o) (λ _. told_has P o (λ op. HasAttribute P op.workstation attribute.CompletionOnly × (op.held ≡ false)) (λ op e. told_and (told_attribute P op.workstation attribute.CompletionOnly) (λ _. told_true op.held false))))

  may_told : (a : Attr) (x : ℕ) (o : OpKey) → Told (MayBegin a P o x)
  may_told a x o = told_three (ready_told P acyclic o) (told_has P o (λ op. HasAttribute P op.workstation a) (λ op e. told_attribute P op.workstation a)) (allowed_told P acyclic o x)

module _ (s : Ahead) (valid : IsValid s.plan.contents) where
  abbrev P : Contents
  P = s.plan.contents

  due_told : (x : ℕ) (o : OpKey) → Told (IsDue s o x)
  due_told x o = told_and (going_told P valid.acyclic o) (λ _. told_has P o (λ op. (b : ℕ) × (s.since o ≡ Some b) × (b + op.duration ≤ x)) (λ op e. over_told (s.since o) op.duration x))

  some_due_told : (x : ℕ) → Told (SomeIsDue s x)
  some_due_told x = told_operation P (λ o. IsDue s o x) (due_told x) (λ o h. (h.1.0, h.1.1, tt))

  some_may_told : (a : Attr) (x : ℕ) → Told (SomeMayBegin a s x)
  some_may_told a x = told_operation P (λ o. MayBegin a P o x) (may_told P valid.acyclic a x) (λ o h. (h.2.0, h.2.1, tt))

  work_told : (x : ℕ) → Told (HasWork s x)
  work_told x = told_or (some_due_told x) (told_or (some_may_told attribute.Automatic x) (some_may_told attribute.StartAndCompletion x))

  -- ---- the first moment with work

  abbrev FirstBelow : ℕ → Type 0
  FirstBelow n = (x : ℕ) × (s.plan.clock ≤ x) × (x < n) × IsIdleUntil s x × HasWork s x

  search_on : (n : ℕ) → FirstBelow (s.plan.clock + n) ⊎ IsIdleUntil s (s.plan.clock + n)
  search_on zero = inr (λ y from before. absurd (omega (arith, from, before)))
  search_on (suc n) = elim (search_on n) [
    | inl found ↦ inl (found.0, found.1, (let b = found.2 in omega (arith, b)), found.3, found.4)
    | inr idle ↦ elim (work_told (s.plan.clock + n)) [
      | inl work ↦ inl (s.plan.clock + n, omega arith, omega arith, idle, work)
      | inr none ↦ inr (λ y from before. elim (cases_order y (s.plan.clock + n)) [
        | inl e ↦ subst (λ z. ¬ HasWork s z) (sym e) none
        | inr (inl less) ↦ idle y from less
        | inr (inr more) ↦ absurd (omega (arith, before, more))
      ])
    ]
  ]

  first_work : (until : ℕ) → ((x : ℕ) × (s.plan.clock ≤ x) × (x ≤ until) × IsIdleUntil s x × HasWork s x) ⊎ ((x : ℕ) → s.plan.clock ≤ x → x ≤ until → ¬ HasWork s x)
  first_work until = elim (search_on (suc until)) [
    | inl found ↦ elim (cases_lt until found.0) [
      | inl after ↦ inr (λ x from within. found.3 x from (omega (arith, after, within)))
      | inr within ↦ inl (found.0, found.1, within, found.3, found.4)
    ]
    | inr idle ↦ inr (λ x from within. idle x from (omega (arith, within)))
  ]

  -- ---- what is done then

  due_listed : (x : ℕ) → Listed (λ o. IsDue s o x)
  due_listed x = alike_listed {S = λ o. (k : OpKey) × Contains (keys P.operations) k × (IsDue s k x × (k ≡ o))}
      (λ o h. subst (λ z. IsDue s z x) h.2.1 h.2.0)
      (λ o h. (o, in_keys operation_cmp-IsAntisymmetric P.operations o h.1.0 h.1.1, (h, refl)))
      (union_listed (λ k o. IsDue s k x × (k ≡ o)) (keys P.operations) (λ k has. where_told (due_told x k) (λ _. one_listed k)))

  least_due : (x : ℕ) → SomeIsDue s x → (o : OpKey) × IsWork s x (what.Ended o)
  unfolding IsStrictlySortedBy
  least_due x some = let a = ascending operation_cmp_total operation_cmp-IsAntisymmetric (due_listed x) in by a.0 a.1 a.2
    where
      by : (xs : List OpKey) → IsStrictlySortedBy operation_cmp xs → ((o : OpKey) → (Contains xs o → IsDue s o x) × (IsDue s o x → Contains xs o)) → (o : OpKey) × IsWork s x (what.Ended o)
      by [] up all = absurd (contains_none some.0 ((all some.0).1 some.1))
      by (o ∷ os) up all = (
        o,
        (
          (all o).0 (contains_head o os),
          λ p due less. elim (contains_cases o os p ((all p).1 due)) [
            | inl e ↦ not_itself operation_cmp_total o (subst (λ z. operation_cmp z o ≡ Less) (sym e) less)
            | inr later ↦ not_itself operation_cmp_total o (operation_cmp_total.trans o p o (at_member (λ k. operation_cmp o k ≡ Less) os p up.0 later) less)
          ],
        ),
      )

  abbrev Begins : ℕ → OpKey → Type 0
  Begins x o = MayBegin attribute.StartAndCompletion P o x

  first_in : (x : ℕ) (xs : List OpKey) (o : OpKey) → Contains xs o → Begins x o
      → (k : OpKey) × (before : List OpKey) × (after : List OpKey) × (xs ≡ before ++ k ∷ after) × Begins x k × ((p : OpKey) → Contains before p → ¬ Begins x p)
  first_in x [] o has may = absurd (contains_none o has)
  first_in x (k ∷ ks) o has may = elim (may_told P valid.acyclic attribute.StartAndCompletion x k) [
    | inl begins ↦ (k, [], ks, refl, begins, λ p none. absurd (contains_none p none))
    | inr never ↦ elim (contains_cases k ks o has) [
      | inl e ↦ absurd (never (subst (Begins x) (sym e) may))
      | inr later ↦ (let r = first_in x ks o later may in
          (r.0, k ∷ r.1, r.2, ap (λ zs. k ∷ zs) r.3, r.4, λ p has_p. elim (contains_cases k r.1 p has_p) [ inl e ↦ subst (λ z. ¬ Begins x z) e never | inr rest ↦ r.5 p rest ]))
    ]
  ]

  listed : (ready : List ReadyKey) → IsReadyList P ready → (o : OpKey) (op : Operation) → get P.operations o ≡ Some op → IsReady P o → Contains (operations_of ready) o
  listed ready is o op found here =
      let latest = some_latest_start P valid.acyclic o in
      let occurrence = is_found (get P.occurrences o.occurrence) (valid.occurrences.each_operation o op found).1 in
      let key : ReadyKey = record { latest = latest.0; priority = occurrence.0.priority; duration = op.duration; op = o } in
      in_map (λ (k : ReadyKey). k.op) ready key ((is.has_all key).1 (here, latest.1, (op, found, refl), (occurrence.0, occurrence.1, refl)))

  first_start : (x : ℕ) → SomeMayBegin attribute.StartAndCompletion s x → (o : OpKey) × BeginsFirst s x o
  first_start x some =
      let ready = ready_list P valid in
      let has = listed ready.0 ready.1 some.0 some.1.1.0 some.1.1.1 some.1.0 in
      let first = first_in x (operations_of ready.0) some.0 has some.1 in
      (first.0, record { ready = ready.0; is_ready_list = ready.1; before = first.1; after = first.2; split = first.3; may = first.4; first = first.5 })

  some_work : (x : ℕ) → HasWork s x → (w : What) × IsWork s x w
  some_work x work = elim (some_due_told x) [
    | inl due ↦ (let o = least_due x due in (what.Ended o.0, o.1))
    | inr none ↦ elim (some_may_told attribute.Automatic x) [
      | inl may ↦ (what.Tick, (none, may))
      | inr neither ↦ elim work [
        | inl due ↦ absurd (none due)
        | inr (inl may) ↦ absurd (neither may)
        | inr (inr may) ↦ (let o = first_start x may in (what.Started o.0, (none, neither, o.1)))
      ]
    ]
  ]

-- ---- what it leads to

pub time_after : {A : Type 0} (old : Option ℕ) → Told A → ℕ → Option ℕ
time_after (Some k) t m = Some k
time_after None (inl a) m = Some m
time_after None (inr n) m = None

pub is_time_after : {A : Type 0} (old : Option ℕ) (t : Told A) (m : ℕ) → IsTimeAfter A m old (time_after old t m)
unfolding time_after
is_time_after (Some k) t m = refl
is_time_after None (inl a) m = inl (a, refl)
is_time_after None (inr n) m = inr (n, refl)

accepted_answer : (P after : Plan) (q : Request) (x : Answer) → NoneRefuses (MayBeAccepted P q) → Step P q x after → (chosen : List OpKey) × Step P q (accepted chosen) after
accepted_answer P after q (accepted chosen) may step = (chosen, step)
accepted_answer P after q (refused r) may step = absurd (step.least.0 (may r))

leads : (s : Ahead) (q : Request) → IsSoundPlan s.plan → IsRequest q.what → NoneRefuses (MayBeAccepted s.plan q) → (t : Ahead) × LeadsTo s q t
leads s q sound request may =
    let some = some_step s.plan q sound request in
    let step = accepted_answer s.plan some.1 q some.0 may some.2 in
    let after = some.1 in
    let kept = every_step_keeps_sound s.plan after q (accepted step.0) sound step.1 in
    let acyclic = kept.contents.valid.acyclic in
    let since : OpKey → Option ℕ = λ o. time_after (s.since o) (going_told after.contents acyclic o) (counted_from after.contents after.clock o) in
    let done : OpKey → Option ℕ = λ o. time_after (s.done o) (status_told after.contents acyclic o status.Complete) after.clock in (
      record { plan = after; since = since; done = done },
      record {
        chosen = step.0;
        step = step.1;
        since = λ o. is_time_after (s.since o) (going_told after.contents acyclic o) (counted_from after.contents after.clock o);
        done = λ o. is_time_after (s.done o) (status_told after.contents acyclic o status.Complete) after.clock;
      },
    )

-- ---- on and on

module _ (until : ℕ) (last : IsMoment until) (ks : List OpKey) where
  goes_on : (n : ℕ) (s : Ahead) → IsSoundPlan s.plan → s.plan.loaded ≡ true → Covers ks s.plan.contents → to_come ks s.plan.contents < n → (qs : List Request) × (t : Ahead) × LeadsOn until s qs t
  goes_on zero s sound loaded covers few = absurd (omega (arith, few))
  goes_on (suc n) s sound loaded covers few = elim (first_work s sound.contents.valid until) [
    | inr none ↦ ([], s, (refl, none))
    | inl found ↦ (
        let x = found.0 in
        let work = some_work s sound.contents.valid x found.4 in
        let q : Request = record { at = pos x; what = work.0 } in
        let within = found.2 in
        let moment : IsMoment x = omega (arith, within, last) in
        let next : IsNext s x q = record { from = found.1; idle = found.3; at = refl; work = work.1 } in
        let led = leads s q sound (work_is_request s x work.0 work.1) (work_accepted s x work.0 sound loaded found.1 moment work.1) in
        let mid = led.0 in
        let drop = step_drops s mid x q sound next led.1 in
        let less = sum_less (weight_at mid.plan.contents) (weight_at s.plan.contents) ks drop.1.0 drop.0 (covers drop.1.0 (let l = drop.1.1 in omega (arith, l))) drop.1.1 in
        let rest = goes_on n mid (every_step_keeps_sound s.plan mid.plan q (accepted led.1.chosen) sound led.1.step) (ap (λ (P : Plan). P.loaded) led.1.step.is_after) (still_covers ks s.plan.contents mid.plan.contents drop.0 covers) (omega (arith, few, less)) in
        (q ∷ rest.0, rest.1, (x, mid, within, next, led.1, rest.2)))
  ]

pub some_forecast : SomeForecast
some_forecast P known m until sound loaded from moment last =
    let led = leads (before_it P known) (tick m) sound tt (tick_accepted P m loaded from moment) in
    let mid = led.0 in
    let kept = every_step_keeps_sound P mid.plan (tick m) (accepted led.1.chosen) sound led.1.step in
    let ks = keys mid.plan.contents.operations in
    let rest = goes_on until last ks (suc (to_come ks mid.plan.contents)) mid kept (ap (λ (X : Plan). X.loaded) led.1.step.is_after) (by_keys mid.plan.contents) (omega arith) in
    (tick m ∷ rest.0, rest.1, (mid, rest.0, refl, led.1, rest.2))
