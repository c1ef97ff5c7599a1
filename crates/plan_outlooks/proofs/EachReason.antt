-- Where no last minute was asked for, whatever never begins has a reason.
use Rattle.std.proofs.Common.{◌≡◌, inl, inr, refl, sym, ◌∙◌, ap, subst, arith, ℕ, ◌<◌, ◌≤◌, Bool, true, false, List, [], ◌∷◌, Contains, Option, Some, None, MatchOption}
use Rattle.std.proofs.lemmas.Bool.{cases_lt}
use Rattle.std.proofs.lemmas.Option.{none-some, same_Some}
use Rattle.std.specs.FinMap.{get}
use Rattle.plan_basics.proofs.Members.{contains_mapped, contains_none}
use Rattle.plan_basics.specs.declared.Attr.{Attr}
use Rattle.plan_basics.specs.declared.Attr.TheVariants as attribute
use Rattle.plan_basics.specs.declared.Refusal.TheVariants as refusal
use Rattle.plan_basics.specs.declared.keys.OpKey.{OpKey}
use Rattle.plan_forecast.proofs.Ending.{clock_at, forecast_goes_to_end}
use Rattle.plan_forecast.specs.Ahead.{Ahead, IsForecast, IsGoing, LeadsOn, before_it, tick}
use Rattle.plan_forecast.specs.Laws.{IsLastUpTo}
use Rattle.plan_forecast.specs.plan_laws.proofs.Allowing.{may_start_told}
use Rattle.plan_forecast.specs.plan_laws.proofs.Every.{every_step_keeps_sound}
use Rattle.plan_forecast.specs.plan_laws.proofs.Kept.{ready_not_satisfied, ready_unmarked}
use Rattle.plan_forecast.specs.plan_laws.proofs.Standing.{satisfied_told, some_status}
use Rattle.plan_forecast.specs.plan_laws.proofs.Starts.{interrupted_mark, ready_in_order}
use Rattle.plan_model.specs.Contents.{Contents, HasAttribute, Operation, attribute_at}
use Rattle.plan_model.specs.Holdings.{takes}
use Rattle.plan_model.specs.Plan.{IsSoundPlan}
use Rattle.plan_model.specs.Starts.{IsAllowedToStart}
use Rattle.plan_model.specs.Status.{AllPredecessorsSatisfied, HasStatus, IsReady, UnmarkedStatus}
use Rattle.plan_model.specs.Valid.{IsValid}
use Rattle.plan_reasons.proofs.Emptying.{empty_where_it_may_start}
use Rattle.plan_reasons.specs.Reasons.{IsReasonOf, beginning_by}
use Rattle.plan_reasons.specs.Whys.{first_of}
use Rattle.plan_reasons.specs.declared.reasons.Reason.{Reason}
use Rattle.plan_reasons.specs.declared.reasons.Reason.TheVariants as reason
use Rattle.plan_records.specs.Answer.{accepted}
use Rattle.plan_records.specs.declared.Request.{Request}
use Rattle.status_rules.specs.LeastSet.{by_all_before}
use Rattle.status_rules.specs.Table.{marked_status}
use Rattle.status_rules.specs.declared.Mark.{Mark}
use Rattle.status_rules.specs.declared.Mark.TheVariants as mark
use Rattle.status_rules.specs.declared.Status.TheVariants as status
use Rattle.plan_outlooks.specs.Forecasts.{Forecast, IsForecastOf, limit_of, minute_or, told_to}
use Rattle.plan_outlooks.specs.Laws.{EachHasReason}
use Rattle.plan_outlooks.specs.Standstills.{IsAsked, IsStandstill, standing_by}
use Rattle.plan_outlooks.specs.declared.rows.Standing.TheVariants as standing
use Rattle.plan_outlooks.specs.declared.rows.Standstill.{Standstill}

-- ---- what begins later by its mark has no reason

no_reason_found : (m : Mark) (found : Option Reason) → standing_by m found ≡ standing.Later → found ≡ None
no_reason_found (mark.Error code) found e = absurd (cc)
no_reason_found mark.Interrupted found e = absurd (cc)
no_reason_found mark.Undecided found e = absurd (cc)
no_reason_found m (Some r) e = absurd (cc)
no_reason_found m None e = refl

not_interrupted : (m : Mark) (found : Option Reason) → standing_by m found ≡ standing.Later → m ≡ mark.Interrupted → ⊥
not_interrupted m found e is = let never : standing.Interrupted ≡ standing.Later = subst (λ z. standing_by z found ≡ standing.Later) is e in cc

none_listed : (reasons : List Reason) → None ≡ first_of reasons → reasons ≡ []
none_listed [] e = refl
none_listed (r ∷ reasons) e = absurd (none-some r e)

waits_by : (P : Contents) (o : OpKey) (m : Mark) → MatchOption (marked_status m) (UnmarkedStatus P o status.Waiting) (λ told. status.Waiting ≡ told) → AllPredecessorsSatisfied P o → ⊥
waits_by P o mark.Unmarked h = h.1
waits_by P o m h = λ all. absurd (cc)

-- ---- what has no reason, and isn't interrupted, is ready

module _ (P : Contents) (valid : IsValid P) (o : OpKey) (op : Operation) (is : get P.operations o ≡ Some op) (m : ℕ) (none : (r : Reason) → IsReasonOf P o op m r → ⊥) where
  free : op.held ≡ false
  free = at op.held refl
    where
      at : (b : Bool) → op.held ≡ b → op.held ≡ false
      at false e = e
      at true e = absurd (none reason.Held e)

  not_waiting : HasStatus P o status.Waiting → ⊥
  not_waiting waits = waits_by P o waits.0.mark waits.2 (λ p live. elim (satisfied_told P valid.acyclic p) [
    | inl satisfied ↦ satisfied
    | inr not ↦
        let s = some_status P valid p (live.1.0, live.1.1, tt) in
        absurd (none (reason.WaitsFor (record { op = p; status = s.0 })) (waits, (live.0, (live.1, not)), s.1))
  ])

  is_ready : (op.mark ≡ mark.Interrupted → ⊥) → IsReady P o
  is_ready never = elim (may_start_told P valid.acyclic o op m refusal.WrongStatus) [
    | inl may ↦ elim may [
      | inl ready ↦ ready
      | inr both ↦
          let h = both.0 in
          absurd (never (ap (λ (x : Operation). x.mark) (same_Some op h.0 (sym is ∙ h.1)) ∙ interrupted_mark h.0.mark h.2))
    ]
    | inr not ↦
        let s = some_status P valid o (op, is, tt) in
        absurd (none (reason.AtRest (record { status = s.0; beginning = beginning_by op.mark })) (s.1, refl, (λ waits. not_waiting (subst (HasStatus P o) waits s.1)), not))
  ]

-- ---- the minute at which it is asked is a moment, from the last request on

module _ (P : Contents) (valid : IsValid P) (op : Operation) (to at : ℕ) (moment : to < 52596000) (early : op.not_before < 52596000) where
  asked_in : IsAsked P op to at → (to ≤ at) × (at < 52596000)
  asked_in (ws, there, (n, later, first)) =
      let legal = (valid.workstations op.workstation ws there).1 in
      let from : to ≤ n = later.0 in
      let n_in : n < 52596000 = elim later.2 [ inl e ↦ omega (arith, e, moment) | inr e ↦ omega (arith, e, early) ] in
      elim first [
        | inl opened ↦ (
          let after = opened.0 in omega (arith, from, after),
          elim (cases_lt at 52596000) [
            | inl within ↦ within
            | inr over ↦ absurd (opened.1 (λ c has. (
                let end : has.1.end < 52596000 = (legal.intervals has.0 has.1 has.2).1.end in
                let before : at < has.1.end = has.3.1 in
                omega (arith, end, before, over))))
          ],
        )
        | inr shut ↦ (let e = shut.0 in omega (arith, e, from), let e = shut.0 in omega (arith, e, n_in))
      ]

-- ---- a forecast that goes to its end

sound_on : (until : ℕ) (qs : List Request) (s t : Ahead) → IsSoundPlan s.plan → LeadsOn until s qs t → IsSoundPlan t.plan
sound_on until [] s t sound h = subst (λ (z : Ahead). IsSoundPlan z.plan) (sym h.0) sound
sound_on until (q ∷ qs) s t sound h = sound_on until qs h.1 t (every_step_keeps_sound s.plan h.1.plan q (accepted h.4.chosen) sound h.4.step) h.5

module _ (F : Forecast) (is_one : IsForecastOf F) (sound : IsSoundPlan F.plan) (open_end : F.until ≡ None) where
  whole : IsForecast F.plan F.known F.from 52595999 F.requests F.last
  whole = subst (λ u. IsForecast F.plan F.known F.from (limit_of u) F.requests F.last) open_end is_one

  mid_sound : IsSoundPlan whole.0.plan
  mid_sound = every_step_keeps_sound F.plan whole.0.plan (tick F.from) (accepted whole.3.chosen) sound whole.3.step

  last_sound : IsSoundPlan F.last.plan
  last_sound = sound_on 52595999 whole.1 whole.0 F.last mid_sound whole.4

  goes_to_end : IsLastUpTo 52595999 F.last
  goes_to_end =
      let clock : whole.0.plan.clock ≡ F.from = clock_at (before_it F.plan F.known) (tick F.from) whole.0 whole.3 in
      let moment : whole.0.plan.clock < 52596000 = mid_sound.clock in
      forecast_goes_to_end F.plan F.known F.from 52595999 F.requests F.last (omega (arith, clock, moment)) whole

  abbrev P : Contents
  P = F.last.plan.contents

  module _ (r : Standstill) (never : (IsGoing P r.key → ⊥)) (h : IsStandstill F r) (later : r.standing ≡ standing.Later) where
    by_mark : standing_by h.op.mark h.found ≡ standing.Later
    by_mark = sym h.standing ∙ later

    empty : h.reason.0 ≡ []
    empty = none_listed h.reason.0 (sym (no_reason_found h.op.mark h.found by_mark) ∙ h.reason.2)

    none : (x : Reason) → IsReasonOf P r.key h.op r.at x → ⊥
    none x so = contains_none x (subst (λ xs. Contains xs x) empty ((h.reason.1.exactly x).1 (h.op, h.is_in_plan, so)))

    ready : IsReady P r.key
    ready = is_ready P last_sound.contents.valid r.key h.op h.is_in_plan r.at none (not_interrupted h.op.mark h.found by_mark)

    asked : (F.last.plan.clock ≤ r.at) × (r.at < 52596000)
    asked =
        let same : h.asked.0 ≡ h.op = same_Some h.asked.0 h.op (sym h.asked.1 ∙ h.is_in_plan) in
        let at : IsAsked P h.op F.last.plan.clock r.at = subst (λ m. IsAsked P h.op m r.at) (ap (minute_or F.last.plan.clock) open_end) (subst (λ z. IsAsked P z (told_to F) r.at) same h.asked.2) in
        asked_in P last_sound.contents.valid h.op F.last.plan.clock r.at last_sound.clock (last_sound.contents.valid.occurrences.each_operation r.key h.op h.is_in_plan).0.not_before at

    may_begin : takes (attribute_at P h.op.workstation) ≡ true → IsAllowedToStart P r.key r.at
    may_begin known = (empty_where_it_may_start P last_sound.contents.valid r.key r.at h.reason.0 (h.op, h.is_in_plan, known) h.reason.1).0 empty

    by_attribute : (a : Attr) → HasAttribute P h.op.workstation a → ⊥
    by_attribute attribute.Automatic on = (goes_to_end.none_begins r.at asked.0 (let m = asked.1 in omega (arith, m))).0 (r.key, (ready, (h.op, h.is_in_plan, on), may_begin (ap takes on)))
    by_attribute attribute.StartAndCompletion on = (goes_to_end.none_begins r.at asked.0 (let m = asked.1 in omega (arith, m))).1 (r.key, (ready, (h.op, h.is_in_plan, on), may_begin (ap takes on)))
    by_attribute attribute.CompletionOnly on = never (inr (ready, (h.op, h.is_in_plan, (on, free P last_sound.contents.valid r.key h.op h.is_in_plan r.at none))))
    by_attribute attribute.Nonreporting on =
        ready_not_satisfied P r.key ready
        (by_all_before
        (h.op, h.is_in_plan, (ready_unmarked P r.key h.op h.is_in_plan ready, free P last_sound.contents.valid r.key h.op h.is_in_plan r.at none, inr on))
        (ready_in_order P r.key ready))

    none_is_later : ⊥
    none_is_later = by_attribute r.attribute h.workstation.1

pub each_has_reason : EachHasReason
each_has_reason F x is_one sound open_end told r has later =
    let rows = told.standstills in
    let stays = (rows.every r.key).0 (contains_mapped (λ (z : Standstill). z.key) x.standstills.items r has) in
    none_is_later F is_one sound open_end r (λ going. stays.1 (inl going)) (rows.each r has) later
