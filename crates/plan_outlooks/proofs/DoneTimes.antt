-- Since when operations are complete in a forecast: not before it, and of what is complete already its own minute.
use Rattle.std.proofs.Common.{◌≡◌, inl, inr, refl, sym, ◌∙◌, ap, subst, arith, ℕ, ◌≤◌, true, List, [], ◌∷◌, Contains, Option, Some, None, MatchOption}
use Rattle.std.proofs.lemmas.Option.{none-some, same_Some}
use Rattle.plan_basics.specs.Keys.{operation_cmp-IsAntisymmetric}
use Rattle.plan_basics.specs.declared.keys.OpKey.{OpKey}
use Rattle.plan_forecast.specs.Ahead.{Ahead, IsForecast, IsTimeAfter, LeadsOn, LeadsTo, before_it, tick}
use Rattle.plan_model.proofs.Members.{member_if}
use Rattle.plan_model.specs.Contents.{Contents}
use Rattle.plan_model.specs.Plan.{Plan}
use Rattle.plan_model.specs.Ready.{IsChosen, named}
use Rattle.plan_model.specs.Status.{HasStatus, IsReady, IsSatisfied}
use Rattle.plan_model.specs.ready_list.proofs.Members.{contains_from_filter}
use Rattle.plan_model.specs.ready_list.specs.Choice.{is_among, operations_of}
use Rattle.plan_model.specs.ready_list.specs.declared.ReadyKey.{ReadyKey}
use Rattle.plan_reasons.specs.plan_core.specs.plan_status.proofs.Naming.{same_row, satisfied_is_other, stays_satisfied}
use Rattle.plan_reasons.specs.plan_drafts.proofs.Lists.{from_map}
use Rattle.plan_records.specs.Acceptance.{minute_of}
use Rattle.plan_records.specs.declared.Request.{Request}
use Rattle.status_rules.specs.LeastSet.{by_given}
use Rattle.status_rules.specs.Table.{marked_status}
use Rattle.status_rules.specs.declared.Mark.{Mark}
use Rattle.status_rules.specs.declared.Mark.TheVariants as mark
use Rattle.status_rules.specs.declared.Status.{Status}
use Rattle.status_rules.specs.declared.Status.TheVariants.{Complete}

clock_at : (s : Ahead) (q : Request) (t : Ahead) → LeadsTo s q t → t.plan.clock ≡ minute_of q.at
clock_at s q t h = ap (λ (P : Plan). P.clock) h.step.is_after

-- ---- no time is before the forecast

-- no operation is complete since a minute before this one
abbrev NoneBefore : ℕ → Ahead → Type 0
NoneBefore from s = (o : OpKey) (m : ℕ) → s.done o ≡ Some m → from ≤ m

none_yet : (from : ℕ) (is_so : Type 0) (clock : ℕ) (old new : Option ℕ) → IsTimeAfter is_so clock old new → from ≤ clock → ((x : ℕ) → old ≡ Some x → from ≤ x) → (m : ℕ) → new ≡ Some m → from ≤ m
none_yet from is_so clock (Some x) new h on was m is = let same = same_Some x m (sym h ∙ is) in let le = was x refl in omega (arith, same, le)
none_yet from is_so clock None new (inl h) on was m is = let same = same_Some clock m (sym h.1 ∙ is) in omega (arith, same, on)
none_yet from is_so clock None new (inr h) on was m is = absurd (none-some m (sym h.1 ∙ is))

led : (from : ℕ) (s : Ahead) (q : Request) (t : Ahead) → LeadsTo s q t → from ≤ t.plan.clock → NoneBefore from s → NoneBefore from t
led from s q t leads on was o m is = none_yet from (HasStatus t.plan.contents o Complete) t.plan.clock (s.done o) (t.done o) (leads.done o) on (λ x. was o x) m is

led_on : (from until : ℕ) (s : Ahead) (qs : List Request) (t : Ahead) → LeadsOn until s qs t → from ≤ s.plan.clock → NoneBefore from s → NoneBefore from t
led_on from until s [] t h on was = subst (NoneBefore from) (sym h.0) was
led_on from until s (q ∷ qs) t (x, mid, within, next, leads, rest) on was =
    let clock : mid.plan.clock ≡ x = clock_at s q mid leads ∙ ap minute_of next.at in
    let later = next.from in
    let onward : from ≤ mid.plan.clock = omega (arith, clock, later, on) in
    led_on from until mid qs t rest onward (led from s q mid leads onward was)

pub forecast_onward : (P : Plan) (known : OpKey → Option ℕ) (m until : ℕ) (requests : List Request) (last : Ahead) → IsForecast P known m until requests last → NoneBefore m last
forecast_onward P known m until requests last (mid, rest, first, leads, on) =
    let clock : mid.plan.clock ≡ m = clock_at (before_it P known) (tick m) mid leads in
    let onward : m ≤ mid.plan.clock = omega (arith, clock) in
    led_on m until mid rest last on onward (led m (before_it P known) (tick m) mid leads onward (λ o x is. absurd (none-some x is)))

-- ---- what is complete already

-- a time that there was stays
time_stays : (is_so : Type 0) (clock m : ℕ) (old new : Option ℕ) → IsTimeAfter is_so clock old new → old ≡ Some m → new ≡ Some m
time_stays is_so clock m (Some x) new h is = h ∙ is
time_stays is_so clock m None new h is = absurd (none-some m is)

stays_on : (until : ℕ) (o : OpKey) (m : ℕ) (s : Ahead) (qs : List Request) (t : Ahead) → LeadsOn until s qs t → s.done o ≡ Some m → t.done o ≡ Some m
stays_on until o m s [] t h is = subst (λ (x : Ahead). x.done o ≡ Some m) (sym h.0) is
stays_on until o m s (q ∷ qs) t (x, mid, within, next, leads, rest) is =
    stays_on until o m mid qs t rest (time_stays (HasStatus mid.plan.contents o Complete) mid.plan.clock m (s.done o) (mid.done o) (leads.done o) is)

first_time : (is_so : Type 0) (clock : ℕ) (new : Option ℕ) → IsTimeAfter is_so clock None new → is_so → new ≡ Some clock
first_time is_so clock new (inl h) so = h.1
first_time is_so clock new (inr h) so = absurd (h.0 so)

-- what a choice names is ready
chosen_ready : (P : Contents) (m : ℕ) (chosen : List OpKey) → IsChosen P m chosen → (o : OpKey) → is_among chosen o ≡ true → IsReady P o
chosen_ready P m chosen c o e =
    let has = subst (λ (ks : List OpKey). Contains ks o) c.choice.in_order (member_if operation_cmp-IsAntisymmetric chosen o e) in
    let (key, there, same) = from_map (λ (k : ReadyKey). k.op) c.ready o (contains_from_filter (is_among chosen) (operations_of c.ready) o has).0 in
    subst (IsReady P) same ((c.is_ready_list.has_all key).0 there).0

module _ (P : Contents) (o : OpKey) where
  satisfied_by : (m : Mark) → MatchOption (marked_status m) (IsSatisfied P o) (λ t. Complete ≡ t) → (m ≡ mark.Unmarked → IsSatisfied P o → IsSatisfied P o) → (m ≡ mark.Done → IsSatisfied P o) → IsSatisfied P o
  satisfied_by mark.Unmarked h f g = f refl h
  satisfied_by mark.Done h f g = g refl
  satisfied_by m h f g = absurd (cc)

  complete_satisfied : HasStatus P o Complete → IsSatisfied P o
  complete_satisfied (op, is, h) = satisfied_by op.mark h (λ e s. s) (λ e. by_given (op, is, inl e))

still_by : (x : Option Status) (A B : Type 0) → MatchOption x A (λ t. Complete ≡ t) → (A → B) → MatchOption x B (λ t. Complete ≡ t)
still_by None A B h f = f h
still_by (Some t) A B h f = h

-- to name what is ready leaves complete what is complete
named_complete : (P : Contents) (m : ℕ) (chosen : List OpKey) → IsChosen P m chosen → (o : OpKey) → HasStatus P o Complete → HasStatus (named chosen P) o Complete
named_complete P m chosen c o is =
    let ready = chosen_ready P m chosen c in
    let satisfied = complete_satisfied P o is in (
      is.0,
      same_row P chosen o (satisfied_is_other P chosen ready o satisfied) ∙ is.1,
      still_by (marked_status is.0.mark) (IsSatisfied P o) (IsSatisfied (named chosen P) o) is.2 (λ s. stays_satisfied P chosen ready s),
    )

tick_complete : (P : Plan) (known : OpKey → Option ℕ) (m : ℕ) (mid : Ahead) → LeadsTo (before_it P known) (tick m) mid → (o : OpKey) → HasStatus P.contents o Complete → HasStatus mid.plan.contents o Complete
tick_complete P known m mid leads o is =
    let step = leads.step in
    let e : step.changed ≡ P.contents = step.changes in
    subst (λ (X : Plan). HasStatus X.contents o Complete) (sym step.is_after)
    (named_complete step.changed m leads.chosen step.is_chosen o (subst (λ X. HasStatus X o Complete) (sym e) is))

pub forecast_already : (P : Plan) (known : OpKey → Option ℕ) (m until : ℕ) (requests : List Request) (last : Ahead) → IsForecast P known m until requests last
    → (o : OpKey) → HasStatus P.contents o Complete → last.done o ≡ Some m
forecast_already P known m until requests last (mid, rest, first, leads, on) o is =
    let clock : mid.plan.clock ≡ m = clock_at (before_it P known) (tick m) mid leads in
    stays_on until o m mid rest last on (first_time (HasStatus mid.plan.contents o Complete) mid.plan.clock (mid.done o) (leads.done o) (tick_complete P known m mid leads o is) ∙ ap Some clock)
