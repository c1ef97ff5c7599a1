-- What is started when a forecast is made lasts its whole duration in it.
use Rattle.std.proofs.Common.{◌≡◌, ◌⊎◌, inl, inr, refl, sym, ◌∙◌, ap, subst, arith, ℕ, ◌+◌, ◌≤◌, Bool, true, false, true≢false, cond, List, [], ◌∷◌, Option, Some, None, option_map, MatchOption}
use Rattle.std.proofs.lemmas.Option.{none-some, same_Some}
use Rattle.std.specs.FinMap.{get}
use Rattle.plan_basics.specs.declared.keys.OpKey.{OpKey}
use Rattle.plan_laws.proofs.Kept.{ready_unmarked}
use Rattle.plan_laws.proofs.Revised.{get-revised}
use Rattle.plan_model.proofs.Looks.{as_named, get-named, same_key}
use Rattle.plan_model.specs.Contents.{Contents, Has, Operation}
use Rattle.plan_model.specs.Plan.{Plan}
use Rattle.plan_model.specs.Ready.{IsChosen, named, with_mark}
use Rattle.plan_model.specs.Status.{HasStatus, IsReady, UnmarkedStatus}
use Rattle.ready_list.specs.Choice.{is_among}
use Rattle.status_rules.specs.Table.{marked_status}
use Rattle.status_rules.specs.declared.Mark.{Mark}
use Rattle.status_rules.specs.declared.Mark.TheVariants as mark
use Rattle.status_rules.specs.declared.Status.TheVariants as status
use Rattle.plan_records.specs.Acceptance.{minute_of}
use Rattle.plan_records.specs.Changes.{Changes, is_at, marked}
use Rattle.plan_records.specs.declared.Request.{Request}
use Rattle.plan_records.specs.declared.What.{What}
use Rattle.plan_records.specs.declared.What.TheVariants as what
use Rattle.plan_forecast.specs.Ahead.{Ahead, IsGoing, IsNext, IsTimeAfter, IsWork, LeadsOn, LeadsTo, before_it, counted_by, counted_from, counted_of, start_by, start_of, starts_in, tick}
use Rattle.plan_forecast.specs.Laws.{IsStartTaken, NoneEndsEarly}
use Rattle.plan_forecast.proofs.Ending.{clock_at}
use Rattle.plan_forecast.proofs.Short.{chosen_ready, itself}

-- the mark of what is started
abbrev IsUp : Mark → Type 0
IsUp mark.Named = Unit {0}
IsUp mark.Running = Unit {0}
IsUp m = ⊥

up_not_complete : (U : Type 0) (m : Mark) → IsUp m → MatchOption (marked_status m) U (λ t. status.Complete ≡ t) → ⊥
up_not_complete U mark.Named up h = cc
up_not_complete U mark.Running up h = cc
up_not_complete U m up h = absurd up

up_started : (U : Type 0) (m : Mark) → IsUp m → MatchOption (marked_status m) U (λ t. status.Started ≡ t)
up_started U mark.Named up = refl
up_started U mark.Running up = refl
up_started U m up = absurd up

up_counted : (m : Mark) → IsUp m → (not_before x : ℕ) → counted_by m not_before x ≡ x
up_counted mark.Named up not_before x = refl
up_counted mark.Running up not_before x = refl
up_counted m up not_before x = absurd up

-- times
time_kept : (so : Type 0) (m k : ℕ) (old new : Option ℕ) → old ≡ Some k → IsTimeAfter so m old new → new ≡ Some k
time_kept so m k old new e h = subst (λ z. IsTimeAfter so m z new) e h

none_yet : (so : Type 0) (m : ℕ) (old new : Option ℕ) → old ≡ None → ¬ so → IsTimeAfter so m old new → new ≡ None
none_yet so m old new e never h = by (subst (λ z. IsTimeAfter so m z new) e h)
  where
    by : IsTimeAfter so m None new → new ≡ None
    by (inl g) = absurd (never g.0)
    by (inr g) = g.1

first_time : (so : Type 0) (m : ℕ) (old new : Option ℕ) → old ≡ None → so → IsTimeAfter so m old new → new ≡ Some m
first_time so m old new e is h = by (subst (λ z. IsTimeAfter so m z new) e h)
  where
    by : IsTimeAfter so m None new → new ≡ Some m
    by (inl g) = g.1
    by (inr g) = absurd (g.0 is)

none_sooner : (so : Type 0) (m n : ℕ) (old new : Option ℕ) → IsTimeAfter so m old new → ((e : ℕ) → old ≡ Some e → n ≤ e) → n ≤ m → (e : ℕ) → new ≡ Some e → n ≤ e
none_sooner so m n (Some k) new h before within e is = before e (sym h ∙ is)
none_sooner so m n None new (inl h) before within e is = let same = same_Some m e (sym h.1 ∙ is) in omega (arith, same, within)
none_sooner so m n None new (inr h) before within e is = absurd (none-some e (sym h.1 ∙ is))

-- ---- a row of what is started stays

module _ (o : OpKey) (op : Operation) (up : IsUp op.mark) where
  not_ready : (P : Contents) → get P.operations o ≡ Some op → IsReady P o → ⊥
  not_ready P is ready = subst IsUp (ready_unmarked P o op is ready) up

  named_keeps : (Q : Contents) (m : ℕ) (chosen : List OpKey) → IsChosen Q m chosen → get Q.operations o ≡ Some op → get (named chosen Q).operations o ≡ Some op
  named_keeps Q m chosen c is = get-named chosen Q o ∙ ap (option_map (as_named chosen o)) is ∙ by (is_among chosen o) refl
    where
      by : (b : Bool) → is_among chosen o ≡ b → Some (cond b (with_mark mark.Named op) op) ≡ Some op
      by true e = absurd (not_ready Q is (chosen_ready Q m chosen c o e))
      by false e = refl

  marked_keeps : (P : Contents) (p : OpKey) (M : Mark) → get P.operations o ≡ Some op → ((o ≡ p) → ⊥) → get (marked p M P).operations o ≡ Some op
  marked_keeps P p M is other = get-revised (is_at p) (with_mark M) P o ∙ ap (option_map (λ z. cond (is_at p o) (with_mark M z) z)) is ∙ by (is_at p o) refl
    where
      by : (b : Bool) → is_at p o ≡ b → Some (cond b (with_mark M op) op) ≡ Some op
      by true e = absurd (other (same_key o p e))
      by false e = refl

  same_or_other : (p : OpKey) → (o ≡ p) ⊎ ((o ≡ p) → ⊥)
  same_or_other p = by (is_at p o) refl
    where
      by : (b : Bool) → is_at p o ≡ b → (o ≡ p) ⊎ ((o ≡ p) → ⊥)
      by true e = inl (same_key o p e)
      by false e = inr (λ same. true≢false (sym (subst (λ q. is_at p q ≡ true) (sym same) (itself p)) ∙ e))

  module _ (s : Ahead) (x k : ℕ) (is : get s.plan.contents.operations o ≡ Some op) (since : s.since o ≡ Some k) where
    -- it is ended when it has lasted, and nothing else is done to it
    row_kept : (w : What) → IsWork s x w → (Q : Contents) → Changes s.plan.contents w Q → (get Q.operations o ≡ Some op) ⊎ (k + op.duration ≤ x)
    row_kept (what.Ended p) h Q change = elim (same_or_other p) [
      | inl same ↦ inr (
          let due = h.0.1 in
          let begun : due.2.0 ≡ k = same_Some due.2.0 k (sym due.2.1 ∙ ap s.since (sym same) ∙ since) in
          let row : due.0 ≡ op = same_Some due.0 op (sym due.1 ∙ ap (get s.plan.contents.operations) (sym same) ∙ is) in
          let over = due.2.2 in
          let lasts = ap (λ (z : Operation). z.duration) row in
          omega (arith, begun, lasts, over))
      | inr other ↦ inl (subst (λ (C : Contents). get C.operations o ≡ Some op) (sym change) (marked_keeps s.plan.contents p mark.Done is other))
    ]
    row_kept what.Tick h Q change = inl (subst (λ (C : Contents). get C.operations o ≡ Some op) (sym change) is)
    row_kept (what.Started p) h Q change = elim (same_or_other p) [
      | inl same ↦ absurd (not_ready s.plan.contents is (subst (IsReady s.plan.contents) (sym same) h.2.may.0))
      | inr other ↦ inl (subst (λ (C : Contents). get C.operations o ≡ Some op) (sym change) (marked_keeps s.plan.contents p mark.Running is other))
    ]
    row_kept w h Q change = absurd h

-- ---- from one request to the next

module _ (o : OpKey) (op : Operation) (up : IsUp op.mark) (b : ℕ) where
  -- it is still up, since b at the earliest; or it has lasted since then, and isn't complete any sooner
  abbrev IsStillUp : Ahead → Type 0
  IsStillUp s = (get s.plan.contents.operations o ≡ Some op) × (s.done o ≡ None) × ((k : ℕ) × (s.since o ≡ Some k) × (b ≤ k))

  abbrev HasLasted : Ahead → Type 0
  HasLasted s = (b + op.duration ≤ s.plan.clock) × ((e : ℕ) → s.done o ≡ Some e → b + op.duration ≤ e)

  -- its row is there still after the request
  up_after : (s t : Ahead) (q : Request) → LeadsTo s q t → s.done o ≡ None → get t.plan.contents.operations o ≡ Some op → t.done o ≡ None
  up_after s t q leads none is =
      none_yet (HasStatus t.plan.contents o status.Complete) t.plan.clock (s.done o) (t.done o) none
      (λ complete. (
      let same : complete.0 ≡ op = same_Some complete.0 op (sym complete.1 ∙ is) in
      up_not_complete (UnmarkedStatus t.plan.contents o status.Complete) op.mark up
      (subst (λ (z : Operation). MatchOption (marked_status z.mark) (UnmarkedStatus t.plan.contents o status.Complete) (λ x. status.Complete ≡ x)) same complete.2)))
      (leads.done o)

  step_on : (s t : Ahead) (x : ℕ) (q : Request) → IsNext s x q → LeadsTo s q t → IsStillUp s ⊎ HasLasted s → IsStillUp t ⊎ HasLasted t
  step_on s t x q next leads (inl (is, none, (k, since, from))) =
      let clock : t.plan.clock ≡ x = clock_at s q t leads ∙ ap minute_of next.at in
      elim (row_kept o op up s x k is since q.what next.work leads.step.changed leads.step.changes) [
        | inl row ↦ (
            let still : get t.plan.contents.operations o ≡ Some op =
            subst (λ (X : Plan). get X.contents.operations o ≡ Some op) (sym leads.step.is_after) (named_keeps o op up leads.step.changed (minute_of q.at) leads.chosen leads.step.is_chosen row) in
            inl (still, up_after s t q leads none still, (k, time_kept (IsGoing t.plan.contents o) (counted_from t.plan.contents t.plan.clock o) k (s.since o) (t.since o) since (leads.since o), from)))
        | inr over ↦ (
            let within : b + op.duration ≤ t.plan.clock = omega (arith, clock, over, from) in
            inr (within, none_sooner (HasStatus t.plan.contents o status.Complete) t.plan.clock (b + op.duration) (s.done o) (t.done o) (leads.done o) (λ e is_e. absurd (none-some e (sym none ∙ is_e))) within))
      ]
  step_on s t x q next leads (inr (over, none)) =
      let clock : t.plan.clock ≡ x = clock_at s q t leads ∙ ap minute_of next.at in
      let onward = next.from in
      let within : b + op.duration ≤ t.plan.clock = omega (arith, clock, onward, over) in
      inr (within, none_sooner (HasStatus t.plan.contents o status.Complete) t.plan.clock (b + op.duration) (s.done o) (t.done o) (leads.done o) none within)

  all_on : (until : ℕ) (qs : List Request) (s t : Ahead) → LeadsOn until s qs t → IsStillUp s ⊎ HasLasted s → IsStillUp t ⊎ HasLasted t
  all_on until [] s t h so = subst (λ z. IsStillUp z ⊎ HasLasted z) (sym h.0) so
  all_on until (q ∷ qs) s t h so = all_on until qs h.1 t h.5 (step_on s h.1 h.0 q h.3 h.4 so)

  at_last : (t : Ahead) (e : ℕ) → t.done o ≡ Some e → IsStillUp t ⊎ HasLasted t → b + op.duration ≤ e
  at_last t e is (inl up_yet) = absurd (none-some e (sym up_yet.1 ∙ is))
  at_last t e is (inr over) = over.1 e is

  -- ---- the first request

  module _ (P : Plan) (known : OpKey → Option ℕ) (m : ℕ) (mid : Ahead) (leads : LeadsTo (before_it P known) (tick m) mid) (is : get P.contents.operations o ≡ Some op) where
    row_first : get mid.plan.contents.operations o ≡ Some op
    row_first =
        let here : get leads.step.changed.operations o ≡ Some op = subst (λ (C : Contents). get C.operations o ≡ Some op) (sym leads.step.changes) is in
        subst (λ (X : Plan). get X.contents.operations o ≡ Some op) (sym leads.step.is_after) (named_keeps o op up leads.step.changed m leads.chosen leads.step.is_chosen here)

    goes_first : IsGoing mid.plan.contents o
    goes_first = inl (op, row_first, up_started (UnmarkedStatus mid.plan.contents o status.Started) op.mark up)

    -- it has its known start
    first_known : starts_in P.contents known o ≡ Some b → IsStillUp mid
    first_known start = (row_first, up_after (before_it P known) mid (tick m) leads refl row_first, (b, time_kept (IsGoing mid.plan.contents o) (counted_from mid.plan.contents mid.plan.clock o) b (starts_in P.contents known o) (mid.since o) start (leads.since o), omega arith))

    -- or that minute
    first_unknown : starts_in P.contents known o ≡ None → b ≡ m → IsStillUp mid
    first_unknown none at =
        let clock : mid.plan.clock ≡ m = clock_at (before_it P known) (tick m) mid leads in
        let counted : counted_from mid.plan.contents mid.plan.clock o ≡ mid.plan.clock = ap (λ z. counted_of z mid.plan.clock) row_first ∙ up_counted op.mark up op.not_before mid.plan.clock in
        let from : b ≤ counted_from mid.plan.contents mid.plan.clock o = omega (arith, clock, counted, at) in (
          row_first,
          up_after (before_it P known) mid (tick m) leads refl row_first,
          (counted_from mid.plan.contents mid.plan.clock o, first_time (IsGoing mid.plan.contents o) (counted_from mid.plan.contents mid.plan.clock o) (starts_in P.contents known o) (mid.since o) none goes_first (leads.since o), from),
        )

start_at : (P : Contents) (o : OpKey) (op : Operation) (known : Option ℕ) (M : Mark) → get P.operations o ≡ Some op → op.mark ≡ M → start_of (get P.operations o) known ≡ start_by M op.not_before known
start_at P o op known M is e = ap (λ z. start_of z known) is ∙ ap (λ z. start_by z op.not_before known) e

pub none_ends_early : NoneEndsEarly
none_ends_early P known m until requests last (mid, rest, same, leads, on) o b e taken is = by taken
  where
    from_first : (op : Operation) → get P.contents.operations o ≡ Some op → (up : IsUp op.mark) → IsStillUp o op up b mid → Has P.contents o (λ z. b + z.duration ≤ e)
    from_first op row up still = (op, row, at_last o op up b last e is (all_on o op up b until rest mid last on (inl still)))

    by : IsStartTaken P.contents known m o b → Has P.contents o (λ z. b + z.duration ≤ e)
    by (inl ((op, row, runs), start)) =
        let up : IsUp op.mark = subst IsUp (sym runs) tt in
        from_first op row up (first_known o op up b P known m mid leads row (start_at P.contents o op (known o) mark.Running row runs ∙ ap (start_by mark.Running op.not_before) start))
    by (inr (inl ((op, row, runs), none, at))) =
        let up : IsUp op.mark = subst IsUp (sym runs) tt in
        from_first op row up (first_unknown o op up b P known m mid leads row (start_at P.contents o op (known o) mark.Running row runs ∙ ap (start_by mark.Running op.not_before) none) at)
    by (inr (inr ((op, row, only), at))) =
        let up : IsUp op.mark = subst IsUp (sym only) tt in
        from_first op row up (first_unknown o op up b P known m mid leads row (start_at P.contents o op (known o) mark.Named row only) at)
