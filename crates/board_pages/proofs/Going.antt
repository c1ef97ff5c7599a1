-- What is going in a plan is going or complete at the end of each of its forecasts.
use Rattle.std.proofs.Common.{◌≡◌, ◌≢◌, ◌⊎◌, ◌∙◌, inl, inr, refl, sym, ap, subst, ℕ, Bool, true, false, cond, List, [], ◌∷◌, Contains, Option, Some, None, option_map, MatchOption}
use Rattle.std.proofs.lemmas.Option.{none-some, same_Some}
use Rattle.std.specs.FinMap.{get}
use Rattle.plan_basics.proofs.Members.{mapped_contains}
use Rattle.plan_basics.specs.Keys.{operation_cmp-IsAntisymmetric}
use Rattle.plan_basics.specs.declared.keys.OpKey.{OpKey}
use Rattle.plan_model.proofs.Looks.{as_named, get-named, same_key}
use Rattle.plan_model.proofs.Members.{member_if}
use Rattle.plan_model.specs.Contents.{Contents, Has, HasAttribute, IsLive, LivePredecessor, Operation, Operations}
use Rattle.plan_model.specs.Plan.{Plan}
use Rattle.plan_model.specs.Ready.{IsChosen, named, with_mark}
use Rattle.plan_model.specs.Status.{AllPredecessorsSatisfied, FollowsNonreporting, HasStatus, IsReady, IsSatisfied, UnmarkedStatus}
use Rattle.plan_model.specs.ready_list.proofs.Members.{contains_from_filter}
use Rattle.plan_model.specs.ready_list.specs.Choice.{is_among, operations_of}
use Rattle.plan_model.specs.ready_list.specs.declared.ReadyKey.{ReadyKey}
use Rattle.status_rules.specs.LeastSet.{by_all_before, by_given}
use Rattle.status_rules.specs.Table.{marked_status}
use Rattle.status_rules.specs.declared.Mark.{Mark}
use Rattle.status_rules.specs.declared.Mark.TheVariants as mark
use Rattle.status_rules.specs.declared.Status.{Status}
use Rattle.status_rules.specs.declared.Status.TheVariants as status
use Rattle.forecast_texts.specs.plan_outlooks.specs.Forecasts.{Begins, Forecast, IsForecastOf}
use Rattle.forecast_texts.specs.plan_outlooks.specs.plan_forecast.specs.Ahead.{Ahead, IsGoing, IsWork, LeadsOn, LeadsTo, MayBegin, before_it, tick}
use Rattle.forecast_texts.specs.plan_outlooks.specs.plan_forecast.specs.plan_laws.proofs.Decide.{invert}
use Rattle.forecast_texts.specs.plan_outlooks.specs.plan_forecast.specs.plan_laws.proofs.Kept.{ready_not_satisfied, ready_unmarked}
use Rattle.forecast_texts.specs.plan_outlooks.specs.plan_forecast.specs.plan_laws.proofs.Revised.{get-revised}
use Rattle.forecast_texts.specs.plan_outlooks.specs.plan_forecast.specs.plan_laws.proofs.Starts.{ready_in_order}
use Rattle.forecast_texts.specs.plan_outlooks.specs.plan_records.specs.Acceptance.{minute_of}
use Rattle.forecast_texts.specs.plan_outlooks.specs.plan_records.specs.Changes.{Changes, is_at, marked}
use Rattle.forecast_texts.specs.plan_outlooks.specs.plan_records.specs.declared.Request.{Request}
use Rattle.forecast_texts.specs.plan_outlooks.specs.plan_records.specs.declared.What.{What}
use Rattle.forecast_texts.specs.plan_outlooks.specs.plan_records.specs.declared.What.TheVariants as what
use Rattle.plan_basics.specs.declared.Attr.TheVariants as attribute

found_of : {A B : Type 0} (f : A → B) (z : Option A) (b : B) → option_map f z ≡ Some b → (a : A) × (z ≡ Some a)
found_of f None b e = absurd (none-some b e)
found_of f (Some a) b e = (a, refl)

-- ---- the status of what has no mark
abbrev ByMark : Contents → OpKey → Status → Mark → Type 0
ByMark P o s m = MatchOption (marked_status m) (UnmarkedStatus P o s) (λ told. s ≡ told)

status_of : (P : Contents) (o : OpKey) (s : Status) (h : HasStatus P o s) → h.0.mark ≡ mark.Unmarked → UnmarkedStatus P o s
status_of P o s h unmarked = subst (ByMark P o s) unmarked h.2

has_status : (P : Contents) (o : OpKey) (s : Status) (x : Operation) → get P.operations o ≡ Some x → x.mark ≡ mark.Unmarked → UnmarkedStatus P o s → HasStatus P o s
has_status P o s x is unmarked u = (x, is, subst (ByMark P o s) (sym unmarked) u)

-- ---- marks change
abbrev IsMoved : Contents → Operations → OpKey → Operation → Type 0
IsMoved P ops q x = (M : Mark) × (get ops q ≡ Some (with_mark M x)) × (M ≢ mark.Deleted) × (x.mark ≢ mark.Deleted) × (IsSatisfied P q → M ≡ mark.Done)

-- the same operations with other marks: none is or becomes deleted, and of what is satisfied one that is done
record AreMoved (P : Contents) (ops : Operations) : Type 0 where
  row : (q : OpKey) (x : Operation) → get P.operations q ≡ Some x → (get ops q ≡ Some x) ⊎ IsMoved P ops q x
  back : (q : OpKey) (y : Operation) → get ops q ≡ Some y → (x : Operation) × (get P.operations q ≡ Some x)

module _ (P : Contents) (ops : Operations) (are : AreMoved P ops) where
  abbrev Q : Contents
  Q = record P { operations = ops }

  was_live : (p : OpKey) → IsLive Q p → IsLive P p
  was_live p (y, e, live) =
      let b = are.back p y e in
      elim (are.row p b.0 b.1) [
        | inl same ↦ (b.0, b.1, subst (λ z. z.mark ≢ mark.Deleted) (same_Some y b.0 (sym e ∙ same)) live)
        | inr moved ↦ (b.0, b.1, moved.3)
      ]

  still_live : (p : OpKey) → IsLive P p → IsLive Q p
  still_live p (x, e, live) = elim (are.row p x e) [
    | inl same ↦ (x, same, live)
    | inr moved ↦ (with_mark moved.0 x, moved.1, moved.2)
  ]

  is_done : (q : OpKey) (x : Operation) → IsMoved P ops q x → IsSatisfied P q → IsSatisfied Q q
  is_done q x moved was = by_given (with_mark moved.0 x, moved.1, inl (moved.4 was))

  still_satisfied : {q : OpKey} → IsSatisfied P q → IsSatisfied Q q
  still_satisfied {q} (by_given h) = elim (are.row q h.0 h.1) [
    | inl same ↦ by_given (h.0, same, h.2)
    | inr moved ↦ is_done q h.0 moved (by_given h)
  ]
  still_satisfied {q} (by_all_before h before) =
      let rest : (p : OpKey) → LivePredecessor Q p q → IsSatisfied Q p = λ p live. still_satisfied (before p (live.0, was_live p live.1)) in
      elim (are.row q h.0 h.1) [
        | inl same ↦ by_all_before (h.0, same, h.2) rest
        | inr moved ↦ is_done q h.0 moved (by_all_before h before)
      ]

  all_still : (o : OpKey) → AllPredecessorsSatisfied P o → AllPredecessorsSatisfied Q o
  all_still o all p live = still_satisfied (all p (live.0, was_live p live.1))

  was_nonreporting : (p : OpKey) → Has Q p (λ op. HasAttribute Q op.workstation attribute.Nonreporting) → Has P p (λ op. HasAttribute P op.workstation attribute.Nonreporting)
  was_nonreporting p (y, e, on) =
      let b = are.back p y e in
      elim (are.row p b.0 b.1) [
        | inl same ↦ (b.0, b.1, subst (λ z. HasAttribute P z.workstation attribute.Nonreporting) (same_Some y b.0 (sym e ∙ same)) on)
        | inr moved ↦ (b.0, b.1, subst (λ z. HasAttribute P z.workstation attribute.Nonreporting) (same_Some y (with_mark moved.0 b.0) (sym e ∙ moved.1)) on)
      ]

  still_nonreporting : (p : OpKey) → Has P p (λ op. HasAttribute P op.workstation attribute.Nonreporting) → Has Q p (λ op. HasAttribute Q op.workstation attribute.Nonreporting)
  still_nonreporting p (x, e, on) = elim (are.row p x e) [
    | inl same ↦ (x, same, on)
    | inr moved ↦ (with_mark moved.0 x, moved.1, on)
  ]

  was_following : (o : OpKey) → FollowsNonreporting Q o → FollowsNonreporting P o
  was_following o (p, live, on) = (p, (live.0, was_live p live.1), was_nonreporting p on)

  still_following : (o : OpKey) → FollowsNonreporting P o → FollowsNonreporting Q o
  still_following o (p, live, on) = (p, (live.0, still_live p live.1), still_nonreporting p on)

  -- ---- of an operation whose mark doesn't change
  module _ (o : OpKey) (same : (x : Operation) → get P.operations o ≡ Some x → get ops o ≡ Some x) where
    not_yet : IsReady P o → (x : Operation) → get P.operations o ≡ Some x → IsSatisfied Q o → ⊥
    not_yet ready x is now =
        let (y, e, why) = invert Q now in
        let y_is : y ≡ x = same_Some y x (sym e ∙ same x is) in
        let unmarked : y.mark ≡ mark.Unmarked = ap (λ z. z.mark) y_is ∙ ready_unmarked P o x is ready in
        elim why [
          | inl done ↦ (let never : mark.Unmarked ≡ mark.Done = sym unmarked ∙ done in absurd (cc))
          | inr (inl deleted) ↦ (let never : mark.Unmarked ≡ mark.Deleted = sym unmarked ∙ deleted in absurd (cc))
          | inr (inr passes) ↦ ready_not_satisfied P o ready (by_all_before (y, is ∙ ap Some (sym y_is), (passes.0, passes.1, passes.2)) (ready_in_order P o ready))
        ]

    still_ready : IsReady P o → IsReady Q o
    still_ready (inl h) =
        let ready : IsReady P o = inl h in
        let unmarked = ready_unmarked P o h.0 h.1 ready in
        let u = status_of P o status.Arriving h unmarked in
        inl (has_status Q o status.Arriving h.0 (same h.0 h.1) unmarked (not_yet ready h.0 h.1, λ p live. u.1 p (live.0, was_live p live.1)))
    still_ready (inr (inl h)) =
        let ready : IsReady P o = inr (inl h) in
        let unmarked = ready_unmarked P o h.0 h.1 ready in
        let u = status_of P o status.ReadyAfterNonreporting h unmarked in
        inr (inl (has_status Q o status.ReadyAfterNonreporting h.0 (same h.0 h.1) unmarked (not_yet ready h.0 h.1, all_still o u.1, still_following o u.2)))
    still_ready (inr (inr h)) =
        let ready : IsReady P o = inr (inr h) in
        let unmarked = ready_unmarked P o h.0 h.1 ready in
        let u = status_of P o status.Ready h unmarked in
        inr (inr (has_status Q o status.Ready h.0 (same h.0 h.1) unmarked (not_yet ready h.0 h.1, all_still o u.1, (u.2.0, (u.2.1.0, still_live u.2.0 u.2.1.1)), λ follows. u.3 (was_following o follows))))

    still_going : IsGoing P o → IsGoing Q o
    still_going (inl h) = inl (h.0, same h.0 h.1, h.2)
    still_going (inr h) = inr (still_ready h.0, (h.1.0, same h.1.0 h.1.1, h.1.2))

-- ---- what is going, or was ended
abbrev IsEnded : Contents → OpKey → Type 0
IsEnded P o = Has P o (λ op. op.mark ≡ mark.Done)

abbrev IsOn : Contents → OpKey → Type 0
IsOn P o = IsGoing P o ⊎ IsEnded P o

row_of : (P : Contents) (o : OpKey) → IsOn P o → (x : Operation) × (get P.operations o ≡ Some x)
row_of P o (inl (inl h)) = (h.0, h.1)
row_of P o (inl (inr h)) = (h.1.0, h.1.1)
row_of P o (inr h) = (h.0, h.1)

still_on : (P : Contents) (ops : Operations) → AreMoved P ops → (o : OpKey) → ((x : Operation) → get P.operations o ≡ Some x → get ops o ≡ Some x) → IsOn P o → IsOn (record P { operations = ops }) o
still_on P ops are o same (inl going) = inl (still_going P ops are o same going)
still_on P ops are o same (inr h) = inr (h.0, same h.0 h.1, h.2)

-- what is ready is on no workstation that the desk or a report starts it on, where it is going
started_has_mark : (P : Contents) (o : OpKey) (x : Operation) → x.mark ≡ mark.Unmarked → ByMark P o status.Started x.mark → ⊥
started_has_mark P o x unmarked h = subst (ByMark P o status.Started) unmarked h

going_completes : (P : Contents) (o : OpKey) (x : Operation) → get P.operations o ≡ Some x → IsReady P o → IsOn P o → HasAttribute P x.workstation attribute.CompletionOnly
going_completes P o x is ready (inl (inl h)) = absurd (started_has_mark P o h.0 (ready_unmarked P o h.0 h.1 ready) h.2)
going_completes P o x is ready (inl (inr h)) = subst (λ z. HasAttribute P z.workstation attribute.CompletionOnly) (same_Some h.1.0 x (sym h.1.1 ∙ is)) h.1.2.0
going_completes P o x is ready (inr h) = (let never : mark.Unmarked ≡ mark.Done = sym (ready_unmarked P o h.0 h.1 ready) ∙ h.2 in absurd (cc))

-- ---- one mark
module _ (P : Contents) (o : OpKey) (M : Mark) (not_deleted : M ≢ mark.Deleted) (alive : (x : Operation) → get P.operations o ≡ Some x → x.mark ≢ mark.Deleted) (done : IsSatisfied P o → M ≡ mark.Done) where
  abbrev ops : Operations
  ops = (marked o M P).operations

  row_now : (q : OpKey) (x : Operation) → get P.operations q ≡ Some x → get ops q ≡ Some (cond (is_at o q) (with_mark M x) x)
  row_now q x is = get-revised (is_at o) (with_mark M) P q ∙ ap (option_map (λ z. cond (is_at o q) (with_mark M z) z)) is

  marked_row : (q : OpKey) (x : Operation) → get P.operations q ≡ Some x → (b : Bool) → is_at o q ≡ b → get ops q ≡ Some (cond b (with_mark M x) x) → (get ops q ≡ Some x) ⊎ IsMoved P ops q x
  marked_row q x is true t g =
      let same : q ≡ o = same_key q o t in
      inr (M, g, not_deleted, alive x (ap (λ k. get P.operations k) (sym same) ∙ is), λ was. done (subst (IsSatisfied P) same was))
  marked_row q x is false t g = inl g

  are_marked : AreMoved P ops
  are_marked = record {
    row = λ q x is. marked_row q x is (is_at o q) refl (row_now q x is);
    back = λ q y e. found_of (λ z. cond (is_at o q) (with_mark M z) z) (get P.operations q) y (sym (get-revised (is_at o) (with_mark M) P q) ∙ e);
  }

  -- o itself, and any other
  on_by : (q : OpKey) → IsOn P q → ((x : Operation) → get P.operations o ≡ Some x → IsOn P o → M ≡ mark.Done) → (b : Bool) → is_at o q ≡ b → IsOn (marked o M P) q
  on_by q on ends true t =
      let (x, is) = row_of P q on in
      let same : q ≡ o = same_key q o t in
      let is_done : M ≡ mark.Done = ends x (ap (λ k. get P.operations k) (sym same) ∙ is) (subst (IsOn P) same on) in
      inr (with_mark M x, row_now q x is ∙ ap (λ b. Some (cond b (with_mark M x) x)) t, is_done)
  on_by q on ends false t = still_on P ops are_marked q (λ x is. row_now q x is ∙ ap (λ b. Some (cond b (with_mark M x) x)) t) on

  on_after : (q : OpKey) → IsOn P q → ((x : Operation) → get P.operations o ≡ Some x → IsOn P o → M ≡ mark.Done) → IsOn (marked o M P) q
  on_after q on ends = on_by q on ends (is_at o q) refl

-- ---- those that are named
module _ (P : Contents) (m : ℕ) (chosen : List OpKey) (c : IsChosen P m chosen) where
  abbrev named_ones : Operations
  named_ones = (named chosen P).operations

  chosen_ready : (o : OpKey) → is_among chosen o ≡ true → IsReady P o
  chosen_ready o e =
      let has = subst (λ (ks : List OpKey). Contains ks o) c.choice.in_order (member_if operation_cmp-IsAntisymmetric chosen o e) in
      let (key, same, there) = mapped_contains (λ (k : ReadyKey). k.op) c.ready o (contains_from_filter (is_among chosen) (operations_of c.ready) o has).0 in
      subst (IsReady P) same ((c.is_ready_list.has_all key).0 there).0

  row_after : (q : OpKey) (x : Operation) → get P.operations q ≡ Some x → get named_ones q ≡ Some (cond (is_among chosen q) (with_mark mark.Named x) x)
  row_after q x is = get-named chosen P q ∙ ap (option_map (as_named chosen q)) is

  named_row : (q : OpKey) (x : Operation) → get P.operations q ≡ Some x → (b : Bool) → is_among chosen q ≡ b → get named_ones q ≡ Some (cond b (with_mark mark.Named x) x) → (get named_ones q ≡ Some x) ⊎ IsMoved P named_ones q x
  named_row q x is true t g =
      let ready = chosen_ready q t in
      inr (mark.Named, g, (λ e. cc), (λ e. let never : mark.Unmarked ≡ mark.Deleted = sym (ready_unmarked P q x is ready) ∙ e in cc), λ was. absurd (ready_not_satisfied P q ready was))
  named_row q x is false t g = inl g

  are_named : AreMoved P named_ones
  are_named = record {
    row = λ q x is. named_row q x is (is_among chosen q) refl (row_after q x is);
    back = λ q y e. found_of (as_named chosen q) (get P.operations q) y (sym (get-named chosen P q) ∙ e);
  }

  not_chosen : (o : OpKey) → IsOn P o → is_among chosen o ≡ true → ⊥
  not_chosen o on t =
      let auto = c.choice.on_automatic o t in
      let completes = going_completes P o auto.0 auto.1 (chosen_ready o t) on in
      let never : Some attribute.Automatic ≡ Some attribute.CompletionOnly = sym auto.2 ∙ completes in
      cc

  on_by_test : (o : OpKey) → IsOn P o → (b : Bool) → is_among chosen o ≡ b → IsOn (named chosen P) o
  on_by_test o on true t = absurd (not_chosen o on t)
  on_by_test o on false t = still_on P named_ones are_named o (λ x is. row_after o x is ∙ ap (λ b. Some (cond b (with_mark mark.Named x) x)) t) on

  on_then : (o : OpKey) → IsOn P o → IsOn (named chosen P) o
  on_then o on = on_by_test o on (is_among chosen o) refl

-- ---- one request
going_alive : (P : Contents) (o : OpKey) → IsGoing P o → (x : Operation) → get P.operations o ≡ Some x → x.mark ≢ mark.Deleted
going_alive P o (inl h) x is deleted =
    let told : ByMark P o status.Started mark.Deleted = subst (ByMark P o status.Started) (ap (λ z. z.mark) (same_Some h.0 x (sym h.1 ∙ is)) ∙ deleted) h.2 in
    (let never : status.Started ≡ status.Deleted = told in cc)
going_alive P o (inr h) x is deleted = (let never : mark.Unmarked ≡ mark.Deleted = sym (ready_unmarked P o x is h.0) ∙ deleted in cc)

ready_alive : (P : Contents) (o : OpKey) → IsReady P o → (x : Operation) → get P.operations o ≡ Some x → x.mark ≢ mark.Deleted
ready_alive P o ready x is deleted = (let never : mark.Unmarked ≡ mark.Deleted = sym (ready_unmarked P o x is ready) ∙ deleted in cc)

ended_on : (P Q : Contents) (o : OpKey) → IsGoing P o → Q ≡ marked o mark.Done P → (q : OpKey) → IsOn P q → IsOn Q q
ended_on P Q o going e q on = subst (λ C. IsOn C q) (sym e) (on_after P o mark.Done (λ d. cc) (going_alive P o going) (λ was. refl) q on (λ x is here. refl))

begun_on : (P Q : Contents) (o : OpKey) (x : ℕ) → MayBegin attribute.StartAndCompletion P o x → Q ≡ marked o mark.Running P → (q : OpKey) → IsOn P q → IsOn Q q
begun_on P Q o x may e q on =
    subst (λ C. IsOn C q) (sym e)
    (on_after P o mark.Running (λ d. cc) (ready_alive P o may.0) (λ was. absurd (ready_not_satisfied P o may.0 was)) q on (λ z is here.
    let completes = going_completes P o may.1.0 may.1.1 may.0 here in
    let never : Some attribute.StartAndCompletion ≡ Some attribute.CompletionOnly = sym may.1.2 ∙ completes in
    absurd (cc)))

changed_on : (s : Ahead) (x : ℕ) (w : What) → IsWork s x w → (Q : Contents) → Changes s.plan.contents w Q → (q : OpKey) → IsOn s.plan.contents q → IsOn Q q
changed_on s x (what.Ended o) h Q change q on = ended_on s.plan.contents Q o h.0.0 change q on
changed_on s x what.Tick h Q change q on = subst (λ C. IsOn C q) (sym change) on
changed_on s x (what.Started o) h Q change q on = begun_on s.plan.contents Q o x h.2.may change q on
changed_on s x w h Q change q on = absurd h

led_on : (s : Ahead) (q : Request) (t : Ahead) (leads : LeadsTo s q t) (o : OpKey) → IsOn leads.step.changed o → IsOn t.plan.contents o
led_on s q t leads o on =
    subst (λ C. IsOn C o) (sym (ap (λ (P : Plan). P.contents) leads.step.is_after)) (on_then leads.step.changed (minute_of q.at) leads.chosen leads.step.is_chosen o on)

-- ---- all of them
on_at_last : (until : ℕ) (qs : List Request) (s t : Ahead) → LeadsOn until s qs t → (o : OpKey) → IsOn s.plan.contents o → IsOn t.plan.contents o
on_at_last until [] s t h o on = subst (λ (a : Ahead). IsOn a.plan.contents o) (sym h.0) on
on_at_last until (q ∷ qs) s t h o on =
    on_at_last until qs h.1 t h.5 o (led_on s q h.1 h.4 o (changed_on s h.0 q.what h.3.work h.4.step.changed h.4.step.changes o on))

complete_of : (P : Contents) (o : OpKey) → IsEnded P o → HasStatus P o status.Complete
complete_of P o h = (h.0, h.1, subst (ByMark P o status.Complete) (sym h.2) refl)

-- what is going is neither complete nor deleted
apart : (P : Contents) (o : OpKey) (s : Status) (m : Option Status) → s ≢ status.Started → MatchOption m (UnmarkedStatus P o status.Started) (λ t. status.Started ≡ t) → MatchOption m (UnmarkedStatus P o s) (λ t. s ≡ t) → ⊥
apart P o s None other h k = h
apart P o s (Some t) other h k = other (k ∙ sym h)

other_status : (P : Contents) (o : OpKey) (s : Status) → s ≢ status.Started → (h : HasStatus P o status.Started) → HasStatus P o s → ⊥
other_status P o s other h k =
    apart P o s (marked_status h.0.mark) other h.2 (subst (λ z. ByMark P o s z.mark) (same_Some k.0 h.0 (sym k.1 ∙ h.1)) k.2)

going_not_complete : (P : Contents) (o : OpKey) → IsGoing P o → HasStatus P o status.Complete → ⊥
going_not_complete P o (inl h) k = other_status P o status.Complete (λ e. cc) h k
going_not_complete P o (inr h) k = ready_not_satisfied P o h.0 (status_of P o status.Complete k (ready_unmarked P o k.0 k.1 h.0))

going_not_deleted : (P : Contents) (o : OpKey) → IsGoing P o → HasStatus P o status.Deleted → ⊥
going_not_deleted P o (inl h) k = other_status P o status.Deleted (λ e. cc) h k
going_not_deleted P o (inr h) k = status_of P o status.Deleted k (ready_unmarked P o k.0 k.1 h.0)

pub begins_if_going : (F : Forecast) → IsForecastOf F → (o : OpKey) → IsGoing F.plan.contents o → Begins F o
begins_if_going F (mid, rest, is, leads, on) o going =
    let P = F.plan.contents in
    let row = row_of P o (inl going) in
    let unchanged : IsOn leads.step.changed o = subst (λ C. IsOn C o) (sym leads.step.changes) (inl going) in
    let last = on_at_last _ rest mid F.last on o (led_on (before_it F.plan F.known) (tick F.from) mid leads o unchanged) in
    (((row.0, row.1, tt), going_not_complete P o going, going_not_deleted P o going), elim last [ inl goes ↦ inl goes | inr ended ↦ inr (complete_of F.last.plan.contents o ended) ])
