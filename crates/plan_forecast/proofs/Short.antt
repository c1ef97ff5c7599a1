-- Each request of a forecast but the first ends or begins an operation.
use Rattle.std.proofs.Common.{◌≡◌, inl, inr, refl, sym, ◌∙◌, ap, subst, arith, ℕ, ◌+◌, ◌*◌, ◌<◌, ◌≤◌, Bool, true, false, ◌||◌, cond, List, [], ◌∷◌, length, sum_by, Contains, Option, Some, None, option_map, MatchOption}
use Rattle.std.proofs.lemmas.List.Sums.{sum_by-cons, sum_by-le, sum_by-le-sum_by}
use Rattle.std.proofs.lemmas.Map.Entries.{length-keys_of}
use Rattle.std.proofs.lemmas.Map.Views.{list_any-from_Contains}
use Rattle.std.proofs.lemmas.Option.{same_Some}
use Rattle.std.specs.Cmp.{eq_by_cmp_equiv, tied_itself}
use Rattle.std.specs.FinMap.{entries, get, keys, len, len-entries}
use Rattle.std.specs.Ordering.{is_eq}
use Rattle.plan_basics.specs.Keys.{operation_cmp-IsAntisymmetric, operation_cmp_total}
use Rattle.plan_basics.specs.declared.keys.OpKey.{OpKey}
use Rattle.plan_basics.proofs.Members.{all_by_members, contains_cases, contains_none}
use Rattle.plan_laws.proofs.Every.{every_step_keeps_sound}
use Rattle.plan_laws.proofs.Kept.{named_none, ready_unmarked}
use Rattle.plan_laws.proofs.Latest.{some_latest_start}
use Rattle.plan_laws.proofs.Revised.{get-revised}
use Rattle.plan_records.specs.plan_drafts.proofs.Lists.{from_map, in_map}
use Rattle.plan_records.specs.plan_drafts.proofs.Tables.{is_found}
use Rattle.plan_model.proofs.Looks.{as_named, get-named, same_key, split_at}
use Rattle.plan_model.proofs.Members.{in_keys, member_if}
use Rattle.plan_model.specs.Contents.{Contents, Operation}
use Rattle.plan_model.specs.Plan.{IsSoundPlan, Plan}
use Rattle.plan_model.specs.Ready.{IsChosen, IsOnAutomatic, named, with_mark}
use Rattle.plan_model.specs.Starts.{IsAllowedToStart}
use Rattle.plan_model.specs.Status.{IsReady}
use Rattle.plan_model.specs.Valid.{IsValid}
use Rattle.ready_list.proofs.Members.{contains_from_filter}
use Rattle.ready_list.specs.Choice.{among, is_among, operations_of}
use Rattle.ready_list.specs.declared.ReadyKey.{ReadyKey}
use Rattle.status_rules.specs.Table.{marked_status}
use Rattle.status_rules.specs.declared.Mark.{Mark}
use Rattle.status_rules.specs.declared.Mark.TheVariants as mark
use Rattle.status_rules.specs.declared.Status.TheVariants as status
use Rattle.plan_records.specs.Acceptance.{MayBeAccepted, minute_of}
use Rattle.plan_records.specs.Answer.{accepted}
use Rattle.plan_records.specs.Changes.{Changes, is_at, marked}
use Rattle.plan_records.specs.Step.{IsAccepted}
use Rattle.plan_records.specs.declared.Request.{Request}
use Rattle.plan_records.specs.declared.What.{What}
use Rattle.plan_records.specs.declared.What.TheVariants as what
use Rattle.plan_forecast.specs.Ahead.{Ahead, IsGoing, IsNext, IsWork, LeadsOn, LeadsTo, tick}
use Rattle.plan_forecast.specs.Laws.{ForecastIsShort}

-- ---- how much is still to come of an operation: its beginning and its end

abbrev pub weight : Mark → ℕ
weight mark.Unmarked = 2
weight mark.Done = 0
weight mark.Deleted = 0
weight m = 1

abbrev pub weight_of : Option Operation → ℕ
weight_of None = 0
weight_of (Some op) = weight op.mark

abbrev pub weight_at : Contents → OpKey → ℕ
weight_at P o = weight_of (get P.operations o)

at_most_two : (m : Mark) → weight m ≤ 2
at_most_two mark.Unmarked = omega arith
at_most_two m = omega arith

at_most_two_of : (x : Option Operation) → weight_of x ≤ 2
at_most_two_of None = omega arith
at_most_two_of (Some op) = at_most_two op.mark

-- nothing has more to come
abbrev pub Lighter : Contents → Contents → Type 0
Lighter P Q = (o : OpKey) → weight_at Q o ≤ weight_at P o

-- and something less
abbrev pub Drops : Contents → Contents → Type 0
Drops P Q = Lighter P Q × ((o : OpKey) × (weight_at Q o < weight_at P o))

pub sum_less : {X : Type 0} (f g : X → ℕ) (xs : List X) (x : X) → ((y : X) → f y ≤ g y) → Contains xs x → f x < g x → sum_by f xs < sum_by g xs
sum_less f g [] x each has less = absurd (contains_none x has)
sum_less f g (y ∷ ys) x each has less = elim (contains_cases y ys x has) [
  | inl e ↦ (let here : f y < g y = subst (λ z. f z < g z) (sym e) less in let rest = sum_by-le-sum_by f g ys each in omega (arith, here, rest, sum_by-cons f y ys, sum_by-cons g y ys))
  | inr later ↦ (let here = each y in let rest = sum_less f g ys x each later less in omega (arith, here, rest, sum_by-cons f y ys, sum_by-cons g y ys))
]

-- ---- what is marked anew

lighter_by : (M : Mark) (b : Bool) (x : Option Operation) → ((op : Operation) → x ≡ Some op → b ≡ true → weight M ≤ weight op.mark) → weight_of (option_map (λ op. cond b (with_mark M op) op) x) ≤ weight_of x
lighter_by M b None h = omega arith
lighter_by M true (Some op) h = h op refl refl
lighter_by M false (Some op) h = omega arith

pub itself : (o : OpKey) → is_at o o ≡ true
itself o = ap is_eq (tied_itself operation_cmp_total o)

module _ (P : Contents) (o : OpKey) (op : Operation) (M : Mark) (is : get P.operations o ≡ Some op) (less : weight M < weight op.mark) where
  marked_lighter : Lighter P (marked o M P)
  marked_lighter q =
      subst (λ x. weight_of x ≤ weight_at P q) (sym (get-revised (is_at o) (with_mark M) P q))
      (lighter_by M (is_at o q) (get P.operations q) (λ z found at.
      let same : z ≡ op = same_Some z op (sym found ∙ ap (get P.operations) (same_key q o at) ∙ is) in
      subst (λ w. weight M ≤ weight w.mark) (sym same) (omega (arith, less))))

  marked_row : get (marked o M P).operations o ≡ Some (with_mark M op)
  marked_row = get-revised (is_at o) (with_mark M) P o ∙ ap (option_map (λ z. cond (is_at o o) (with_mark M z) z)) is ∙ ap (λ b. Some (cond b (with_mark M op) op)) (itself o)

  marked_drops : Drops P (marked o M P)
  marked_drops = (marked_lighter, (o, subst (λ n. n < weight_at P o) (sym (ap weight_of marked_row)) (subst (λ n. weight M < n) (sym (ap weight_of is)) less)))

-- ---- what is named

module _ (P : Contents) (m : ℕ) (chosen : List OpKey) (c : IsChosen P m chosen) where
  abbrev ops : List OpKey
  ops = operations_of c.ready

  pub chosen_ready : (o : OpKey) → is_among chosen o ≡ true → IsReady P o
  chosen_ready o e =
      let has = subst (λ (ks : List OpKey). Contains ks o) c.choice.in_order (member_if operation_cmp-IsAntisymmetric chosen o e) in
      let (key, there, same) = from_map (λ (k : ReadyKey). k.op) c.ready o (contains_from_filter (is_among chosen) ops o has).0 in
      subst (IsReady P) same ((c.is_ready_list.has_all key).0 there).0

  named_lighter : Lighter P (named chosen P)
  named_lighter o =
      subst (λ x. weight_of x ≤ weight_at P o) (sym (get-named chosen P o))
      (lighter_by mark.Named (is_among chosen o) (get P.operations o) (λ op found e.
      let unmarked = ready_unmarked P o op found (chosen_ready o e) in
      subst (λ z. 1 ≤ weight z) (sym unmarked) (omega arith)))

  member_drops : (o : OpKey) (op : Operation) → get P.operations o ≡ Some op → is_among chosen o ≡ true → Drops P (named chosen P)
  member_drops o op is e =
      let unmarked = ready_unmarked P o op is (chosen_ready o e) in
      let row : get (named chosen P).operations o ≡ Some (with_mark mark.Named op) = get-named chosen P o ∙ ap (option_map (as_named chosen o)) is ∙ ap (λ b. Some (cond b (with_mark mark.Named op) op)) e in
      (named_lighter, (o, subst (λ n. n < weight_at P o) (sym (ap weight_of row)) (subst (λ n. 1 < n) (sym (ap weight_of is ∙ ap weight unmarked)) (omega arith))))

  first_drops : (o : OpKey) → is_among chosen o ≡ true → Drops P (named chosen P)
  first_drops o e = let h = chosen_ready o e in elim h [ inl a ↦ member_drops o a.0 a.1 e | inr (inl b) ↦ member_drops o b.0 b.1 e | inr (inr r) ↦ member_drops o r.0 r.1 e ]

none_among : (xs : List OpKey) → among [] xs ≡ []
none_among [] = refl
none_among (x ∷ xs) = none_among xs

-- where something may begin on an automatic workstation, something is named
module _ (P : Contents) (valid : IsValid P) (m : ℕ) (o : OpKey) (op : Operation) (is : get P.operations o ≡ Some op) (ready : IsReady P o) (on : IsOnAutomatic P o) (may : IsAllowedToStart P o m) where
  some_named : (chosen : List OpKey) → IsChosen P m chosen → (k : OpKey) × (is_among chosen k ≡ true)
  some_named [] c =
      let latest = some_latest_start P valid.acyclic o in
      let occurrence = is_found (get P.occurrences o.occurrence) (valid.occurrences.each_operation o op is).1 in
      let key : ReadyKey = record { latest = latest.0; priority = occurrence.0.priority; duration = op.duration; op = o } in
      let there : Contains c.ready key = (c.is_ready_list.has_all key).1 (ready, latest.1, (op, is, refl), (occurrence.0, occurrence.1, refl)) in
      let split = split_at (operations_of c.ready) o (list_any-from_Contains (eq_by_cmp_equiv operation_cmp_total) o (operations_of c.ready) (in_map (λ (k : ReadyKey). k.op) c.ready key there)) in
      absurd (c.choice.others split.0 split.1 o split.2 on refl
      (subst (λ os. IsAllowedToStart (named os P) o m) (sym (none_among split.0)) (subst (λ X. IsAllowedToStart X o m) (sym (named_none P)) may)))
  some_named (k ∷ ks) c = (k, ap (λ b. b || is_among ks k) (itself k))

-- ---- one request

lighter_both : (P Q R : Contents) → Lighter P Q → Lighter Q R → Lighter P R
lighter_both P Q R f g o = let a = f o in let b = g o in omega (arith, a, b)

-- what is started, or ready, isn't over
started_weight : (m : Mark) → MatchOption (marked_status m) ⊥ (λ t. status.Started ≡ t) → 0 < weight m
started_weight mark.Unmarked h = absurd h
started_weight mark.Done h = absurd (cc)
started_weight mark.Deleted h = absurd (cc)
started_weight m h = omega arith

ready_weight : (P : Contents) (o : OpKey) (op : Operation) → get P.operations o ≡ Some op → IsReady P o → weight op.mark ≡ 2
ready_weight P o op is ready = ap weight (ready_unmarked P o op is ready)

module _ (P Q : Contents) (m : ℕ) (chosen : List OpKey) (c : IsChosen Q m chosen) where
  by_mark : (o : OpKey) (op : Operation) (M : Mark) → get P.operations o ≡ Some op → weight M < weight op.mark → Q ≡ marked o M P → Drops P (named chosen Q)
  by_mark o op M is less e =
      let drop : Drops P Q = subst (Drops P) (sym e) (marked_drops P o op M is less) in
      let less_yet = named_lighter Q m chosen c in
      (lighter_both P Q (named chosen Q) drop.0 less_yet, (drop.1.0, let a = drop.1.1 in let b = less_yet drop.1.0 in omega (arith, a, b)))

module _ (s mid : Ahead) (x : ℕ) (q : Request) (sound : IsSoundPlan s.plan) where
  abbrev P : Contents
  P = s.plan.contents

  ended_drops : (Q : Contents) (m : ℕ) (chosen : List OpKey) → IsChosen Q m chosen → (o : OpKey) → IsGoing P o → Q ≡ marked o mark.Done P → Drops P (named chosen Q)
  ended_drops Q m chosen c o (inl h) e = by_mark P Q m chosen c o h.0 mark.Done h.1 (started_weight h.0.mark h.2) e
  ended_drops Q m chosen c o (inr h) e = by_mark P Q m chosen c o h.1.0 mark.Done h.1.1 (let w = ready_weight P o h.1.0 h.1.1 h.0 in omega (arith, w)) e

  started_drops : (Q : Contents) (m : ℕ) (chosen : List OpKey) → IsChosen Q m chosen → (o : OpKey) (op : Operation) → get P.operations o ≡ Some op → IsReady P o → Q ≡ marked o mark.Running P → Drops P (named chosen Q)
  started_drops Q m chosen c o op is ready e = by_mark P Q m chosen c o op mark.Running is (let w = ready_weight P o op is ready in omega (arith, w)) e

  tick_drops : (Q : Contents) (m : ℕ) (chosen : List OpKey) → IsChosen Q m chosen → (o : OpKey) → IsReady P o → IsOnAutomatic P o → IsAllowedToStart P o m → Q ≡ P → Drops P (named chosen Q)
  tick_drops Q m chosen c o ready on may e =
      let d : IsChosen P m chosen = subst (λ X. IsChosen X m chosen) e c in
      let some = some_named P sound.contents.valid m o on.0 on.1 ready on may chosen d in
      subst (λ X. Drops P (named chosen X)) (sym e) (first_drops P m chosen d some.0 some.1)

  by_work : (w : What) → IsWork s x w → (Q : Contents) (m : ℕ) → m ≡ x → (chosen : List OpKey) → Changes P w Q → IsChosen Q m chosen → Drops P (named chosen Q)
  by_work (what.Ended o) h Q m at chosen change c = ended_drops Q m chosen c o h.0.0 change
  by_work what.Tick h Q m at chosen change c =
      let o = h.1.0 in let may = h.1.1 in
      tick_drops Q m chosen c o may.0 may.1 (subst (IsAllowedToStart P o) (sym at) may.2) change
  by_work (what.Started o) h Q m at chosen change c = started_drops Q m chosen c o h.2.may.1.0 h.2.may.1.1 h.2.may.0 change
  by_work w h Q m at chosen change c = absurd h

  pub step_drops : IsNext s x q → LeadsTo s q mid → Drops P mid.plan.contents
  step_drops next leads =
      subst (λ (X : Plan). Drops P X.contents) (sym leads.step.is_after)
      (by_work q.what next.work leads.step.changed (minute_of q.at) (ap minute_of next.at) leads.chosen leads.step.changes leads.step.is_chosen)

-- ---- all of them

abbrev pub to_come : List OpKey → Contents → ℕ
to_come ks P = sum_by (weight_at P) ks

-- of all others nothing is to come
abbrev pub Covers : List OpKey → Contents → Type 0
Covers ks P = (o : OpKey) → 0 < weight_at P o → Contains ks o

pub still_covers : (ks : List OpKey) (P Q : Contents) → Lighter P Q → Covers ks P → Covers ks Q
still_covers ks P Q lighter covers o some = covers o (let l = lighter o in omega (arith, l, some))

no_more_requests : (until : ℕ) (ks : List OpKey) (qs : List Request) (s t : Ahead) → IsSoundPlan s.plan → Covers ks s.plan.contents → LeadsOn until s qs t → length qs ≤ to_come ks s.plan.contents
no_more_requests until ks [] s t sound covers h = omega arith
no_more_requests until ks (q ∷ qs) s t sound covers h =
    let mid = h.1 in
    let drop = step_drops s mid h.0 q sound h.3 h.4 in
    let less = sum_less (weight_at mid.plan.contents) (weight_at s.plan.contents) ks drop.1.0 drop.0 (covers drop.1.0 (let l = drop.1.1 in omega (arith, l))) drop.1.1 in
    let rest = no_more_requests until ks qs mid t (every_step_keeps_sound s.plan mid.plan q (accepted h.4.chosen) sound h.4.step) (still_covers ks s.plan.contents mid.plan.contents drop.0 covers) h.5 in
    omega (arith, less, rest)

pub by_keys : (P : Contents) → Covers (keys P.operations) P
by_keys P o some = found (get P.operations o) refl some
  where
    found : (x : Option Operation) → get P.operations o ≡ x → 0 < weight_of x → Contains (keys P.operations) o
    found None e some = absurd (omega (arith, some))
    found (Some op) e some = in_keys operation_cmp-IsAntisymmetric P.operations o op e

all_keys : (P : Contents) → length (keys P.operations) ≡ len P.operations
all_keys P = length-keys_of (entries P.operations) ∙ sym (len-entries P.operations)

to_come_at_most : (P : Contents) → to_come (keys P.operations) P ≤ len P.operations * 2
to_come_at_most P =
    let most = sum_by-le (weight_at P) 2 (keys P.operations) (all_by_members (λ o. weight_at P o ≤ 2) (keys P.operations) (λ o has. at_most_two_of (get P.operations o))) in
    subst (λ n. to_come (keys P.operations) P ≤ n * 2) (all_keys P) most

-- the first, which is a tick, adds nothing
tick_lighter : (P after : Plan) (m : ℕ) (chosen : List OpKey) → IsAccepted (MayBeAccepted P (tick m)) P (tick m) chosen after → Lighter P.contents after.contents
tick_lighter P after m chosen step =
    let e : step.changed ≡ P.contents = step.changes in
    subst (λ (X : Plan). Lighter P.contents X.contents) (sym step.is_after)
    (subst (λ X. Lighter P.contents (named chosen X)) (sym e)
    (named_lighter P.contents m chosen (subst (λ X. IsChosen X m chosen) e step.is_chosen)))

pub forecast_is_short : ForecastIsShort
forecast_is_short P known m until requests last sound (mid, rest, is, leads, on) =
    let ks = keys P.contents.operations in
    let lighter = tick_lighter P mid.plan m leads.chosen leads.step in
    let few = no_more_requests until ks rest mid last (every_step_keeps_sound P mid.plan (tick m) (accepted leads.chosen) sound leads.step) (still_covers ks P.contents mid.plan.contents lighter (by_keys P.contents)) on in
    let less = sum_by-le-sum_by (weight_at mid.plan.contents) (weight_at P.contents) ks lighter in
    let most = to_come_at_most P.contents in
    subst (λ qs. length qs ≤ 1 + 2 * len P.contents.operations) (sym is) (omega (arith, few, less, most))
