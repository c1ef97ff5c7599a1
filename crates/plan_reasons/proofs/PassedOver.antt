-- What is ready on an automatic workstation once those that are chosen are named may not start at that moment.
use Rattle.std.proofs.Common.{◌≡◌, inl, inr, refl, sym, ap, subst, ◌∙◌, true≢false, arith, ℕ, ◌≤◌, Bool, true, false, ◌&&◌, cond, List, map, sum_by, Contains, Some, MatchOption}
use Rattle.std.proofs.lemmas.Bool.{false_from_ne_true}
use Rattle.std.proofs.lemmas.List.Sums.{sum_by-le-sum_by}
use Rattle.std.proofs.lemmas.Map.Views.{list_any-from_Contains}
use Rattle.std.proofs.lemmas.Option.{same_Some}
use Rattle.std.specs.Cmp.{eq_by_cmp_equiv}
use Rattle.std.specs.FinMap.{entries, get}
use Rattle.std.specs.Ordering.{eq_by_cmp}
use Rattle.plan_basics.specs.Keys.{Name, name_cmp, operation_cmp, operation_cmp-IsAntisymmetric, operation_cmp_total}
use Rattle.plan_basics.specs.declared.Refusal.{Refusal}
use Rattle.plan_basics.specs.declared.Refusal.TheVariants as refusal
use Rattle.plan_basics.specs.declared.keys.OpKey.{OpKey}
use Rattle.ready_list.proofs.Members.{contains_from_filter}
use Rattle.ready_list.specs.Choice.{among, is_among, operations_of}
use Rattle.ready_list.specs.declared.ReadyKey.{ReadyKey}
use Rattle.special_resources.proofs.Amounts.{leaves_alike, same_operation}
use Rattle.special_resources.specs.Holders.{Usage}
use Rattle.status_rules.specs.Table.{marked_status}
use Rattle.status_rules.specs.declared.Mark.TheVariants as mark
use Rattle.status_rules.specs.declared.Status.{Status}
use Rattle.status_rules.specs.declared.Status.TheVariants as status
use Rattle.plan_model.proofs.Looks.{IsSplit, as_named, split_at}
use Rattle.plan_model.proofs.Members.{member_if}
use Rattle.plan_model.specs.Contents.{Contents, Operation, attribute_at}
use Rattle.plan_model.specs.Holdings.{Holds, holds_resource, holds_server, is_serving, sum_given_out, takes}
use Rattle.plan_model.specs.Ready.{IsChosen, IsOnAutomatic, named, with_mark}
use Rattle.plan_model.specs.Starts.{IsAllowedToStart, MayStart}
use Rattle.plan_model.specs.Status.{AllPredecessorsSatisfied, FollowsNonreporting, HasStatus, IsReady, UnmarkedStatus}
use Rattle.plan_model.specs.Valid.{IsValid}
use Rattle.plan_drafts.proofs.Lists.{from_map, in_map}
use Rattle.plan_drafts.proofs.MadeEntries.{each_made, entries-revise}
use Rattle.plan_drafts.proofs.Tables.{is_found}
use Rattle.plan_core.specs.plan_laws.proofs.Kept.{ready_unmarked}
use Rattle.plan_core.specs.plan_laws.proofs.Latest.{some_latest_start}
use Rattle.plan_core.specs.plan_laws.proofs.Starts.{by_unmarked, never_arriving, never_ready, never_star}
use Rattle.plan_core.specs.plan_status.proofs.Naming.{live_after, live_before, named_if, nonreporting_after, nonreporting_before, row_after, row_before, same_row, stays_satisfied, was_satisfied}
use Rattle.plan_core.specs.start_choice.proofs.GivenSums.{sum_by-map}
use Rattle.plan_core.specs.start_choice.proofs.Naming.{ready_still, still}

-- ---- what is ready once some are named was ready before

module _ (P : Contents) (os : List OpKey) (ready : (k : OpKey) → is_among os k ≡ true → IsReady P k) where
  all_before : (o : OpKey) → AllPredecessorsSatisfied (named os P) o → AllPredecessorsSatisfied P o
  all_before o all p live = was_satisfied P os ready (all p (live.0, live_after P os ready p live.1))

  follows_before : (o : OpKey) → FollowsNonreporting (named os P) o → FollowsNonreporting P o
  follows_before o (p, live, on) = (p, (live.0, live_before P os ready p live.1), nonreporting_before P os ready p on)

  follows_after : (o : OpKey) → FollowsNonreporting P o → FollowsNonreporting (named os P) o
  follows_after o (p, live, on) = (p, (live.0, live_after P os ready p live.1), nonreporting_after P os ready p on)

  module _ (o : OpKey) (op : Operation) (is : get P.operations o ≡ Some op) (unmarked : op.mark ≡ mark.Unmarked) where
    told : (s : Status) → UnmarkedStatus P o s → HasStatus P o s
    told s h = (op, is, subst (λ z. MatchOption (marked_status z) (UnmarkedStatus P o s) (λ t. s ≡ t)) (sym unmarked) h)

    was_ready : IsReady (named os P) o → IsReady P o
    was_ready (inl h) =
        let u = by_unmarked (named os P) o status.Arriving (marked_status h.0.mark) (never_arriving h.0.mark) h.2 in
        inl (told status.Arriving (λ s. u.0 (stays_satisfied P os ready s), λ p live. u.1 p (live.0, live_after P os ready p live.1)))
    was_ready (inr (inl h)) =
        let u = by_unmarked (named os P) o status.ReadyAfterNonreporting (marked_status h.0.mark) (never_star h.0.mark) h.2 in
        inr (inl (told status.ReadyAfterNonreporting (λ s. u.0 (stays_satisfied P os ready s), all_before o u.1, follows_before o u.2)))
    was_ready (inr (inr h)) =
        let u = by_unmarked (named os P) o status.Ready (marked_status h.0.mark) (never_ready h.0.mark) h.2 in
        inr (inr (told status.Ready (λ s. u.0 (stays_satisfied P os ready s), all_before o u.1, (u.2.0, (u.2.1.0, live_before P os ready u.2.0 u.2.1.1)), λ f. u.3 (follows_after o f))))

-- ---- where more are named no less is given out and held

no_less : (a t s : Bool) (n : ℕ) → cond (a && (t && s)) n 0 ≤ cond (a && (t && true)) n 0
no_less true true true n = omega arith
no_less true true false n = omega arith
no_less true false s n = omega arith
no_less false t s n = omega arith

module _ (P : Contents) (os all : List OpKey) (within : (o : OpKey) → is_among os o ≡ true → is_among all o ≡ true) where
  module _ (w : Name) (number : Operation → ℕ) (same : (op : Operation) → number (with_mark mark.Named op) ≡ number op) where
    abbrev taken : Operation → ℕ
    taken op = cond (is_serving P w op) (number op) 0

    sum_as_named : (ks : List OpKey) → sum_given_out (named ks P) w number ≡ sum_by (λ (e : OpKey × Operation). taken (as_named ks e.0 e.1)) (entries P.operations)
    sum_as_named ks =
        ap (λ es. sum_by taken (map (λ (e : OpKey × Operation). e.1) es)) (entries-revise operation_cmp operation_cmp_total operation_cmp-IsAntisymmetric (as_named ks) P.operations)
        ∙ sum_by-map taken (λ (e : OpKey × Operation). e.1) (each_made (as_named ks) (entries P.operations))
        ∙ sum_by-map (λ (e : OpKey × Operation). taken e.1) (λ (e : OpKey × Operation). (e.0, as_named ks e.0 e.1)) (entries P.operations)

    named_takes : (op : Operation) → taken op ≤ taken (with_mark mark.Named op)
    named_takes op =
        subst (λ n. taken op ≤ cond (is_serving P w (with_mark mark.Named op)) n 0) (sym (same op))
        (no_less (eq_by_cmp name_cmp op.workstation w) (takes (attribute_at P w)) (holds_server (marked_status op.mark)) (number op))

    takes_no_less : (b c : Bool) → (b ≡ true → c ≡ true) → (op : Operation) → taken (named_if b op) ≤ taken (named_if c op)
    takes_no_less true true so op = omega arith
    takes_no_less false false so op = omega arith
    takes_no_less false true so op = named_takes op
    takes_no_less true false so op = absurd (true≢false (sym (so refl)))

    sum_no_less : sum_given_out (named os P) w number ≤ sum_given_out (named all P) w number
    sum_no_less =
        let less = sum_by-le-sum_by (λ (e : OpKey × Operation). taken (as_named os e.0 e.1)) (λ (e : OpKey × Operation). taken (as_named all e.0 e.1)) (entries P.operations)
        (λ e. takes_no_less (is_among os e.0) (is_among all e.0) (within e.0) e.1) in
        omega (arith, less, sum_as_named os, sum_as_named all)

  -- the operation takes the resource so, and holds it
  abbrev Uses : Name → Usage → Operation → Type 0
  Uses r usage op = (get op.needs r ≡ Some usage) × (takes (attribute_at P op.workstation) ≡ true) × (holds_resource usage.keep (marked_status op.mark) ≡ true)

  uses_no_less : (r : Name) (usage : Usage) (b c : Bool) → (b ≡ true → c ≡ true) → (op : Operation) → Uses r usage (named_if b op) → Uses r usage (named_if c op)
  uses_no_less r usage true true so op u = u
  uses_no_less r usage false false so op u = u
  uses_no_less r usage false true so op u = (u.0, u.1, refl)
  uses_no_less r usage true false so op u = absurd (true≢false (sym (so refl)))

  holds_no_less : (other : OpKey) (r : Name) (usage : Usage) → Holds (named os P) other r usage → Holds (named all P) other r usage
  holds_no_less other r usage (x, is, uses) =
      let (was, found, same) = row_before P os other x is in
      (named_if (is_among all other) was, row_after P all other was found, uses_no_less r usage (is_among os other) (is_among all other) (within other) was (subst (Uses r usage) (sym same) uses))

  -- ---- what may start once more are named may start before

  module _ (m : ℕ) (ready : (k : OpKey) → is_among os k ≡ true → IsReady P k) (o : OpKey) (op : Operation) (is : get P.operations o ≡ Some op) (first : IsReady P o) (out : is_among all o ≡ false) where
    out_before : is_among os o ≡ false
    out_before = false_from_ne_true (is_among os o) (λ e. true≢false (sym (within o e) ∙ out))

    line_before : ((line : Refusal) → MayStart (named all P) o op m line) → (line : Refusal) → MayStart (named os P) o op m line
    line_before may refusal.WrongStatus = inl (ready_still os P ready o out_before first)
    line_before may refusal.Held = may refusal.Held
    line_before may refusal.TooEarly = may refusal.TooEarly
    line_before may refusal.Closed = may refusal.Closed
    line_before may refusal.NoServer =
        let fit = may refusal.NoServer in
        (fit.0, fit.1, λ c has. let room = fit.2 c has in omega (arith, room, sum_no_less op.workstation (λ x. 1) (λ x. refl)))
    line_before may refusal.NoFixed =
        let fit = may refusal.NoFixed in
        (fit.0, fit.1, λ c has. let room = fit.2 c has in (omega (arith, room.0, sum_no_less op.workstation (λ x. x.r1) (λ x. refl)), omega (arith, room.1, sum_no_less op.workstation (λ x. x.r2) (λ x. refl))))
    line_before may refusal.ResourceBusy =
        λ r usage need.
        let fit = may refusal.ResourceBusy r usage need in (
          fit.0,
          fit.1,
          fit.2,
          (
            λ other held apart holds. fit.3.0 other held apart (holds_no_less other r held holds),
            leaves_alike same_operation r fit.0.quantity (Holds (named all P)) (Holds (named os P)) o usage (λ k x held. (x, holds_no_less k r x held, refl)) fit.3.1,
          ),
        )
    line_before may line = tt

    allowed_before : IsAllowedToStart (named all P) o m → IsAllowedToStart (named os P) o m
    allowed_before (x, found, may) =
        let same : x ≡ op = same_Some x op (sym found ∙ still all P o op out is) in
        (op, still os P o op out_before is, line_before (subst (λ (z : Operation). (line : Refusal) → MayStart (named all P) o z m line) same may))

-- ---- a choice

module _ (P : Contents) (valid : IsValid P) (m : ℕ) (chosen : List OpKey) (c : IsChosen P m chosen) where
  abbrev ops : List OpKey
  ops = operations_of c.ready

  abbrev after : Contents
  after = named chosen P

  chosen_ready : (o : OpKey) → is_among chosen o ≡ true → IsReady P o
  chosen_ready o e =
      let has = subst (λ (ks : List OpKey). Contains ks o) c.choice.in_order (member_if operation_cmp-IsAntisymmetric chosen o e) in
      let (key, there, same) = from_map (λ (k : ReadyKey). k.op) c.ready o (contains_from_filter (is_among chosen) ops o has).0 in
      subst (IsReady P) same ((c.is_ready_list.has_all key).0 there).0

  ready_listed : (o : OpKey) (op : Operation) → get P.operations o ≡ Some op → IsReady P o → IsSplit ops o
  ready_listed o op is ready =
      let latest = some_latest_start P valid.acyclic o in
      let occurrence = is_found (get P.occurrences o.occurrence) (valid.occurrences.each_operation o op is).1 in
      let key : ReadyKey = record { latest = latest.0; priority = occurrence.0.priority; duration = op.duration; op = o } in
      let there : Contains c.ready key = (c.is_ready_list.has_all key).1 (ready, latest.1, (op, is, refl), (occurrence.0, occurrence.1, refl)) in
      split_at ops o (list_any-from_Contains (eq_by_cmp_equiv operation_cmp_total) o ops (in_map (λ (k : ReadyKey). k.op) c.ready key there))

  module _ (o : OpKey) (ready : IsReady after o) (on : IsOnAutomatic after o) where
    not_chosen : is_among chosen o ≡ false
    not_chosen = false_from_ne_true (is_among chosen o) (λ e.
        let was = row_before P chosen o on.0 on.1 in
        let named : on.0.mark ≡ mark.Named = ap (λ (x : Operation). x.mark) (sym (subst (λ b. named_if b was.0 ≡ on.0) e was.2)) in
        let unmarked = ready_unmarked after o on.0 on.1 ready in
        cc)

    row : get P.operations o ≡ Some on.0
    row = sym (same_row P chosen o not_chosen) ∙ on.1

    first : IsReady P o
    first = was_ready P chosen chosen_ready o on.0 row (ready_unmarked after o on.0 on.1 ready) ready

    -- what was passed over may not start at that moment
    pub passed_over : ¬ IsAllowedToStart after o m
    passed_over may =
        let (before, rest, split) = ready_listed o on.0 row first in
        let within : (k : OpKey) → is_among (among chosen before) k ≡ true → is_among chosen k ≡ true =
        λ k e. (contains_from_filter (is_among chosen) before k (member_if operation_cmp-IsAntisymmetric (among chosen before) k e)).1 in
        c.choice.others before rest o split (on.0, row, on.2) not_chosen
        (allowed_before P (among chosen before) chosen within m (λ k e. chosen_ready k (within k e)) o on.0 row first not_chosen may)
