-- A small step is within its allowance.
use Rattle.std.proofs.Common.{◌≡◌, ◌⊎◌, inl, inr, refl, sym, subst, ◌∙◌, arith, true≢false, ℕ, suc, ◌+◌, ◌*◌, ◌<◌, ◌≤◌, Bool, true, false, List, [], ◌∷◌, length, Contains, Some, slice_get}
use Rattle.std.specs.FinMap.{entries, keys}
use Rattle.std.specs.List.Sorted.{IsStrictlySortedBy}
use Rattle.std.specs.Ordering.{nat_cmp}
use Rattle.plan_basics.specs.Keys.{operation_cmp}
use Rattle.plan_basics.specs.declared.keys.OpKey.{OpKey}
use Rattle.operation_graph.specs.Graphs.{Digraph, HasEdge}
use Rattle.ready_list.specs.Choice.{is_among}
use Rattle.ready_list.specs.Entries.{keys_of}
use Rattle.ready_list.specs.declared.entry.ReadyEntry.{ReadyEntry}
use Rattle.satisfaction.specs.Changes.{HoldFollowers}
use Rattle.satisfaction.specs.Counters.{waiting_count}
use Rattle.plan_records.specs.Work.{IsAllowance, IsAllowanceByChange, IsWorkedOn}
use Rattle.plan_records.specs.declared.What.{What}
use Rattle.plan_records.specs.declared.What.TheVariants as what
use Rattle.plan_drafts.proofs.Lists.{contains_none, length_map}
use Rattle.plan_drafts.proofs.PairEdges.{same_key}
use Rattle.plan_drafts.specs.PlanGraphs.{IsGraphFor}
use Rattle.plan_model.proofs.Entries.{entries_in_order}
use Rattle.plan_model.specs.Contents.{Contents, Operation, Precedes}
use Rattle.plan_model.specs.Ready.{named}
use Rattle.small_requests.specs.RequestEdits.{IsRerun, IsSmall}
use Rattle.plan_checks.specs.plan_status.proofs.LoadedRows.{row_of}
use Rattle.plan_checks.specs.plan_status.proofs.RowKeys.{key_of_row, row_of_key}
use Rattle.plan_checks.specs.start_choice.proofs.Readied.{ready_in_plan}
use Rattle.small_requests.proofs.Asked.{few_asked}
use Rattle.small_requests.proofs.Begun.{base_few, base_of, begun_in_turn, few_first, first_of}
use Rattle.small_requests.proofs.LooksCounted.{few_both}
use Rattle.small_requests.proofs.FewLooks.{few_looks}
use Rattle.small_requests.proofs.Followers.{from_led, hold_led, led_among, led_ascend}
use Rattle.small_requests.proofs.Freed.{few_freed, freed_among, freed_ascend, from_freed}
use Rattle.small_requests.proofs.Graphed.{some_graph}
use Rattle.small_requests.proofs.PlaceKeys.{as_many, key_from, key_in, keys_at, once_at}
use Rattle.small_requests.proofs.StepWork.{edited_is_work, fewer_follows, freed_in_turn, named_is_work, one_frame, pair_after, ready, valid_named}
use Rattle.small_requests.specs.FewLooks.{FollowsWork, IsFollower, IsTouching}
use Rattle.small_requests.specs.LooksLaws.{IsSmallStep, SmallStepsLookFew}
use Rattle.small_requests.specs.StepLooks.{IsStepLooked, one_at_least}

-- what a small request is allowed goes by what it changes
by_change : (P R : Contents) (w : What) (n : ℕ) → IsSmall w → IsAllowance P w R n → IsAllowanceByChange P w R n
by_change P R (what.Load draft) n small is = absurd small
by_change P R (what.AddOccurrence a) n small is = absurd small
by_change P R (what.Extend a) n small is = absurd small
by_change P R (what.AddDependency p s) n small is = absurd small
by_change P R (what.DeleteOccurrence c) n small is = absurd small
by_change P R w n small is = is

one_more : (n : ℕ) → one_at_least (suc n) ≡ suc n
one_more n = refl

-- one to check, and three at each that is edited; two where none is
base_is : (edits : List ℕ) → 1 + one_at_least (length edits) + 2 * length edits ≡ base_of edits + 3 * length edits
base_is [] = refl
base_is (i ∷ edits) = omega (arith, one_more (length edits))

module _ {P Q : Contents} {w : What} {m : ℕ} {edits : List ℕ} {os : List OpKey} (step : IsSmallStep P Q w m edits os)
    {is_rerun : Bool} (rerun : is_rerun ≡ true → IsRerun w) {noted before after : ℕ} (looked : IsStepLooked P Q is_rerun edits os noted before after)
    (g : Digraph) (is_graph : IsGraphFor P g) where
  abbrev ks : List OpKey
  ks = keys P.operations

  abbrev of : List ℕ → List OpKey
  of = keys_at ks

  sorted : IsStrictlySortedBy operation_cmp ks
  sorted = entries_in_order operation_cmp P.operations

  -- the same keys stand in what was edited
  at_after : (i : ℕ) (o : OpKey) → slice_get ks i ≡ Some o → slice_get (keys Q.operations) i ≡ Some o
  at_after i o at = subst (λ xs. slice_get xs i ≡ Some o) (one_frame step).keys at

  at_before : (i : ℕ) (o : OpKey) → slice_get (keys Q.operations) i ≡ Some o → slice_get ks i ≡ Some o
  at_before i o at = subst (λ xs. slice_get xs i ≡ Some o) (sym (one_frame step).keys) at

  -- ---- within

  below : (i : ℕ) → i < length (entries P.operations) → i < length ks
  below i lt = omega (arith, lt, length_map (λ (row : OpKey × Operation). row.0) (entries P.operations))

  edits_within : (i : ℕ) → Contains edits i → i < length ks
  edits_within i has = below i (step.worked.within i has)

  moved_within : (i : ℕ) → Contains looked.moved i → i < length ks
  moved_within i has = below i (looked.moved_within i has)

  places_within : (i : ℕ) → Contains looked.places i → i < length ks
  places_within i has = below i (let lt = looked.are_places.within i has in omega (arith, lt, step.moved.size))

  touched_within : (i : ℕ) → Contains looked.touched i → i < length ks
  touched_within i has = elim ((looked.joined.both i).0 has) [ inl moved ↦ moved_within i moved | inr place ↦ places_within i place ]

  -- ---- followers

  -- in a rerun those of the edited ones that have a predecessor, else none
  abbrev followers_if : Bool → List ℕ
  followers_if true = led_among g is_graph.graph edits
  followers_if false = []

  hold_if : (b : Bool) → b ≡ true → HoldFollowers g edits (followers_if b)
  hold_if true is = hold_led g is_graph.graph edits
  hold_if false is = absurd (true≢false (sym is))

  ascend_if : (b : Bool) → IsStrictlySortedBy nat_cmp (followers_if b)
  unfolding IsStrictlySortedBy
  ascend_if true = led_ascend g is_graph.graph edits step.worked.ascend
  ascend_if false = tt

  from_followers : (b : Bool) (i : ℕ) → Contains (followers_if b) i → Contains edits i × ((p : ℕ) × HasEdge g p i)
  from_followers true i has = from_led g is_graph.graph edits i has
  from_followers false i has = absurd (contains_none i has)

  -- ---- what is touched

  abbrev zeros : List ℕ
  zeros = freed_among looked.wait_states looked.kept_then looked.moved

  edited_in_turn : (o : OpKey) → Contains (of edits) o → Contains (first_of w edits) o ⊎ FollowsWork P w (named os Q) o
  edited_in_turn o has =
      let from = key_from ks edits o has in
      let row = row_of_key (entries P.operations) from.0 o from.2 in
      elim (begun_in_turn P (named os Q) w edits from.0 o from.1 (step.worked.edited from.0 o row.0 from.1 row.1)) [
        | inl first ↦ inl first
        | inr more ↦ inr (more.0, more.1, pair_after step more.0 o more.2)
      ]

  are_followers : (o : OpKey) → Contains (of (followers_if is_rerun)) o → IsFollower P w (named os Q) o
  are_followers o has =
      let from = key_from ks (followers_if is_rerun) o has in
      let led = from_followers is_rerun from.0 from.1 in
      let pair = (is_graph.edges led.1.0 from.0).0 led.1.1 in
      let same : pair.1 ≡ o = same_key ks from.0 pair.1 o pair.3 from.2 in
      (edited_is_work step from.0 o led.0 from.2, (pair.0, subst (Precedes (named os Q) pair.0) same (pair_after step pair.0 pair.1 pair.4)))

  zeros_in_turn : (o : OpKey) → Contains (of zeros) o → IsFollower P w (named os Q) o ⊎ FollowsWork P w (named os Q) o
  zeros_in_turn o has =
      let from = key_from ks zeros o has in
      let free = from_freed looked.wait_states looked.kept_then looked.moved from.0 from.1 in
      freed_in_turn step looked.are_kept looked.are_kept_then from.0 o from.2 free.1

  named_there : (i : ℕ) (o : OpKey) → Contains looked.places i → slice_get ks i ≡ Some o → is_among os o ≡ true
  named_there i o has at =
      let row = row_of_key (entries Q.operations) i o (at_after i o at) in
      (looked.are_places.each i o row.0 row.1).0 has

  named_work : (o : OpKey) → Contains (of looked.places) o → IsWorkedOn P w (named os Q) o
  named_work o has =
      let from = key_from ks looked.places o has in
      named_is_work step from.0 o (named_there from.0 o from.1 from.2) (at_after from.0 o from.2)

  touched_by : (o : OpKey) → Contains (of looked.touched) o → Contains (of edits) o ⊎ (FollowsWork P w (named os Q) o ⊎ Contains (of looked.places) o)
  touched_by o has =
      let from = key_from ks looked.touched o has in
      elim ((looked.joined.both from.0).0 from.1) [
        | inr place ↦ inr (inr (key_in ks looked.places from.0 o place from.2))
        | inl moved ↦ elim (looked.around g is_graph from.0 moved) [
          | inl edited ↦ inl (key_in ks edits from.0 o edited from.2)
          | inr (inl after_one) ↦
              let one = after_one.1 in
              let pair = (is_graph.edges one.0 from.0).0 one.2 in
              let same : pair.1 ≡ o = same_key ks from.0 pair.1 o pair.3 from.2 in
              inr (inl (pair.0, edited_is_work step one.0 pair.0 one.1 pair.2, subst (Precedes (named os Q) pair.0) same (pair_after step pair.0 pair.1 pair.4)))
          | inr (inr less) ↦ inr (inl (fewer_follows step looked.are_kept looked.are_kept_then from.0 o from.2 less))
        ]
      ]

  touching : IsTouching P w (named os Q) (first_of w edits) (of edits) (of (followers_if is_rerun)) (of zeros) (of looked.places) (of looked.touched)
  touching = record {
    few_first = few_first w edits;
    edited_once = once_at ks sorted edits step.worked.ascend;
    followers_once = once_at ks sorted (followers_if is_rerun) (ascend_if is_rerun);
    zeros_once = once_at ks sorted zeros (freed_ascend looked.wait_states looked.kept_then looked.moved looked.moved_ascend);
    named_once = once_at ks sorted looked.places looked.are_places.ascend;
    touched_once = once_at ks sorted looked.touched looked.joined.ascend;
    edited_is_work = λ o has. let from = key_from ks edits o has in edited_is_work step from.0 o from.1 from.2;
    named_is_work = named_work;
    edited_in_turn = edited_in_turn;
    are_followers = are_followers;
    zeros_in_turn = zeros_in_turn;
    touched_by = touched_by;
  }

  -- ---- how many

  has_named : (o : OpKey) → is_among os o ≡ true → Contains (of looked.places) o
  has_named o among =
      let found = ready_in_plan Q o (ready step o among) in
      let row = row_of Q o found.0 found.1 in
      key_in ks looked.places row.0 o ((looked.are_places.each row.0 o found.0 row.1).1 among) (at_before row.0 o (key_of_row (entries Q.operations) row.0 o found.0 row.1))

  few_waiting : waiting_count looked.wait_states ≤ waiting_count looked.kept_then + length zeros
  few_waiting = few_freed looked.wait_states looked.kept_then looked.moved (looked.are_kept.size ∙ sym step.moved.size ∙ sym looked.are_kept_then.size) looked.elsewhere

  zeros_within : (i : ℕ) → Contains zeros i → i < length ks
  zeros_within i has = moved_within i (from_freed looked.wait_states looked.kept_then looked.moved i has).0

  followers_within : (i : ℕ) → Contains (followers_if is_rerun) i → i < length ks
  followers_within i has = edits_within i (from_followers is_rerun i has).0

  module _ {n : ℕ} (allowance : IsAllowanceByChange P w (named os Q) n) where
    enough : (work : ℕ) → before ≤ 1 + one_at_least (length edits) → work ≤ after + noted → work ≤ n
    enough work few_before few_work =
        let asked = few_asked Q os (ready step) (valid_named step) (keys_of looked.asked) allowance.after (of looked.places) looked.are_asked.list allowance.ready_after has_named in
        let most = looked.most g (followers_if is_rerun) is_graph (hold_if is_rerun) in
        let both = few_both ks sorted looked.moved looked.places looked.touched looked.moved_ascend looked.are_places.ascend looked.joined touched_within in
        few_looks (valid_named step).acyclic allowance touching (base_of edits) (length (keys_of looked.asked)) work (base_few w edits) asked
        (omega (
          arith,
          few_before,
          few_work,
          looked.all_noted,
          most,
          both,
          few_waiting,
          base_is edits,
          length_map (λ (e : ReadyEntry). e.key) looked.asked,
          as_many ks edits edits_within,
          as_many ks (followers_if is_rerun) followers_within,
          as_many ks zeros zeros_within,
          as_many ks looked.touched touched_within,
        ))

pub small_steps_look_few : SmallStepsLookFew
small_steps_look_few P Q w m is_rerun edits os noted before after work n step rerun looked few_before few_work is =
    let graph = some_graph P step.sound.valid in
    enough step rerun looked graph.0 graph.1 (by_change P (named os Q) w n step.small is) work few_before few_work
