-- The ready list of three occurrences that compete for one workstation, and which of them are allowed to start.
use Rattle.std.proofs.Common.{arith, ◌≡◌, inl, inr, refl, sym, ◌∙◌, ap, subst, pos, ◌+◌, ◌<◌, ◌≤◌, false, true≢false, cond, List, [], ◌∷◌, Some, option_map, ◌-ℤ◌}
use Rattle.std.specs.FinMap.{find, get, get-from_entries}
use Rattle.std.specs.FinSet.{contains-empty}
use Rattle.std.specs.List.Sorted.{IsStrictlySortedBy}
use Rattle.plan_basics.specs.declared.Attr.TheVariants as attribute
use Rattle.plan_basics.specs.declared.keys.OpKey.{OpKey}
use Rattle.plan_basics.specs.Intervals.{interval_by}
use Rattle.plan_basics.specs.Keys.{name_cmp_total, occurrence_cmp, occurrence_cmp_total, operation_cmp, operation_cmp_total, operation_cmp-IsAntisymmetric}
use Rattle.workstations.specs.declared.Capacity.{Capacity}
use Rattle.status_rules.specs.declared.Mark.TheVariants as mark
use Rattle.status_rules.specs.declared.Status.TheVariants as status
use Rattle.ready_list.specs.declared.ReadyKey.{ReadyKey}
use Rattle.ready_list.specs.Choice.{is_among}
use Rattle.ready_list.specs.Order.{ready_cmp}
use Rattle.plan_model.specs.Holdings.{given_out}
use Rattle.plan_model.specs.Contents.{Precedes, pair_cmp}
use Rattle.plan_model.specs.Ready.{IsEntry, IsOnAutomatic, IsReadyList, named, with_mark}
use Rattle.plan_model.specs.Starts.{IsAllowedToStart, IsLatestStart}
use Rattle.plan_model.specs.Status.{HasStatus}
use Rattle.plan_model.proofs.Looks.{as_named, get-named}
use Rattle.std.proofs.lemmas.Option.{same_Some}
use Rattle.worked_examples.specs.Day.{evening, cpu1}
use Rattle.worked_examples.specs.Night.{cpu1_station, end_of_night}
use Rattle.worked_examples.specs.Trio.{Terms, aaa, bbb, ccc, occurrence_by, operation_by, trio, trio_occurrences, trio_operations}
use Rattle.worked_examples.proofs.Facts.{one_latest, status_of_first}
use Rattle.worked_examples.proofs.Given.{allowed, given_out_by, given_out_is, without_fixed, without_server}
use Rattle.worked_examples.proofs.Lists.{AreAmong, anew, contained, entries-revise, one_among, one_of}
use Rattle.worked_examples.proofs.Literal.{OneOf, entry_of}
use Rattle.worked_examples.proofs.Starts.{starts_last}

-- an operation's place in the ready list
abbrev pub key_of : OpKey → Terms → ReadyKey
key_of o t = record { latest = pos t.deadline -ℤ pos t.duration; priority = t.priority; duration = t.duration; op = o }

module _ (a b c : Terms) where
  pub found_at : (o : OpKey) → get (trio a b c).operations o ≡ find operation_cmp o (trio_operations a b c)
  found_at o = get-from_entries operation_cmp_total (trio_operations a b c) o

  pub occurrence_at : (o : OpKey) → get (trio a b c).occurrences o.occurrence ≡ find occurrence_cmp o.occurrence (trio_occurrences a b c)
  occurrence_at o = get-from_entries occurrence_cmp_total (trio_occurrences a b c) o.occurrence

  station_is : get (trio a b c).workstations cpu1 ≡ Some cpu1_station
  station_is = get-from_entries name_cmp_total ((cpu1, cpu1_station) ∷ []) cpu1

  pub no_pair : (p o : OpKey) → Precedes (trio a b c) p o → ⊥
  no_pair p o h = true≢false (sym h ∙ contains-empty pair_cmp (p, o))

  module _ (o : OpKey) (t : Terms) (is : get (trio a b c).operations o ≡ Some (operation_by t)) (of : get (trio a b c).occurrences o.occurrence ≡ Some (occurrence_by t)) where
    latest : IsLatestStart (trio a b c) o (pos t.deadline -ℤ pos t.duration)
    latest = starts_last (trio a b c) o (operation_by t) is (λ x h. no_pair o x h)

    pub arrives : HasStatus (trio a b c) o status.Arriving
    arrives = status_of_first (trio a b c) o (operation_by t) cpu1_station is station_is (λ p h. no_pair p o h)

    is_entry : IsEntry (trio a b c) (key_of o t)
    is_entry = (inl arrives, latest, (operation_by t, is, refl), (occurrence_by t, of, refl))

    same_key : (k : ReadyKey) → IsEntry (trio a b c) k → k.op ≡ o → k ≡ key_of o t
    same_key k h e =
        let late : k.latest ≡ pos t.deadline -ℤ pos t.duration = one_latest o k.latest (pos t.deadline -ℤ pos t.duration) (subst (λ x. IsLatestStart (trio a b c) x k.latest) e h.1) latest in
        let op : h.2.0 ≡ operation_by t = same_Some h.2.0 (operation_by t) (sym h.2.1 ∙ ap (get (trio a b c).operations) e ∙ is) in
        let long : k.duration ≡ t.duration = h.2.2 ∙ ap (λ x. x.duration) op in
        let occurrence : h.3.0 ≡ occurrence_by t = same_Some h.3.0 (occurrence_by t) (sym h.3.1 ∙ ap (λ x. get (trio a b c).occurrences x.occurrence) e ∙ of) in
        let urgent : k.priority ≡ t.priority = h.3.2 ∙ ap (λ x. x.priority) occurrence in
        λ i. record { latest = late i; priority = urgent i; duration = long i; op = e i }

  abbrev pub three_keys : List ReadyKey
  three_keys = key_of aaa a ∷ key_of bbb b ∷ key_of ccc c ∷ []

  entry_cases : (k : ReadyKey) → IsEntry (trio a b c) k → OneOf (λ x. k ≡ x) three_keys
  entry_cases k h = elim (entry_of operation_cmp_total operation_cmp-IsAntisymmetric (trio_operations a b c) k.op h.2.0 h.2.1) [
    | inl e ↦ inl (same_key aaa a (found_at aaa) (occurrence_at aaa) k h e.0)
    | inr (inl e) ↦ inr (inl (same_key bbb b (found_at bbb) (occurrence_at bbb) k h e.0))
    | inr (inr (inl e)) ↦ inr (inr (inl (same_key ccc c (found_at ccc) (occurrence_at ccc) k h e.0)))
    | inr (inr (inr never)) ↦ absurd never
  ]

  all_entries : (k : ReadyKey) → OneOf (λ x. k ≡ x) three_keys → IsEntry (trio a b c) k
  all_entries k (inl e) = subst (IsEntry (trio a b c)) (sym e) (is_entry aaa a (found_at aaa) (occurrence_at aaa))
  all_entries k (inr (inl e)) = subst (IsEntry (trio a b c)) (sym e) (is_entry bbb b (found_at bbb) (occurrence_at bbb))
  all_entries k (inr (inr (inl e))) = subst (IsEntry (trio a b c)) (sym e) (is_entry ccc c (found_at ccc) (occurrence_at ccc))
  all_entries k (inr (inr (inr never))) = absurd never

  -- the three keys in whatever order ascends are the ready list
  pub ready_list_is : (keys : List ReadyKey) → IsStrictlySortedBy ready_cmp keys → AreAmong keys three_keys → AreAmong three_keys keys → IsReadyList (trio a b c) keys
  ready_list_is keys up only every = record {
    ascends = up;
    has_all = λ k. (λ has. all_entries k (one_among keys three_keys only k (one_of keys k has)), λ entry. contained keys k (one_among three_keys keys every k (entry_cases k entry)));
  }

  pub on_automatic : (o : OpKey) (t : Terms) → get (trio a b c).operations o ≡ Some (operation_by t) → IsOnAutomatic (trio a b c) o
  on_automatic o t is = (operation_by t, is, ap (option_map (λ w. w.attribute)) station_is)

  -- ---- what is allowed once some are named

  -- what the workstation has given out then
  abbrev pub taken_by : List OpKey → Capacity
  taken_by before = given_out_by cpu1 (Some attribute.Automatic) (anew (as_named before) (trio_operations a b c))

  given_out_then : (before : List OpKey) → given_out (named before (trio a b c)) cpu1 ≡ taken_by before
  given_out_then before =
      given_out_is (named before (trio a b c)) cpu1 (Some attribute.Automatic) (anew (as_named before) (trio_operations a b c))
      (ap (option_map (λ w. w.attribute)) station_is)
      (entries-revise operation_cmp_total operation_cmp-IsAntisymmetric (as_named before) (trio_operations a b c) tt tt)

  module _ (before : List OpKey) (o : OpKey) (t : Terms) (left : is_among before o ≡ false) (is : get (trio a b c).operations o ≡ Some (operation_by t)) where
    is_then : get (named before (trio a b c)).operations o ≡ Some (operation_by t)
    is_then = get-named before (trio a b c) o ∙ ap (option_map (as_named before o)) is ∙ ap (λ z. Some (cond z (with_mark mark.Named (operation_by t)) (operation_by t))) left

    pub arrives_then : HasStatus (named before (trio a b c)) o status.Arriving
    arrives_then = status_of_first (named before (trio a b c)) o (operation_by t) cpu1_station is_then station_is (λ p h. no_pair p o h)

    pub allowed_then : (taken_by before).servers + 1 ≤ 2 → (taken_by before).r1 + t.r1 ≤ 3 → (taken_by before).r2 + 0 ≤ 0 → IsAllowedToStart (named before (trio a b c)) o evening
    allowed_then servers r1 r2 =
        allowed (named before (trio a b c)) o (operation_by t) is_then attribute.Automatic (interval_by evening end_of_night 2 3 0) station_is evening (taken_by before) (given_out_then before)
        (inl arrives_then)
        refl (omega arith) (omega arith, omega arith) servers r1 r2 refl

    pub no_server_then : 2 < (taken_by before).servers + 1 → IsAllowedToStart (named before (trio a b c)) o evening → ⊥
    no_server_then few = without_server (named before (trio a b c)) o (operation_by t) is_then attribute.Automatic (interval_by evening end_of_night 2 3 0) station_is evening (taken_by before) (given_out_then before) (omega arith, omega arith) few

    pub no_fixed_then : 3 < (taken_by before).r1 + t.r1 → IsAllowedToStart (named before (trio a b c)) o evening → ⊥
    no_fixed_then little = without_fixed (named before (trio a b c)) o (operation_by t) is_then attribute.Automatic (interval_by evening end_of_night 2 3 0) station_is evening (taken_by before) (given_out_then before) (omega arith, omega arith) little
