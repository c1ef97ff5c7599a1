-- Whether an operation of a plan of lines is allowed to start, by a test that computes.
use Rattle.std.proofs.Common.{arith, ◌≡◌, ◌≢◌, inl, inr, refl, sym, ◌∙◌, ap, subst, true≢false, ℕ, ◌+◌, ◌≤◌, Bool, true, false, not, cond, ◌&&◌, Decides, [], ◌∷◌, Option, Some, None, option_map}
use Rattle.std.specs.Prelude.{nat_le}
use Rattle.std.specs.List.{list_any}
use Rattle.std.specs.FinMap.{empty, find, from_entries, get, get-empty, get-from_entries}
use Rattle.std.proofs.lemmas.Bool.{and_from, and_parts, cases_lt, false_from_ne_true, leb-true, le-leb, not_from_false}
use Rattle.std.proofs.lemmas.Option.{none-some, same_Some}
use Rattle.plan_basics.specs.declared.Attr.{Attr}
use Rattle.plan_basics.specs.declared.keys.OpKey.{OpKey}
use Rattle.plan_basics.specs.declared.Refusal.{Refusal}
use Rattle.plan_basics.specs.declared.Refusal.TheVariants as refusal
use Rattle.plan_basics.specs.Intervals.{IsOpenAt}
use Rattle.plan_basics.specs.Keys.{Name, name_cmp, name_cmp_total, name_cmp-IsAntisymmetric, operation_cmp_total, operation_cmp-IsAntisymmetric}
use Rattle.special_resources.proofs.Amounts.{none_held}
use Rattle.special_resources.specs.declared.Mode.TheVariants.{Exclusive, Shared}
use Rattle.special_resources.specs.Holders.{OtherHolds, Usage}
use Rattle.workstations.specs.declared.Capacity.{Capacity}
use Rattle.status_rules.specs.Table.{marked_status}
use Rattle.plan_model.specs.Contents.{Contents, Operation, attribute_at}
use Rattle.plan_model.specs.Holdings.{Holds, given_out, holds_resource, takes}
use Rattle.plan_model.specs.Starts.{IsAllowedToStart, MayStart}
use Rattle.plan_model.specs.Status.{IsReady}
use Rattle.plan_drafts.proofs.Tables.{is_found}
use Rattle.plan_laws.proofs.Entries.{same_operation}
use Rattle.plan_laws.proofs.Starts.{interrupted_mark}
use Rattle.worked_examples.specs.Night.{alone, custfile, custfile_stock, needs_custfile, night_resources}
use Rattle.worked_examples.specs.Written.{Line, Lines, Sheet, line_at, operation_of, plan_of, station_by}
use Rattle.worked_examples.proofs.Given.{given_out_is, lines_of_room, with_resources, without_server}
use Rattle.worked_examples.proofs.Lists.{entries-from_entries}
use Rattle.worked_examples.proofs.Literal.{entry_of}
use Rattle.worked_examples.proofs.WrittenLines.{all_three, attribute_is, has_told, keys_of, line_of, operations_of, refuted, passes, some_in, station_at, there}
use Rattle.worked_examples.proofs.WrittenTold.{IsFit, common, in_reach, is_plain, ready_at, ready_told, taken_at, unmarked_of}

-- ---- the tests

-- it has CUSTFILE
abbrev pub has_file : Sheet → Line → Bool
has_file S l = l.planned.file && (takes (find name_cmp l.planned.workstation S.attributes) && holds_resource true (marked_status l.mark))

-- some operation has it
abbrev pub file_is_taken : Sheet → Lines → Bool
file_is_taken S lines = list_any (λ o. passes (has_file S) (line_at lines o)) (keys_of lines)

-- its not-before is reached at m, a server is free, and so is CUSTFILE if it is needed
abbrev pub has_room : Sheet → Lines → ℕ → Line → Bool
has_room S lines m l = nat_le l.planned.not_before m && (nat_le ((taken_at S lines l).servers + 1) S.interval.servers && not (l.planned.file && file_is_taken S lines))

-- it is ready, and there is room
abbrev pub allowed_at : Sheet → Lines → ℕ → OpKey → Bool
allowed_at S lines m o = passes (λ l. ready_at S lines o && has_room S lines m l) (line_at lines o)

-- ---- CUSTFILE

needs_are : (b : Bool) (r : Name) (usage : Usage) → get (cond b needs_custfile empty) r ≡ Some usage → (b ≡ true) × (r ≡ custfile) × (usage ≡ alone)
needs_are true r usage is = elim (entry_of name_cmp_total name_cmp-IsAntisymmetric ((custfile, alone) ∷ []) r usage is) [ inl e ↦ (refl, e.0, e.1) | inr never ↦ absurd never ]
needs_are false r usage is = absurd (none-some usage (sym (get-empty name_cmp r) ∙ is))

needs_told : (b : Bool) → Decides b (get (cond b needs_custfile empty) custfile ≡ Some alone)
needs_told b = (λ e. subst (λ c. get (cond c needs_custfile empty) custfile ≡ Some alone) (sym e) (get-from_entries name_cmp_total ((custfile, alone) ∷ []) custfile), λ is. (needs_are b custfile alone is).0)

module _ (S : Sheet) (lines : Lines) (fit : IsFit S lines) where
  abbrev P : Contents
  P = plan_of S lines

  holder_told : Decides (file_is_taken S lines) ((o : OpKey) × Holds P o custfile alone)
  holder_told = some_in S lines (λ o. passes (has_file S) (line_at lines o)) (λ o. Holds P o custfile alone)
      (λ o.
      has_told S lines o (has_file S) (λ op. (get op.needs custfile ≡ Some alone) × (takes (attribute_at P op.workstation) ≡ true) × (holds_resource true (marked_status op.mark) ≡ true)) (λ l is.
      all_three (needs_told l.planned.file)
      (subst (λ x. Decides (takes (find name_cmp l.planned.workstation S.attributes)) (takes x ≡ true)) (sym (attribute_is S lines l.planned.workstation)) (λ e. e, λ e. e))
      (λ e. e, λ e. e)))
      (λ o h. (h.0, h.1, tt))

  -- whoever holds a resource has CUSTFILE
  holder_has : (o : OpKey) (r : Name) (held : Usage) → Holds P o r held → file_is_taken S lines ≡ true
  holder_has o r held h =
      let k = line_of S lines o h.0 h.1 in
      let needs = needs_are k.0.planned.file r held (subst (λ (x : Operation). get x.needs r ≡ Some held) (sym k.2) h.2.0) in
      holder_told.1 (o, subst (λ u. Holds P o custfile u) needs.2 (subst (λ z. Holds P o z held) needs.1 h))

  module _ (o : OpKey) (l : Line) (is : line_at lines o ≡ Some l) (m : ℕ) (now : IsOpenAt S.interval m) where
    file_is_free : not (l.planned.file && file_is_taken S lines) ≡ true → MayStart P o (operation_of l) m refusal.ResourceBusy
    file_is_free free r usage need =
        let e = needs_are l.planned.file r usage need in
        let none : (other : OpKey) (held : Usage) → ¬ OtherHolds (Holds P) o other r held =
        λ other held holds. refuted free (and_from _ _ e.0 (holder_has other r held holds.1)) in (
          custfile_stock,
          subst (λ z. get (from_entries {R = name_cmp} night_resources) z ≡ Some custfile_stock) (sym e.1) (get-from_entries name_cmp_total night_resources custfile),
          refl,
          (
            λ other held apart holds. absurd (none other held (apart, holds)),
            λ others are.
                let nothing = none_held same_operation r 0 (OtherHolds (Holds P) o) none others are in
                let amount = ap (λ (u : Usage). u.claim.amount) e.2 in
                omega (arith, nothing, amount),
          ),
        )

    file_is_busy : IsReady P o → (l.planned.file && file_is_taken S lines) ≡ true → MayStart P o (operation_of l) m refusal.ResourceBusy → ⊥
    file_is_busy ready e may =
        let h = and_parts _ _ e in
        let some = holder_told.0 h.1 in
        let line = may custfile alone ((needs_told l.planned.file).0 h.0) in
        let shares = line.3.0 some.0 alone (apart some.0 some.1) some.1 in
        let clash : Exclusive ≡ Shared = shares.1 in
        cc
      where
        -- who holds it isn't ready
        apart : (q : OpKey) → Holds P q custfile alone → q ≢ o
        apart q holds same =
            let own = subst (λ z. Holds P z custfile alone) same holds in
            let u = unmarked_of S lines fit o ready in
            true≢false (sym own.2.2 ∙ ap (λ (x : Operation). holds_resource true (marked_status x.mark)) (same_Some own.0 u.0 (sym own.1 ∙ u.1)) ∙ ap (λ k. holds_resource true (marked_status k)) u.2)

    -- ---- all lines

    on_some : (a : Attr) × (find name_cmp l.planned.workstation S.attributes ≡ Some a)
    on_some = is_found (find name_cmp l.planned.workstation S.attributes) (in_reach S lines fit o l is).0

    abbrev a : Attr
    a = on_some.0

    on_it : get P.workstations l.planned.workstation ≡ Some (station_by S.interval a)
    on_it = station_at S lines l.planned.workstation ∙ ap (option_map (station_by S.interval)) on_some.1

    abbrev taken : Capacity
    taken = taken_at S lines l

    out : given_out P l.planned.workstation ≡ taken
    out = given_out_is P l.planned.workstation (find name_cmp l.planned.workstation S.attributes) (operations_of lines) (attribute_is S lines l.planned.workstation)
        (entries-from_entries operation_cmp_total operation_cmp-IsAntisymmetric (operations_of lines) fit.1)

    is_ready : MayStart P o (operation_of l) m refusal.WrongStatus → IsReady P o
    is_ready (inl ready) = ready
    is_ready (inr h) = absurd (true≢false (sym (common S lines fit o h.0.0 h.0.1).1 ∙ ap is_plain (interrupted_mark h.0.0.mark h.0.2)))

    free : ((line : Refusal) → MayStart P o (operation_of l) m line) → nat_le (taken.servers + 1) S.interval.servers ≡ true
    free may = elim (cases_lt S.interval.servers (taken.servers + 1)) [
      | inl few ↦ absurd (without_server P o (operation_of l) (there S lines o l is) a S.interval on_it m taken out now few (operation_of l, there S lines o l is, may))
      | inr fits ↦ le-leb _ _ fits
    ]

    lines_told : Decides (ready_at S lines o && has_room S lines m l) ((line : Refusal) → MayStart P o (operation_of l) m line)
    lines_told = (
      λ e.
          let h = and_parts _ _ e in
          let r = and_parts _ _ h.1 in
          let s = and_parts _ _ r.1 in
          let reach = in_reach S lines fit o l is in
          with_resources P o (operation_of l) (there S lines o l is) a S.interval on_it m taken out (file_is_free s.1)
          (lines_of_room P o (operation_of l) (there S lines o l is) a S.interval on_it m taken out ((ready_told S lines fit o).0 h.0) refl (leb-true _ _ r.0) now (leb-true _ _ s.0)
          (leb-true _ _ reach.2) (leb-true _ _ reach.3)),
      λ may.
          let ready = is_ready (may refusal.WrongStatus) in
          and_from _ _ ((ready_told S lines fit o).1 ready)
          (and_from _ _ (le-leb _ _ (may refusal.TooEarly))
          (and_from _ _ (free may)
          (not_from_false _ (false_from_ne_true _ (λ busy. file_is_busy ready busy (may refusal.ResourceBusy)))))),
    )

  -- at a moment at which the workstations are open
  pub allowed_told : (o : OpKey) (m : ℕ) → IsOpenAt S.interval m → Decides (allowed_at S lines m o) (IsAllowedToStart P o m)
  allowed_told o m now = has_told S lines o (λ l. ready_at S lines o && has_room S lines m l) (λ op. (line : Refusal) → MayStart P o op m line) (λ l is. lines_told o l is m now)

-- with time there is no less room
pub allowed_later : (S : Sheet) (lines : Lines) (o : OpKey) (y z : ℕ) → y ≤ z → allowed_at S lines y o ≡ true → allowed_at S lines z o ≡ true
allowed_later S lines o y z later = by (line_at lines o)
  where
    by : (x : Option Line) → passes (λ l. ready_at S lines o && has_room S lines y l) x ≡ true → passes (λ l. ready_at S lines o && has_room S lines z l) x ≡ true
    by None e = e
    by (Some l) e =
        let h = and_parts _ _ e in
        let r = and_parts _ _ h.1 in
        let from : l.planned.not_before ≤ y = leb-true _ _ r.0 in
        and_from _ _ h.0 (and_from _ _ (le-leb l.planned.not_before z (omega (arith, from, later))) r.1)
