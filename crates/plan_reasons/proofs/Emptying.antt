-- No reason is left exactly where an operation may start.
use Rattle.std.proofs.Common.{◌≡◌, inl, inr, refl, sym, ap, subst, ◌∙◌, arith, ℕ, zero, suc, ◌+◌, ◌-◌, ◌<◌, ◌≤◌, Bool, true, false, true≢false, not, ◌&&◌, List, [], ◌∷◌, get_or, length, map, Contains, Option, Some, None, MatchOption}
use Rattle.std.specs.FinMap.{entries, from_entries, get, nat_cmp-IsAntisymmetric}
use Rattle.std.specs.Cmp.{nat_cmp_total}
use Rattle.std.specs.List.Sorted.{IsStrictlySortedBy}
use Rattle.std.specs.Map.{keys_of}
use Rattle.std.specs.Option.{is_none}
use Rattle.std.specs.Ordering.{nat_cmp}
use Rattle.std.proofs.lemmas.Bool.{cases_lt}
use Rattle.std.proofs.lemmas.List.Elements.{All-head}
use Rattle.std.proofs.lemmas.Option.{none-some, same_Some, slice_get-get_or}
use Rattle.plan_basics.specs.Intervals.{OpenInterval}
use Rattle.plan_basics.specs.declared.Refusal.{Refusal}
use Rattle.plan_basics.specs.declared.Refusal.TheVariants as refusal
use Rattle.plan_basics.specs.declared.keys.OpKey.{OpKey}
use Rattle.status_rules.specs.Classes.{is_ready, is_satisfied}
use Rattle.status_rules.specs.LeastSet.{by_all_before}
use Rattle.status_rules.specs.Table.{marked_status}
use Rattle.status_rules.specs.declared.Mark.{Mark}
use Rattle.status_rules.specs.declared.Mark.TheVariants as mark
use Rattle.status_rules.specs.declared.Status.{Status}
use Rattle.status_rules.specs.declared.Status.TheVariants as status
use Rattle.plan_basics.proofs.Members.{place_of}
use Rattle.plan_drafts.proofs.EntryRows.{row_in}
use Rattle.plan_drafts.proofs.Lists.{contains_none, no_members}
use Rattle.plan_drafts.proofs.Tables.{is_found}
use Rattle.plan_core.specs.plan_laws.proofs.Allowing.{may_start_told, others}
use Rattle.plan_core.specs.plan_laws.proofs.Entries.{same_operation}
use Rattle.plan_core.specs.plan_laws.proofs.Classes.{ready_told, satisfied_decides}
use Rattle.plan_core.specs.plan_laws.proofs.Starts.{interrupted_mark, ready_in_order}
use Rattle.plan_core.specs.plan_laws.proofs.Standing.{one_status, satisfied_told, some_status}
use Rattle.plan_model.proofs.Entries.{entries_are, entries_in_order}
use Rattle.plan_model.specs.Contents.{Contents, Operation, attribute_at}
use Rattle.plan_model.specs.Holdings.{Holds, given_out, takes}
use Rattle.plan_model.specs.declared.Stock.{Stock}
use Rattle.plan_model.specs.Starts.{FitsAt, MayStart}
use Rattle.plan_model.specs.Status.{AllPredecessorsSatisfied, HasStatus, IsSatisfied, UnmarkedStatus}
use Rattle.plan_model.specs.Valid.{IsValid}
use Rattle.special_resources.proofs.Amounts.{AreAllHolders, some_of_all}
use Rattle.special_resources.specs.Holders.{AreHolders, HoldsAmount, IsAmount, LeavesEnough, OtherHolds, SharesWithHolders, amount_held}
use Rattle.workstations.specs.Workstations.{HasCapacity, IsWorkstation, Workstation}
use Rattle.workstations.specs.declared.Capacity.{Capacity}
use Rattle.plan_reasons.specs.Laws.{EmptyWhereItMayStart}
use Rattle.plan_reasons.specs.Places.{is_shared}
use Rattle.plan_reasons.specs.Reasons.{IsClosedUntil, IsNextOpening, IsReasonOf, IsShortage, amount_in, amount_needed, beginning_by, needs_start}
use Rattle.plan_reasons.specs.declared.reasons.Reason.{Reason}
use Rattle.plan_reasons.specs.declared.reasons.Reason.TheVariants as reason
use Rattle.plan_reasons.specs.declared.reasons.Shortage.{Shortage}
use Rattle.plan_reasons.specs.declared.reasons.Supply.{Supply}
use Rattle.plan_reasons.specs.declared.reasons.Supply.TheVariants as supply
use Rattle.plan_reasons.proofs.Obstructing.{both_shared}
use Rattle.plan_reasons.proofs.Openings.{first_after, none_after, row_by}

-- ---- each workstation has a next opening, or none

rows_by : (rows : List (ℕ × OpenInterval)) → ((n : ℕ) (x : OpenInterval) → Contains rows (n, x) → n ≡ x.from) → map row_by (map (λ (r : ℕ × OpenInterval). r.1) rows) ≡ rows
rows_by [] each = refl
rows_by (r ∷ rows) each = λ i. (sym (each r.0 r.1 (0, omega arith, refl)) i, r.1) ∷ rows_by rows (λ n x has. each n x (suc has.0, omega (arith, has.1), has.2)) i

froms_by : (rows : List (ℕ × OpenInterval)) → ((n : ℕ) (x : OpenInterval) → Contains rows (n, x) → n ≡ x.from) → map (λ (x : OpenInterval). x.from) (map (λ (r : ℕ × OpenInterval). r.1) rows) ≡ keys_of rows
froms_by [] each = refl
froms_by (r ∷ rows) each = λ i. sym (each r.0 r.1 (0, omega arith, refl)) i ∷ froms_by rows (λ n x has. each n x (suc has.0, omega (arith, has.1), has.2)) i

module _ (ws : Workstation) (legal : IsWorkstation ws) (m : ℕ) where
  its_first : (n : ℕ) (x : OpenInterval) → Contains (entries ws.intervals) (n, x) → n ≡ x.from
  its_first n x has = let at = place_of (entries ws.intervals) (n, x) has in (legal.intervals n x (row_in nat_cmp_total nat_cmp-IsAntisymmetric ws.intervals at.0 n x at.1)).0

  same : ws.intervals ≡ from_entries (map row_by (map (λ (r : ℕ × OpenInterval). r.1) (entries ws.intervals)))
  same = sym (entries_are nat_cmp nat_cmp_total nat_cmp-IsAntisymmetric ws.intervals) ∙ ap (λ rs. from_entries {R = nat_cmp} rs) (sym (rows_by (entries ws.intervals) its_first))

  sorted : IsStrictlySortedBy nat_cmp (map (λ (x : OpenInterval). x.from) (map (λ (r : ℕ × OpenInterval). r.1) (entries ws.intervals)))
  sorted = subst (IsStrictlySortedBy nat_cmp) (sym (froms_by (entries ws.intervals) its_first)) (entries_in_order nat_cmp ws.intervals)

  abbrev all : List OpenInterval
  all = map (λ (r : ℕ × OpenInterval). r.1) (entries ws.intervals)

  -- from an index on, where all before it have begun by m
  opening_from : (left i : ℕ) → i + left ≡ length all → ((k : ℕ) (d : OpenInterval) → k < i → (get_or all k d).from ≤ m) → (next : Option ℕ) × IsNextOpening ws m next
  opening_from zero i size passed = (None, none_after ws all same sorted m (λ k d lt. passed k d (omega (arith, lt, size))))
  opening_from (suc left) i size passed =
      let d : OpenInterval = record { from = 0; end = 0; servers = 0; r1 = 0; r2 = 0 } in
      elim (cases_lt m (get_or all i d).from) [
        | inl after ↦ (Some (get_or all i d).from, first_after ws all same sorted m i d (omega (arith, size)) passed after)
        | inr begun ↦ opening_from left (i + 1) (omega (arith, size)) (λ k e lt. elim (cases_lt k i) [
          | inl before ↦ passed k e before
          | inr at ↦
              let here : k ≡ i = omega (arith, at, lt) in
              let a = slice_get-get_or all i d (omega (arith, size)) in
              let b = slice_get-get_or all i e (omega (arith, size)) in
              let one : get_or all i d ≡ get_or all i e = cc in
              subst (λ z. (get_or all z e).from ≤ m) (sym here) (subst (λ (x : OpenInterval). x.from ≤ m) one begun)
        ])
      ]

  pub some_opening : (next : Option ℕ) × IsNextOpening ws m next
  some_opening = opening_from (length all) 0 (omega arith) (λ k d lt. absurd (omega (arith, lt)))

-- ---- statuses

waiting_told : (P : Contents) (o : OpKey) (k : Mark) → MatchOption (marked_status k) (UnmarkedStatus P o status.Waiting) (λ told. status.Waiting ≡ told) → AllPredecessorsSatisfied P o → ⊥
waiting_told P o mark.Unmarked h = h.1
waiting_told P o k h = λ all. absurd (cc)

not_both : (s : Status) → is_ready s ≡ true → is_satisfied s ≡ true → ⊥
not_both status.Arriving e f = true≢false (sym f)
not_both status.ReadyAfterNonreporting e f = true≢false (sym f)
not_both status.Ready e f = true≢false (sym f)
not_both s e f = true≢false (sym e)

unmarked_of : (k : Mark) → is_none (marked_status k) ≡ true → k ≡ mark.Unmarked
unmarked_of mark.Unmarked e = refl
unmarked_of k e = absurd (true≢false (sym e))

both_on : (a b : Bool) → a && b ≡ true → (a ≡ true) × (b ≡ true)
both_on true b e = (refl, e)
both_on false b e = absurd (true≢false (sym e))

module _ (P : Contents) (valid : IsValid P) (o : OpKey) (op : Operation) (is : get P.operations o ≡ Some op) (m : ℕ) where
  -- ---- what may start has no reason

  lacking_may : (s : Supply) (x : Shortage) → x.supply ≡ s → IsShortage P op m x → ((line : Refusal) → MayStart P o op m line) → ⊥
  lacking_may supply.Servers x same h may =
      let fit = may refusal.NoServer in
      let room = fit.2 h.capacity (subst (λ (w : Workstation). HasCapacity w m h.capacity) (same_Some h.ws fit.0 (sym h.is_workstation ∙ fit.1)) h.is_open) in
      let a : x.given ≡ (given_out P op.workstation).servers = h.given ∙ ap (λ z. amount_in z (given_out P op.workstation)) same in
      let b : x.offered ≡ h.capacity.servers = h.open_then ∙ ap (λ z. amount_in z h.capacity) same in
      let d : x.needed ≡ 1 = h.needed ∙ ap (λ z. amount_needed z op) same in
      let lacks = h.lacks in omega (arith, room, a, b, d, lacks)
  lacking_may supply.R1 x same h may =
      let fit = may refusal.NoFixed in
      let room = (fit.2 h.capacity (subst (λ (w : Workstation). HasCapacity w m h.capacity) (same_Some h.ws fit.0 (sym h.is_workstation ∙ fit.1)) h.is_open)).0 in
      let a : x.given ≡ (given_out P op.workstation).r1 = h.given ∙ ap (λ z. amount_in z (given_out P op.workstation)) same in
      let b : x.offered ≡ h.capacity.r1 = h.open_then ∙ ap (λ z. amount_in z h.capacity) same in
      let d : x.needed ≡ op.r1 = h.needed ∙ ap (λ z. amount_needed z op) same in
      let lacks = h.lacks in omega (arith, room, a, b, d, lacks)
  lacking_may supply.R2 x same h may =
      let fit = may refusal.NoFixed in
      let room = (fit.2 h.capacity (subst (λ (w : Workstation). HasCapacity w m h.capacity) (same_Some h.ws fit.0 (sym h.is_workstation ∙ fit.1)) h.is_open)).1 in
      let a : x.given ≡ (given_out P op.workstation).r2 = h.given ∙ ap (λ z. amount_in z (given_out P op.workstation)) same in
      let b : x.offered ≡ h.capacity.r2 = h.open_then ∙ ap (λ z. amount_in z h.capacity) same in
      let d : x.needed ≡ op.r2 = h.needed ∙ ap (λ z. amount_needed z op) same in
      let lacks = h.lacks in omega (arith, room, a, b, d, lacks)

  never_waits : HasStatus P o status.Waiting → MayStart P o op m refusal.WrongStatus → ⊥
  never_waits waits (inl ready) = true≢false (sym (ready_told P o status.Waiting (λ t k. one_status P valid.acyclic o t status.Waiting k waits) ready))
  never_waits waits (inr both) = let e = one_status P valid.acyclic o status.Waiting status.Interrupted waits both.0 in cc

  never_closed : (next : Option ℕ) → IsClosedUntil P op.workstation m next → FitsAt P op m refusal.Closed → ⊥
  never_closed next k fit = k.2 fit.2.0 (subst (λ (w : Workstation). HasCapacity w m fit.2.0) (same_Some fit.0 k.0 (sym fit.1 ∙ k.1)) fit.2.1)

  no_reason : ((line : Refusal) → MayStart P o op m line) → (r : Reason) → IsReasonOf P o op m r → ⊥
  no_reason may (reason.AtRest x) h = h.3 (may refusal.WrongStatus)
  no_reason may (reason.WaitsFor x) h = never_waits h.0 (may refusal.WrongStatus)
  no_reason may reason.Held h = true≢false (sym h ∙ may refusal.Held)
  no_reason may (reason.TooEarly t) h = let after = may refusal.TooEarly in omega (arith, after, h.1, h.2)
  no_reason may (reason.Closed w) h = never_closed None h.2 (may refusal.Closed)
  no_reason may (reason.ClosedUntil x) h = never_closed (Some x.until) h.2 (may refusal.Closed)
  no_reason may (reason.Lacks x) h = lacking_may x.supply x refl h.1 may
  no_reason may (reason.Unavailable r) h = let fit = may refusal.ResourceBusy r h.1.0 h.1.1 in h.2 (fit.0, fit.1, fit.2)
  no_reason may (reason.HeldBy x) h = let k = h.1 in k.in_the_way ((may refusal.ResourceBusy x.resource k.usage k.needs).3.0 x.holder k.held k.another k.holds)
  no_reason may (reason.TooLittleLeft x) h =
      let k = h.1 in
      let fit = may refusal.ResourceBusy x.resource k.usage k.needs in
      let stock : fit.0 ≡ k.stock = same_Some fit.0 k.stock (sym fit.1 ∙ k.there) in
      let quantity : fit.0.quantity ≡ k.stock.quantity = ap (λ (s : Stock). s.quantity) stock in
      let enough = fit.3.1 k.others k.are.are in
      let lacks = k.lacks in
      omega (arith, enough, quantity, k.left, k.needed, lacks)

  -- ---- what has no reason may start

  module _ (known : takes (attribute_at P op.workstation) ≡ true) (none : (r : Reason) → IsReasonOf P o op m r → ⊥) where
    free : op.held ≡ false
    free = at op.held refl
      where
        at : (b : Bool) → op.held ≡ b → op.held ≡ false
        at false e = e
        at true e = absurd (none reason.Held e)

    not_waiting : HasStatus P o status.Waiting → ⊥
    not_waiting waits = waiting_told P o waits.0.mark waits.2 (λ p live. elim (satisfied_told P valid.acyclic p) [
      | inl satisfied ↦ satisfied
      | inr not ↦
          let s = some_status P valid p (live.1.0, live.1.1, tt) in
          absurd (none (reason.WaitsFor (record { op = p; status = s.0 })) (waits, (live.0, (live.1, not)), s.1))
    ])

    begins : MayStart P o op m refusal.WrongStatus
    begins = elim (may_start_told P valid.acyclic o op m refusal.WrongStatus) [
      | inl may ↦ may
      | inr not ↦ let s = some_status P valid o (op, is, tt) in absurd (none (reason.AtRest (record { status = s.0; beginning = beginning_by op.mark })) (s.1, refl, (λ waits. not_waiting (subst (HasStatus P o) waits s.1)), not))
    ]

    -- what is there to pass by itself has passed, which is a reason
    not_passing : op.nop && is_none (marked_status op.mark) ≡ true → ⊥
    not_passing e =
        let parts = both_on op.nop (is_none (marked_status op.mark)) e in
        let unmarked = unmarked_of op.mark parts.1 in
        elim begins [
          | inl ready ↦
              let satisfied : IsSatisfied P o = by_all_before (op, is, (unmarked, free, inl parts.0)) (ready_in_order P o ready) in
              let s = some_status P valid o (op, is, tt) in
              not_both s.0 (ready_told P o s.0 (λ t k. one_status P valid.acyclic o t s.0 k s.1) ready) ((satisfied_decides P o s.0 s.1).1 satisfied)
          | inr both ↦ let h = both.0 in let e : mark.Interrupted ≡ mark.Unmarked = sym (interrupted_mark h.0.mark h.2) ∙ ap (λ (x : Operation). x.mark) (same_Some h.0 op (sym h.1 ∙ is)) ∙ unmarked in cc
        ]

    start : needs_start P op ≡ true
    start = at (op.nop && is_none (marked_status op.mark)) refl
      where
        at : (b : Bool) → op.nop && is_none (marked_status op.mark) ≡ b → needs_start P op ≡ true
        at false e = λ i. known i && not (e i)
        at true e = absurd (not_passing e)

    its_ws : (ws : Workstation) × (get P.workstations op.workstation ≡ Some ws)
    its_ws = is_found (get P.workstations op.workstation) (valid.have_workstations o op is)

    not_closed : {A : Type 0} (next : Option ℕ) → IsClosedUntil P op.workstation m next → A
    not_closed None k = absurd (none (reason.Closed op.workstation) (start, refl, k))
    not_closed (Some n) k = absurd (none (reason.ClosedUntil (record { workstation = op.workstation; until = n })) (start, refl, k))

    open_then : MayStart P o op m refusal.Closed
    open_then = elim (may_start_told P valid.acyclic o op m refusal.Closed) [
      | inl may ↦ may
      | inr not ↦
          let (ws, at) = its_ws in
          let next = some_opening ws (valid.workstations op.workstation ws at).1 m in
          not_closed next.0 (ws, at, (λ c has. not (ws, at, (c, has))), next.1)
    ]

    enough : (s : Supply) (c : Capacity) → HasCapacity its_ws.0 m c → amount_in s (given_out P op.workstation) + amount_needed s op ≤ amount_in s c
    enough s c has = elim (cases_lt (amount_in s c) (amount_in s (given_out P op.workstation) + amount_needed s op)) [
      | inr fits ↦ fits
      | inl short ↦ absurd (none (reason.Lacks (record { workstation = op.workstation; supply = s; given = amount_in s (given_out P op.workstation); offered = amount_in s c; needed = amount_needed s op }))
          (start, record { workstation = refl; ws = its_ws.0; is_workstation = its_ws.1; capacity = c; is_open = has; given = refl; open_then = refl; needed = refl; lacks = short }))
    ]

    usable : MayStart P o op m refusal.ResourceBusy
    usable r usage need = (available.0, available.1, available.2, (shares, leaves))
      where
        available : (stock : Stock) × (get P.resources r ≡ Some stock) × (stock.available ≡ true)
        available = by_stock (get P.resources r) refl
          where
            by_test : (stock : Stock) → get P.resources r ≡ Some stock → (b : Bool) → stock.available ≡ b → (stock : Stock) × (get P.resources r ≡ Some stock) × (stock.available ≡ true)
            by_test stock there true on = (stock, there, on)
            by_test stock there false off = absurd (none (reason.Unavailable r) (
              start,
              (usage, need),
              λ on.
                  true≢false (sym on.2 ∙ ap (λ (s : Stock). s.available) (same_Some on.0 stock (sym on.1 ∙ there)) ∙ off),
            ))

            by_stock : (stock : Option Stock) → get P.resources r ≡ stock → (stock : Stock) × (get P.resources r ≡ Some stock) × (stock.available ≡ true)
            by_stock None away = absurd (none (reason.Unavailable r) (start, (usage, need), λ on. none-some on.0 (sym away ∙ on.1)))
            by_stock (Some stock) there = by_test stock there stock.available refl

        shares : SharesWithHolders (Holds P) o r usage
        shares other held apart holds = elim (both_shared usage.claim.mode held.claim.mode) [
          | inr both ↦ both
          | inl off ↦ absurd (none (reason.HeldBy (record { resource = r; holder = other; mode = held.claim.mode })) (
            start,
            record {
              usage = usage;
              needs = need;
              another = apart;
              held = held;
              holds = holds;
              mode = refl;
              in_the_way = λ both. let on : is_shared usage.claim.mode && is_shared held.claim.mode ≡ true = λ i. is_shared (both.0 i) && is_shared (both.1 i) in true≢false (sym on ∙ off);
            },
          ))
        ]

        all : (hs : List (OpKey × ℕ)) × AreAllHolders same_operation (OtherHolds (Holds P) o) r hs
        all = others P o r

        -- where another holds it, o shares it, and so needs some
        some_needed : (h : OpKey × ℕ) (some : List (OpKey × ℕ)) → AreHolders (OtherHolds (Holds P) o) r (h ∷ some) → 1 ≤ usage.claim.amount
        some_needed h some are =
            let first = All-head (λ (g : OpKey × ℕ). HoldsAmount (OtherHolds (Holds P) o) g.0 r g.1) h some are.hold in
            let shared = (shares h.0 first.0 first.1.0 first.1.1).0 in
            (subst (λ m. IsAmount m usage.claim.amount) shared ((valid.occurrences.each_operation o op is).0.needs r usage need).1).0

        enough_left : usage.claim.amount ≤ available.0.quantity - amount_held all.0
        enough_left = elim (cases_lt (available.0.quantity - amount_held all.0) usage.claim.amount) [
          | inr fits ↦ fits
          | inl short ↦ absurd (none (reason.TooLittleLeft (record { resource = r; left = available.0.quantity - amount_held all.0; needed = usage.claim.amount })) (
            start,
            record {
              usage = usage;
              needs = need;
              stock = available.0;
              there = available.1;
              others = all.0;
              are = record { are = all.1.are; all = all.1.all };
              left = refl;
              needed = refl;
              lacks = short;
            },
          ))
        ]

        leaves : LeavesEnough available.0.quantity (Holds P) o r usage
        leaves [] are = let few = valid.amounts o op is r usage need available.0 available.1 in omega (arith, few)
        leaves (h ∷ some) are =
            let most = some_of_all same_operation (OtherHolds (Holds P) o) r all.0 all.1 (h ∷ some) are in
            let one = some_needed h some are in
            omega (arith, most, one, enough_left)

    may_start : (line : Refusal) → MayStart P o op m line
    may_start refusal.WrongStatus = begins
    may_start refusal.Held = free
    may_start refusal.TooEarly = elim (cases_lt m op.not_before) [ inl early ↦ absurd (none (reason.TooEarly op.not_before) (start, refl, early)) | inr after ↦ after ]
    may_start refusal.Closed = open_then
    may_start refusal.NoServer = (its_ws.0, its_ws.1, enough supply.Servers)
    may_start refusal.NoFixed = (its_ws.0, its_ws.1, λ c has. (enough supply.R1 c has, enough supply.R2 c has))
    may_start refusal.ResourceBusy = usable
    may_start line = tt

pub empty_where_it_may_start : EmptyWhereItMayStart
empty_where_it_may_start P valid o m reasons (op, is, known) are = (
  λ empty. (op, is, may_start P valid o op is m known (λ r h. contains_none r (subst (λ xs. Contains xs r) empty ((are.exactly r).1 (op, is, h))))),
  λ may. no_members reasons (λ r has.
      let h = (are.exactly r).0 has in
      no_reason P valid o may.0 may.1 m may.2 r (subst (λ (x : Operation). IsReasonOf P o x m r) (same_Some h.0 may.0 (sym h.1 ∙ may.1)) h.2)),
)
