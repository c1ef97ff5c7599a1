-- What lacks on the operation's workstation.
use Rattle.std.proofs.Common.{◌≡◌, refl, sym, ap, subst, ◌∙◌, arith, ℕ, ◌+◌, ◌<◌, ◌≤◌, true, Option, Some, None}
use Rattle.std.specs.FinMap.{get}
use Rattle.std.proofs.lemmas.Option.{same_Some}
use Rattle.plan_basics.specs.Keys.{Name}
use Rattle.plan_basics.specs.declared.keys.OpKey.{OpKey}
use Rattle.plan_model.specs.Contents.{Contents, Operation}
use Rattle.plan_model.specs.Holdings.{given_out}
use Rattle.workstations.specs.Timetables.{NamedWorkstation}
use Rattle.workstations.specs.Workstations.{HasCapacity, Workstation}
use Rattle.workstations.specs.declared.Capacity.{Capacity}
use Rattle.plan_reasons.specs.Order.{reason_place, supply_place}
use Rattle.plan_reasons.specs.Parts.{IsOfKind}
use Rattle.plan_reasons.specs.Places.{closed_by}
use Rattle.plan_reasons.specs.Reasons.{IsClosedAt, IsClosedUntil, IsNextOpening, IsReasonOf, IsShortage, amount_in, amount_needed, needs_start}
use Rattle.plan_reasons.specs.declared.reasons.Reason.TheVariants as reason
use Rattle.plan_reasons.specs.declared.reasons.Shortage.{Shortage}
use Rattle.plan_reasons.specs.declared.reasons.Supply.{Supply}
use Rattle.plan_reasons.proofs.Collecting.{none_of_kind, some_of_kind}
use Rattle.plan_reasons.proofs.KindPlaces.{only_closed, only_lacks}
use Rattle.plan_reasons.proofs.Openings.{one_opening}

module _ (P : Contents) (o : OpKey) (op : Operation) (m : ℕ) (start : needs_start P op ≡ true) (w : NamedWorkstation) (name : op.workstation ≡ w.0) (is : get P.workstations op.workstation ≡ Some w.1) where
  its : (ws : Workstation) → get P.workstations op.workstation ≡ Some ws → ws ≡ w.1
  its ws e = same_Some ws w.1 (sym e ∙ is)

  -- ---- no interval contains the moment

  never_closed : (c : Capacity) → HasCapacity w.1 m c → (next : Option ℕ) → IsClosedUntil P op.workstation m next → ⊥
  never_closed c has next k = k.2 c (subst (λ (ws : Workstation). HasCapacity ws m c) (sym (its k.0 k.1)) has)

  pub none_closed : (c : Capacity) → HasCapacity w.1 m c → IsOfKind P o op m 4 None
  none_closed c has = none_of_kind P o op m 4 (only_closed (λ r. IsReasonOf P o op m r → ⊥) (λ n h. never_closed c has None h.2) (λ x h. never_closed c has (Some x.until) h.2))

  is_closed : (next : Option ℕ) → IsClosedAt w.1 m → IsNextOpening w.1 m next → IsReasonOf P o op m (closed_by w.0 next)
  is_closed None closed opens = (start, sym name, (w.1, is, closed, opens))
  is_closed (Some n) closed opens = (start, sym name, (w.1, is, closed, opens))

  closed_place : (next : Option ℕ) → reason_place (closed_by w.0 next) ≡ 4
  closed_place None = refl
  closed_place (Some n) = refl

  pub some_closed : (next : Option ℕ) → IsClosedAt w.1 m → IsNextOpening w.1 m next → IsOfKind P o op m 4 (Some (closed_by w.0 next))
  some_closed next closed opens =
      some_of_kind P o op m 4 (closed_by w.0 next) (is_closed next closed opens) (closed_place next)
      (only_closed (λ r. IsReasonOf P o op m r → closed_by w.0 next ≡ r) (λ n h. same n None h.1 h.2) (λ x h. same x.workstation (Some x.until) h.1 h.2))
    where
      same : (n : Name) (other : Option ℕ) → n ≡ op.workstation → IsClosedUntil P op.workstation m other → closed_by w.0 next ≡ closed_by n other
      same n other at k =
          let it : w.0 ≡ n = sym (at ∙ name) in
          let one : next ≡ other = one_opening w.1 m next other opens (subst (λ (ws : Workstation). IsNextOpening ws m other) (its k.0 k.1) k.3) in
          λ i. closed_by (it i) (one i)

  -- ---- servers, R1 and R2

  module _ (taken : Capacity) (given : taken ≡ given_out P op.workstation) (s : Supply) where
    -- where it is closed, nothing lacks
    pub none_lacks_closed : IsClosedAt w.1 m → IsOfKind P o op m (5 + supply_place s) None
    none_lacks_closed closed =
        none_of_kind P o op m (5 + supply_place s) (only_lacks (λ r. IsReasonOf P o op m r → ⊥) s (λ x same h.
        closed h.1.capacity (subst (λ (ws : Workstation). HasCapacity ws m h.1.capacity) (its h.1.ws h.1.is_workstation) h.1.is_open)))

    module _ (c : Capacity) (has : HasCapacity w.1 m c) (one : (d : Capacity) → HasCapacity w.1 m d → d ≡ c) where
      -- what a shortage of this supply says
      module _ (x : Shortage) (same : x.supply ≡ s) (h : IsShortage P op m x) where
        its_given : x.given ≡ amount_in s taken
        its_given = h.given ∙ ap (λ z. amount_in z (given_out P op.workstation)) same ∙ ap (amount_in s) (sym given)

        its_offered : x.offered ≡ amount_in s c
        its_offered = h.open_then ∙ ap (λ z. amount_in z h.capacity) same ∙ ap (amount_in s) (one h.capacity (subst (λ (ws : Workstation). HasCapacity ws m h.capacity) (its h.ws h.is_workstation) h.is_open))

        its_needed : x.needed ≡ amount_needed s op
        its_needed = h.needed ∙ ap (λ z. amount_needed z op) same

      pub none_lacks : amount_in s taken + amount_needed s op ≤ amount_in s c → IsOfKind P o op m (5 + supply_place s) None
      none_lacks fits =
          none_of_kind P o op m (5 + supply_place s) (only_lacks (λ r. IsReasonOf P o op m r → ⊥) s (λ x same h.
          let lacks = h.1.lacks in omega (arith, lacks, fits, its_given x same h.1, its_offered x same h.1, its_needed x same h.1)))

      module _ (g f n : ℕ) (is_given : g ≡ amount_in s taken) (is_offered : f ≡ amount_in s c) (is_needed : n ≡ amount_needed s op) (short : f < g + n) where
        abbrev shortage : Shortage
        shortage = record { workstation = w.0; supply = s; given = g; offered = f; needed = n }

        pub some_lacks : IsOfKind P o op m (5 + supply_place s) (Some (reason.Lacks shortage))
        some_lacks =
            some_of_kind P o op m (5 + supply_place s) (reason.Lacks shortage)
            (start, record { workstation = sym name; ws = w.1; is_workstation = is; capacity = c; is_open = has; given = is_given ∙ ap (amount_in s) given; open_then = is_offered; needed = is_needed; lacks = short })
            refl
            (only_lacks (λ r. IsReasonOf P o op m r → reason.Lacks shortage ≡ r) s (λ x same h.
            let at : w.0 ≡ x.workstation = sym (h.1.workstation ∙ name) in
            let a : g ≡ x.given = is_given ∙ sym (its_given x same h.1) in
            let b : f ≡ x.offered = is_offered ∙ sym (its_offered x same h.1) in
            let d : n ≡ x.needed = is_needed ∙ sym (its_needed x same h.1) in
            λ i. reason.Lacks (record { workstation = at i; supply = sym same i; given = a i; offered = b i; needed = d i })))
