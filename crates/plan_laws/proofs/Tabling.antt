-- Each operation of a valid plan has one row, and the rows of the tables determine the plan.
use Rattle.std.proofs.Common.{◌≡◌, ◌≢◌, inl, inr, refl, sym, ◌∙◌, ap, subst, ℕ, Option, Some, None, option_map}
use Rattle.std.specs.Cmp.{nat_cmp_total}
use Rattle.std.specs.FinMap.{get, nat_cmp-IsAntisymmetric, same_map}
use Rattle.std.specs.FinSet as set
use Rattle.plan_basics.specs.declared.limits.TheConstants.{MOST_QUANTITY}
use Rattle.plan_basics.specs.Intervals.{OpenInterval}
use Rattle.plan_basics.specs.Keys.{Name, name_cmp-IsAntisymmetric, name_cmp_total, occurrence_cmp-IsAntisymmetric, occurrence_cmp_total, operation_cmp-IsAntisymmetric, operation_cmp_total}
use Rattle.plan_basics.specs.declared.keys.OccKey.{OccKey}
use Rattle.plan_basics.specs.declared.keys.OpKey.{OpKey}
use Rattle.plan_basics.proofs.OptionLemmas.{same_answer}
use Rattle.special_resources.specs.Holders.{IsAmount, Usage}
use Rattle.special_resources.specs.declared.Mode.{Mode}
use Rattle.special_resources.specs.declared.Mode.TheVariants.{Exclusive, Shared}
use Rattle.plan_records.specs.plan_model.specs.workstations.specs.Workstations.{Workstation}
use Rattle.plan_laws.proofs.Latest.{one_latest_start, some_latest_start}
use Rattle.std.proofs.lemmas.Option.{none-some, same_Some}
use Rattle.plan_laws.proofs.RowsTold.{same_nat}
use Rattle.plan_laws.proofs.Pairs.{pair_cmp-IsAntisymmetric, pair_cmp_total}
use Rattle.plan_laws.proofs.Single.{same_bool}
use Rattle.plan_laws.proofs.Standing.{one_status, some_status}
use Rattle.plan_laws.proofs.Waiting.{one_count, some_occurrence_status, some_waiting}
use Rattle.plan_laws.specs.Tables.{EachHasOneRow, RowsTellPlan, RowsTellReceipts}
use Rattle.plan_records.specs.plan_model.specs.Plan.{Plan}
use Rattle.plan_records.specs.plan_model.specs.Contents.{Contents, LivePredecessor, Operation, Precedes}
use Rattle.plan_records.specs.plan_model.specs.Starts.{IsLatestStart}
use Rattle.plan_records.specs.plan_model.specs.Status.{HasStatus, IsSatisfied}
use Rattle.plan_records.specs.plan_model.specs.Valid.{IsAcyclic, IsValid}
use Rattle.plan_records.specs.plan_model.specs.declared.Occurrence.{Occurrence}
use Rattle.plan_records.specs.plan_model.specs.declared.Stock.{Stock}
use Rattle.plan_records.specs.Rows.{IsOperationRow, IsRow, IsWaitingFor}
use Rattle.plan_records.specs.declared.OperationRow.{OperationRow}
use Rattle.plan_records.specs.declared.PlanRow.{PlanRow}
use Rattle.plan_records.specs.declared.PlanRow.TheVariants as row

-- ---- the row of an operation

pub some_row : (P : Contents) → IsValid P → (o : OpKey) (op : Operation) → get P.operations o ≡ Some op → (r : OperationRow) × (r.op ≡ o) × IsOperationRow P r
some_row P valid o op e =
    let s = some_status P valid o (op, e, tt) in
    let latest = some_latest_start P valid.acyclic o in
    let waiting = some_waiting P valid.acyclic o in (
      record { op = o; ws = op.workstation; duration = op.duration; r1 = op.r1; r2 = op.r2; not_before = op.not_before; deadline = op.deadline; mark = op.mark; held = op.held; nop = op.nop; status = s.0; latest = latest.0; waiting = waiting.0 },
      refl,
      record { op = op; is_in_plan = e; columns = (refl, refl, refl, refl, refl, refl, refl, refl, refl); status = s.1; latest = latest.1; waiting = waiting.1 },
    )

-- two rows of one key
module _ (P : Contents) (acyclic : IsAcyclic P.pairs) (r s : OperationRow) (x : IsOperationRow P r) (y : IsOperationRow P s) (key : r.op ≡ s.op) where
  same_operation_of : x.op ≡ y.op
  same_operation_of = same_Some x.op y.op (sym x.is_in_plan ∙ ap (get P.operations) key ∙ y.is_in_plan)

  same_column : {A : Type 0} (f : Operation → A) (a b : A) → a ≡ f x.op → b ≡ f y.op → a ≡ b
  same_column f a b p q = p ∙ ap f same_operation_of ∙ sym q

  pub one_row : r ≡ s
  one_row =
      let status = one_status P acyclic s.op r.status s.status (subst (λ o. HasStatus P o r.status) key x.status) y.status in
      let latest = one_latest_start P s.op r.latest s.latest (subst (λ o. IsLatestStart P o r.latest) key x.latest) y.latest in
      let waiting = one_count (λ p. LivePredecessor P p s.op × ¬ IsSatisfied P p) r.waiting s.waiting (subst (λ o. IsWaitingFor P o r.waiting) key x.waiting) y.waiting in
      let ws = same_column (λ op. op.workstation) r.ws s.ws x.columns.0 y.columns.0 in
      let duration = same_column (λ op. op.duration) r.duration s.duration x.columns.1 y.columns.1 in
      let r1 = same_column (λ op. op.r1) r.r1 s.r1 x.columns.2 y.columns.2 in
      let r2 = same_column (λ op. op.r2) r.r2 s.r2 x.columns.3 y.columns.3 in
      let not_before = same_column (λ op. op.not_before) r.not_before s.not_before x.columns.4 y.columns.4 in
      let deadline = same_column (λ op. op.deadline) r.deadline s.deadline x.columns.5 y.columns.5 in
      let mark = same_column (λ op. op.mark) r.mark s.mark x.columns.6 y.columns.6 in
      let held = same_column (λ op. op.held) r.held s.held x.columns.7 y.columns.7 in
      let nop = same_column (λ op. op.nop) r.nop s.nop x.columns.8 y.columns.8 in
      λ i. record { op = key i; ws = ws i; duration = duration i; r1 = r1 i; r2 = r2 i; not_before = not_before i; deadline = deadline i; mark = mark i; held = held i; nop = nop i; status = status i; latest = latest i; waiting = waiting i }

pub each_has_one_row : EachHasOneRow
each_has_one_row P valid o h =
    let r = some_row P valid o h.0 h.1 in
    (r.0, r.1, r.2, λ s key is. one_row P valid.acyclic s r.0 is r.2 (key ∙ sym r.1))

-- ---- from the rows back to the plan

-- where each row of P is one of Q, what P has Q has
module _ (P Q : Plan) (valid : IsValid P.contents) (carried : (r : PlanRow) → IsRow P r → IsRow Q r) where
  pair : (p o : OpKey) → Precedes P.contents p o → Precedes Q.contents p o
  pair p o h = carried (row.Dependency p o) h

  occurrence : (c : OccKey) (x : Occurrence) → get P.contents.occurrences c ≡ Some x → get Q.contents.occurrences c ≡ Some x
  occurrence c x e =
      let s = some_occurrence_status P.contents valid.acyclic c in
      (carried (row.Occurrence c x.priority x.deadline s.0) (e, s.1)).0

  interval : (w : Name) (ws vs : Workstation) → get P.contents.workstations w ≡ Some ws → get Q.contents.workstations w ≡ Some vs → (from : ℕ) (x : OpenInterval) → get ws.intervals from ≡ Some x → get vs.intervals from ≡ Some x
  interval w ws vs e f from x at =
      let key : from ≡ x.from = ((valid.workstations w ws e).1.intervals from x at).0 in
      let found = carried (row.Interval w x) (ws, e, subst (λ z. get ws.intervals z ≡ Some x) key at) in
      let same : found.0 ≡ vs = same_Some found.0 vs (sym found.1 ∙ f) in
      subst (λ z. get vs.intervals z ≡ Some x) (sym key) (subst (λ u. get u.intervals x.from ≡ Some x) same found.2)

  attribute : (w : Name) (ws : Workstation) → get P.contents.workstations w ≡ Some ws → (vs : Workstation) × (get Q.contents.workstations w ≡ Some vs) × (vs.attribute ≡ ws.attribute)
  attribute w ws e = known (get Q.contents.workstations w) (carried (row.Workstation w ws.attribute) (ap (option_map (λ u. u.attribute)) e))
    where
      known : (x : Option Workstation) → option_map (λ u. u.attribute) x ≡ Some ws.attribute → (vs : Workstation) × (x ≡ Some vs) × (vs.attribute ≡ ws.attribute)
      known None h = absurd (none-some ws.attribute h)
      known (Some vs) h = (vs, refl, same_Some vs.attribute ws.attribute h)

  -- there is as much of a resource, where that is written
  same_quantity : (r : Name) (stock other : Stock) → get P.contents.resources r ≡ Some stock → get Q.contents.resources r ≡ Some other → stock.quantity ≢ MOST_QUANTITY → other.quantity ≡ stock.quantity
  same_quantity r stock other e f told =
      let found = carried (row.Quantity r stock.quantity) (stock, e, refl, told) in
      ap (λ z. z.quantity) (same_Some other found.0 (sym f ∙ found.1)) ∙ found.2

  -- an operation uses the same in the same mode, as an error keeps it, and as much where that is written
  module _ (o : OpKey) (op oq : Operation) (e : get P.contents.operations o ≡ Some op) (f : get Q.contents.operations o ≡ Some oq) (r : Name) (usage : Usage) (at : get op.needs r ≡ Some usage) where
    need : (other : Usage) × (get oq.needs r ≡ Some other) × (other.claim.mode ≡ usage.claim.mode) × (other.keep ≡ usage.keep)
    need =
        let found = carried (row.Need o r usage.claim.mode usage.keep) (op, e, (usage, at, refl, refl)) in
        subst (λ z. (other : Usage) × (get z.needs r ≡ Some other) × (other.claim.mode ≡ usage.claim.mode) × (other.keep ≡ usage.keep)) (same_Some found.0 oq (sym found.1 ∙ f)) found.2

    same_amount : (other : Usage) → get oq.needs r ≡ Some other → usage.claim.mode ≡ Shared → usage.claim.amount ≢ 1 → other.claim.amount ≡ usage.claim.amount
    same_amount other there shared told =
        let claim : usage.claim ≡ record { mode = Shared; amount = usage.claim.amount } = (λ i. record { mode = shared i; amount = usage.claim.amount }) in
        let found = carried (row.Amount o r usage.claim.amount) (op, e, (usage, at, claim, told)) in
        let its : get oq.needs r ≡ Some found.2.0 = ap (λ z. get z.needs r) (same_Some oq found.0 (sym f ∙ found.1)) ∙ found.2.1 in
        ap (λ (u : Usage). u.claim.amount) (same_Some other found.2.0 (sym there ∙ its)) ∙ ap (λ c. c.amount) found.2.2

  -- the operation of the same key, with the same columns
  operation : (o : OpKey) (op : Operation) → get P.contents.operations o ≡ Some op → (r : OperationRow) × (r.op ≡ o) × IsOperationRow P.contents r × IsOperationRow Q.contents r
  operation o op e =
      let r = some_row P.contents valid o op e in
      (r.0, r.1, r.2, carried (row.Operation r.0) r.2)

module _ (P Q : Plan) (p : IsValid P.contents) (q : IsValid Q.contents) (to : (r : PlanRow) → IsRow P r → IsRow Q r) (back : (r : PlanRow) → IsRow Q r → IsRow P r) where
  resource_there : (r : Name) (stock : Stock) → get P.contents.resources r ≡ Some stock → get Q.contents.resources r ≡ Some stock
  resource_there r stock e =
      let found = to (row.Resource r stock.available) (stock, e, refl) in
      let other : Stock = found.0 in
      let quantity : other.quantity ≡ stock.quantity = elim (same_nat stock.quantity MOST_QUANTITY) [
        | inr told ↦ same_quantity P Q p to r stock other e found.1 told
        | inl most ↦ elim (same_nat other.quantity MOST_QUANTITY) [
          | inl also ↦ also ∙ sym most
          | inr told ↦ sym (same_quantity Q P q back r other stock found.1 e told)
        ]
      ] in
      let same : other ≡ stock = (λ i. record { available = found.2 i; quantity = quantity i }) in
      found.1 ∙ ap Some same

  -- amounts that are in range, of needs in one mode
  as_much : (x y : Usage) → y.claim.mode ≡ x.claim.mode → IsAmount x.claim.mode x.claim.amount → IsAmount y.claim.mode y.claim.amount
      → (x.claim.mode ≡ Shared → x.claim.amount ≢ 1 → y.claim.amount ≡ x.claim.amount) → (y.claim.mode ≡ Shared → y.claim.amount ≢ 1 → x.claim.amount ≡ y.claim.amount) → y.claim.amount ≡ x.claim.amount
  as_much x y modes in_x in_y first second = by_mode x.claim.mode refl
    where
      by_mode : (m : Mode) → x.claim.mode ≡ m → y.claim.amount ≡ x.claim.amount
      by_mode Exclusive e = subst (λ z. IsAmount z y.claim.amount) (modes ∙ e) in_y ∙ sym (subst (λ z. IsAmount z x.claim.amount) e in_x)
      by_mode Shared e = elim (same_nat x.claim.amount 1) [
        | inr told ↦ first e told
        | inl one ↦ elim (same_nat y.claim.amount 1) [ inl also ↦ also ∙ sym one | inr told ↦ sym (second (modes ∙ e) told) ]
      ]

  need_there : (o : OpKey) (op oq : Operation) → get P.contents.operations o ≡ Some op → get Q.contents.operations o ≡ Some oq → (r : Name) (usage : Usage) → get op.needs r ≡ Some usage → get oq.needs r ≡ Some usage
  need_there o op oq e f r usage at =
      let found = need P Q p to o op oq e f r usage at in
      let other : Usage = found.0 in
      let amount = as_much usage other found.2
      ((p.occurrences.each_operation o op e).0.needs r usage at).1 ((q.occurrences.each_operation o oq f).0.needs r other found.1).1
      (same_amount P Q p to o op oq e f r usage at other found.1) (same_amount Q P q back o oq op f e r other found.1 usage at) in
      let same : other ≡ usage = (λ i. record { claim = record { mode = found.2 i; amount = amount i }; keep = found.3 i }) in
      found.1 ∙ ap Some same

module _ (P Q : Plan) (p : IsValid P.contents) (q : IsValid Q.contents) (to : (r : PlanRow) → IsRow P r → IsRow Q r) (back : (r : PlanRow) → IsRow Q r → IsRow P r) where
  workstation_there : (w : Name) (ws : Workstation) → get P.contents.workstations w ≡ Some ws → get Q.contents.workstations w ≡ Some ws
  workstation_there w ws e =
      let vs = attribute P Q p to w ws e in
      let intervals : vs.0.intervals ≡ ws.intervals = same_map nat_cmp_total nat_cmp-IsAntisymmetric vs.0.intervals ws.intervals (λ from.
      same_answer (get vs.0.intervals from) (get ws.intervals from) (interval Q P q back w vs.0 ws vs.1 e from) (interval P Q p to w ws vs.0 e vs.1 from)) in
      let same : vs.0 ≡ ws = (λ i. record { attribute = vs.2 i; intervals = intervals i }) in
      vs.1 ∙ ap Some same

  operation_there : (o : OpKey) (op : Operation) → get P.contents.operations o ≡ Some op → get Q.contents.operations o ≡ Some op
  operation_there o op e =
      let r = operation P Q p to o op e in
      let x = r.2 in
      let y = r.3 in
      let first : x.op ≡ op = same_Some x.op op (sym x.is_in_plan ∙ ap (get P.contents.operations) r.1 ∙ e) in
      let there : get Q.contents.operations o ≡ Some y.op = ap (get Q.contents.operations) (sym r.1) ∙ y.is_in_plan in
      let needs : y.op.needs ≡ op.needs = same_map name_cmp_total name_cmp-IsAntisymmetric y.op.needs op.needs (λ n.
      same_answer (get y.op.needs n) (get op.needs n) (need_there Q P q p back to o y.op op there e n) (need_there P Q p q to back o op y.op e there n)) in
      let workstation = sym y.columns.0 ∙ x.columns.0 ∙ ap (λ z. z.workstation) first in
      let duration = sym y.columns.1 ∙ x.columns.1 ∙ ap (λ z. z.duration) first in
      let r1 = sym y.columns.2 ∙ x.columns.2 ∙ ap (λ z. z.r1) first in
      let r2 = sym y.columns.3 ∙ x.columns.3 ∙ ap (λ z. z.r2) first in
      let not_before = sym y.columns.4 ∙ x.columns.4 ∙ ap (λ z. z.not_before) first in
      let deadline = sym y.columns.5 ∙ x.columns.5 ∙ ap (λ z. z.deadline) first in
      let mark = sym y.columns.6 ∙ x.columns.6 ∙ ap (λ z. z.mark) first in
      let held = sym y.columns.7 ∙ x.columns.7 ∙ ap (λ z. z.held) first in
      let nop = sym y.columns.8 ∙ x.columns.8 ∙ ap (λ z. z.nop) first in
      let same : y.op ≡ op = (λ i. record { workstation = workstation i; duration = duration i; r1 = r1 i; r2 = r2 i; not_before = not_before i; deadline = deadline i; needs = needs i; mark = mark i; held = held i; nop = nop i }) in
      there ∙ ap Some same

pub rows_tell_plan : RowsTellPlan
rows_tell_plan P Q p q rows =
    let to : (r : PlanRow) → IsRow P r → IsRow Q r = λ r. (rows r).0 in
    let back : (r : PlanRow) → IsRow Q r → IsRow P r = λ r. (rows r).1 in
    let meta = to (row.Meta 2 P.loaded P.clock) (refl, refl, refl) in
    let workstations : P.contents.workstations ≡ Q.contents.workstations = same_map name_cmp_total name_cmp-IsAntisymmetric P.contents.workstations Q.contents.workstations (λ w. same_answer (get P.contents.workstations w) (get Q.contents.workstations w) (workstation_there P Q p q to back w) (workstation_there Q P q p back to w)) in
    let resources : P.contents.resources ≡ Q.contents.resources = same_map name_cmp_total name_cmp-IsAntisymmetric P.contents.resources Q.contents.resources (λ r. same_answer (get P.contents.resources r) (get Q.contents.resources r) (resource_there P Q p q to back r) (resource_there Q P q p back to r)) in
    let occurrences : P.contents.occurrences ≡ Q.contents.occurrences = same_map occurrence_cmp_total occurrence_cmp-IsAntisymmetric P.contents.occurrences Q.contents.occurrences (λ c. same_answer (get P.contents.occurrences c) (get Q.contents.occurrences c) (occurrence P Q p to c) (occurrence Q P q back c)) in
    let operations : P.contents.operations ≡ Q.contents.operations = same_map operation_cmp_total operation_cmp-IsAntisymmetric P.contents.operations Q.contents.operations (λ o. same_answer (get P.contents.operations o) (get Q.contents.operations o) (operation_there P Q p q to back o) (operation_there Q P q p back to o)) in
    let pairs : P.contents.pairs ≡ Q.contents.pairs = set.same_set pair_cmp_total pair_cmp-IsAntisymmetric P.contents.pairs Q.contents.pairs (λ x. same_bool (set.contains P.contents.pairs x) (set.contains Q.contents.pairs x) (pair P Q p to x.0 x.1) (pair Q P q back x.0 x.1)) in
    λ i. record { loaded = meta.1 i; clock = meta.2 i; contents = record { workstations = workstations i; resources = resources i; occurrences = occurrences i; operations = operations i; pairs = pairs i } }

pub rows_tell_receipts : RowsTellReceipts
rows_tell_receipts T U rows =
    same_map name_cmp_total name_cmp-IsAntisymmetric T U (λ t. same_answer (get T t) (get U t) (λ r. (rows t r).0) (λ r. (rows t r).1))
