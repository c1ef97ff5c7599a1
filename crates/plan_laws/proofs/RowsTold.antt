-- Whether a row is one of a valid plan's can be decided.
use Rattle.std.proofs.Common.{◌≡◌, ◌≢◌, inl, inr, refl, sym, ap, subst, ℕ, true, Option, Some, None, ℤ, Ordering}
use Rattle.std.specs.FinMap.{FinMap, get, int_cmp-IsAntisymmetric, nat_cmp-IsAntisymmetric}
use Rattle.std.specs.FinSet as set
use Rattle.std.specs.Cmp.{int_cmp_total, nat_cmp_total}
use Rattle.plan_basics.specs.declared.limits.TheConstants.{MOST_QUANTITY}
use Rattle.plan_basics.specs.Intervals.{OpenInterval}
use Rattle.plan_basics.specs.Keys.{Name, name_cmp-IsAntisymmetric, name_cmp_total}
use Rattle.plan_basics.specs.declared.keys.OccKey.{OccKey}
use Rattle.plan_basics.specs.declared.keys.OpKey.{OpKey}
use Rattle.special_resources.specs.Holders.{Usage}
use Rattle.special_resources.specs.declared.Claim.{Claim}
use Rattle.special_resources.specs.declared.Mode.{Mode}
use Rattle.special_resources.specs.declared.Mode.TheVariants as mode
use Rattle.status_rules.specs.declared.Mark.{Mark}
use Rattle.status_rules.specs.declared.Mark.TheVariants as mark
use Rattle.status_rules.specs.declared.OccStatus.{OccStatus}
use Rattle.status_rules.specs.Table.{occurrence_status_place}
use Rattle.plan_laws.proofs.Decide.{told_attribute}
use Rattle.plan_laws.proofs.Entries.{told_at, told_has}
use Rattle.plan_laws.proofs.Latest.{one_latest_start, some_latest_start}
use Rattle.std.proofs.lemmas.Option.{none-some, same_Some}
use Rattle.plan_laws.proofs.Standing.{status_told}
use Rattle.operation_graph.proofs.Telling.{Told, told_alike, told_and, told_equal, told_none, told_three, told_true}
use Rattle.plan_laws.proofs.Waiting.{one_count, one_occurrence_status, same_precedence, some_occurrence_status, some_waiting}
use Rattle.plan_records.specs.plan_model.specs.Plan.{Plan}
use Rattle.plan_records.specs.plan_model.specs.Contents.{Contents, LivePredecessor, Operation}
use Rattle.plan_records.specs.plan_model.specs.Starts.{IsLatestStart}
use Rattle.plan_records.specs.plan_model.specs.Status.{HasOccurrenceStatus, HasStatus, IsSatisfied}
use Rattle.plan_records.specs.plan_model.specs.Valid.{IsAcyclic}
use Rattle.plan_records.specs.plan_model.specs.declared.Occurrence.{Occurrence}
use Rattle.plan_records.specs.Rows.{IsOperationRow, IsRow, IsWaitingFor}
use Rattle.plan_records.specs.declared.OperationRow.{OperationRow}
use Rattle.plan_records.specs.declared.PlanRow.{PlanRow}
use Rattle.plan_records.specs.declared.PlanRow.TheVariants as row

-- ---- equal values

pub same_nat : (a b : ℕ) → Told (a ≡ b)
same_nat = told_equal nat_cmp_total nat_cmp-IsAntisymmetric

same_name : (a b : Name) → Told (a ≡ b)
same_name = told_equal name_cmp_total name_cmp-IsAntisymmetric

told_some_is : {X : Type 0} → ((a b : X) → Told (a ≡ b)) → (x : Option X) (v : X) → Told (x ≡ Some v)
told_some_is same None v = inr (λ e. none-some v e)
told_some_is same (Some u) v = told_alike (λ e. ap Some e) (λ e. same_Some u v e) (same u v)

same_interval : (a b : OpenInterval) → Told (a ≡ b)
same_interval a b = told_alike {A = ((a.from ≡ b.from) × (a.end ≡ b.end)) × ((a.servers ≡ b.servers) × (a.r1 ≡ b.r1) × (a.r2 ≡ b.r2))}
    (λ h i. record { from = h.0.0 i; end = h.0.1 i; servers = h.1.0 i; r1 = h.1.1 i; r2 = h.1.2 i })
    (λ e. ((ap (λ z. z.from) e, ap (λ z. z.end) e), (ap (λ z. z.servers) e, ap (λ z. z.r1) e, ap (λ z. z.r2) e)))
    (told_and (told_and (same_nat a.from b.from) (λ _. same_nat a.end b.end)) (λ _. told_three (same_nat a.servers b.servers) (same_nat a.r1 b.r1) (same_nat a.r2 b.r2)))

same_terms : (a b : Occurrence) → Told (a ≡ b)
same_terms a b = told_alike {A = (a.priority ≡ b.priority) × (a.deadline ≡ b.deadline)}
    (λ h i. record { priority = h.0 i; deadline = h.1 i })
    (λ e. (ap (λ z. z.priority) e, ap (λ z. z.deadline) e))
    (told_and (same_nat a.priority b.priority) (λ _. same_nat a.deadline b.deadline))

pub same_mode : (a b : Mode) → Told (a ≡ b)
same_mode mode.Shared mode.Shared = inl refl
same_mode mode.Exclusive mode.Exclusive = inl refl
same_mode a b = inr (λ e. cc)

same_claim : (a b : Claim) → Told (a ≡ b)
same_claim a b = told_alike {A = (a.mode ≡ b.mode) × (a.amount ≡ b.amount)}
    (λ h i. record { mode = h.0 i; amount = h.1 i })
    (λ e. (ap (λ z. z.mode) e, ap (λ z. z.amount) e))
    (told_and (same_mode a.mode b.mode) (λ _. same_nat a.amount b.amount))

-- what there is under a key, with two things that can be decided of it
told_both_at : {K X : Type 0} {R : K → K → Ordering} (m : FinMap R X) (k : K) (A B : X → Type 0) → ((x : X) → Told (A x)) → ((x : X) → Told (B x)) → Told ((x : X) × (get m k ≡ Some x) × A x × B x)
told_both_at m k A B first second = told_alike {A = (x : _) × (get m k ≡ Some x) × (A x × B x)}
    (λ h. (h.0, h.1, h.2.0, h.2.1))
    (λ h. (h.0, h.1, (h.2, h.3)))
    (told_at m k (λ x. A x × B x) (λ x e. told_and (first x) (λ _. second x)))

same_codes : (a b : Name) → mark.Error a ≡ mark.Error b → a ≡ b
same_codes a b e = cc

same_mark : (a b : Mark) → Told (a ≡ b)
same_mark mark.Unmarked mark.Unmarked = inl refl
same_mark mark.Named mark.Named = inl refl
same_mark mark.Running mark.Running = inl refl
same_mark mark.Interrupted mark.Interrupted = inl refl
same_mark mark.Done mark.Done = inl refl
same_mark (mark.Error c) (mark.Error d) = told_alike (λ e. ap mark.Error e) (same_codes c d) (same_name c d)
same_mark mark.Undecided mark.Undecided = inl refl
same_mark mark.Deleted mark.Deleted = inl refl
same_mark a b = inr (λ e. cc)

same_occurrence_status : (a b : OccStatus) → Told (a ≡ b)
same_occurrence_status a b = told_alike (same_precedence a b) (ap occurrence_status_place) (same_nat (occurrence_status_place a) (occurrence_status_place b))

-- where there is one, it is that one or it isn't
told_the : {A : Type 0} (F : A → Type 0) → ((a b : A) → Told (a ≡ b)) → (v : A) → F v → ((u w : A) → F u → F w → u ≡ w) → (u : A) → Told (F u)
told_the F same v h one u = told_alike (λ e. subst F (sym e) h) (λ k. one u v k h) (same u v)

-- ---- rows

module _ (P : Contents) (acyclic : IsAcyclic P.pairs) where
  occurrence_status_told : (c : OccKey) (s : OccStatus) → Told (HasOccurrenceStatus P c s)
  occurrence_status_told c s = let first = some_occurrence_status P acyclic c in told_the (HasOccurrenceStatus P c) same_occurrence_status first.0 first.1 (one_occurrence_status P c) s

  latest_told : (o : OpKey) (v : ℤ) → Told (IsLatestStart P o v)
  latest_told o v = let first = some_latest_start P acyclic o in told_the (IsLatestStart P o) (told_equal int_cmp_total int_cmp-IsAntisymmetric) first.0 first.1 (one_latest_start P o) v

  waiting_told : (o : OpKey) (n : ℕ) → Told (IsWaitingFor P o n)
  waiting_told o n = let first = some_waiting P acyclic o in told_the (IsWaitingFor P o) same_nat first.0 first.1 (one_count (λ p. LivePredecessor P p o × ¬ IsSatisfied P p)) n

  abbrev Columns : OperationRow → Operation → Type 0
  Columns r op = ((r.ws ≡ op.workstation) × (r.duration ≡ op.duration) × (r.r1 ≡ op.r1)) × ((r.r2 ≡ op.r2) × (r.not_before ≡ op.not_before) × (r.deadline ≡ op.deadline)) × ((r.mark ≡ op.mark) × (r.held ≡ op.held) × (r.nop ≡ op.nop))

  columns_told : (r : OperationRow) (op : Operation) → Told (Columns r op)
  columns_told r op = told_three
      (told_three (same_name r.ws op.workstation) (same_nat r.duration op.duration) (same_nat r.r1 op.r1))
      (told_three (same_nat r.r2 op.r2) (same_nat r.not_before op.not_before) (same_nat r.deadline op.deadline))
      (told_three (same_mark r.mark op.mark) (told_true r.held op.held) (told_true r.nop op.nop))

  operation_row_told : (r : OperationRow) → Told (IsOperationRow P r)
  operation_row_told r = told_alike {A = (op : Operation) × (get P.operations r.op ≡ Some op) × (Columns r op × (HasStatus P r.op r.status × (IsLatestStart P r.op r.latest × IsWaitingFor P r.op r.waiting)))}
      (λ h. let c = h.2.0 in record { op = h.0; is_in_plan = h.1; columns = (c.0.0, c.0.1, c.0.2, c.1.0, c.1.1, c.1.2, c.2.0, c.2.1, c.2.2); status = h.2.1.0; latest = h.2.1.1.0; waiting = h.2.1.1.1 })
      (λ x. (x.op, x.is_in_plan, (((x.columns.0, x.columns.1, x.columns.2), (x.columns.3, x.columns.4, x.columns.5), (x.columns.6, x.columns.7, x.columns.8)), (x.status, (x.latest, x.waiting)))))
      (told_at P.operations r.op (λ op. Columns r op × (HasStatus P r.op r.status × (IsLatestStart P r.op r.latest × IsWaitingFor P r.op r.waiting))) (λ op e. told_and (columns_told r op) (λ _. told_and (status_told P acyclic r.op r.status) (λ _. told_and (latest_told r.op r.latest) (λ _. waiting_told r.op r.waiting)))))

module _ (P : Plan) (acyclic : IsAcyclic P.contents.pairs) where
  pub row_told : (r : PlanRow) → Told (IsRow P r)
  row_told (row.Meta version loaded clock) = told_three (same_nat version 2) (told_true loaded P.loaded) (same_nat clock P.clock)
  row_told (row.Workstation name a) = told_attribute P.contents name a
  row_told (row.Interval w i) = told_at P.contents.workstations w (λ ws. get ws.intervals i.from ≡ Some i) (λ ws e. told_some_is same_interval (get ws.intervals i.from) i)
  row_told (row.Resource name available) = told_at P.contents.resources name (λ stock. stock.available ≡ available) (λ stock e. told_true stock.available available)
  row_told (row.Occurrence c priority deadline s) = told_and (told_some_is same_terms (get P.contents.occurrences c) _) (λ _. occurrence_status_told P.contents acyclic c s)
  row_told (row.Operation r) = operation_row_told P.contents acyclic r
  row_told (row.Dependency p s) = told_true (set.contains P.contents.pairs (p, s)) true
  row_told (row.Need o r mode keep) = told_has P.contents o (λ op. (usage : Usage) × (get op.needs r ≡ Some usage) × (usage.claim.mode ≡ mode) × (usage.keep ≡ keep))
      (λ op e. told_both_at op.needs r (λ usage. usage.claim.mode ≡ mode) (λ usage. usage.keep ≡ keep) (λ usage. same_mode usage.claim.mode mode) (λ usage. told_true usage.keep keep))
  row_told (row.Quantity r quantity) = told_both_at P.contents.resources r (λ stock. stock.quantity ≡ quantity) (λ stock. quantity ≢ MOST_QUANTITY) (λ stock. same_nat stock.quantity quantity) (λ stock. told_none (same_nat quantity MOST_QUANTITY))
  row_told (row.Amount o r amount) =
      let claim : Claim = record { mode = mode.Shared; amount = amount } in
      told_has P.contents o (λ op. (usage : Usage) × (get op.needs r ≡ Some usage) × (usage.claim ≡ claim) × (amount ≢ 1))
      (λ op e. told_both_at op.needs r (λ usage. usage.claim ≡ claim) (λ usage. amount ≢ 1) (λ usage. same_claim usage.claim claim) (λ usage. told_none (same_nat amount 1)))
