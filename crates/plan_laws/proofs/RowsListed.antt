-- A valid plan has finitely many rows, and of a key one at most.
use Rattle.std.proofs.Common.{◌≡◌, ◌⊎◌, inl, inr, refl, sym, ◌∙◌, ap, ap₂, subst, ◌≢◌, ℕ, List, Contains, Option, Some, None, option_map, Ordering}
use Rattle.std.specs.FinMap.{FinMap, IsAntisymmetric, get, keys, nat_cmp-IsAntisymmetric}
use Rattle.std.specs.FinSet as set
use Rattle.plan_basics.specs.declared.limits.TheConstants.{MOST_QUANTITY}
use Rattle.plan_basics.specs.Intervals.{OpenInterval}
use Rattle.plan_basics.specs.Keys.{Name, name_cmp-IsAntisymmetric, occurrence_cmp-IsAntisymmetric, operation_cmp-IsAntisymmetric}
use Rattle.plan_basics.specs.declared.keys.OccKey.{OccKey}
use Rattle.plan_basics.specs.declared.keys.OpKey.{OpKey}
use Rattle.special_resources.specs.Holders.{Usage}
use Rattle.special_resources.specs.declared.Mode.TheVariants.{Shared}
use Rattle.plan_records.specs.plan_model.specs.workstations.specs.Workstations.{Workstation}
use Rattle.plan_laws.proofs.Listed.{Listed, alike_listed, either_listed, none_listed, one_listed, union_listed, where_told}
use Rattle.plan_records.specs.plan_model.proofs.Members.{in_keys}
use Rattle.std.proofs.lemmas.Option.{none-some, same_Some}
use Rattle.plan_laws.proofs.Ordered.{pairs_are_edges}
use Rattle.plan_laws.proofs.RowsTold.{row_told, same_mode, same_nat}
use Rattle.plan_laws.proofs.Tabling.{one_row, some_row}
use Rattle.plan_laws.proofs.Waiting.{one_occurrence_status, some_occurrence_status, told_listed}
use Rattle.plan_records.specs.plan_model.specs.Plan.{Plan}
use Rattle.plan_records.specs.plan_model.specs.Contents.{Operation, attribute_at}
use Rattle.plan_records.specs.plan_model.specs.Status.{HasOccurrenceStatus}
use Rattle.plan_records.specs.plan_model.specs.Valid.{IsValid}
use Rattle.plan_records.specs.plan_model.specs.declared.Occurrence.{Occurrence}
use Rattle.plan_records.specs.plan_model.specs.declared.Stock.{Stock}
use Rattle.operation_graph.proofs.Telling.{Told, told_and, told_none}
use Rattle.plan_records.specs.Rows.{IsOperationRow, IsRow, key_of}
use Rattle.plan_records.specs.declared.OperationRow.{OperationRow}
use Rattle.plan_records.specs.declared.PlanRow.{PlanRow}
use Rattle.plan_records.specs.declared.PlanRow.TheVariants as row
use Rattle.plan_records.specs.plan_drafts.specs.declared.RowKey.TheVariants as key

-- ---- of a key there is one row at most

same_names : (v w : List ℕ) → key.Workstation v ≡ key.Workstation w → v ≡ w
same_names v w e = cc

same_interval_keys : (v w : List ℕ) (m n : ℕ) → key.Interval v m ≡ key.Interval w n → (v ≡ w) × (m ≡ n)
same_interval_keys v w m n e = (cc, cc)

same_resources : (v w : List ℕ) → key.Resource v ≡ key.Resource w → v ≡ w
same_resources v w e = cc

same_occurrences : (v w : OccKey) → key.Occurrence v ≡ key.Occurrence w → v ≡ w
same_occurrences v w e = cc

same_operations : (v w : OpKey) → key.Operation v ≡ key.Operation w → v ≡ w
same_operations v w e = cc

same_ends : (p q s t : OpKey) → key.Dependency p s ≡ key.Dependency q t → (p ≡ q) × (s ≡ t)
same_ends p q s t e = (cc, cc)

same_need_keys : (p q : OpKey) (v w : List ℕ) → key.Need p v ≡ key.Need q w → (p ≡ q) × (v ≡ w)
same_need_keys p q v w e = (cc, cc)

same_quantities : (v w : List ℕ) → key.Quantity v ≡ key.Quantity w → v ≡ w
same_quantities v w e = cc

same_amount_keys : (p q : OpKey) (v w : List ℕ) → key.Amount p v ≡ key.Amount q w → (p ≡ q) × (v ≡ w)
same_amount_keys p q v w e = (cc, cc)

module _ (P : Plan) (valid : IsValid P.contents) where
  pub one_of_key : (r s : PlanRow) → IsRow P r → IsRow P s → key_of r ≡ key_of s → r ≡ s
  one_of_key (row.Meta v l c) (row.Meta v' l' c') x y e = λ i. row.Meta ((x.0 ∙ sym y.0) i) ((x.1 ∙ sym y.1) i) ((x.2 ∙ sym y.2) i)
  one_of_key (row.Workstation v a) (row.Workstation w b) x y e =
      let name = same_names v w e in
      ap₂ row.Workstation name (same_Some a b (sym x ∙ ap (attribute_at P.contents) name ∙ y))
  one_of_key (row.Interval v i) (row.Interval w j) x y e =
      let same = same_interval_keys v w i.from j.from e in
      let ws : x.0 ≡ y.0 = same_Some x.0 y.0 (sym x.1 ∙ ap (get P.contents.workstations) same.0 ∙ y.1) in
      ap₂ row.Interval same.0 (same_Some i j (sym x.2 ∙ ap₂ (λ u m. get u.intervals m) ws same.1 ∙ y.2))
  one_of_key (row.Resource v a) (row.Resource w b) x y e =
      let name = same_resources v w e in
      let stock : x.0 ≡ y.0 = same_Some x.0 y.0 (sym x.1 ∙ ap (get P.contents.resources) name ∙ y.1) in
      ap₂ row.Resource name (sym x.2 ∙ ap (λ s. s.available) stock ∙ y.2)
  one_of_key (row.Occurrence c p d s) (row.Occurrence c' p' d' s') x y e =
      let same = same_occurrences c c' e in
      let terms = same_Some _ _ (sym x.0 ∙ ap (get P.contents.occurrences) same ∙ y.0) in
      let status = one_occurrence_status P.contents c' s s' (subst (λ z. HasOccurrenceStatus P.contents z s) same x.1) y.1 in
      λ i. row.Occurrence (same i) ((terms i).priority) ((terms i).deadline) (status i)
  one_of_key (row.Operation r) (row.Operation s) x y e = ap row.Operation (one_row P.contents valid.acyclic r s x y (same_operations r.op s.op e))
  one_of_key (row.Dependency p s) (row.Dependency q t) x y e = let same = same_ends p q s t e in ap₂ row.Dependency same.0 same.1
  one_of_key (row.Need p v m k) (row.Need q w n l) x y e =
      let same = same_need_keys p q v w e in
      let op : x.0 ≡ y.0 = same_Some x.0 y.0 (sym x.1 ∙ ap (get P.contents.operations) same.0 ∙ y.1) in
      let usage : x.2.0 ≡ y.2.0 = same_Some x.2.0 y.2.0 (sym x.2.1 ∙ ap₂ (λ z r. get z.needs r) op same.1 ∙ y.2.1) in
      let mode = sym x.2.2 ∙ ap (λ u. u.claim.mode) usage ∙ y.2.2 in
      let keep = sym x.2.3 ∙ ap (λ u. u.keep) usage ∙ y.2.3 in
      λ i. row.Need (same.0 i) (same.1 i) (mode i) (keep i)
  one_of_key (row.Quantity v m) (row.Quantity w n) x y e =
      let name = same_quantities v w e in
      let stock : x.0 ≡ y.0 = same_Some x.0 y.0 (sym x.1 ∙ ap (get P.contents.resources) name ∙ y.1) in
      ap₂ row.Quantity name (sym x.2 ∙ ap (λ s. s.quantity) stock ∙ y.2)
  one_of_key (row.Amount p v m) (row.Amount q w n) x y e =
      let same = same_amount_keys p q v w e in
      let op : x.0 ≡ y.0 = same_Some x.0 y.0 (sym x.1 ∙ ap (get P.contents.operations) same.0 ∙ y.1) in
      let usage : x.2.0 ≡ y.2.0 = same_Some x.2.0 y.2.0 (sym x.2.1 ∙ ap₂ (λ z r. get z.needs r) op same.1 ∙ y.2.1) in
      let amount : m ≡ n = ap (λ c. c.amount) (sym x.2.2 ∙ ap (λ u. u.claim) usage ∙ y.2.2) in
      λ i. row.Amount (same.0 i) (same.1 i) (amount i)
  one_of_key r s x y e = absurd (cc)

-- ---- all rows

entries_listed : {K X A : Type 0} {R : K → K → Ordering} → IsAntisymmetric R → (m : FinMap R X) (S : K → X → A → Type 0) → ((k : K) (x : X) → get m k ≡ Some x → Listed (S k x)) → Listed (λ a. (k : K) × ((x : X) × (get m k ≡ Some x) × S k x a))
entries_listed {X = X} same m S each = alike_listed {S = λ a. (k : _) × Contains (keys m) k × ((x : X) × (get m k ≡ Some x) × S k x a)}
    (λ a h. (h.0, h.2))
    (λ a h. (h.0, in_keys same m h.0 h.1.0 h.1.1, h.1))
    (union_listed (λ k a. (x : X) × (get m k ≡ Some x) × S k x a) (keys m) (λ k has. at_key k (get m k) refl))
  where
    at_key : (k : _) (x : Option X) → get m k ≡ x → Listed (λ a. (v : X) × (get m k ≡ Some v) × S k v a)
    at_key k None e = none_listed (λ a h. none-some h.0 (sym e ∙ h.1))
    at_key k (Some v) e = alike_listed {S = S k v}
        (λ a s. (v, e, s))
        (λ a h. subst (λ z. S k z a) (sym (same_Some v h.0 (sym e ∙ h.1))) h.2)
        (each k v e)

module _ (P : Plan) (valid : IsValid P.contents) where
  abbrev OfWorkstation : PlanRow → Type 0
  OfWorkstation r = (w : Name) × ((ws : Workstation) × (get P.contents.workstations w ≡ Some ws) × (row.Workstation w ws.attribute ≡ r))

  abbrev OfInterval : PlanRow → Type 0
  OfInterval r = (w : Name) × ((ws : Workstation) × (get P.contents.workstations w ≡ Some ws) × ((m : ℕ) × ((i : OpenInterval) × (get ws.intervals m ≡ Some i) × (row.Interval w i ≡ r))))

  abbrev OfResource : PlanRow → Type 0
  OfResource r = (n : Name) × ((stock : Stock) × (get P.contents.resources n ≡ Some stock) × (row.Resource n stock.available ≡ r))

  abbrev OfOccurrence : PlanRow → Type 0
  OfOccurrence r = (c : OccKey) × ((x : Occurrence) × (get P.contents.occurrences c ≡ Some x) × (row.Occurrence c x.priority x.deadline (some_occurrence_status P.contents valid.acyclic c).0 ≡ r))

  abbrev OfOneOperation : OpKey → PlanRow → Type 0
  OfOneOperation o r = (q : OperationRow) × (q.op ≡ o) × IsOperationRow P.contents q × (row.Operation q ≡ r)

  abbrev OfAnOperation : PlanRow → Type 0
  OfAnOperation r = (o : OpKey) × ((op : Operation) × (get P.contents.operations o ≡ Some op) × OfOneOperation o r)

  abbrev OfPair : PlanRow → Type 0
  OfPair r = (x : OpKey × OpKey) × Contains (set.items P.contents.pairs) x × (row.Dependency x.0 x.1 ≡ r)

  abbrev OfNeed : PlanRow → Type 0
  OfNeed r = (o : OpKey) × ((op : Operation) × (get P.contents.operations o ≡ Some op) × ((n : Name) × ((u : Usage) × (get op.needs n ≡ Some u) × (row.Need o n u.claim.mode u.keep ≡ r))))

  abbrev OfQuantity : PlanRow → Type 0
  OfQuantity r = (n : Name) × ((stock : Stock) × (get P.contents.resources n ≡ Some stock) × ((stock.quantity ≢ MOST_QUANTITY) × (row.Quantity n stock.quantity ≡ r)))

  -- a need whose amount is written
  abbrev IsCounted : Usage → Type 0
  IsCounted u = (u.claim.mode ≡ Shared) × (u.claim.amount ≢ 1)

  abbrev OfAmount : PlanRow → Type 0
  OfAmount r = (o : OpKey) × ((op : Operation) × (get P.contents.operations o ≡ Some op) × ((n : Name) × ((u : Usage) × (get op.needs n ≡ Some u) × (IsCounted u × (row.Amount o n u.claim.amount ≡ r)))))

  quantity_told : (stock : Stock) → Told (stock.quantity ≢ MOST_QUANTITY)
  quantity_told stock = told_none (same_nat stock.quantity MOST_QUANTITY)

  counted_told : (u : Usage) → Told (IsCounted u)
  counted_told u = told_and (same_mode u.claim.mode Shared) (λ _. told_none (same_nat u.claim.amount 1))

  operation_listed : (o : OpKey) (op : Operation) → get P.contents.operations o ≡ Some op → Listed (OfOneOperation o)
  operation_listed o op e =
      let q = some_row P.contents valid o op e in
      alike_listed {S = λ r. row.Operation q.0 ≡ r}
      (λ r is. (q.0, q.1, q.2, is))
      (λ r h. ap row.Operation (one_row P.contents valid.acyclic q.0 h.0 q.2 h.2 (q.1 ∙ sym h.1)) ∙ h.3)
      (one_listed (row.Operation q.0))

  every_listed : Listed (λ r. (row.Meta 2 P.loaded P.clock ≡ r) ⊎ (OfWorkstation r ⊎ (OfInterval r ⊎ (OfResource r ⊎ (OfOccurrence r ⊎ (OfAnOperation r ⊎ (OfPair r ⊎ (OfNeed r ⊎ (OfQuantity r ⊎ OfAmount r)))))))))
  every_listed =
      either_listed (one_listed (row.Meta 2 P.loaded P.clock))
      (either_listed (entries_listed name_cmp-IsAntisymmetric P.contents.workstations (λ w ws r. row.Workstation w ws.attribute ≡ r) (λ w ws e. one_listed (row.Workstation w ws.attribute)))
      (either_listed (entries_listed name_cmp-IsAntisymmetric P.contents.workstations (λ w ws r. (m : ℕ) × ((i : OpenInterval) × (get ws.intervals m ≡ Some i) × (row.Interval w i ≡ r))) (λ w ws e.
      entries_listed nat_cmp-IsAntisymmetric ws.intervals (λ m i r. row.Interval w i ≡ r) (λ m i at. one_listed (row.Interval w i))))
      (either_listed (entries_listed name_cmp-IsAntisymmetric P.contents.resources (λ n stock r. row.Resource n stock.available ≡ r) (λ n stock e. one_listed (row.Resource n stock.available)))
      (either_listed (entries_listed occurrence_cmp-IsAntisymmetric P.contents.occurrences (λ c x r. row.Occurrence c x.priority x.deadline (some_occurrence_status P.contents valid.acyclic c).0 ≡ r) (λ c x e. one_listed (row.Occurrence c x.priority x.deadline (some_occurrence_status P.contents valid.acyclic c).0)))
      (either_listed (entries_listed operation_cmp-IsAntisymmetric P.contents.operations (λ o op. OfOneOperation o) operation_listed)
      (either_listed (union_listed (λ x r. row.Dependency x.0 x.1 ≡ r) (set.items P.contents.pairs) (λ x has. one_listed (row.Dependency x.0 x.1)))
      (either_listed (entries_listed operation_cmp-IsAntisymmetric P.contents.operations (λ o op r. (n : Name) × ((u : Usage) × (get op.needs n ≡ Some u) × (row.Need o n u.claim.mode u.keep ≡ r))) (λ o op e.
      entries_listed name_cmp-IsAntisymmetric op.needs (λ n u r. row.Need o n u.claim.mode u.keep ≡ r) (λ n u at. one_listed (row.Need o n u.claim.mode u.keep))))
      (either_listed (entries_listed name_cmp-IsAntisymmetric P.contents.resources (λ n stock r. (stock.quantity ≢ MOST_QUANTITY) × (row.Quantity n stock.quantity ≡ r)) (λ n stock e. where_told (quantity_told stock) (λ _. one_listed (row.Quantity n stock.quantity))))
      (entries_listed operation_cmp-IsAntisymmetric P.contents.operations (λ o op r. (n : Name) × ((u : Usage) × (get op.needs n ≡ Some u) × (IsCounted u × (row.Amount o n u.claim.amount ≡ r)))) (λ o op e.
      entries_listed name_cmp-IsAntisymmetric op.needs (λ n u r. IsCounted u × (row.Amount o n u.claim.amount ≡ r)) (λ n u at. where_told (counted_told u) (λ _. one_listed (row.Amount o n u.claim.amount)))))))))))))

  in_list : (r : PlanRow) → IsRow P r → Contains every_listed.0 r
  in_list (row.Meta v l c) h = (every_listed.1 _).1 (inl (λ i. row.Meta (sym h.0 i) (sym h.1 i) (sym h.2 i)))
  in_list (row.Workstation w a) h = (every_listed.1 _).1 (inr (inl (with_attribute (get P.contents.workstations w) refl h)))
    where
      with_attribute : (x : Option Workstation) → get P.contents.workstations w ≡ x → option_map (λ ws. ws.attribute) x ≡ Some a → OfWorkstation (row.Workstation w a)
      with_attribute None e k = absurd (none-some a k)
      with_attribute (Some ws) e k = (w, (ws, e, ap (row.Workstation w) (same_Some ws.attribute a k)))
  in_list (row.Interval w i) h = (every_listed.1 _).1 (inr (inr (inl (w, (h.0, h.1, (i.from, (i, h.2, refl)))))))
  in_list (row.Resource n available) h = (every_listed.1 _).1 (inr (inr (inr (inl (n, (h.0, h.1, ap (row.Resource n) h.2))))))
  in_list (row.Occurrence c p d s) h =
      let first = some_occurrence_status P.contents valid.acyclic c in
      (every_listed.1 _).1 (inr (inr (inr (inr (inl (c, (record { priority = p; deadline = d }, h.0, ap (row.Occurrence c p d) (one_occurrence_status P.contents c first.0 s first.1 h.1))))))))
  in_list (row.Operation r) h = (every_listed.1 _).1 (inr (inr (inr (inr (inr (inl (r.op, (h.op, h.is_in_plan, (r, refl, h, refl)))))))))
  in_list (row.Dependency p s) h = (every_listed.1 _).1 (inr (inr (inr (inr (inr (inr (inl ((p, s), (pairs_are_edges P.contents.pairs p s).0 h, refl))))))))
  in_list (row.Need o r mode keep) h = (every_listed.1 _).1 (inr (inr (inr (inr (inr (inr (inr (inl (o, (h.0, h.1, (r, (h.2.0, h.2.1, ap₂ (row.Need o r) h.2.2 h.2.3))))))))))))
  in_list (row.Quantity r quantity) h =
      (every_listed.1 _).1 (inr (inr (inr (inr (inr (inr (inr (inr (inl (r, (h.0, h.1, ((λ e. h.3 (sym h.2 ∙ e)), ap (row.Quantity r) h.2))))))))))))
  in_list (row.Amount o r amount) h =
      let mode = ap (λ c. c.mode) h.2.2 in
      let same = ap (λ c. c.amount) h.2.2 in
      (every_listed.1 _).1 (inr (inr (inr (inr (inr (inr (inr (inr (inr (o, (h.0, h.1, (r, (h.2.0, h.2.1, ((mode, λ e. h.2.3 (sym same ∙ e)), ap (row.Amount o r) same))))))))))))))

  pub rows_listed : Listed (IsRow P)
  rows_listed = told_listed every_listed.0 in_list (row_told P valid.acyclic)
