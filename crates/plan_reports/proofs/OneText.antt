-- What the reports show is read off the plan in one way.
use Rattle.std.proofs.Common.{◌≡◌, ◌↔◌, refl, sym, ap, ap₂, subst, ◌∙◌, ℤ, List, [], ◌∷◌, map, Contains}
use Rattle.std.proofs.lemmas.Option.{same_Some}
use Rattle.std.specs.Cmp.{IsTotalOrder}
use Rattle.std.specs.declared.cmp.Ordering.{Ordering}
use Rattle.std.specs.FinMap.{get}
use Rattle.std.specs.List.Sorted.{IsStrictlySortedBy}
use Rattle.plan_basics.specs.Keys.{Name, occurrence_cmp_total, operation_cmp_total}
use Rattle.plan_basics.specs.declared.keys.OpKey.{OpKey}
use Rattle.desk_tables.specs.plan_core.specs.Views.{AreOccViews, AreReadyViews, IsOccView, IsOpView}
use Rattle.desk_tables.specs.plan_core.specs.declared.views.OccView.{OccView}
use Rattle.desk_tables.specs.plan_core.specs.declared.views.OpView.{OpView}
use Rattle.plan_shows.specs.plan_reasons.specs.plan_drafts.proofs.Lists.{contains_head, contains_later, from_map, in_map}
use Rattle.desk_tables.specs.plan_laws.proofs.Choice.{one_ready_list}
use Rattle.desk_tables.specs.plan_laws.proofs.Sorted.{sorted_unique}
use Rattle.desk_tables.specs.plan_laws.proofs.Tabling.{one_row}
use Rattle.desk_tables.specs.plan_laws.proofs.Waiting.{one_count, one_occurrence_status}
use Rattle.plan_model.specs.Contents.{Contents, IsInPlan}
use Rattle.plan_model.specs.Plan.{Plan}
use Rattle.plan_model.specs.Status.{HasOccurrenceStatus, HasStatus}
use Rattle.plan_model.specs.Valid.{IsValid}
use Rattle.plan_model.specs.declared.Occurrence.{Occurrence}
use Rattle.desk_tables.specs.plan_records.specs.Rows.{IsCount, IsOperationRow}
use Rattle.desk_tables.specs.plan_records.specs.declared.OperationRow.{OperationRow}
use Rattle.desk_tables.specs.Errors.{AreErrorRows, IsErrorRow}
use Rattle.desk_tables.specs.declared.errors.ErrorRow.{ErrorRow}
use Rattle.status_rules.specs.declared.Mark.TheVariants as mark
use Rattle.status_rules.specs.declared.Status.TheVariants.{Complete}
use Rattle.plan_shows.specs.Views.{AreViewsOf}
use Rattle.plan_reports.specs.Late.{AreLateViews, due}
use Rattle.plan_reports.proofs.LateLists.{due_total}

-- lists of things that are known by their keys, with the same keys in order
module _ {X K : Type 0} (key : X → K) (S : X → Type 0) (one : (x y : X) → S x → S y → key x ≡ key y → x ≡ y) where
  same_lists : (xs ys : List X) → ((x : X) → Contains xs x → S x) → ((y : X) → Contains ys y → S y) → map key xs ≡ map key ys → xs ≡ ys
  same_lists [] [] f g e = refl
  same_lists [] (y ∷ ys) f g e = absurd cc
  same_lists (x ∷ xs) [] f g e = absurd cc
  same_lists (x ∷ xs) (y ∷ ys) f g e =
      let first : key x ≡ key y = cc in
      let rest : map key xs ≡ map key ys = cc in
      ap₂ (λ z zs. z ∷ zs) (one x y (f x (contains_head x xs)) (g y (contains_head y ys)) first)
      (same_lists xs ys (λ z has. f z (contains_later x xs z has)) (λ z has. g z (contains_later y ys z has)) rest)

-- keys in order, of which each list has those of the other
same_keys : {K : Type 0} {R : K → K → Ordering} (total : IsTotalOrder R) (Q : K → Type 0) (xs ys : List K) → IsStrictlySortedBy R xs → IsStrictlySortedBy R ys
    → ((k : K) → Contains xs k ↔ Q k) → ((k : K) → Contains ys k ↔ Q k) → xs ≡ ys
same_keys total Q xs ys up above f g = sorted_unique total xs ys up above (λ k has. (g k).1 ((f k).0 has)) (λ k has. (f k).1 ((g k).0 has))

module _ (P : Contents) (valid : IsValid P) where
  -- the row of an operation's view
  row_of : OpView → OperationRow
  row_of v = record { op = v.key; ws = v.workstation; duration = v.duration; r1 = v.r1; r2 = v.r2; not_before = v.not_before; deadline = v.deadline; mark = v.mark; held = v.held; nop = v.nop; status = v.status; latest = v.latest; waiting = v.waiting }

  is_row : (v : OpView) → IsOpView P v → IsOperationRow P (row_of v)
  unfolding row_of
  is_row v x = record {
    op = x.op;
    is_in_plan = x.is_in_plan;
    columns = (x.work.0, x.work.1, x.work.2, x.work.3, x.moments.0, x.moments.1, x.marked.0, x.marked.1, x.marked.2);
    status = x.status;
    latest = x.latest;
    waiting = x.waiting;
  }

  pub one_view : (v w : OpView) → IsOpView P v → IsOpView P w → v.key ≡ w.key → v ≡ w
  unfolding row_of
  one_view v w x y key =
      let e : row_of v ≡ row_of w = one_row P valid.acyclic (row_of v) (row_of w) (is_row v x) (is_row w y) key in
      let c : x.priority.0 ≡ y.priority.0 = same_Some x.priority.0 y.priority.0 (sym x.priority.1 ∙ ap (λ o. get P.occurrences o.occurrence) key ∙ y.priority.1) in
      let priority : v.priority ≡ w.priority = x.priority.2 ∙ ap (λ (o : Occurrence). o.priority) c ∙ sym y.priority.2 in
      λ i. record {
        key = (e i).op;
        workstation = (e i).ws;
        duration = (e i).duration;
        r1 = (e i).r1;
        r2 = (e i).r2;
        not_before = (e i).not_before;
        deadline = (e i).deadline;
        mark = (e i).mark;
        held = (e i).held;
        nop = (e i).nop;
        priority = priority i;
        status = (e i).status;
        latest = (e i).latest;
        waiting = (e i).waiting;
      }

  pub one_ready : (w : Name) (a b : List OpView) → AreReadyViews P w a → AreReadyViews P w b → a ≡ b
  one_ready w a b x y =
      let keys : x.keys ≡ y.keys = one_ready_list P x.keys y.keys x.is_ready_list y.is_ready_list in
      let same : map (λ v. v.key) a ≡ map (λ v. v.key) b = rw (x.in_order, y.in_order, keys) in
      same_lists (λ (v : OpView). v.key) (IsOpView P) one_view a b x.each y.each same

  -- those of which something is so
  pub one_list : (IsListed : OpKey → Type 0) (a b : List OpView) → AreViewsOf P IsListed a → AreViewsOf P IsListed b → a ≡ b
  one_list IsListed a b x y =
      same_lists (λ (v : OpView). v.key) (IsOpView P) one_view a b x.each y.each
      (same_keys operation_cmp_total IsListed (map (λ v. v.key) a) (map (λ v. v.key) b) x.in_order y.in_order x.every y.every)

  -- ---- occurrences
  one_occurrence_view : (v w : OccView) → IsOccView P v → IsOccView P w → v.key ≡ w.key → v ≡ w
  one_occurrence_view v w x y key =
      let terms : Occurrence = record { priority = v.priority; deadline = v.deadline } in
      let others : Occurrence = record { priority = w.priority; deadline = w.deadline } in
      let c : terms ≡ others = same_Some terms others (sym x.is_in_plan ∙ ap (get P.occurrences) key ∙ y.is_in_plan) in
      let status : v.status ≡ w.status = one_occurrence_status P w.key v.status w.status (subst (λ k. HasOccurrenceStatus P k v.status) key x.status) y.status in
      let operations : v.operations ≡ w.operations = one_count (λ o. (o.occurrence ≡ w.key) × IsInPlan P o) v.operations w.operations (subst (λ k. IsCount (λ o. (o.occurrence ≡ k) × IsInPlan P o) v.operations) key x.operations) y.operations in
      let complete : v.complete ≡ w.complete = one_count (λ o. (o.occurrence ≡ w.key) × HasStatus P o Complete) v.complete w.complete (subst (λ k. IsCount (λ o. (o.occurrence ≡ k) × HasStatus P o Complete) v.complete) key x.complete) y.complete in
      λ i. record { key = key i; priority = (c i).priority; deadline = (c i).deadline; status = status i; operations = operations i; complete = complete i }

  pub one_list_of_occurrences : (a b : List OccView) → AreOccViews P a → AreOccViews P b → a ≡ b
  one_list_of_occurrences a b x y =
      same_lists (λ (v : OccView). v.key) (IsOccView P) one_occurrence_view a b x.each y.each
      (same_keys occurrence_cmp_total _ (map (λ v. v.key) a) (map (λ v. v.key) b) x.in_order y.in_order x.every y.every)

  -- ---- operations in error
  one_error : (r s : ErrorRow) → IsErrorRow P r → IsErrorRow P s → r.op ≡ s.op → r ≡ s
  one_error r s x y key =
      let op : x.op ≡ y.op = same_Some x.op y.op (sym x.is_in_plan ∙ ap (get P.operations) key ∙ y.is_in_plan) in
      let ws : r.ws ≡ s.ws = x.workstation ∙ ap (λ o. o.workstation) op ∙ sym y.workstation in
      let both : mark.Error r.code ≡ mark.Error s.code = sym x.code ∙ ap (λ o. o.mark) op ∙ y.code in
      let code : r.code ≡ s.code = cc in
      λ i. record { op = key i; ws = ws i; code = code i }

  error_keys : (a b : List ErrorRow) → AreErrorRows P a → AreErrorRows P b → (o : OpKey) → Contains (map (λ r. r.op) a) o → Contains (map (λ r. r.op) b) o
  error_keys a b x y o has =
      let r = from_map (λ (r : ErrorRow). r.op) a o has in
      subst (Contains (map (λ r. r.op) b)) r.2 (in_map (λ (r : ErrorRow). r.op) b r.0 ((y.every r.0).1 ((x.every r.0).0 r.1)))

  pub one_list_of_errors : (a b : List ErrorRow) → AreErrorRows P a → AreErrorRows P b → a ≡ b
  one_list_of_errors a b x y =
      same_lists (λ (r : ErrorRow). r.op) (IsErrorRow P) one_error a b (λ r has. (x.every r).0 has) (λ r has. (y.every r).0 has)
      (sorted_unique operation_cmp_total (map (λ r. r.op) a) (map (λ r. r.op) b) x.in_order y.in_order (error_keys a b x y) (error_keys b a y x))

-- ---- what is late
module _ (P : Plan) (valid : IsValid P.contents) where
  due_keys : (a b : List OpView) → AreLateViews P a → AreLateViews P b → (k : ℤ × OpKey) → Contains (map due a) k → Contains (map due b) k
  due_keys a b x y k has =
      let v = from_map due a k has in
      let w = from_map (λ (v : OpView). v.key) b v.0.key ((y.every v.0.key).1 ((x.every v.0.key).0 (in_map (λ (v : OpView). v.key) a v.0 v.1))) in
      let same : w.0 ≡ v.0 = one_view P.contents valid w.0 v.0 (y.each w.0 w.1) (x.each v.0 v.1) w.2 in
      subst (Contains (map due b)) (ap due same ∙ v.2) (in_map due b w.0 w.1)

  pub one_list_of_late : (a b : List OpView) → AreLateViews P a → AreLateViews P b → a ≡ b
  one_list_of_late a b x y =
      same_lists due (IsOpView P.contents) (λ v w p q e. one_view P.contents valid v w p q (ap (λ d. d.1) e)) a b x.each y.each
      (sorted_unique due_total (map due a) (map due b) x.in_order y.in_order (due_keys a b x y) (due_keys b a y x))
