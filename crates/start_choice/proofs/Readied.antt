-- What is ready among the rows of loaded contents, row by row.
use Rattle.std.proofs.Common.{◌≡◌, inl, inr, sym, ap, subst, ◌∙◌, true≢false, arith, ℕ, ◌+◌, ◌≤◌, true, false, List, ◌++◌, ◌∷◌, [], length, slice_get, Some, ℤ}
use Rattle.std.specs.FinMap.{entries, get, keys}
use Rattle.std.proofs.lemmas.Option.{slice_get_within}
use Rattle.plan_basics.specs.declared.Attr.{Attr}
use Rattle.plan_basics.specs.Keys.{Name, operation_cmp}
use Rattle.plan_basics.specs.declared.keys.OpKey.{OpKey}
use Rattle.ready_list.specs.declared.entry.ReadyEntry.{ReadyEntry}
use Rattle.status_rules.specs.declared.Status.{Status}
use Rattle.status_rules.specs.Classes.{is_ready}
use Rattle.plan_model.proofs.Entries.{entries_in_order}
use Rattle.plan_model.specs.Contents.{Contents, HasAttribute, Operation}
use Rattle.plan_model.specs.Starts.{IsLatestStart}
use Rattle.plan_model.specs.Status.{HasStatus, IsReady}
use Rattle.plan_model.specs.declared.Occurrence.{Occurrence}
use Rattle.plan_model.specs.Valid.{IsValid}
use Rattle.counted_records.specs.plan_drafts.specs.Places.{AreStatuses}
use Rattle.counted_records.specs.plan_status.proofs.LoadedRows.{row_of}
use Rattle.counted_records.specs.plan_laws.proofs.Classes.{ready_by, ready_told}
use Rattle.counted_records.specs.plan_laws.proofs.Standing.{one_status}
use Rattle.start_choice.specs.ReadyItems.{AreAllReady, IsEntryIn}
use Rattle.start_choice.proofs.ReadyLists.{AreReadyBelow, ready_more, ready_pass, ready_rows}

-- what is ready is in the plan
pub ready_in_plan : (P : Contents) (o : OpKey) → IsReady P o → (op : Operation) × (get P.operations o ≡ Some op)
ready_in_plan P o (inl h) = (h.0, h.1)
ready_in_plan P o (inr (inl h)) = (h.0, h.1)
ready_in_plan P o (inr (inr h)) = (h.0, h.1)

-- ---- row by row

-- with its latest start an operation has this entry
pub has_entry : (P : Contents) (o : OpKey) (op : Operation) (v : ℤ) (site place : ℕ) → get P.operations o ≡ Some op → {q : OpKey} {latest : ℤ} {duration priority : ℕ} {ws : Name} {attr : Attr}
    → q ≡ o → latest ≡ v → duration ≡ op.duration → (t : Occurrence) × (get P.occurrences o.occurrence ≡ Some t) × (priority ≡ t.priority)
    → ws ≡ op.workstation → HasAttribute P op.workstation attr → slice_get (keys P.workstations) site ≡ Some op.workstation
    → IsLatestStart P o v → IsEntryIn P (record { key = record { latest = latest; priority = priority; duration = duration; op = q }; ws = ws; attr = attr; site = site; place = place })
has_entry P o op v site place found {q} {latest} {duration} {priority} {ws} {attr} is_op is_latest is_duration terms is_ws reports placed start = (
  (
    subst (λ z. IsLatestStart P z latest) (sym is_op) (subst (IsLatestStart P o) (sym is_latest) start),
    (op, ap (get P.operations) is_op ∙ found, is_duration),
    (terms.0, ap (λ (z : OpKey). get P.occurrences z.occurrence) is_op ∙ terms.1, terms.2),
  ),
  (op, ap (get P.operations) is_op ∙ found, (is_ws, reports, placed)),
)

module _ (c : Contents) (h : IsValid c) where
  abbrev P : Contents
  P = c

  module _ (statuses : List Status) (are_statuses : AreStatuses P statuses)
      (n : ℕ) (listed : List ReadyEntry) (so_far : AreReadyBelow P (entries c.operations) n listed)
      (o : OpKey) (op : Operation) (at : slice_get (entries c.operations) n ≡ Some (o, op)) (s : Status) (is : slice_get statuses n ≡ Some s) where
    has_status : HasStatus P o s
    has_status = are_statuses.each n o op s at is

    -- what has another status isn't ready
    pub next_passed : is_ready s ≡ false → AreReadyBelow P (entries c.operations) (n + 1) listed
    next_passed out = ready_pass P (entries c.operations) (entries_in_order operation_cmp c.operations) n listed so_far o op at (λ ready. true≢false (sym (ready_told P o s (λ t k. one_status P h.acyclic o t s k has_status) ready) ∙ out))

    -- what has one of the three is
    pub next_ready : is_ready s ≡ true → (x : ReadyEntry) → x.key.op ≡ o → IsEntryIn P x → AreReadyBelow P (entries c.operations) (n + 1) (listed ++ x ∷ [])
    next_ready among x is_op entry =
        ready_more P (entries c.operations) (entries_in_order operation_cmp c.operations) n listed so_far o op at x is_op ((subst (IsReady P) (sym is_op) (ready_by P o s has_status among), entry.0.0, entry.0.1, entry.0.2), entry.1)

  -- past the last row
  pub ready_all : (n : ℕ) (listed : List ReadyEntry) → length (entries c.operations) ≤ n → AreReadyBelow P (entries c.operations) n listed → AreAllReady P listed
  ready_all n listed le so_far = ready_rows P (entries c.operations) n listed (λ o ready.
      let found = ready_in_plan P o ready in
      let place = row_of c o found.0 found.1 in
      let lt = slice_get_within (entries c.operations) place.0 (o, found.0) place.1 in
      (place.0, found.0, omega (arith, lt, le), place.1)) so_far
