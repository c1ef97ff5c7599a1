-- Some operations get other marks or flags, all else stays.
use Rattle.std.proofs.Common.{◌≡◌, refl, sym, ap, subst, ◌∙◌, ℕ, zero, suc, Bool, true, false, cond, List, [], ◌∷◌, length, Contains, Some, slice_get}
use Rattle.std.proofs.lemmas.Option.{same_Some}
use Rattle.std.specs.FinMap.{entries, get}
use Rattle.plan_basics.specs.Keys.{name_cmp, name_cmp_total, name_cmp-IsAntisymmetric, operation_cmp, operation_cmp_total, operation_cmp-IsAntisymmetric}
use Rattle.plan_basics.specs.declared.keys.OpKey.{OpKey}
use Rattle.status_rules.specs.Classes.{is_live}
use Rattle.plan_model.specs.Contents.{Contents, Operation, Operations, Resources, Workstations}
use Rattle.plan_model.specs.Revise.{revise}
use Rattle.plan_drafts.proofs.Lists.{length_map}
use Rattle.plan_drafts.proofs.MadeEntries.{each_made, entries-revise}
use Rattle.plan_records.specs.Changes.{revised}
use Rattle.plan_checks.specs.plan_status.proofs.LoadedRows.{row_found}
use Rattle.plan_model.specs.Moves.{AreLiveAlike, IsMovedAt, IsMovedRow, reporting}
use Rattle.small_requests.specs.RequestEdits.{StandsAt}
use Rattle.workstations.specs.Timetables.{NamedWorkstation}
use Rattle.workstations.specs.Workstations.{Workstation}
use Rattle.plan_basics.specs.Keys.{Name}

-- a row that is made anew was made of the row at its index
pub row_made : {K V : Type 0} (f : K → V → V) (rows : List (K × V)) (i : ℕ) (k : K) (v : V) → slice_get (each_made f rows) i ≡ Some (k, v) → (old : V) × (slice_get rows i ≡ Some (k, old)) × (f k old ≡ v)
row_made f [] i k v e = cc
row_made f (row ∷ rows) zero k v e =
    let same = same_Some (row.0, f row.0 row.1) (k, v) e in
    let key : row.0 ≡ k = ap (λ z. z.0) same in
    (row.1, ap (λ z. Some (z, row.1)) key, ap (λ z. f z row.1) (sym key) ∙ ap (λ z. z.1) same)
row_made f (row ∷ rows) (suc i) k v e = row_made f rows i k v e

-- a new mark and new flags, and nothing else, of what stays live or stays deleted
pub record IsNewState (P : Contents) (test : OpKey → Bool) (f : Operation → Operation) : Type 0 where
  pub only : (op : Operation) → f op ≡ record op { mark = (f op).mark; held = (f op).held; nop = (f op).nop }
  pub live : (o : OpKey) (op : Operation) → get P.operations o ≡ Some op → test o ≡ true → is_live (f op).mark ≡ is_live op.mark

module _ (P : Contents) (test : OpKey → Bool) (f : Operation → Operation) where
  abbrev made : OpKey → Operation → Operation
  made o op = cond (test o) (f op) op

  rows_after : entries (revised test f P).operations ≡ each_made made (entries P.operations)
  rows_after = entries-revise operation_cmp operation_cmp_total operation_cmp-IsAntisymmetric made P.operations

  -- what the row at an index was made of
  made_of : (i : ℕ) (o : OpKey) (op : Operation) → slice_get (entries (revised test f P).operations) i ≡ Some (o, op) → (old : Operation) × StandsAt P i o old × (made o old ≡ op)
  made_of i o op at = row_made made (entries P.operations) i o op (subst (λ rows. slice_get rows i ≡ Some (o, op)) rows_after at)

  module _ (places : List ℕ) (only : (op : Operation) → f op ≡ record op { mark = (f op).mark; held = (f op).held; nop = (f op).nop })
      (there : (i : ℕ) (o : OpKey) (op : Operation) → StandsAt P i o op → test o ≡ true → Contains places i) where
    row_moved : (i : ℕ) (o : OpKey) (op : Operation) → StandsAt P i o op → (b : Bool) → test o ≡ b → IsMovedRow P places i o (cond b (f op) op)
    row_moved i o op at true t = record { before = op; was = at; remarked = record { rest = only op }; elsewhere = λ other. absurd (other (there i o op at t)) }
    row_moved i o op at false t = record { before = op; was = at; remarked = record { rest = refl }; elsewhere = λ other. refl }

    -- where the test passes, at these indices
    pub moved_by : IsMovedAt P (revised test f P) places
    moved_by = record {
      workstations = refl;
      occurrences = refl;
      pairs = refl;
      size = ap length rows_after ∙ length_map _ (entries P.operations);
      rows = λ i o op at. let old = made_of i o op at in subst (IsMovedRow P places i o) old.2 (row_moved i o old.0 old.1 (test o) refl);
    }

  module _ (state : IsNewState P test f) where
    live_made : (i : ℕ) (o : OpKey) (op : Operation) → StandsAt P i o op → (b : Bool) → test o ≡ b → is_live (cond b (f op) op).mark ≡ is_live op.mark
    live_made i o op at true t = state.live o op (row_found P i o op at) t
    live_made i o op at false t = refl

    -- the same operations are live
    pub alike_by : AreLiveAlike P (revised test f P)
    alike_by i o before after was is =
        let old = made_of i o after is in
        let same : old.0 ≡ before = ap (λ (z : OpKey × Operation). z.1) (same_Some (o, old.0) (o, before) (sym old.1 ∙ was)) in
        subst (λ (op : Operation). is_live op.mark ≡ is_live before.mark) old.2 (live_made i o old.0 old.1 (test o) refl ∙ ap (λ (op : Operation). is_live op.mark) same)

    -- both
    pub moved_alike : (places : List ℕ) → ((i : ℕ) (o : OpKey) (op : Operation) → StandsAt P i o op → test o ≡ true → Contains places i) → IsMovedAt P (revised test f P) places × AreLiveAlike P (revised test f P)
    moved_alike places there = (moved_by places state.only there, alike_by)

-- ---- all operations stay

pub unmoved : (P : Contents) (workstations : Workstations) (resources : Resources) (places : List ℕ) → reporting (entries workstations) ≡ reporting (entries P.workstations) → IsMovedAt P (record P { workstations = workstations; resources = resources }) places
unmoved P workstations resources places same = record {
  workstations = same;
  occurrences = refl;
  pairs = refl;
  size = refl;
  rows = λ i o op at. record { before = op; was = at; remarked = record { rest = refl }; elsewhere = λ other. refl };
}

-- and so the same are live
pub still_live : (P Q : Contents) → Q.operations ≡ P.operations → AreLiveAlike P Q
still_live P Q same i o before after was is =
    let alike : ◌≡◌ {A = OpKey × Operation} (o, after) (o, before) = same_Some (o, after) (o, before) (sym is ∙ ap (λ (ops : Operations). slice_get (entries ops) i) same ∙ was) in
    ap (λ (z : OpKey × Operation). is_live z.1.mark) alike

module _ (test : Name → Bool) (f : Workstation → Workstation) (same : (ws : Workstation) → (f ws).attribute ≡ ws.attribute) where
  abbrev opened : Name → Workstation → Workstation
  opened v ws = cond (test v) (f ws) ws

  one_reports : (b : Bool) (ws : Workstation) → (cond b (f ws) ws).attribute ≡ ws.attribute
  one_reports true ws = same ws
  one_reports false ws = refl

  each_reports : (rows : List NamedWorkstation) → reporting (each_made opened rows) ≡ reporting rows
  each_reports [] = refl
  each_reports (row ∷ rows) = λ i. (row.0, one_reports (test row.0) row.1 i) ∷ each_reports rows i

  -- workstations that are made anew and keep their attributes report as they did
  pub reporting_stays : (workstations : Workstations) → reporting (entries (revise opened workstations)) ≡ reporting (entries workstations)
  reporting_stays workstations = ap reporting (entries-revise name_cmp name_cmp_total name_cmp-IsAntisymmetric opened workstations) ∙ each_reports (entries workstations)
