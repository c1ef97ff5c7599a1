-- What the rows of a plan say as items: they are those of the plan before anything was reported of it.
use Rattle.std.proofs.Common.{◌≡◌, ◌≢◌, refl, sym, subst, ap, ◌∙◌, arith, ◌≤◌, Bool, true, List, All, Contains, Some, option_map}
use Rattle.std.specs.FinMap.{contains_key, get}
use Rattle.std.specs.List.{AllPairs, filter_map}
use Rattle.std.proofs.lemmas.Option.{same_Some}
use Rattle.plan_basics.specs.declared.limits.TheConstants.{MOST_FIXED, MOST_QUANTITY, SHORTEST_DURATION, LONGEST_DURATION}
use Rattle.plan_basics.specs.declared.keys.OpKey.{OpKey}
use Rattle.plan_basics.specs.Keys.{Name, IsOperationKey}
use Rattle.plan_basics.specs.Minutes.{IsMoment}
use Rattle.plan_basics.specs.Names.{IsName}
use Rattle.special_resources.specs.Holdings.{usage_of}
use Rattle.plan_items.specs.declared.Item.{Item}
use Rattle.plan_items.specs.Items.{IsItem, IsOperationItem}
use Rattle.plan_items.specs.Parts.{IsWithin}
use Rattle.plan_model.specs.Plan.{Plan}
use Rattle.special_resources.specs.declared.Mode.{Mode}
use Rattle.plan_model.specs.Contents.{Operation}
use Rattle.plan_model.specs.Valid.{IsValid}
use Rattle.plan_drafts.specs.declared.RowKey.{RowKey}
use Rattle.plan_drafts.specs.declared.RowKey.TheVariants as key
use Rattle.plan_drafts.specs.Records as items_of
use Rattle.plan_drafts.specs.Records.{AreItemsOf, IsAsSaid, IsItemOfPlan, StandsIn}
use Rattle.plan_drafts.proofs.Lists.{all_by_members, differ_filter, from_filter, in_filter, pairs_from_differ}
use Rattle.plan_drafts.proofs.Needed.{mapped}
use Rattle.plan_drafts.proofs.Tables.{is_found}
use Rattle.plan_records.specs.Rows as rows_of
use Rattle.plan_records.specs.Rows.{AreRows, IsOperationRow, IsRow}
use Rattle.plan_records.specs.declared.PlanRow.{PlanRow}
use Rattle.plan_records.specs.declared.PlanRow.TheVariants as row
use Rattle.plan_records.specs.declared.OperationRow.{OperationRow}
use Rattle.plan_rows.specs.plan_laws.proofs.Revising.{now, was}
use Rattle.plan_rows.specs.plan_laws.proofs.Tabling.{some_row}
use Rattle.plan_rows.specs.plan_laws.proofs.Waiting.{some_occurrence_status}
use Rattle.plan_opening.specs.Restoring.{AreSaid, amount_by, as_item, need_item, operation_item}
use Rattle.plan_opening.specs.declared.restoring.said.Said.{Said}
use Rattle.plan_opening.proofs.Bare.{bare, bare_is_draft, each, untouched}
use Rattle.plan_opening.proofs.RowNumbers.{amount_told, keys_differ, quantity_told}

-- an item is known by the key of its row
item_key : (said : Said) (r : PlanRow) (i : Item) → as_item said r ≡ Some i → items_of.key_of i ≡ rows_of.key_of r
item_key said (row.Meta v l c) i e = absurd (cc)
item_key said (row.Workstation w a) i e = ap items_of.key_of (sym (same_Some _ i e))
item_key said (row.Interval w x) i e = ap items_of.key_of (sym (same_Some _ i e))
item_key said (row.Resource n a) i e = ap items_of.key_of (sym (same_Some _ i e))
item_key said (row.Occurrence c p d s) i e = ap items_of.key_of (sym (same_Some _ i e))
item_key said (row.Operation r) i e = ap items_of.key_of (sym (same_Some _ i e))
item_key said (row.Dependency p s) i e = ap items_of.key_of (sym (same_Some _ i e))
item_key said (row.Need o r m k) i e = ap items_of.key_of (sym (same_Some _ i e))
item_key said (row.Quantity r n) i e = absurd (cc)
item_key said (row.Amount o r n) i e = absurd (cc)

module _ (P : Plan) (valid : IsValid P.contents) (rows : List PlanRow) (are : AreRows P rows) (said : Said) (is_said : AreSaid rows said) where
  -- ---- what is said of a need is how its operation uses the resource
  need_told : (o : OpKey) (r : Name) (mode : Mode) (keep : Bool) (h : IsRow P (row.Need o r mode keep)) → get h.0.needs r ≡ Some (usage_of (need_item said o r mode keep))
  need_told o r mode keep (op, is, (usage, has, modes, keeps)) =
      let amount : amount_by said.amounts.items o r mode ≡ usage.claim.amount = ap (amount_by said.amounts.items o r) (sym modes) ∙ amount_told P valid rows are said is_said o op is r usage has in
      let same : usage ≡ usage_of (need_item said o r mode keep) = λ t. record { claim = record { mode = modes t; amount = sym amount t }; keep = keeps t } in
      has ∙ ap Some same

  -- ---- a row of the plan is in range
  end_in_range : (o : OpKey) → contains_key P.contents.operations o ≡ true → IsOperationKey o
  end_in_range o there = let found = is_found (get P.contents.operations o) there in (valid.occurrences.each_operation o found.0 found.1).0.key

  operation_in_range : (r : OperationRow) → IsOperationRow P.contents r → IsOperationItem (operation_item r)
  operation_in_range r x =
      let is = (valid.occurrences.each_operation r.op x.op x.is_in_plan).0 in
      record {
        key = is.key;
        workstation = subst (IsName 4) (sym x.columns.0) is.workstation;
        duration = subst (IsWithin SHORTEST_DURATION LONGEST_DURATION) (sym x.columns.1) is.duration;
        r1 = (omega arith, subst (λ n. n ≤ MOST_FIXED) (sym x.columns.2) is.fixed.0);
        r2 = (omega arith, subst (λ n. n ≤ MOST_FIXED) (sym x.columns.3) is.fixed.1);
        not_before = subst IsMoment (sym x.columns.4) is.not_before;
        deadline = subst IsMoment (sym x.columns.5) is.deadline;
      }

  row_in_range : (r : PlanRow) (i : Item) → IsRow P r → as_item said r ≡ Some i → IsItem i
  row_in_range (row.Meta v l c) i h e = absurd (cc)
  row_in_range (row.Workstation w a) i h e =
      let found = mapped (λ ws. ws.attribute) (get P.contents.workstations w) a h in
      subst IsItem (same_Some _ i e) (valid.workstations w found.0 found.1).0
  row_in_range (row.Interval w x) i h e = let is = valid.workstations w h.0 h.1 in subst IsItem (same_Some _ i e) (is.0, (is.1.intervals x.from x h.2).1)
  row_in_range (row.Resource n a) i h e =
      let is = valid.resources n h.0 h.1 in
      subst IsItem (same_Some _ i e) (is.0, subst (IsWithin 1 MOST_QUANTITY) (sym (quantity_told P valid rows are said is_said n h.0 h.1)) (is.1, is.2))
  row_in_range (row.Occurrence c p d s) i h e =
      let is = valid.occurrences.each_occurrence c (record { priority = p; deadline = d }) h.0 in
      subst IsItem (same_Some _ i e) (is.key, is.priority, is.deadline)
  row_in_range (row.Operation r) i h e = subst IsItem (same_Some _ i e) (operation_in_range r h)
  row_in_range (row.Dependency p s) i h e = let ends = valid.pairs p s h in subst IsItem (same_Some _ i e) (end_in_range p ends.0, end_in_range s ends.1)
  row_in_range (row.Need o r m k) i h e =
      let is = (valid.occurrences.each_operation o h.0 h.1).0 in
      let need = is.needs r (usage_of (need_item said o r m k)) (need_told o r m k h) in
      subst IsItem (same_Some _ i e) (is.key, need.0, need.1)
  row_in_range (row.Quantity r n) i h e = absurd (cc)
  row_in_range (row.Amount o r n) i h e = absurd (cc)

  -- ---- what it says stands in the plan before anything was reported
  operation_stands : (r : OperationRow) → (x : IsOperationRow P.contents r) → (c : _) → IsAsSaid (operation_item r) c (untouched x.op)
  operation_stands r x c = record {
    workstation = sym x.columns.0;
    duration = sym x.columns.1;
    fixed = (sym x.columns.2, sym x.columns.3);
    not_before = sym x.columns.4;
    deadline = sym x.columns.5;
  }

  row_stands : (r : PlanRow) (i : Item) → IsRow P r → as_item said r ≡ Some i → StandsIn (bare P.contents) i
  row_stands (row.Meta v l c) i h e = absurd (cc)
  row_stands (row.Workstation w a) i h e = subst (StandsIn (bare P.contents)) (same_Some _ i e) h
  row_stands (row.Interval w x) i h e = subst (StandsIn (bare P.contents)) (same_Some _ i e) h
  row_stands (row.Resource n a) i h e =
      let quantity = quantity_told P valid rows are said is_said n h.0 h.1 in
      subst (StandsIn (bare P.contents)) (same_Some _ i e) (h.1 ∙ (λ t. Some (record { available = h.2 t; quantity = sym quantity t })))
  row_stands (row.Occurrence c p d s) i h e = subst (StandsIn (bare P.contents)) (same_Some _ i e) h.0
  row_stands (row.Operation r) i h e =
      let c = is_found (get P.contents.occurrences r.op.occurrence) (valid.occurrences.each_operation r.op h.op h.is_in_plan).1 in
      subst (StandsIn (bare P.contents)) (same_Some _ i e) (untouched h.op, c.0, now each untouched P.contents r.op h.op h.is_in_plan, c.1, operation_stands r h c.0)
  row_stands (row.Dependency p s) i h e = subst (StandsIn (bare P.contents)) (same_Some _ i e) h
  row_stands (row.Need o r m k) i h e = subst (StandsIn (bare P.contents)) (same_Some _ i e) (untouched h.0, now each untouched P.contents o h.0 h.1, (need_told o r m k h))
  row_stands (row.Quantity r n) i h e = absurd (cc)
  row_stands (row.Amount o r n) i h e = absurd (cc)

  -- ---- all rows of the plan
  abbrev items : List Item
  items = filter_map (as_item said) rows

  -- the row that says an item
  said_by : (i : Item) → Contains items i → (r : PlanRow) × IsRow P r × (as_item said r ≡ Some i)
  said_by i has = let r = from_filter (as_item said) rows i has in (r.0, (are.has_all r.0).0 r.1, r.2)

  pub items_in_range : All IsItem items
  items_in_range = all_by_members IsItem items (λ i has. let r = said_by i has in row_in_range r.0 i r.1 r.2)

  items_stand : All (StandsIn (bare P.contents)) items
  items_stand = all_by_members (StandsIn (bare P.contents)) items (λ i has. let r = said_by i has in row_stands r.0 i r.1 r.2)

  items_differ : AllPairs (λ a b. items_of.key_of a ≢ items_of.key_of b) items
  items_differ =
      pairs_from_differ (λ a b. items_of.key_of a ≢ items_of.key_of b) items
      (differ_filter (as_item said) (λ a b. rows_of.key_of a ≢ rows_of.key_of b) (λ a b. items_of.key_of a ≢ items_of.key_of b)
      (λ a b y z e k apart same. apart (sym (item_key said a y e) ∙ same ∙ item_key said b z k)) rows (keys_differ P valid rows are))

  -- what a row says is among the items
  abbrev IsSaid : RowKey → Type 0
  IsSaid k = (i : Item) × Contains items i × (items_of.key_of i ≡ k)

  is_among : (r : PlanRow) (i : Item) → IsRow P r → as_item said r ≡ Some i → IsSaid (rows_of.key_of r)
  is_among r i h e = (i, in_filter (as_item said) rows r i ((are.has_all r).1 h) e, item_key said r i e)

  all_said : (k : RowKey) → IsItemOfPlan (bare P.contents) k → IsSaid k
  all_said key.Meta e = absurd e
  all_said (key.Workstation w) e =
      let found = is_found (get P.contents.workstations w) e in
      is_among (row.Workstation w found.0.attribute) _ (ap (option_map (λ ws. ws.attribute)) found.1) refl
  all_said (key.Interval w m) (ws, there, e) =
      let found = is_found (get ws.intervals m) e in
      let from = ((valid.workstations w ws there).1.intervals m found.0 found.1).0 in
      subst (λ z. IsSaid (key.Interval w z)) (sym from) (is_among (row.Interval w found.0) _ (ws, there, subst (λ z. get ws.intervals z ≡ Some found.0) from found.1) refl)
  all_said (key.Resource r) e = let found = is_found (get P.contents.resources r) e in is_among (row.Resource r found.0.available) _ (found.0, found.1, refl) refl
  all_said (key.Occurrence c) e =
      let found = is_found (get P.contents.occurrences c) e in
      let s = some_occurrence_status P.contents valid.acyclic c in
      is_among (row.Occurrence c found.0.priority found.0.deadline s.0) _ (found.1, s.1) refl
  all_said (key.Operation o) e =
      let found = is_found (get (bare P.contents).operations o) e in
      let first = was each untouched P.contents o found.0 found.1 in
      let r = some_row P.contents valid o first.0 first.1 in
      subst (λ z. IsSaid (key.Operation z)) r.1 (is_among (row.Operation r.0) _ r.2 refl)
  all_said (key.Dependency p s) e = is_among (row.Dependency p s) _ e refl
  all_said (key.Need o n) (op, there, e) =
      let first = was each untouched P.contents o op there in
      let found = is_found (get first.0.needs n) (subst (λ (z : Operation). contains_key z.needs n ≡ true) (sym first.2) e) in
      is_among (row.Need o n found.0.claim.mode found.0.keep) _ (first.0, first.1, (found.0, found.1, refl, refl)) refl
  all_said (key.Quantity r) e = absurd e
  all_said (key.Amount o r) e = absurd e

  pub items_of_bare : AreItemsOf items (bare P.contents)
  items_of_bare = record { draft = bare_is_draft P.contents valid; are = record { distinct = items_differ; stand = items_stand; all = all_said } }
