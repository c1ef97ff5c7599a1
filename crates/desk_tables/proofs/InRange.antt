-- The rows of a sound plan: their names and numbers are in the ranges of their types.
use Rattle.std.proofs.Common.{◌≡◌, inl, inr, refl, sym, ap, ◌∙◌, subst, arith, ℕ, ◌≤◌, length, true}
use Rattle.std.proofs.lemmas.Bool.{cases_order}
use Rattle.std.proofs.lemmas.List.{length-map}
use Rattle.std.specs.FinMap.{contains_key, entries, get, keys, len, len-entries}
use Rattle.std.specs.List.Sorted.{IsStrictlySortedBy}
use Rattle.plan_basics.specs.Keys.{Name, operation_cmp, operation_cmp-IsAntisymmetric, operation_cmp_total}
use Rattle.plan_basics.specs.Minutes.{IsMoment}
use Rattle.plan_basics.specs.Names.{IsName}
use Rattle.plan_basics.specs.declared.keys.OpKey.{OpKey}
use Rattle.status_rules.specs.Texts.{HasLegalCode}
use Rattle.status_rules.specs.declared.Mark.{Mark}
use Rattle.status_rules.specs.declared.Mark.TheVariants as mark
use Rattle.special_resources.specs.Holders.{IsAmount}
use Rattle.special_resources.specs.declared.Claim.{Claim}
use Rattle.plan_model.specs.Contents.{Contents, IsInPlan}
use Rattle.plan_model.specs.Plan.{Plan, IsSoundPlan}
use Rattle.plan_model.specs.Valid.{IsValid}
use Rattle.plan_model.proofs.Entries.{entries_in_order}
use Rattle.plan_model.proofs.Members.{in_keys}
use Rattle.plan_records.specs.plan_drafts.proofs.Needed.{mapped}
use Rattle.plan_records.specs.plan_drafts.proofs.Tables.{is_found, some_is}
use Rattle.plan_records.specs.Rows.{IsCount, IsOperationRow, IsRow}
use Rattle.plan_records.specs.declared.OperationRow.{OperationRow}
use Rattle.plan_records.specs.declared.PlanRow.{PlanRow}
use Rattle.plan_records.specs.declared.PlanRow.TheVariants as row
use Rattle.tracker_receipts.specs.plan_laws.proofs.Sorted.{sorted_unique}
use Rattle.plan_core.specs.plan_status.proofs.Counting.{Within, all_within}
use Rattle.store_reads.specs.Versions.{IsRowBy}
use Rattle.store_schema.specs.declared.texts.Version.{Version}
use Rattle.store_schema.specs.declared.texts.Version.TheVariants.{First, Second}
use Rattle.store_reads.specs.Rows.{IsInRange, IsKeyInRange, IsOperationInRange}

-- no more operations are counted than the plan has
few_counted : (P : Contents) (S : OpKey → Type 0) (n : ℕ) → ((o : OpKey) → S o → IsInPlan P o) → IsCount S n → n ≤ len P.operations
few_counted P S n in_plan counted = elim (cases_order n (len P.operations)) [
  | inl same ↦ omega (arith, same)
  | inr (inl fewer) ↦ omega (arith, fewer)
  | inr (inr more) ↦ let e = ap length (all_of_them (omega (arith, more, size, counted.3))) in absurd (omega (arith, more, e, size, counted.3))
]
  where
    size : length (keys P.operations) ≡ len P.operations
    size = length-map (entries P.operations) (λ e. e.0) ∙ sym (len-entries P.operations)

    ascend : IsStrictlySortedBy operation_cmp (keys P.operations)
    ascend = entries_in_order operation_cmp P.operations

    among : Within counted.0 (keys P.operations)
    among o has = let there = in_plan o ((counted.2 o).0 has) in in_keys operation_cmp-IsAntisymmetric P.operations o there.0 there.1

    all_of_them : length (keys P.operations) ≤ length counted.0 → counted.0 ≡ keys P.operations
    all_of_them long =
        sorted_unique operation_cmp_total counted.0 (keys P.operations) counted.1 ascend among
        (all_within operation_cmp_total counted.0 (keys P.operations) counted.1 ascend among long)

-- where the code of an error is a name, the mark's code is legal
legal_code : (m : Mark) → ((code : Name) → m ≡ mark.Error code → IsName 4 code) → HasLegalCode m
legal_code (mark.Error code) each = each code refl
legal_code _ each = tt

module _ (P : Plan) (sound : IsSoundPlan P) where
  valid : IsValid P.contents
  valid = sound.contents.valid

  key_in_range : (o : OpKey) → contains_key P.contents.operations o ≡ true → IsKeyInRange o
  key_in_range o there =
      let found = is_found (get P.contents.operations o) there in
      let key = (valid.occurrences.each_operation o found.0 found.1).0.key in
      (key.0, omega (arith, key.2))

  operation_in_range : (r : OperationRow) → IsOperationRow P.contents r → IsOperationInRange r
  operation_in_range r x =
      let is = (valid.occurrences.each_operation r.op x.op x.is_in_plan).0 in
      let few = few_counted P.contents _ r.waiting (λ p unsatisfied. let live = unsatisfied.0.1 in (live.0, live.1, tt)) x.waiting in
      record {
        op = key_in_range r.op (some_is (get P.contents.operations r.op) x.op x.is_in_plan);
        ws = subst (IsName 4) (sym x.columns.0) is.workstation;
        duration = omega (arith, x.columns.1, is.duration.1);
        r1 = omega (arith, x.columns.2, is.fixed.0);
        r2 = omega (arith, x.columns.3, is.fixed.1);
        not_before = subst IsMoment (sym x.columns.4) is.not_before;
        deadline = subst IsMoment (sym x.columns.5) is.deadline;
        mark = legal_code r.mark (λ code e. is.code code (sym x.columns.6 ∙ e));
        waiting = omega (arith, few, valid.limits.operations);
      }

  -- each row of the plan
  pub sound_in_range : (r : PlanRow) → IsRow P r → IsInRange r
  sound_in_range (row.Meta version loaded clock) h = (omega (arith, h.0), subst IsMoment (sym h.2) sound.clock)
  sound_in_range (row.Workstation name a) h = let found = mapped (λ ws. ws.attribute) (get P.contents.workstations name) a h in (valid.workstations name found.0 found.1).0
  sound_in_range (row.Interval w i) h = let is = valid.workstations w h.0 h.1 in (is.0, (is.1.intervals i.from i h.2).1)
  sound_in_range (row.Resource name available) h = (valid.resources name h.0 h.1).0
  sound_in_range (row.Occurrence c priority deadline status) h =
      let is = valid.occurrences.each_occurrence c (record { priority = priority; deadline = deadline }) h.0 in
      (is.key, omega (arith, is.priority.1), is.deadline)
  sound_in_range (row.Operation r) h = operation_in_range r h
  sound_in_range (row.Dependency p s) h = let ends = valid.pairs p s h in (key_in_range p ends.0, key_in_range s ends.1)
  sound_in_range (row.Need o r mode keep) h =
      let is = (valid.occurrences.each_operation o h.0 h.1).0 in
      (key_in_range o (some_is (get P.contents.operations o) h.0 h.1), (is.needs r h.2.0 h.2.1).0)
  sound_in_range (row.Quantity r quantity) h =
      let is = valid.resources r h.0 h.1 in
      let few = is.2 in
      (is.0, omega (arith, few, h.2))
  sound_in_range (row.Amount o r amount) h =
      let is = (valid.occurrences.each_operation o h.0 h.1).0 in
      let need = is.needs r h.2.0 h.2.1 in
      let most = (subst (λ (claim : Claim). IsAmount claim.mode claim.amount) h.2.2 need.1).1 in
      (key_in_range o (some_is (get P.contents.operations o) h.0 h.1), need.0, omega (arith, most))

  -- and in the tables of either version
  pub in_range : (version : Version) (r : PlanRow) → IsRowBy version P r → IsInRange r
  in_range Second r h = sound_in_range r h
  in_range First (row.Meta version loaded clock) h = (omega (arith, h.0), subst IsMoment (sym h.2) sound.clock)
  in_range First r h = sound_in_range r h
