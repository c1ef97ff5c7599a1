-- What the rule at an operation's place says of the operation.
use Rattle.std.proofs.Common.{◌≡◌, ◌⊎◌, inl, inr, refl, sym, ap, subst, ◌∙◌, true≢false, ℕ, true, false, not, ◌&&◌, ◌||◌, length, slice_get, Option, Some, None, option_map}
use Rattle.std.proofs.lemmas.Bool.{and_from, and_parts, not-true, or_cases, or_left, or_right}
use Rattle.std.proofs.lemmas.List.{length-map}
use Rattle.std.proofs.lemmas.Option.{get_or_from_slice_get, same_Some, slice_get-map}
use Rattle.std.specs.FinMap.{entries, get}
use Rattle.plan_basics.specs.declared.Attr.{Attr}
use Rattle.plan_basics.specs.declared.Attr.TheVariants.{Nonreporting}
use Rattle.plan_basics.specs.declared.keys.OpKey.{OpKey}
use Rattle.plan_status.specs.status_rules.specs.Classes.{is_live}
use Rattle.plan_status.specs.status_rules.specs.declared.Mark.{Mark}
use Rattle.plan_status.specs.status_rules.specs.declared.Mark.TheVariants as mark
use Rattle.satisfaction.specs.declared.nodes.Rule.{Rule}
use Rattle.satisfaction.specs.Counters.{IsGiven, IsPassing, no_rule, rule_at}
use Rattle.plan_status.specs.plan_model.specs.Contents.{Contents, Operation, attribute_at}
use Rattle.plan_status.specs.plan_model.specs.Status.{IsDoneOrDeleted, NeedsNoReport, PassesByItself}
use Rattle.plan_status.proofs.LoadedRows.{row_found}
use Rattle.counted_records.specs.Rules.{is_done_or_deleted, is_nonreporting, is_unmarked, rule_in, rules_of}

-- ---- marks and attributes

pub given_mark : (m : Mark) → is_done_or_deleted m ≡ true → (m ≡ mark.Done) ⊎ (m ≡ mark.Deleted)
given_mark mark.Done e = inl refl
given_mark mark.Deleted e = inr refl
given_mark m e = absurd (true≢false (sym e))

pub mark_given : (m : Mark) → (m ≡ mark.Done) ⊎ (m ≡ mark.Deleted) → is_done_or_deleted m ≡ true
mark_given m (inl done) = ap is_done_or_deleted done
mark_given m (inr deleted) = ap is_done_or_deleted deleted

pub dead_mark : (m : Mark) → is_live m ≡ false → m ≡ mark.Deleted
dead_mark mark.Deleted e = refl
dead_mark m e = absurd (true≢false e)

unmarked : (m : Mark) → is_unmarked m ≡ true → m ≡ mark.Unmarked
unmarked mark.Unmarked e = refl
unmarked m e = absurd (true≢false (sym e))

nonreporting : (a : Option Attr) → is_nonreporting a ≡ true → a ≡ Some Nonreporting
nonreporting (Some Nonreporting) e = refl
nonreporting (Some a) e = absurd (true≢false (sym e))
nonreporting None e = absurd (true≢false (sym e))

-- ---- rules

-- one for each operation
pub rules_size : (P : Contents) → length (rules_of P) ≡ length (entries P.operations)
rules_size P = length-map (entries P.operations) (λ (row : OpKey × Operation). rule_in P row.1)

module _ (P : Contents) (i : ℕ) (o : OpKey) (op : Operation) (at : slice_get (entries P.operations) i ≡ Some (o, op)) where
  -- at an operation's place is its rule
  pub rule_there : rule_at (rules_of P) i ≡ rule_in P op
  rule_there =
      get_or_from_slice_get (rules_of P) i (rule_in P op) no_rule
      (slice_get-map (λ (row : OpKey × Operation). rule_in P row.1) (entries P.operations) i ∙ ap (option_map (λ (row : OpKey × Operation). rule_in P row.1)) at)

  found : get P.operations o ≡ Some op
  found = row_found P i o op at

  -- it is given just where the operation is done or deleted
  pub given_there : IsGiven (rules_of P) i → IsDoneOrDeleted P o
  given_there h = (op, found, given_mark op.mark (sym (ap (λ (r : Rule). r.given) rule_there) ∙ h))

  pub is_given : (op.mark ≡ mark.Done) ⊎ (op.mark ≡ mark.Deleted) → IsGiven (rules_of P) i
  is_given h = ap (λ (r : Rule). r.given) rule_there ∙ mark_given op.mark h

  pub there_given : IsDoneOrDeleted P o → IsGiven (rules_of P) i
  there_given h = is_given (subst (λ (x : Operation). (x.mark ≡ mark.Done) ⊎ (x.mark ≡ mark.Deleted)) (same_Some h.0 op (sym h.1 ∙ found)) h.2)

  abbrev silent : Option Attr
  silent = attribute_at P op.workstation

  -- it passes just where the operation does by itself
  pub passing_there : IsPassing (rules_of P) i → PassesByItself P o
  passing_there h =
      let a = and_parts (is_unmarked op.mark) (not op.held && (op.nop || is_nonreporting silent)) (sym (ap (λ (r : Rule). r.passing) rule_there) ∙ h) in
      let b = and_parts (not op.held) (op.nop || is_nonreporting silent) a.1 in
      let c : NeedsNoReport P op = elim (or_cases op.nop (is_nonreporting silent) b.1) [ inl nop ↦ inl nop | inr s ↦ inr (nonreporting silent s) ] in
      (op, found, (unmarked op.mark a.0, not-true op.held b.0, c))

  passes : (op.mark ≡ mark.Unmarked) × (op.held ≡ false) × NeedsNoReport P op → IsPassing (rules_of P) i
  passes h =
      let c : (op.nop || is_nonreporting silent) ≡ true = elim h.2 [ inl nop ↦ or_left op.nop (is_nonreporting silent) nop | inr s ↦ or_right op.nop (is_nonreporting silent) (ap is_nonreporting s) ] in
      ap (λ (r : Rule). r.passing) rule_there ∙ and_from (is_unmarked op.mark) (not op.held && (op.nop || is_nonreporting silent)) (ap is_unmarked h.0) (and_from (not op.held) (op.nop || is_nonreporting silent) (ap not h.1) c)

  pub there_passing : PassesByItself P o → IsPassing (rules_of P) i
  there_passing h = passes (subst (λ (x : Operation). (x.mark ≡ mark.Unmarked) × (x.held ≡ false) × NeedsNoReport P x) (same_Some h.0 op (sym h.1 ∙ found)) h.2)
