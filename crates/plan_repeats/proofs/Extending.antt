-- An extension that is accepted again at once changes nothing: what it added leaves, where it is complete at once, and is added again as it was.
use Rattle.std.proofs.Common.{◌≡◌, ◌↔◌, inl, inr, refl, sym, ◌∙◌, ap, true≢false, ℕ, Bool, true, false, ◌||◌, ◌&&◌, cond, List, Option, Some, None, is_some}
use Rattle.std.proofs.lemmas.Bool.{false_from_ne_true, or_cases}
use Rattle.std.specs.Cmp.{IsTotalOrder}
use Rattle.std.specs.FinMap.{FinMap, IsAntisymmetric, contains_key, get, get-retain_keys, retain_keys, same_map}
use Rattle.std.specs.FinSet as set
use Rattle.std.specs.declared.cmp.Ordering.{Ordering}
use Rattle.plan_basics.specs.Keys.{occurrence_cmp-IsAntisymmetric, occurrence_cmp_total, operation_cmp-IsAntisymmetric, operation_cmp_total}
use Rattle.plan_basics.specs.declared.Refusal.TheVariants as refusal
use Rattle.plan_basics.specs.declared.keys.OccKey.{OccKey}
use Rattle.plan_basics.specs.declared.keys.OpKey.{OpKey}
use Rattle.status_rules.specs.declared.Mark.TheVariants as mark
use Rattle.status_rules.specs.declared.Status.TheVariants as status
use Rattle.ready_list.specs.Choice.{is_among}
use Rattle.plan_drafts.specs.Drafts.{IsExtension}
use Rattle.plan_drafts.proofs.Tables.{is_found}
use Rattle.plan_laws.proofs.Leaving.{left_valid, stays_known}
use Rattle.plan_laws.proofs.Pairs.{pair_cmp-IsAntisymmetric, pair_cmp_total}
use Rattle.plan_laws.proofs.Standing.{one_status}
use Rattle.plan_laws.proofs.Tables.{by_mark_of}
use Rattle.plan_records.specs.Acceptance.{MayBeAdded}
use Rattle.plan_records.specs.Changes.{IsOver, with_added, with_only}
use Rattle.plan_model.specs.Contents.{AddedParts, Contents, Operation, Pairs}
use Rattle.plan_model.specs.Ready.{IsChosen, named}
use Rattle.plan_model.specs.Revise.{get-joined, joined, or_else}
use Rattle.plan_model.specs.Valid.{IsAcyclic, IsValid}
use Rattle.plan_status.proofs.Naming.{named_if, row_after, row_before}
use Rattle.plan_repeats.proofs.Adding.{joined_known}
use Rattle.plan_repeats.proofs.NotOver.{not_over}

-- ---- maps and sets of which some part goes and comes again

module _ {K X : Type 0} {R : K → K → Ordering} (total : IsTotalOrder R) (same : IsAntisymmetric R) (m n : FinMap R X) (p : K → Bool)
    (within : (k : K) (x : X) → get n k ≡ Some x → get m k ≡ Some x) (stays : (k : K) (x : X) → get n k ≡ None → get m k ≡ Some x → p k ≡ true) where
  either : (b : Bool) → cond {A = Option X} b None None ≡ None
  either true = refl
  either false = refl

  found_again : (k : K) (a b : Option X) → get n k ≡ a → get m k ≡ b → or_else a (get (retain_keys m p) k) ≡ b
  found_again k (Some x) b e f = sym (within k x e) ∙ f
  found_again k None (Some y) e f = get-retain_keys m p k (λ x h. ap p (sym (same k x h))) ∙ ap (λ t. cond t (get m k) None) (stays k y e f) ∙ f
  found_again k None None e f = get-retain_keys m p k (λ x h. ap p (sym (same k x h))) ∙ ap (λ z. cond (p k) z None) f ∙ either (p k)

  -- what goes and comes again is there as it was
  pub joined_again : joined (retain_keys m p) n ≡ m
  joined_again = same_map total same (joined (retain_keys m p) n) m (λ k. get-joined total (retain_keys m p) n k ∙ found_again k (get n k) (get m k) refl refl)

module _ (pairs more : Pairs) (p : OpKey × OpKey → Bool) (within : (x : OpKey × OpKey) → set.contains more x ≡ true → set.contains pairs x ≡ true)
    (stays : (x : OpKey × OpKey) → set.contains more x ≡ false → set.contains pairs x ≡ true → p x ≡ true) where
  told_again : (a b c : Bool) → (b ≡ true → a ≡ true) → (b ≡ false → a ≡ true → c ≡ true) → ((a && c) || b) ≡ a
  told_again true true true f g = refl
  told_again true true false f g = refl
  told_again false true c f g = sym (f refl)
  told_again true false c f g = ap (λ z. (true && z) || false) (g refl refl)
  told_again false false c f g = refl

  -- so it is with pairs
  pub union_again : set.union (set.retain pairs p) more ≡ pairs
  union_again = set.same_set pair_cmp_total pair_cmp-IsAntisymmetric (set.union (set.retain pairs p) more) pairs (λ x.
      set.contains-union pair_cmp_total (set.retain pairs p) more x
      ∙ ap (λ b. b || set.contains more x) (set.contains-retain pairs p x (λ y e. ap p (sym (pair_cmp-IsAntisymmetric x y e))))
      ∙ told_again (set.contains pairs x) (set.contains more x) (p x) (within x) (stays x))

-- ---- the extension

module _ (P : Contents) (valid : IsValid P) (stays : OccKey → Bool) (tells : (c : OccKey) → (stays c ≡ true) ↔ ¬ IsOver P c) (s : AddedParts) (extension : IsExtension s) (new : MayBeAdded (with_only stays P) s refusal.Duplicate)
    (acyclic : IsAcyclic (with_added (with_only stays P) s).pairs) (m : ℕ) (chosen : List OpKey) (choice : IsChosen (with_added (with_only stays P) s) m chosen) where
  -- what is left once what is over has left
  abbrev left : Contents
  left = with_only stays P

  -- and with what is added
  abbrev grown : Contents
  grown = with_added left s

  -- and with those named that are chosen
  abbrev after : Contents
  after = named chosen grown

  module _ (stays_later : OccKey → Bool) (tells_later : (c : OccKey) → (stays_later c ≡ true) ↔ ¬ IsOver after c) (again : MayBeAdded (with_only stays_later after) s refusal.Duplicate) where
    -- what stayed stays
    stays_again : (c : OccKey) → contains_key left.occurrences c ≡ true → stays_later c ≡ true
    stays_again c h = (tells_later c).1 (not_over P valid stays tells s extension new acyclic m chosen choice c h)

    op_stays_again : (o : OpKey) → contains_key left.operations o ≡ true → stays_later o.occurrence ≡ true
    op_stays_again o h = let row = is_found (get left.operations o) h in stays_again o.occurrence ((left_valid P stays valid).occurrences.each_operation o row.0 row.1).1

    -- what was added leaves
    goes : (c : OccKey) → contains_key s.occurrences c ≡ true → stays_later c ≡ false
    goes c h = false_from_ne_true (stays_later c) (λ t.
        true≢false (sym (stays_known occurrence_cmp-IsAntisymmetric after.occurrences stays_later c t (joined_known occurrence_cmp_total left.occurrences s.occurrences c h)) ∙ again c h))

    -- so nothing of it is named
    none_named : (o : OpKey) (op : Operation) → get s.operations o ≡ Some op → is_among chosen o ≡ false
    none_named o op is = false_from_ne_true (is_among chosen o) (λ e.
        let row = row_after grown chosen o op (get-joined operation_cmp_total left.operations s.operations o ∙ ap (λ z. or_else z (get left.operations o)) is) in
        let started = by_mark_of after o (named_if (is_among chosen o) op) mark.Named status.Started row (ap (λ b. (named_if b op).mark) e) refl in
        let over_not : ¬ IsOver after o.occurrence = λ over. elim over [
          | inl complete ↦ let k = one_status after acyclic o status.Started status.Complete started (complete.0 o refl (named_if (is_among chosen o) op, row, tt)) in cc
          | inr deleted ↦ let k = one_status after acyclic o status.Started status.Deleted started (deleted.0 o refl (named_if (is_among chosen o) op, row, tt)) in cc
        ] in
        true≢false (sym ((tells_later o.occurrence).1 over_not) ∙ goes o.occurrence (extension.occurrences.each_operation o op is).1))

    operations_again : joined (retain_keys after.operations (λ o. stays_later o.occurrence)) s.operations ≡ after.operations
    operations_again = joined_again operation_cmp_total operation_cmp-IsAntisymmetric after.operations s.operations (λ o. stays_later o.occurrence)
        (λ o op is.
        row_after grown chosen o op (get-joined operation_cmp_total left.operations s.operations o ∙ ap (λ z. or_else z (get left.operations o)) is)
        ∙ ap (λ b. Some (named_if b op)) (none_named o op is))
        (λ o op none is.
        let row = row_before grown chosen o op is in
        let old : get left.operations o ≡ Some row.0 = sym (get-joined operation_cmp_total left.operations s.operations o ∙ ap (λ z. or_else z (get left.operations o)) none) ∙ row.1 in
        op_stays_again o (ap is_some old))

    occurrences_again : joined (retain_keys after.occurrences stays_later) s.occurrences ≡ after.occurrences
    occurrences_again = joined_again occurrence_cmp_total occurrence_cmp-IsAntisymmetric after.occurrences s.occurrences stays_later
        (λ c x is. get-joined occurrence_cmp_total left.occurrences s.occurrences c ∙ ap (λ z. or_else z (get left.occurrences c)) is)
        (λ c x none is.
        let old : get left.occurrences c ≡ Some x = sym (get-joined occurrence_cmp_total left.occurrences s.occurrences c ∙ ap (λ z. or_else z (get left.occurrences c)) none) ∙ is in
        stays_again c (ap is_some old))

    pairs_again : set.union (set.retain after.pairs (λ pair. stays_later pair.0.occurrence && stays_later pair.1.occurrence)) s.pairs ≡ after.pairs
    pairs_again = union_again after.pairs s.pairs (λ pair. stays_later pair.0.occurrence && stays_later pair.1.occurrence)
        (λ x h. set.contains-union pair_cmp_total left.pairs s.pairs x ∙ second (set.contains left.pairs x) (set.contains s.pairs x) h)
        (λ x none h. elim (or_cases (set.contains left.pairs x) (set.contains s.pairs x) (sym (set.contains-union pair_cmp_total left.pairs s.pairs x) ∙ h)) [
          | inl old ↦ let both = (left_valid P stays valid).pairs x.0 x.1 old in λ i. op_stays_again x.0 both.0 i && op_stays_again x.1 both.1 i
          | inr added ↦ absurd (true≢false (sym added ∙ none))
        ])
      where
        second : (a b : Bool) → b ≡ true → (a || b) ≡ true
        second true b e = refl
        second false b e = e

    -- the plan as the second extension makes it
    pub extended_twice : with_added (with_only stays_later after) s ≡ after
    extended_twice = λ i. record after { occurrences = occurrences_again i; operations = operations_again i; pairs = pairs_again i }
