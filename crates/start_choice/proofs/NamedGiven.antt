-- What workstations have given out, once one operation more is named.
use Rattle.std.proofs.Common.{◌≡◌, ◌≢◌, refl, sym, ap, subst, ◌∙◌, arith, ℕ, ◌+◌, ◌≤◌, Bool, true, false, ◌&&◌, ◌||◌, cond, T, List, [], ◌∷◌, ◌++◌, map, sum_by, Some, add-zero, zero-add}
use Rattle.std.proofs.lemmas.List.Sums.{sum_by-cons}
use Rattle.std.specs.Cmp.{eq_by_cmp_equiv}
use Rattle.std.specs.FinMap.{entries, entries_sorted, find, get, get-entries, len}
use Rattle.std.specs.FinMap.Entries.{below_all, is_sorted}
use Rattle.std.specs.Ordering.{eq_by_cmp, is_lt}
use Rattle.plan_basics.specs.declared.limits.TheConstants.{MOST_FIXED, MOST_OPERATIONS}
use Rattle.plan_basics.specs.Keys.{Name, name_cmp, operation_cmp, operation_cmp_total, operation_cmp-IsAntisymmetric}
use Rattle.plan_basics.specs.declared.Attr.TheVariants.{Automatic}
use Rattle.plan_basics.specs.declared.keys.OpKey.{OpKey}
use Rattle.status_rules.specs.declared.Mark.TheVariants as mark
use Rattle.status_rules.specs.Table.{marked_status}
use Rattle.ready_list.specs.Choice.{is_among}
use Rattle.plan_model.specs.Holdings.{given_out, holds_server, is_serving, sum_given_out, takes}
use Rattle.plan_model.specs.Contents.{Contents, Operation, HasAttribute, attribute_at}
use Rattle.plan_model.specs.Ready.{named, with_mark}
use Rattle.plan_model.specs.Revise.{len-revise}
use Rattle.plan_model.proofs.Looks.{as_named}
use Rattle.counted_records.specs.plan_drafts.proofs.MadeEntries.{bits_and, each_made, entries-revise, key_of, less_of, not_equal}
use Rattle.start_choice.specs.Takings.{IsAtMost, most_given_out, takes_server, with_one_more}
use Rattle.start_choice.proofs.GivenSums.{at_another, at_its_own, given_at_most, same_capacity}
use Rattle.counted_records.specs.plan_laws.proofs.Kept.{is_among-append}
use Rattle.counted_records.specs.plan_status.proofs.Naming.{row_before}
use Rattle.std.proofs.Math.Bool.{and-false, or-false}
use Rattle.std.proofs.lemmas.Bool.{or_right}

-- ---- a sum over entries that are made anew in two ways

abbrev sum_made : (Operation → ℕ) → (OpKey → Operation → Operation) → List (OpKey × Operation) → ℕ
sum_made f g es = sum_by f (map (λ e. e.1) (each_made g es))

made-cons : (f : Operation → ℕ) (g : OpKey → Operation → Operation) (e : OpKey × Operation) (es : List (OpKey × Operation)) → sum_made f g (e ∷ es) ≡ f (g e.0 e.1) + sum_made f g es
made-cons f g e es = sum_by-cons f (g e.0 e.1) (map (λ z. z.1) (each_made g es))

module _ (f : Operation → ℕ) (g h : OpKey → Operation → Operation) (k : OpKey) (v : Operation) (d : ℕ)
    (same : (o : OpKey) (op : Operation) → eq_by_cmp operation_cmp k o ≡ false → h o op ≡ g o op) (more : f (h k v) ≡ f (g k v) + d) where
  -- below all of them the key is none of theirs
  made_below : (es : List (OpKey × Operation)) → T (below_all operation_cmp k es) → sum_made f h es ≡ sum_made f g es
  made_below [] below = refl
  made_below (e ∷ es) below =
      let parts = bits_and (is_lt (operation_cmp k e.0)) (below_all operation_cmp k es) below in
      let first = ap f (same e.0 e.1 (not_equal (operation_cmp k e.0) (less_of (operation_cmp k e.0) parts.0))) in
      omega (arith, made-cons f h e es, made-cons f g e es, first, made_below es parts.1)

  at_head : (e : OpKey × Operation) (es : List (OpKey × Operation)) → T (below_all operation_cmp e.0 es) → (b : Bool) → eq_by_cmp operation_cmp k e.0 ≡ b
      → cond b (Some e.1) (find operation_cmp k es) ≡ Some v
      → (find operation_cmp k es ≡ Some v → sum_made f h es ≡ sum_made f g es + d) → sum_made f h (e ∷ es) ≡ sum_made f g (e ∷ es) + d
  at_head e es below true is found later =
      let key : k ≡ e.0 = key_of operation_cmp-IsAntisymmetric k e.0 is in
      let value : v ≡ e.1 = cc in
      let first : f (h e.0 e.1) ≡ f (g e.0 e.1) + d = subst (λ (z : OpKey × Operation). f (h z.0 z.1) ≡ f (g z.0 z.1) + d) (λ i. (key i, value i)) more in
      let rest = made_below es (subst (λ z. T (below_all operation_cmp z es)) (sym key) below) in
      omega (arith, made-cons f h e es, made-cons f g e es, first, rest)
  at_head e es below false is found later =
      let first = ap f (same e.0 e.1 is) in
      omega (arith, made-cons f h e es, made-cons f g e es, first, later found)

  -- a key that is found makes the difference once
  made_more : (es : List (OpKey × Operation)) → T (is_sorted operation_cmp es) → find operation_cmp k es ≡ Some v → sum_made f h es ≡ sum_made f g es + d
  made_more [] sorted found = cc
  made_more (e ∷ es) sorted found =
      let parts = bits_and (below_all operation_cmp e.0 es) (is_sorted operation_cmp es) sorted in
      at_head e es parts.0 (eq_by_cmp operation_cmp k e.0) refl found (made_more es parts.1)

-- ---- named, or not

pub same_number : (number : Operation → ℕ) → ((op : Operation) → number (with_mark mark.Named op) ≡ number op) → (b : Bool) (op : Operation) → number (cond b (with_mark mark.Named op) op) ≡ number op
same_number number same true op = same op
same_number number same false op = refl

module _ (os : List OpKey) (k : OpKey) where
  pub among_more : (o : OpKey) → is_among (os ++ k ∷ []) o ≡ (is_among os o || eq_by_cmp operation_cmp o k)
  among_more o = is_among-append os (k ∷ []) o ∙ ap (λ b. is_among os o || b) (or-false (eq_by_cmp operation_cmp o k))

  others_same : (o : OpKey) (op : Operation) → eq_by_cmp operation_cmp k o ≡ false → as_named (os ++ k ∷ []) o op ≡ as_named os o op
  others_same o op e =
      ap (λ b. cond b (with_mark mark.Named op) op) (among_more o ∙ ap (λ b. is_among os o || b) ((eq_by_cmp_equiv operation_cmp_total).symm o k ∙ e) ∙ or-false (is_among os o))

  it_is_named : (op : Operation) → as_named (os ++ k ∷ []) k op ≡ with_mark mark.Named op
  it_is_named op = ap (λ b. cond b (with_mark mark.Named op) op) (among_more k ∙ or_right (is_among os k) (eq_by_cmp operation_cmp k k) ((eq_by_cmp_equiv operation_cmp_total).refl k))

sum_named : (P : Contents) (os : List OpKey) (w : Name) (number : Operation → ℕ)
    → sum_given_out (named os P) w number ≡ sum_made (λ op. cond (is_serving P w op) (number op) 0) (as_named os) (entries P.operations)
sum_named P os w number =
    ap (λ es. sum_by (λ op. cond (is_serving P w op) (number op) 0) (map (λ e. e.1) es)) (entries-revise operation_cmp operation_cmp_total operation_cmp-IsAntisymmetric (as_named os) P.operations)

module _ (P : Contents) (os : List OpKey) where
  module _ (k : OpKey) (op : Operation) (is : get P.operations k ≡ Some op) (out : is_among os k ≡ false) (unmarked : op.mark ≡ mark.Unmarked)
      (automatic : HasAttribute P op.workstation Automatic) where
    -- named, it takes a server
    takes_one : takes_server P (with_mark mark.Named op) ≡ true
    takes_one = ap (λ a. takes a && true) automatic

    stays : as_named os k op ≡ op
    stays = ap (λ b. cond b (with_mark mark.Named op) op) out

    module _ (w : Name) (number : Operation → ℕ) (same : number (with_mark mark.Named op) ≡ number op) where
      abbrev taken_of : Operation → ℕ
      taken_of x = cond (is_serving P w x) (number x) 0

      more_if : (d : ℕ) → taken_of (with_mark mark.Named op) ≡ taken_of op + d → sum_given_out (named (os ++ k ∷ []) P) w number ≡ sum_given_out (named os P) w number + d
      more_if d e =
          sum_named P (os ++ k ∷ []) w number ∙ made_more taken_of (as_named os) (as_named (os ++ k ∷ [])) k op d (others_same os k)
          (ap taken_of (it_is_named os k op) ∙ e ∙ ap (λ x. taken_of x + d) (sym stays))
          (entries P.operations) (entries_sorted P.operations) (sym (get-entries P.operations k) ∙ is)
          ∙ ap (λ n. n + d) (sym (sum_named P os w number))

    none_before : (w : Name) → is_serving P w op ≡ false
    none_before w = elim (eq_by_cmp name_cmp op.workstation w) as (λ b. (b && (takes (attribute_at P w) && holds_server (marked_status op.mark))) ≡ false) [
      | true ↦ ap (λ m. takes (attribute_at P w) && holds_server (marked_status m)) unmarked ∙ and-false (takes (attribute_at P w))
      | false ↦ refl
    ]

    -- at its own workstation the sum goes up by its number
    sum_more : (number : Operation → ℕ) → number (with_mark mark.Named op) ≡ number op
        → sum_given_out (named (os ++ k ∷ []) P) op.workstation number ≡ sum_given_out (named os P) op.workstation number + number op
    sum_more number same =
        more_if op.workstation number same (number op)
        (ap (λ b. cond b (number (with_mark mark.Named op)) 0) (at_its_own P (with_mark mark.Named op) ∙ takes_one) ∙ same ∙ sym (zero-add (number op)) ∙ sym (ap (λ b. cond b (number op) 0 + number op) (none_before op.workstation)))

    -- at another it stays
    sum_same : (w : Name) → op.workstation ≢ w → (number : Operation → ℕ) → number (with_mark mark.Named op) ≡ number op
        → sum_given_out (named (os ++ k ∷ []) P) w number ≡ sum_given_out (named os P) w number
    sum_same w apart number same =
        more_if w number same 0
        (ap (λ b. cond b (number (with_mark mark.Named op)) 0) (at_another P (with_mark mark.Named op) w apart) ∙ sym (ap (λ b. cond b (number op) 0 + 0) (none_before w)))
        ∙ add-zero (sum_given_out (named os P) w number)

    pub named_gives : given_out (named (os ++ k ∷ []) P) op.workstation ≡ with_one_more (given_out (named os P) op.workstation) op
    named_gives =
        same_capacity (given_out (named (os ++ k ∷ []) P) op.workstation) (with_one_more (given_out (named os P) op.workstation) op)
        (sum_more (λ x. 1) refl) (sum_more (λ x. x.r1) refl) (sum_more (λ x. x.r2) refl)

    pub named_gives_none : (w : Name) → op.workstation ≢ w → given_out (named (os ++ k ∷ []) P) w ≡ given_out (named os P) w
    named_gives_none w apart =
        same_capacity (given_out (named (os ++ k ∷ []) P) w) (given_out (named os P) w)
        (sum_same w apart (λ x. 1) refl) (sum_same w apart (λ x. x.r1) refl) (sum_same w apart (λ x. x.r2) refl)

  -- each of at most 99, named or not
  pub named_at_most : len P.operations ≤ MOST_OPERATIONS → ((o : OpKey) (op : Operation) → get P.operations o ≡ Some op → (op.r1 ≤ MOST_FIXED) × (op.r2 ≤ MOST_FIXED)) → (w : Name) → IsAtMost most_given_out (given_out (named os P) w)
  named_at_most few each w =
      given_at_most (named os P) (subst (λ n. n ≤ MOST_OPERATIONS) (sym (len-revise (as_named os) P.operations)) few) w
      (λ o op is.
      let before = row_before P os o op is in
      let small = each o before.0 before.1 in (
        subst (λ n. n ≤ MOST_FIXED) (sym (same_number (λ x. x.r1) (λ x. refl) (is_among os o) before.0) ∙ ap (λ (x : Operation). x.r1) before.2) small.0,
        subst (λ n. n ≤ MOST_FIXED) (sym (same_number (λ x. x.r2) (λ x. refl) (is_among os o) before.0) ∙ ap (λ (x : Operation). x.r2) before.2) small.1,
      ))
