-- What workstations have given out, row by row, and by indices.
use Rattle.std.proofs.Common.{◌≡◌, ◌≢◌, refl, sym, ap, ◌∙◌, arith, ℕ, ◌+◌, ◌*◌, ◌≤◌, Bool, true, false, ◌&&◌, cond, List, [], ◌∷◌, ◌++◌, length, map, slice_get, sum_by, take, Some, add-zero}
use Rattle.std.proofs.lemmas.List.{take_more}
use Rattle.std.proofs.lemmas.List.Sums.{sum_by-cons, sum_by-take-le, sum_by_push}
use Rattle.std.proofs.lemmas.Option.{get_or_from_slice_get, slice_get_within}
use Rattle.std.specs.Cmp.{eq_by_cmp_equiv}
use Rattle.std.specs.List.{AllByRecursion}
use Rattle.std.specs.Ordering.{eq_by_cmp}
use Rattle.std.specs.FinMap.{entries, get, len, len-entries}
use Rattle.plan_basics.specs.declared.limits.TheConstants.{MOST_FIXED, MOST_OPERATIONS}
use Rattle.plan_basics.specs.Keys.{Name, name_cmp, name_cmp_total, name_cmp-IsAntisymmetric, operation_cmp, operation_cmp_total, operation_cmp-IsAntisymmetric}
use Rattle.plan_basics.specs.declared.keys.OpKey.{OpKey}
use Rattle.status_rules.specs.Table.{marked_status}
use Rattle.plan_model.specs.Holdings.{given_out, holds_server, is_serving, sum_given_out, takes}
use Rattle.plan_model.specs.Contents.{Contents, Operation, attribute_at}
use Rattle.counted_records.specs.plan_drafts.proofs.MadeEntries.{each_entry, key_of}
use Rattle.workstations.specs.declared.Capacity.{Capacity}
use Rattle.start_choice.specs.Takings.{IsAtMost, most_given_out, takes_server, with_one_more}

-- ---- sums over rows

-- the sum over the operations of these rows that hold a server of the workstation
abbrev pub sum_among : Contents → Name → (Operation → ℕ) → List (OpKey × Operation) → ℕ
sum_among P w number rows = sum_by (λ e. cond (is_serving P w e.1) (number e.1) 0) rows

-- what these rows' operations take of the workstation
abbrev pub given_among : Contents → List (OpKey × Operation) → Name → Capacity
given_among P rows w = record { servers = sum_among P w (λ op. 1) rows; r1 = sum_among P w (λ op. op.r1) rows; r2 = sum_among P w (λ op. op.r2) rows }

pub sum_by-map : {X Y : Type 0} (f : Y → ℕ) (g : X → Y) (xs : List X) → sum_by f (map g xs) ≡ sum_by (λ x. f (g x)) xs
sum_by-map f g [] = refl
sum_by-map f g (x ∷ xs) = omega (arith, sum_by-cons f (g x) (map g xs), sum_by-cons (λ y. f (g y)) x xs, sum_by-map f g xs)

sum_all : (P : Contents) (w : Name) (number : Operation → ℕ) (rows : List (OpKey × Operation)) → entries P.operations ≡ rows → sum_given_out P w number ≡ sum_among P w number rows
sum_all P w number rows is = sum_by-map (λ op. cond (is_serving P w op) (number op) 0) (λ e. e.1) (entries P.operations) ∙ ap (sum_among P w number) is

pub same_capacity : (a b : Capacity) → a.servers ≡ b.servers → a.r1 ≡ b.r1 → a.r2 ≡ b.r2 → a ≡ b
same_capacity a b s f g = λ i. record { servers = s i; r1 = f i; r2 = g i }

-- its entries give out what a plan does
pub given_all : (P : Contents) (w : Name) → given_out P w ≡ given_among P (entries P.operations) w
given_all P w =
    same_capacity (given_out P w) (given_among P (entries P.operations) w) (sum_all P w (λ op. 1) (entries P.operations) refl) (sum_all P w (λ op. op.r1) (entries P.operations) refl) (sum_all P w (λ op. op.r2) (entries P.operations) refl)

-- ---- how much at most

each_at_most : {X : Type 0} (f : X → ℕ) (xs : List X) → AllByRecursion (λ x. f x ≤ MOST_FIXED) xs → sum_by f xs ≤ MOST_FIXED * length xs
each_at_most f [] h = omega arith
each_at_most f (x ∷ xs) h = omega (arith, sum_by-cons f x xs, h.0, each_at_most f xs h.1)

pub at_most_or_none : (b : Bool) (n : ℕ) → n ≤ MOST_FIXED → cond b n 0 ≤ MOST_FIXED
at_most_or_none true n h = h
at_most_or_none false n h = omega arith

module _ (P : Contents) (few : len P.operations ≤ MOST_OPERATIONS) (w : Name) where
  sum_at_most : (number : Operation → ℕ) → ((o : OpKey) (op : Operation) → get P.operations o ≡ Some op → number op ≤ MOST_FIXED) → sum_given_out P w number ≤ most_given_out
  sum_at_most number each =
      let most = each_at_most (λ (e : OpKey × Operation). cond (is_serving P w e.1) (number e.1) 0) (entries P.operations)
      (each_entry operation_cmp operation_cmp_total operation_cmp-IsAntisymmetric (λ o op. cond (is_serving P w op) (number op) 0 ≤ MOST_FIXED) P.operations (λ o op is. at_most_or_none (is_serving P w op) (number op) (each o op is))) in
      omega (arith, most, few, len-entries P.operations, sum_all P w number (entries P.operations) refl)

  -- where each needs no more than it may
  pub given_at_most : ((o : OpKey) (op : Operation) → get P.operations o ≡ Some op → (op.r1 ≤ MOST_FIXED) × (op.r2 ≤ MOST_FIXED)) → IsAtMost most_given_out (given_out P w)
  given_at_most each = record {
    servers = sum_at_most (λ op. 1) (λ o op is. omega arith);
    r1 = sum_at_most (λ op. op.r1) (λ o op is. (each o op is).0);
    r2 = sum_at_most (λ op. op.r2) (λ o op is. (each o op is).1);
  }

-- the first rows give out no more than all
pub first_at_most : (P : Contents) (rows : List (OpKey × Operation)) (i : ℕ) (w : Name) (limit : ℕ) → IsAtMost limit (given_among P rows w) → IsAtMost limit (given_among P (take i rows) w)
first_at_most P rows i w limit h =
    let a = sum_by-take-le (λ (e : OpKey × Operation). cond {A = ℕ} (is_serving P w e.1) 1 0) rows i in
    let b = sum_by-take-le (λ (e : OpKey × Operation). cond (is_serving P w e.1) e.1.r1 0) rows i in
    let d = sum_by-take-le (λ (e : OpKey × Operation). cond (is_serving P w e.1) e.1.r2 0) rows i in
    record { servers = omega (arith, a, h.servers); r1 = omega (arith, b, h.r1); r2 = omega (arith, d, h.r2) }

-- ---- one row more

module _ (P : Contents) (rows : List (OpKey × Operation)) (i : ℕ) (o : OpKey) (op : Operation) (row : slice_get rows i ≡ Some (o, op)) (w : Name) where
  sum_more : (number : Operation → ℕ) → sum_among P w number (take (i + 1) rows) ≡ sum_among P w number (take i rows) + cond (is_serving P w op) (number op) 0
  sum_more number =
      ap (sum_among P w number) (take_more rows i (o, op) (slice_get_within rows i (o, op) row) ∙ ap (λ e. take i rows ++ e ∷ []) (get_or_from_slice_get rows i (o, op) (o, op) row))
      ∙ sum_by_push (λ (e : OpKey × Operation). cond (is_serving P w e.1) (number e.1) 0) (take i rows) (o, op)

  pub row_gives : is_serving P w op ≡ true → given_among P (take (i + 1) rows) w ≡ with_one_more (given_among P (take i rows) w) op
  row_gives serves =
      let more : (number : Operation → ℕ) → sum_among P w number (take (i + 1) rows) ≡ sum_among P w number (take i rows) + number op =
      λ number. sum_more number ∙ ap (λ b. sum_among P w number (take i rows) + cond b (number op) 0) serves in
      same_capacity (given_among P (take (i + 1) rows) w) (with_one_more (given_among P (take i rows) w) op) (more (λ x. 1)) (more (λ x. x.r1)) (more (λ x. x.r2))

  pub row_gives_none : is_serving P w op ≡ false → given_among P (take (i + 1) rows) w ≡ given_among P (take i rows) w
  row_gives_none none =
      let same : (number : Operation → ℕ) → sum_among P w number (take (i + 1) rows) ≡ sum_among P w number (take i rows) =
      λ number. sum_more number ∙ ap (λ b. sum_among P w number (take i rows) + cond b (number op) 0) none ∙ add-zero (sum_among P w number (take i rows)) in
      same_capacity (given_among P (take (i + 1) rows) w) (given_among P (take i rows) w) (same (λ x. 1)) (same (λ x. x.r1)) (same (λ x. x.r2))

-- ---- whether an operation holds a server of a workstation

pub at_its_own : (P : Contents) (op : Operation) → is_serving P op.workstation op ≡ takes_server P op
at_its_own P op = ap (λ b. b && takes_server P op) (itself op.workstation)
  where
    itself : (w : Name) → eq_by_cmp name_cmp w w ≡ true
    itself w = (eq_by_cmp_equiv name_cmp_total).refl w

by_name : (P : Contents) (op : Operation) (w : Name) (b : Bool) → eq_by_cmp name_cmp op.workstation w ≡ b → (b ≡ true → takes_server P op ≡ false)
    → (b && (takes (attribute_at P w) && holds_server (marked_status op.mark))) ≡ false
by_name P op w true e none = ap (λ n. takes (attribute_at P n) && holds_server (marked_status op.mark)) (sym (key_of name_cmp-IsAntisymmetric op.workstation w e)) ∙ none refl
by_name P op w false e none = refl

-- at another it holds none
pub at_another : (P : Contents) (op : Operation) (w : Name) → op.workstation ≢ w → is_serving P w op ≡ false
at_another P op w apart = by_name P op w (eq_by_cmp name_cmp op.workstation w) refl (λ e. absurd (apart (key_of name_cmp-IsAntisymmetric op.workstation w e)))

-- what takes none holds none anywhere
pub at_none : (P : Contents) (op : Operation) → takes_server P op ≡ false → (w : Name) → is_serving P w op ≡ false
at_none P op none w = by_name P op w (eq_by_cmp name_cmp op.workstation w) refl (λ e. none)
