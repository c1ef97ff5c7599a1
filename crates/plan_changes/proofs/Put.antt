-- One value of a map put in anew.
use Rattle.std.proofs.Common.{◌≡◌, refl, sym, ap, ◌∙◌, Bool, true, false, ◌||◌, cond, List, [], ◌∷◌, ◌++◌, Option, Some, None, option_map, Ordering}
use Rattle.std.specs.Cmp.{IsTotalOrder}
use Rattle.std.specs.FinMap.{FinMap, IsAntisymmetric, get, get-insert, insert, same_map}
use Rattle.std.specs.Ordering.{eq_by_cmp}
use Rattle.plan_basics.specs.Keys.{operation_cmp, operation_cmp_total, operation_cmp-IsAntisymmetric}
use Rattle.plan_basics.specs.declared.keys.OpKey.{OpKey}
use Rattle.plan_records.specs.status_rules.specs.declared.Mark.{Mark}
use Rattle.ready_list.specs.Choice.{is_among}
use Rattle.plan_records.specs.plan_drafts.proofs.MadeEntries.{key_of}
use Rattle.plan_records.specs.plan_model.specs.Contents.{Operation, Operations}
use Rattle.plan_records.specs.plan_model.specs.Ready.{with_mark}
use Rattle.plan_records.specs.plan_model.specs.Revise.{get-revise, revise}

put_by : {X : Type 0} (f : X → X) (v : X) (e : Bool) (y : Option X) → (e ≡ true → y ≡ Some v) → cond e (Some (f v)) y ≡ option_map (λ z. cond e (f z) z) y
put_by f v true y h = sym (ap (option_map f) (h refl))
put_by f v false None h = refl
put_by f v false (Some z) h = refl

-- to put in what f makes of the value at k is to make that one anew
pub put_made : {K X : Type 0} {R : K → K → Ordering} → IsTotalOrder R → IsAntisymmetric R → (k : K) (f : X → X) (m : FinMap R X) (v : X) → get m k ≡ Some v
    → insert m k (f v) ≡ revise (λ q x. cond (eq_by_cmp R q k) (f x) x) m
put_made {R = R} o exact k f m v known = same_map o exact (insert m k (f v)) (revise (λ q x. cond (eq_by_cmp R q k) (f x) x) m) (λ q.
    get-insert o m k (f v) q
    ∙ put_by f v (eq_by_cmp R q k) (get m q) (λ e. ap (get m) (key_of exact q k e) ∙ known)
    ∙ sym (get-revise exact (λ q x. cond (eq_by_cmp R q k) (f x) x) m q))

-- ---- marks

abbrev pub made : List OpKey → Mark → OpKey → Operation → Operation
made os mark o op = cond (is_among os o) (with_mark mark op) op

among_append : (os : List OpKey) (k o : OpKey) → is_among (os ++ k ∷ []) o ≡ (is_among os o || (eq_by_cmp operation_cmp o k || false))
among_append [] k o = refl
among_append (x ∷ os) k o = elim (eq_by_cmp operation_cmp o x) as (λ b. (b || is_among (os ++ k ∷ []) o) ≡ ((b || is_among os o) || (eq_by_cmp operation_cmp o k || false))) [
  | true ↦ refl
  | false ↦ among_append os k o
]

module _ (mark : Mark) where
  abbrev by : Bool → Operation → Operation
  by b op = cond b (with_mark mark op) op

  marks : (a e : Bool) (op : Operation) (x : Option Operation) → (e ≡ true → x ≡ Some op) → cond e (Some (with_mark mark op)) (option_map (by a) x) ≡ option_map (by (a || (e || false))) x
  marks true true op x h = sym (ap (option_map (with_mark mark)) (h refl))
  marks false true op x h = sym (ap (option_map (with_mark mark)) (h refl))
  marks true false op x h = refl
  marks false false op x h = refl

  marks_none : (a e : Bool) (x : Option Operation) → (e ≡ true → x ≡ None) → option_map (by a) x ≡ option_map (by (a || (e || false))) x
  marks_none true e x h = refl
  marks_none false false x h = refl
  marks_none false true x h = ap (option_map (by false)) (h refl) ∙ sym (ap (option_map (by true)) (h refl))

  module _ (os : List OpKey) (k : OpKey) (m : Operations) where
    more : (q : OpKey) → option_map (by (is_among os q || (eq_by_cmp operation_cmp q k || false))) (get m q) ≡ get (revise (made (os ++ k ∷ []) mark) m) q
    more q = ap (λ b. option_map (by b) (get m q)) (sym (among_append os k q)) ∙ sym (get-revise operation_cmp-IsAntisymmetric (made (os ++ k ∷ []) mark) m q)

    -- one key more
    pub marked_more : (op : Operation) → get m k ≡ Some op → insert (revise (made os mark) m) k (with_mark mark op) ≡ revise (made (os ++ k ∷ []) mark) m
    marked_more op known = same_map operation_cmp_total operation_cmp-IsAntisymmetric (insert (revise (made os mark) m) k (with_mark mark op)) (revise (made (os ++ k ∷ []) mark) m) (λ q.
        get-insert operation_cmp_total (revise (made os mark) m) k (with_mark mark op) q
        ∙ ap (cond (eq_by_cmp operation_cmp q k) (Some (with_mark mark op))) (get-revise operation_cmp-IsAntisymmetric (made os mark) m q)
        ∙ marks (is_among os q) (eq_by_cmp operation_cmp q k) op (get m q) (λ e. ap (get m) (key_of operation_cmp-IsAntisymmetric q k e) ∙ known)
        ∙ more q)

    -- a key that has no operation
    pub marked_none : get m k ≡ None → revise (made os mark) m ≡ revise (made (os ++ k ∷ []) mark) m
    marked_none none = same_map operation_cmp_total operation_cmp-IsAntisymmetric (revise (made os mark) m) (revise (made (os ++ k ∷ []) mark) m) (λ q.
        get-revise operation_cmp-IsAntisymmetric (made os mark) m q
        ∙ marks_none (is_among os q) (eq_by_cmp operation_cmp q k) (get m q) (λ e. ap (get m) (key_of operation_cmp-IsAntisymmetric q k e) ∙ none)
        ∙ more q)

  none_by : (x : Option Operation) → x ≡ option_map (by false) x
  none_by None = refl
  none_by (Some op) = refl

  -- no keys mark nothing
  pub none_made : (m : Operations) → m ≡ revise (made [] mark) m
  none_made m = same_map operation_cmp_total operation_cmp-IsAntisymmetric m (revise (made [] mark) m) (λ q. none_by (get m q) ∙ sym (get-revise operation_cmp-IsAntisymmetric (made [] mark) m q))
