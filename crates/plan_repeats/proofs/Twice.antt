-- What is made anew twice, with names given between, is as it was after the first time.
use Rattle.std.proofs.Common.{◌≡◌, ◌≢◌, refl, sym, ◌∙◌, ap, subst, Bool, true, false, cond, List, Option, Some, None, option_map, Contains, ℕ}
use Rattle.std.proofs.lemmas.Bool.{cond_both, cond-true, false_from_ne_true}
use Rattle.std.specs.FinMap.{FinMap, IsAntisymmetric, get, same_map}
use Rattle.std.specs.Cmp.{IsTotalOrder}
use Rattle.std.specs.declared.cmp.Ordering.{Ordering}
use Rattle.plan_basics.specs.Keys.{operation_cmp-IsAntisymmetric, operation_cmp_total}
use Rattle.plan_basics.specs.declared.keys.OpKey.{OpKey}
use Rattle.status_rules.specs.declared.Mark.{Mark}
use Rattle.status_rules.specs.declared.Mark.TheVariants as mark
use Rattle.ready_list.proofs.Members.{contains_from_filter}
use Rattle.ready_list.specs.Choice.{is_among, operations_of}
use Rattle.ready_list.specs.declared.ReadyKey.{ReadyKey}
use Rattle.plan_drafts.proofs.Lists.{from_map}
use Rattle.plan_drafts.proofs.Needed.{mapped}
use Rattle.plan_laws.proofs.Kept.{ready_unmarked}
use Rattle.plan_laws.proofs.Revising.{was}
use Rattle.plan_records.specs.Changes.{revised}
use Rattle.plan_model.proofs.Members.{member_if}
use Rattle.plan_model.specs.Contents.{Contents, Operation}
use Rattle.plan_model.specs.Ready.{IsChosen, named, with_mark}
use Rattle.plan_model.specs.Revise.{get-revise, revise}
use Rattle.plan_model.specs.Status.{IsReady}
pub use Rattle.plan_status.proofs.Naming.{named_if}
use Rattle.plan_status.proofs.Naming.{row_before}

-- ---- maps

as_it_was : {X : Type 0} (x : Option X) (g : X → X) → ((v : X) → x ≡ Some v → g v ≡ v) → option_map g x ≡ x
as_it_was None g same = refl
as_it_was (Some v) g same = ap Some (same v refl)

-- a map in which each value is as it would be made
pub as_made : {K X : Type 0} {R : K → K → Ordering} → IsTotalOrder R → IsAntisymmetric R → (f : K → X → X) (m : FinMap R X) → ((k : K) (v : X) → get m k ≡ Some v → f k v ≡ v) → revise f m ≡ m
as_made total same f m made = same_map total same (revise f m) m (λ k. get-revise same f m k ∙ as_it_was (get m k) (f k) (made k))

both_times : {X : Type 0} (f : X → X) → ((v : X) → f (f v) ≡ f v) → (b : Bool) (v : X) → cond b (f (cond b (f v) v)) (cond b (f v) v) ≡ cond b (f v) v
both_times f twice true v = twice v
both_times f twice false v = refl

-- those at which the test passes made anew twice
pub made_twice : {K X : Type 0} {R : K → K → Ordering} → IsTotalOrder R → IsAntisymmetric R → (test : K → Bool) (f : X → X) → ((v : X) → f (f v) ≡ f v) → (m : FinMap R X)
    → revise (λ k v. cond (test k) (f v) v) (revise (λ k v. cond (test k) (f v) v) m) ≡ revise (λ k v. cond (test k) (f v) v) m
made_twice total same test f twice m = as_made total same (λ k v. cond (test k) (f v) v) (revise (λ k v. cond (test k) (f v) v) m) (λ k v e.
    let w = mapped (λ v. cond (test k) (f v) v) (get m k) v (sym (get-revise same (λ k v. cond (test k) (f v) v) m k) ∙ e) in
    subst (λ z. cond (test k) (f z) z ≡ z) w.2 (both_times f twice (test k) w.0))

-- ---- operations

-- a plan in which each operation at which the test passes is as it would be made
pub as_revised : (test : OpKey → Bool) (f : Operation → Operation) (P : Contents) → ((q : OpKey) (op : Operation) → get P.operations q ≡ Some op → test q ≡ true → f op ≡ op) → revised test f P ≡ P
as_revised test f P made =
    let ops = as_made operation_cmp_total operation_cmp-IsAntisymmetric (λ q op. cond (test q) (f op) op) P.operations (λ q op e. cond_both (test q) (f op) op (λ z. z ≡ op) (λ t. made q op e t) (λ t. refl)) in
    λ i. record P { operations = ops i }

-- names are as they are told
pub as_marked : (op : Operation) (M : Mark) → op.mark ≡ M → with_mark M op ≡ op
as_marked op M e = ap (λ m. with_mark m op) (sym e)

module _ (P : Contents) (m : ℕ) (chosen : List OpKey) (c : IsChosen P m chosen) where
  -- what is chosen is ready
  pub chosen_ready : (o : OpKey) → is_among chosen o ≡ true → IsReady P o
  chosen_ready o e =
      let has = subst (λ (ks : List OpKey). Contains ks o) c.choice.in_order (member_if operation_cmp-IsAntisymmetric chosen o e) in
      let (key, there, same) = from_map (λ (k : ReadyKey). k.op) c.ready o (contains_from_filter (is_among chosen) (operations_of c.ready) o has).0 in
      subst (IsReady P) same ((c.is_ready_list.has_all key).0 there).0

  -- what bears a mark isn't named
  pub marked_not_named : (o : OpKey) (op : Operation) → get P.operations o ≡ Some op → op.mark ≢ mark.Unmarked → is_among chosen o ≡ false
  marked_not_named o op is apart = false_from_ne_true (is_among chosen o) (λ e. apart (ready_unmarked P o op is (chosen_ready o e)))

module _ (test : OpKey → Bool) (P : Contents) (m : ℕ) (chosen : List OpKey) where
  -- a mark that is given twice
  pub marked_twice : (M : Mark) → M ≢ mark.Unmarked → IsChosen (revised test (with_mark M) P) m chosen
      → revised test (with_mark M) (named chosen (revised test (with_mark M) P)) ≡ named chosen (revised test (with_mark M) P)
  marked_twice M apart c = as_revised test (with_mark M) (named chosen (revised test (with_mark M) P)) (λ q op e t.
      let (y, found, same) = row_before (revised test (with_mark M) P) chosen q op e in
      let (x, first, made) = was test (with_mark M) P q y found in
      let bears : y.mark ≡ M = ap (λ z. z.mark) (sym made ∙ cond-true (test q) (with_mark M x) x t) in
      let out = marked_not_named (revised test (with_mark M) P) m chosen c q y found (λ u. apart (sym bears ∙ u)) in
      as_marked op M (ap (λ z. z.mark) (sym same ∙ ap (λ b. named_if b y) out) ∙ bears))

  -- a flag that is set twice: with or without a name it is as it was set
  pub set_twice : (f : Operation → Operation) → ((b : Bool) (x : Operation) → f (named_if b (f x)) ≡ named_if b (f x)) → revised test f (named chosen (revised test f P)) ≡ named chosen (revised test f P)
  set_twice f stays = as_revised test f (named chosen (revised test f P)) (λ q op e t.
      let (y, found, same) = row_before (revised test f P) chosen q op e in
      let (x, first, made) = was test f P q y found in
      let is : op ≡ named_if (is_among chosen q) (f x) = sym same ∙ ap (named_if (is_among chosen q)) (sym made ∙ cond-true (test q) (f x) x t) in
      subst (λ z. f z ≡ z) (sym is) (stays (is_among chosen q) x))
