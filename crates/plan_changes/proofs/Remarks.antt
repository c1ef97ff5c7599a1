-- Plans that differ in markings alone.
use Rattle.std.proofs.Common.{◌≡◌, ◌⊎◌, inl, inr, refl, sym, ap, ◌∙◌, true≢false, ℕ, suc, ◌+◌, ◌<◌, add-one, drop, drop-cons, Bool, true, false, ◌||◌, cond, List, [], ◌∷◌, Option, Some, None, is_some, option_map, length, get_or, slice_get}
use Rattle.std.proofs.lemmas.Option.{none-some, same_Some, slice_get-map}
use Rattle.std.specs.FinMap.{contains_key, get, get-insert, insert, same_map}
use Rattle.std.specs.Ordering.{eq_by_cmp}
use Rattle.plan_basics.specs.Keys.{operation_cmp, operation_cmp_total, operation_cmp-IsAntisymmetric}
use Rattle.plan_basics.specs.declared.keys.OpKey.{OpKey}
use Rattle.ready_list.specs.Choice.{is_among}
use Rattle.plan_records.specs.plan_drafts.proofs.MadeEntries.{key_of}
use Rattle.plan_records.specs.plan_model.specs.Contents.{Contents, Operation}
use Rattle.plan_records.specs.plan_model.specs.Ready.{with_mark}
use Rattle.plan_records.specs.plan_model.specs.Revise.{get-revise}
use Rattle.plan_records.specs.Changes.{is_at}
use Rattle.plan_records.specs.plan_model.specs.Markings.{marking_of, with_marking}
use Rattle.plan_records.specs.plan_model.specs.declared.moves.Marking.{Marking}
use Rattle.plan_changes.specs.Markings.{DifferBothWays, DifferInMarks, DifferencesFollow, HoldingRemarks, MarkingRemarks, NopRemarks, OperationsStayInPlan, RemakingRemarks, WereMarked, marking_at}

pub both_ways : DifferBothWays
both_ways P Q keys d = record {
  workstations = sym d.workstations;
  resources = sym d.resources;
  occurrences = sym d.occurrences;
  pairs = sym d.pairs;
  known = λ o. sym (d.known o);
  elsewhere = λ o other. sym (d.elsewhere o other);
  remarked = λ o a b in_Q in_P. ap (with_marking (marking_of a)) (sym (d.remarked o b a in_P in_Q));
}

-- a key that isn't among both isn't among either
neither : (a b c : Bool) → ((a ≡ true) ⊎ (b ≡ true) → c ≡ true) → c ≡ false → (a ≡ false) × (b ≡ false)
neither true b c within other = absurd (true≢false (sym (within (inl refl)) ∙ other))
neither false true c within other = absurd (true≢false (sym (within (inr refl)) ∙ other))
neither false false c within other = (refl, refl)

-- what is known of one is found in the other
found_too : (x y : Option Operation) (a : Operation) → is_some x ≡ is_some y → x ≡ Some a → (b : Operation) × (y ≡ Some b)
found_too x (Some b) a known is = (b, refl)
found_too x None a known is = absurd (true≢false (sym (ap is_some is) ∙ known))

pub stay_in_plan : OperationsStayInPlan
stay_in_plan P Q keys o d there = let too = found_too (get P.operations o) (get Q.operations o) there.0 (d.known o) there.1 in (too.0, too.1, tt)

pub differences_follow : DifferencesFollow
differences_follow P Q R first second keys d e within = record {
  workstations = d.workstations ∙ e.workstations;
  resources = d.resources ∙ e.resources;
  occurrences = d.occurrences ∙ e.occurrences;
  pairs = d.pairs ∙ e.pairs;
  known = λ o. d.known o ∙ e.known o;
  elsewhere = λ o other. let outside = neither (is_among first o) (is_among second o) (is_among keys o) (within o) other in d.elsewhere o outside.0 ∙ e.elsewhere o outside.1;
  remarked = λ o a b in_P in_R.
      let between = found_too (get P.operations o) (get Q.operations o) a (d.known o) in_P in
      ap (with_marking (marking_of a)) (e.remarked o between.0 b between.1 in_R) ∙ d.remarked o a between.0 in_P between.1;
}

-- ---- operations made anew

abbrev by : Bool → (Operation → Operation) → Operation → Operation
by t f op = cond t (f op) op

made_known : (t : Bool) (f : Operation → Operation) (x : Option Operation) → is_some x ≡ is_some (option_map (by t f) x)
made_known t f None = refl
made_known t f (Some op) = refl

not_made : (f : Operation → Operation) (x : Option Operation) → x ≡ option_map (by false f) x
not_made f None = refl
not_made f (Some op) = refl

-- a test that holds of members alone holds of no other key
fails : (t among : Bool) → (t ≡ true → among ≡ true) → among ≡ false → t ≡ false
fails true among within other = absurd (true≢false (sym (within refl) ∙ other))
fails false among within other = refl

unmade : (t : Bool) (f : Operation → Operation) → ((op : Operation) → with_marking (marking_of op) (f op) ≡ op) → (op : Operation) → with_marking (marking_of op) (by t f op) ≡ op
unmade true f remarks op = remarks op
unmade false f remarks op = refl

made_from : (t : Bool) (f : Operation → Operation) → ((op : Operation) → with_marking (marking_of op) (f op) ≡ op) → (x : Option Operation) (a b : Operation) → x ≡ Some a → option_map (by t f) x ≡ Some b
    → with_marking (marking_of a) b ≡ a
made_from t f remarks x a b is made =
    ap (with_marking (marking_of a)) (same_Some b (by t f a) (sym made ∙ ap (option_map (by t f)) is)) ∙ unmade t f remarks a

pub remaking : RemakingRemarks
remaking P keys test f within remarks =
    let is = get-revise operation_cmp-IsAntisymmetric (λ o op. cond (test o) (f op) op) P.operations in
    record {
      workstations = refl;
      resources = refl;
      occurrences = refl;
      pairs = refl;
      known = λ o. made_known (test o) f (get P.operations o) ∙ ap is_some (sym (is o));
      elsewhere = λ o other. not_made f (get P.operations o) ∙ ap (λ t. option_map (by t f) (get P.operations o)) (sym (fails (test o) (is_among keys o) (within o) other)) ∙ sym (is o);
      remarked = λ o a b in_P in_Q. made_from (test o) f remarks (get P.operations o) a b in_P (sym (is o) ∙ in_Q);
    }

pub holding : HoldingRemarks
holding P o held = remaking P (o ∷ []) (is_at o) (λ op. record op { held = held }) (λ q at. ap (λ b. b || false) at) (λ op. refl)

pub nop_made : NopRemarks
nop_made P o nop = remaking P (o ∷ []) (is_at o) (λ op. record op { nop = nop }) (λ q at. ap (λ b. b || false) at) (λ op. refl)

pub marking : MarkingRemarks
marking P keys mark = remaking P keys (is_among keys) (with_mark mark) (λ o among. among) (λ op. refl)

-- ---- markings put on one after the other

-- plans that differ nowhere are the same
pub same_plan : (P Q : Contents) → DifferInMarks P Q [] → Q ≡ P
same_plan P Q d =
    let operations : Q.operations ≡ P.operations = same_map operation_cmp_total operation_cmp-IsAntisymmetric Q.operations P.operations (λ o. sym (d.elsewhere o refl)) in
    λ i. record {
      workstations = sym d.workstations i;
      resources = sym d.resources i;
      occurrences = sym d.occurrences i;
      operations = operations i;
      pairs = sym d.pairs i;
    }

-- where x is put in at a key q, and P has it at k: what is found there
put_known : (e : Bool) (x : Operation) (p y : Option Operation) → (e ≡ true → p ≡ Some x) → is_some p ≡ is_some y → is_some p ≡ is_some (cond e (Some x) y)
put_known true x p y here there = ap is_some (here refl)
put_known false x p y here there = there

put_same : (e among : Bool) (x : Operation) (p y : Option Operation) → (e ≡ true → p ≡ Some x) → ((e || among) ≡ false → p ≡ y) → among ≡ false → p ≡ cond e (Some x) y
put_same true among x p y here there other = here refl
put_same false among x p y here there other = there other

put_remarked : (e : Bool) (x : Operation) (p y : Option Operation) → (e ≡ true → p ≡ Some x) → ((a b : Operation) → p ≡ Some a → y ≡ Some b → with_marking (marking_of a) b ≡ a)
    → (a b : Operation) → p ≡ Some a → cond e (Some x) y ≡ Some b → with_marking (marking_of a) b ≡ a
put_remarked true x p y here there a b in_P in_Q = ap (with_marking (marking_of a)) (same_Some b a (sym in_Q ∙ sym (here refl) ∙ in_P))
put_remarked false x p y here there a b in_P in_Q = there a b in_P in_Q

its_marking : (x : Option Operation) (m : Marking) → option_map marking_of x ≡ Some m → (op : Operation) × (x ≡ Some op) × (marking_of op ≡ m)
its_marking None m is = absurd (none-some m is)
its_marking (Some op) m is = (op, refl, same_Some (marking_of op) m is)

-- with the marking of one more operation put on, they differ at the others alone
pub one_put : (P Q : Contents) (k : OpKey) (ks : List OpKey) (op : Operation) (m : Marking) → DifferInMarks P Q (k ∷ ks) → get Q.operations k ≡ Some op → marking_at P k ≡ Some m
    → DifferInMarks P (record Q { operations = insert Q.operations k (with_marking m op) }) ks
one_put P Q k ks op m d in_Q is =
    let was = its_marking (get P.operations k) m is in
    let new : with_marking m op ≡ was.0 = ap (λ n. with_marking n op) (sym was.2) ∙ d.remarked k was.0 op was.1 in_Q in
    let x = with_marking m op in
    let here : (o : OpKey) → eq_by_cmp operation_cmp o k ≡ true → get P.operations o ≡ Some x = λ o e. ap (get P.operations) (key_of operation_cmp-IsAntisymmetric o k e) ∙ was.1 ∙ ap Some (sym new) in
    let found = get-insert operation_cmp_total Q.operations k x in
    record {
      workstations = d.workstations;
      resources = d.resources;
      occurrences = d.occurrences;
      pairs = d.pairs;
      known = λ o. put_known (eq_by_cmp operation_cmp o k) x (get P.operations o) (get Q.operations o) (here o) (d.known o) ∙ ap is_some (sym (found o));
      elsewhere = λ o other. put_same (eq_by_cmp operation_cmp o k) (is_among ks o) x (get P.operations o) (get Q.operations o) (here o) (d.elsewhere o) other ∙ sym (found o);
      remarked = λ o a b in_P in_new. put_remarked (eq_by_cmp operation_cmp o k) x (get P.operations o) (get Q.operations o) (here o) (d.remarked o) a b in_P (sym (found o) ∙ in_new);
    }

-- operations that were there are there
pub stays_known : (Q : Contents) (k o : OpKey) (x : Operation) → contains_key Q.operations k ≡ true → contains_key (insert Q.operations k x) o ≡ contains_key Q.operations o
stays_known Q k o x known =
    ap is_some (get-insert operation_cmp_total Q.operations k x o)
    ∙ elim (eq_by_cmp operation_cmp o k) as (λ b. (b ≡ true → contains_key Q.operations o ≡ true) → is_some (cond b (Some x) (get Q.operations o)) ≡ contains_key Q.operations o) [
      | true ↦ λ h. sym (h refl)
      | false ↦ λ h. refl
    ] (λ e. ap (contains_key Q.operations) (key_of operation_cmp-IsAntisymmetric o k e) ∙ known)

-- ---- markings at an index

-- the marking at an index is that of the operation of the key there
pub marked_at : (P : Contents) (keys : List OpKey) (marks : List Marking) (i : ℕ) (k : OpKey) (m : Marking) → WereMarked P keys marks → slice_get keys i ≡ Some k → slice_get marks i ≡ Some m → marking_at P k ≡ Some m
marked_at P keys marks i k m were key_at mark_at =
    same_Some (marking_at P k) (Some m) (
    sym (ap (option_map (marking_at P)) key_at) ∙ sym (slice_get-map (marking_at P) keys i)
    ∙ ap (λ xs. slice_get xs i) were
    ∙ slice_get-map Some marks i ∙ ap (option_map Some) mark_at)

-- the keys from an index on are the one there and those after it
pub from_index : (keys : List OpKey) (i : ℕ) (k : OpKey) → i < length keys → k ≡ get_or keys i k → drop i keys ≡ k ∷ drop (i + 1) keys
from_index keys i k lt is = rw (add-one, drop-cons keys i k) (ap (λ (z : OpKey). z ∷ drop (suc i) keys) (sym is))
