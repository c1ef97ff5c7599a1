-- Tests that decide, and what is found in a plan of lines.
use Rattle.std.proofs.Common.{◌≡◌, ◌⊎◌, inl, inr, refl, sym, ◌∙◌, ap, ap₂, subst, true≢false, Bool, true, false, not, cond, ◌&&◌, ◌||◌, Decides, List, [], ◌∷◌, Contains, map, Option, Some, None, option_map, is_eq}
use Rattle.std.specs.List.{list_all, list_any}
use Rattle.std.specs.declared.cmp.Ordering.{Ordering}
use Rattle.std.specs.Ordering.{eq_by_cmp}
use Rattle.std.specs.Cmp.{tied_itself}
use Rattle.std.specs.FinMap.{find, from_entries, get, get-from_entries}
use Rattle.std.proofs.lemmas.Bool.{and_from, and_parts, or_cases, or_left, or_right}
use Rattle.std.proofs.lemmas.Option.{none-some, same_Some}
use Rattle.plan_basics.proofs.Members.{contains_cases, contains_head, contains_later, contains_mapped, contains_none, row_found}
use Rattle.plan_basics.specs.declared.keys.OpKey.{OpKey}
use Rattle.plan_basics.specs.Keys.{Name, name_cmp, name_cmp_total, operation_cmp, operation_cmp-IsAntisymmetric, operation_cmp_total}
use Rattle.status_rules.specs.declared.Mark.{Mark}
use Rattle.plan_model.specs.Contents.{Contents, Has, IsInPlan, Operation, attribute_at}
use Rattle.plan_model.specs.Ready.{with_mark}
use Rattle.plan_model.proofs.Looks.{same_key}
use Rattle.plan_records.specs.Changes.{revised}
use Rattle.worked_examples.specs.Written.{Line, Lines, Sheet, line_at, operation_of, plan_of, station_by}
use Rattle.worked_examples.proofs.Lists.{anew, revise_written}

-- ---- tests together

-- each of these tests decides what is made so of what its parts decide
module _ {A B : Type 0} {a b : Bool} where
  pub both : Decides a A → Decides b B → Decides (a && b) (A × B)
  both x y = (λ e. let h = and_parts _ _ e in (x.0 h.0, y.0 h.1), λ h. and_from _ _ (x.1 h.0) (y.1 h.1))

  pub either : Decides a A → Decides b B → Decides (a || b) (A ⊎ B)
  either x y = (
    λ e. elim (or_cases a b e) [ inl h ↦ inl (x.0 h) | inr h ↦ inr (y.0 h) ],
    λ h. elim h [ inl k ↦ or_left a b (x.1 k) | inr k ↦ or_right a b (y.1 k) ],
  )

  pub if_so : Decides a A → Decides b B → Decides (not a || b) (A → B)
  if_so x y = by a x
    where
      by : (c : Bool) → Decides c A → Decides (not c || b) (A → B)
      by true x = (λ e h. y.0 e, λ f. y.1 (f (x.0 refl)))
      by false x = (λ e h. absurd (true≢false (sym (x.1 h))), λ f. refl)

pub all_three : {A B C : Type 0} {a b c : Bool} → Decides a A → Decides b B → Decides c C → Decides (a && (b && c)) (A × B × C)
all_three x y z = let d = both x (both y z) in (λ e. let h = d.0 e in (h.0, h.1.0, h.1.1), λ h. d.1 (h.0, (h.1, h.2)))

-- a test doesn't both fail and pass
pub refuted : {a : Bool} → not a ≡ true → a ≡ true → ⊥
refuted e h = true≢false (sym e ∙ ap not h)

-- where it fails, what it decides isn't so
pub none_so : {A : Type 0} {a : Bool} → Decides a A → not a ≡ true → ¬ A
none_so x e h = refuted e (x.1 h)

module _ {A : Type 0} (t : A → Bool) (Q : A → Type 0) where
  -- whether it holds of each of a list
  pub each_told : (xs : List A) → ((x : A) → Contains xs x → Decides (t x) (Q x)) → Decides (list_all t xs) ((x : A) → Contains xs x → Q x)
  each_told [] told = (λ e x h. absurd (contains_none x h), λ f. refl)
  each_told (y ∷ ys) told =
      let first = told y (contains_head y ys) in
      let rest = each_told ys (λ x h. told x (contains_later y ys x h)) in (
        λ e x h. let p = and_parts _ _ e in elim (contains_cases y ys x h) [ inl is ↦ subst Q is (first.0 p.0) | inr more ↦ rest.0 p.1 x more ],
        λ f. and_from _ _ (first.1 (f y (contains_head y ys))) (rest.1 (λ x h. f x (contains_later y ys x h))),
      )

  -- whether it holds of one of them
  pub some_told : (xs : List A) → ((x : A) → Decides (t x) (Q x)) → Decides (list_any t xs) ((x : A) × Contains xs x × Q x)
  some_told [] told = (λ e. absurd (true≢false (sym e)), λ h. absurd (contains_none h.0 h.1))
  some_told (y ∷ ys) told =
      let rest = some_told ys told in (
        λ e. elim (or_cases (t y) (list_any t ys) e) [ inl h ↦ (y, contains_head y ys, (told y).0 h) | inr h ↦ (let r = rest.0 h in (r.0, contains_later y ys r.0 r.1, r.2)) ],
        λ h. elim (contains_cases y ys h.0 h.1) [ inl is ↦ or_left (t y) (list_any t ys) ((told y).1 (subst Q (sym is) h.2)) | inr more ↦ or_right (t y) (list_any t ys) (rest.1 (h.0, more, h.2)) ],
      )

-- it holds of one of those of which it holds of each
pub all_at : {A : Type 0} (t : A → Bool) (xs : List A) → list_all t xs ≡ true → (x : A) → Contains xs x → t x ≡ true
all_at t xs = (each_told t (λ x. t x ≡ true) xs (λ x h. (λ e. e, λ e. e))).0

-- whether two keys are one
pub same_told : (o q : OpKey) → Decides (eq_by_cmp operation_cmp o q) (o ≡ q)
same_told o q = (same_key o q, λ same. subst (λ z. eq_by_cmp operation_cmp o z ≡ true) same (ap is_eq (tied_itself operation_cmp_total o)))

-- ---- lines

-- what is found where each value was mapped
pub find-map : {K X Y : Type 0} (R : K → K → Ordering) (f : X → Y) (es : List (K × X)) (q : K) → find R q (map (λ e. (e.0, f e.1)) es) ≡ option_map f (find R q es)
find-map R f [] q = refl
find-map R f (e ∷ es) q = elim (eq_by_cmp R q e.0) as (λ b. cond b (Some (f e.1)) (find R q (map (λ e. (e.0, f e.1)) es)) ≡ option_map f (cond b (Some e.1) (find R q es))) [ true ↦ refl | false ↦ find-map R f es q ]

-- the operations of lines
abbrev pub operations_of : Lines → List (OpKey × Operation)
operations_of lines = map (λ e. (e.0, operation_of e.1)) lines

-- their keys
abbrev pub keys_of : Lines → List OpKey
keys_of lines = map (λ e. e.0) lines

-- whether there is a line, and it passes
abbrev pub passes : (Line → Bool) → Option Line → Bool
passes t None = false
passes t (Some l) = t l

module _ (S : Sheet) (lines : Lines) where
  abbrev P : Contents
  P = plan_of S lines

  -- what a plan of lines has at a key
  pub operation_at : (o : OpKey) → get P.operations o ≡ option_map operation_of (line_at lines o)
  operation_at o = get-from_entries operation_cmp_total (operations_of lines) o ∙ find-map operation_cmp operation_of lines o

  pub station_at : (w : Name) → get P.workstations w ≡ option_map (station_by S.interval) (find name_cmp w S.attributes)
  station_at w = get-from_entries name_cmp_total (map (λ e. (e.0, station_by S.interval e.1)) S.attributes) w ∙ find-map name_cmp (station_by S.interval) S.attributes w

  pub attribute_is : (w : Name) → attribute_at P w ≡ find name_cmp w S.attributes
  attribute_is w =
      ap (option_map (λ ws. ws.attribute)) (station_at w)
      ∙ elim (find name_cmp w S.attributes) as (λ x. option_map (λ ws. ws.attribute) (option_map (station_by S.interval) x) ≡ x) [ None ↦ refl | Some a ↦ refl ]

  module _ (o : OpKey) where
    -- a line's operation is in the plan
    pub there : (l : Line) → line_at lines o ≡ Some l → get P.operations o ≡ Some (operation_of l)
    there l is = operation_at o ∙ ap (option_map operation_of) is

    -- what is in the plan has a line
    pub line_of : (op : Operation) → get P.operations o ≡ Some op → (l : Line) × (line_at lines o ≡ Some l) × (operation_of l ≡ op)
    line_of op is = by (line_at lines o) refl (sym (operation_at o) ∙ is)
      where
        by : (x : Option Line) → line_at lines o ≡ x → option_map operation_of x ≡ Some op → (l : Line) × (line_at lines o ≡ Some l) × (operation_of l ≡ op)
        by None e h = absurd (none-some op h)
        by (Some l) e h = (l, e, same_Some (operation_of l) op h)

    -- and is among the keys
    pub is_listed : (op : Operation) → get P.operations o ≡ Some op → Contains (keys_of lines) o
    is_listed op is =
        let r = row_found operation_cmp operation_cmp-IsAntisymmetric (λ (e : OpKey × Line). e.0) (λ e. operation_of e.1) lines o op (sym (get-from_entries operation_cmp_total (operations_of lines) o) ∙ is) in
        subst (Contains (keys_of lines)) r.2 (contains_mapped (λ e. e.0) lines r.0 r.1)

    -- whether it is in the plan, and so
    pub has_told : (t : Line → Bool) (Q : Operation → Type 0) → ((l : Line) → line_at lines o ≡ Some l → Decides (t l) (Q (operation_of l))) → Decides (passes t (line_at lines o)) (Has P o Q)
    has_told t Q told = by (line_at lines o) refl
      where
        by : (x : Option Line) → line_at lines o ≡ x → Decides (passes t x) (Has P o Q)
        by None is = (λ e. absurd (true≢false (sym e)), λ h. absurd (none-some h.0 (sym (operation_at o ∙ ap (option_map operation_of) is) ∙ h.1)))
        by (Some l) is = let d = told l is in (λ e. (operation_of l, there l is, d.0 e), λ h. d.1 (subst Q (same_Some h.0 (operation_of l) (sym h.1 ∙ there l is)) h.2))

  -- whether it is so of some operation of the plan
  pub some_in : (t : OpKey → Bool) (Q : OpKey → Type 0) → ((o : OpKey) → Decides (t o) (Q o)) → ((o : OpKey) → Q o → IsInPlan P o) → Decides (list_any t (keys_of lines)) ((o : OpKey) × Q o)
  some_in t Q told within =
      let d = some_told t Q (keys_of lines) told in
      (λ e. let h = d.0 e in (h.0, h.2), λ h. let k = within h.0 h.1 in d.1 (h.0, is_listed h.0 k.0 k.1, h.1))

-- ---- lines with other marks

-- a line with this mark
abbrev pub line_with : Mark → Line → Line
line_with m l = record l { mark = m }

-- the lines, so where the test passes
abbrev pub mark_lines : Mark → (OpKey → Bool) → Lines → Lines
mark_lines m test lines = anew (λ o l. cond (test o) (line_with m l) l) lines

operations_with : (m : Mark) (test : OpKey → Bool) (lines : Lines) → anew (λ o op. cond (test o) (with_mark m op) op) (operations_of lines) ≡ operations_of (mark_lines m test lines)
operations_with m test [] = refl
operations_with m test (e ∷ lines) =
    ap₂ (λ x xs. (e.0, x) ∷ xs)
    (elim (test e.0) as (λ b. cond b (with_mark m (operation_of e.1)) (operation_of e.1) ≡ operation_of (cond b (line_with m e.1) e.1)) [ true ↦ refl | false ↦ refl ])
    (operations_with m test lines)

-- marking operations of the plan is marking lines
pub plan_with : (S : Sheet) (m : Mark) (test : OpKey → Bool) (lines : Lines) → revised test (with_mark m) (plan_of S lines) ≡ plan_of S (mark_lines m test lines)
plan_with S m test lines = ap (λ ops. record (plan_of S lines) { operations = ops })
    (revise_written operation_cmp_total operation_cmp-IsAntisymmetric (λ o op. cond (test o) (with_mark m op) op) (operations_of lines) ∙ ap from_entries (operations_with m test lines))
