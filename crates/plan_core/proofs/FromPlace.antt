-- What is left to be listed from an index on.
use Rattle.std.proofs.Common.{◌≡◌, refl, sym, ap, subst, ◌∙◌, ◌↔◌, IsSome, IsNone, arith, ℕ, ◌+◌, ◌<◌, ◌≤◌, true, true≢false, List, [], ◌∷◌, drop, length, slice_get, Option, Some, None, IfSome}
use Rattle.std.proofs.Math.Numerals.{add-one}
use Rattle.std.proofs.lemmas.List.{drop_all}
use Rattle.std.specs.FinMap.{contains_key, entries, get-empty}
use Rattle.std.specs.Option.{is_some}
use Rattle.plan_basics.specs.Keys.{occurrence_cmp, operation_cmp}
use Rattle.plan_basics.specs.declared.keys.OccKey.{OccKey}
use Rattle.plan_basics.specs.declared.keys.OpKey.{OpKey}
use Rattle.plan_model.specs.Contents.{Contents, nothing, IsInPlan}
use Rattle.std.proofs.lemmas.Option.{none-some}
use Rattle.plan_records.specs.plan_drafts.proofs.Lists.{contains_none}
use Rattle.plan_model.specs.special_resources.proofs.Splits.{none_in_order}
use Rattle.plan_core.proofs.OpViews.{size}
use Rattle.plan_opening.specs.plan_rows.proofs.SideBySide.{left_from, length_viewed}
use Rattle.plan_opening.specs.plan_rows.specs.Sources.{IsSource, IsSourceIfAny, known_of}
use Rattle.plan_core.specs.Views.{AreOccViews, AreOpViews, occ_view_of, occ_views, op_view_of, op_views, views_from}
use Rattle.plan_opening.specs.plan_rows.specs.declared.row_sources.RowSource.{RowSource}

-- ---- where nothing is loaded

pub no_operation : (o : OpKey) → IsInPlan nothing o → ⊥
no_operation o there = none-some there.0 (sym (get-empty operation_cmp o) ∙ there.1)

pub no_occurrence : (c : OccKey) → contains_key nothing.occurrences c ≡ true → ⊥
no_occurrence c known = true≢false (sym known ∙ ap is_some (get-empty occurrence_cmp c))

pub no_ops : AreOpViews nothing []
no_ops = record {
  in_order = none_in_order operation_cmp;
  every = λ o. (λ has. absurd (contains_none o has), λ there. absurd (no_operation o there));
  each = λ v has. absurd (contains_none v has);
}

pub no_occs : AreOccViews nothing []
no_occs = record {
  in_order = none_in_order occurrence_cmp;
  every = λ c. (λ has. absurd (contains_none c has), λ known. absurd (no_occurrence c known));
  each = λ v has. absurd (contains_none v has);
}

-- no answer is given of what isn't so
pub none_told : {V B : Type 0} (answer : Option V) → answer ≡ None → ¬ B → IsSome answer ↔ B
none_told answer none never = (λ some. absurd (true≢false (sym (subst IsSome none some))), λ b. absurd (never b))

-- nor of what isn't known
pub none_known : {V : Type 0} (answer : Option V) → answer ≡ None → (IsKnown : Contents → Type 0) (P : Contents) → P ≡ nothing → ¬ IsKnown nothing → IsSome answer ↔ IsKnown P
none_known answer none IsKnown P is unknown = none_told answer none (λ known. unknown (subst IsKnown is known))

-- as many views as rows
module _ (s : RowSource) (source : IsSource s) where
  pub length_ops : length (op_views s) ≡ length (entries s.contents.now.operations)
  length_ops = length_viewed (op_view_of s.contents.now) (entries s.contents.now.operations) (known_of s) (size s source)

  pub length_occs : length (occ_views s) ≡ length (entries s.contents.now.occurrences)
  length_occs = length_viewed occ_view_of (entries s.contents.now.occurrences) s.tallies.now source.tallies.size

-- the one at the index, and those from the next one on
pub one_left : {X : Type 0} (xs : List X) (i : ℕ) (x : X) → slice_get xs i ≡ Some x → drop i xs ≡ x ∷ drop (i + 1) xs
one_left xs i x at = left_from xs i x at ∙ ap (λ n. x ∷ drop n xs) (sym (add-one i))

pub fewer : {X : Type 0} {xs ys : List X} {x : X} → xs ≡ x ∷ ys → length ys < length xs
fewer e = let n = ap length e in omega (arith, n)

-- ---- views of any kind

-- a source, if a plan is loaded, is of these contents
pub record IsOf (P : Contents) (source : Option RowSource) : Type 0 where
  pub none : IsNone source → P ≡ nothing
  pub contents : IfSome source (λ s. s.contents.now ≡ P)
  pub is_source : IfSome source IsSource

pub is_source_if_any : (P : Contents) (source : Option RowSource) → IsOf P source → IsSourceIfAny source
is_source_if_any P None of = tt
is_source_if_any P (Some s) of = of.is_source

module _ {V : Type 0} (views : RowSource → List V) where
  -- from the first index on: all of them
  pub all_from : (Are : Contents → List V → Type 0) → Are nothing [] → ((s : RowSource) → IsSource s → Are s.contents.now (views s))
      → (P : Contents) (source : Option RowSource) → IsOf P source → {listed : List V} → listed ≡ views_from views source 0 → Are P listed
  all_from Are none some P None of all = subst (Are P) (sym all) (subst (λ Q. Are Q []) (sym (of.none refl)) none)
  all_from Are none some P (Some s) of all = subst (Are P) (sym all) (subst (λ Q. Are Q (views s)) of.contents (some s of.is_source))

  module _ {left : List V} {source : Option RowSource} (i : ℕ) {s : RowSource} (is : views_from views source i ≡ left) (was : source ≡ Some s) where
    here : drop i (views s) ≡ left
    here = sym (ap (λ l. views_from views l i) was) ∙ is

    -- past the last index none is left
    pub none_from : length (views s) ≤ i → left ≡ []
    none_from past = sym here ∙ drop_all i (views s) past

    -- before it one, and those from the next index on
    pub rest_from : (v : V) → slice_get (views s) i ≡ Some v → left ≡ v ∷ views_from views source (i + 1)
    rest_from v at = sym here ∙ one_left (views s) i v at ∙ ap (λ l. v ∷ views_from views l (i + 1)) (sym was)
