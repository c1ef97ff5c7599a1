-- What the needs of operations that are new change in a table with a row for some needs.
use Rattle.std.proofs.Common.{◌≡◌, ◌==◌, ◌≢◌, refl, sym, subst, ap, ◌∙◌, ℕ, Bool, true, false, cond, List, [], ◌∷◌, map, Contains, Option, Some, None}
use Rattle.std.proofs.lemmas.Bool.{eqb-false, false_from_ne_true, eqb-true}
use Rattle.std.proofs.lemmas.Option.{none-some, same_Some}
use Rattle.std.specs.FinMap.{get}
use Rattle.std.specs.List.{filter_map}
use Rattle.std.specs.List.Sorted.{IsStrictlySortedBy}
use Rattle.plan_basics.proofs.Members.{contains_none}
use Rattle.plan_basics.specs.Keys.{Name}
use Rattle.plan_basics.specs.declared.keys.OpKey.{OpKey}
use Rattle.plan_records.specs.plan_drafts.specs.PlanItems.{need_cmp, need_key}
use Rattle.plan_records.specs.plan_drafts.specs.declared.RowKey.{RowKey}
use Rattle.plan_records.specs.plan_drafts.specs.declared.RowKey.TheVariants as key
use Rattle.plan_records.specs.Rows.{key_of, row_cmp}
use Rattle.plan_records.specs.declared.PlanRow.{PlanRow}
use Rattle.plan_records.specs.declared.PlanRow.TheVariants as row
use Rattle.plan_model.specs.Contents.{Has, Operation}
use Rattle.plan_model.specs.Plan.{Plan}
use Rattle.plan_model.specs.Ready.{with_mark}
use Rattle.plan_rows.proofs.NoRows.{none_ascend}
use Rattle.derived_figures.specs.plan_laws.proofs.SomeOfEach.{is_made, made_of_each, made_of_one, some_ascend}
use Rattle.plan_rows.specs.Kept.{AreNewNeeds, KeepsRecords}
use Rattle.plan_rows.specs.Rows.{amount_by, amount_row, need_row}
use Rattle.plan_rows.specs.Tables.{IsRowOf}
use Rattle.row_differences.proofs.Picked.{names_ascend}
use Rattle.row_differences.specs.Changes.{AreRowChanges}
use Rattle.special_resources.specs.Holdings.{usage_of}
use Rattle.special_resources.specs.Needs.{need_of}
use Rattle.special_resources.specs.declared.Mode.{Mode}
use Rattle.special_resources.specs.declared.Mode.TheVariants.{Exclusive, Shared}
use Rattle.special_resources.specs.declared.Need.{Need}

-- the operation needs this
abbrev pub HasNeed : Plan → OpKey × Need → Type 0
HasNeed P x = Has P.contents x.0 (λ op. get op.needs x.1.name ≡ Some (usage_of x.1))

-- the rows of a table are those that are made of needs
pub record AreMadeOfNeeds (n : ℕ) (name : OpKey × Name → RowKey) (h : OpKey × Need → Option PlanRow) : Type 0 where
  pub in_order : (a b : OpKey × Name) → row_cmp (name a) (name b) ≡ need_cmp a b
  pub one_name : (a b : OpKey × Name) → name a ≡ name b → a ≡ b
  pub keyed : (x : OpKey × Need) (r : PlanRow) → h x ≡ Some r → key_of r ≡ name (need_key x)
  pub is_row : (P : Plan) (x : OpKey × Need) (r : PlanRow) → HasNeed P x → h x ≡ Some r → IsRowOf n P r
  pub row_is : (P : Plan) (r : PlanRow) → IsRowOf n P r → (x : OpKey × Need) × HasNeed P x × (h x ≡ Some r)

twice : {X Y Z : Type 0} (g : Y → Z) (f : X → Y) (xs : List X) → map g (map f xs) ≡ map (λ x. g (f x)) xs
twice g f [] = refl
twice g f (x ∷ xs) = ap (λ zs. g (f x) ∷ zs) (twice g f xs)

module _ (n : ℕ) (name : OpKey × Name → RowKey) (h : OpKey × Need → Option PlanRow) (made : AreMadeOfNeeds n name h)
    (P Q : Plan) (keeps : KeepsRecords P.contents Q.contents) (needs : List (OpKey × Need)) (new : AreNewNeeds P.contents Q.contents needs) where
  -- a need of P is one of Q
  stays : (x : OpKey × Need) → HasNeed P x → HasNeed Q x
  stays x (op, is, has) = let kept = keeps x.0 op is in (with_mark kept.0 op, kept.1, has)

  told : (r : PlanRow) → Contains (filter_map h needs) r → IsRowOf n Q r × ¬ IsRowOf n P r
  told r has =
      let one = made_of_one h needs r has in
      let x = one.0 in
      let it = (new.all x.0 x.1).0 one.1 in (
        made.is_row Q x r it.1 one.2,
        λ was.
            let old = made.row_is P r was in
            let keys = made.one_name (need_key x) (need_key old.0) (sym (made.keyed x r one.2) ∙ made.keyed old.0 r old.2) in
            let there = old.1 in
            none-some there.0 (sym it.0 ∙ ap (get P.contents.operations) (ap (λ (k : OpKey × Name). k.0) keys) ∙ there.1),
      )

  there_too : (r : PlanRow) → IsRowOf n Q r × ¬ IsRowOf n P r → Contains (filter_map h needs) r
  there_too r (is, away) = let it = made.row_is Q r is in by_old it.0 it.1 it.2 (get P.contents.operations it.0.0) refl
    where
      by_old : (x : OpKey × Need) → HasNeed Q x → h x ≡ Some r → (old : Option Operation) → get P.contents.operations x.0 ≡ old → Contains (filter_map h needs) r
      by_old x has is_made_so None none = is_made h needs x r ((new.all x.0 x.1).1 (none, has)) is_made_so
      by_old x (op, at, has) is_made_so (Some old) was =
          let kept = keeps x.0 old was in
          let same : op ≡ with_mark kept.0 old = same_Some op (with_mark kept.0 old) (sym at ∙ kept.1) in
          absurd (away (made.is_row P x r (old, was, subst (λ (z : Operation). get z.needs x.1.name ≡ Some (usage_of x.1)) same has) is_made_so))

  ascend : IsStrictlySortedBy row_cmp (map key_of (filter_map h needs))
  ascend =
      some_ascend h row_cmp (λ x. name (need_key x)) key_of made.keyed needs
      (subst (IsStrictlySortedBy row_cmp) (twice name need_key needs) (names_ascend need_cmp row_cmp name made.in_order (map need_key needs) new.ascend))

  pub new_rows : AreRowChanges row_cmp key_of (IsRowOf n P) (IsRowOf n Q) (filter_map h needs) []
  new_rows = record {
    rows_ascend = ascend;
    has_rows = λ r. (told r, there_too r);
    gone_ascend = none_ascend row_cmp;
    has_gone = λ k. (
      λ has. absurd (contains_none k has),
      λ gone.
          let (r, was, e) = gone.0 in
          let old = made.row_is P r was in
          absurd (gone.1 (r, made.is_row Q old.0 r (stays old.0 old.1) old.2, e)),
    );
  }

-- ---- the table of needs

-- the key of a need's row
abbrev pub need_name : OpKey × Name → RowKey
need_name k = key.Need k.0 k.1

one_need_name : (a b : OpKey × Name) → need_name a ≡ need_name b → a ≡ b
one_need_name a b e =
    let operation : a.0 ≡ b.0 = cc in
    let resource : a.1 ≡ b.1 = cc in
    λ i. (operation i, resource i)

need_is : (P : Plan) (x : OpKey × Need) (r : PlanRow) → HasNeed P x → ◌≡◌ {A = Option PlanRow} (Some (need_row x)) (Some r) → IsRowOf 7 P r
need_is P x r (op, is, has) e = subst (IsRowOf 7 P) (same_Some (need_row x) r e) ((op, is, (usage_of x.1, has, refl, refl)), refl)

row_is_need : (P : Plan) (r : PlanRow) → IsRowOf 7 P r → (x : OpKey × Need) × HasNeed P x × ◌≡◌ {A = Option PlanRow} (Some (need_row x)) (Some r)
row_is_need P (row.Need o r mode keep) ((op, is, (usage, has, modes, keeps)), e) = ((o, need_of (r, usage)), (op, is, has), λ i. Some (row.Need o r (modes i) (keeps i)))
row_is_need P r (is, e) = absurd (cc)

pub needs_made : AreMadeOfNeeds 7 need_name (λ x. Some (need_row x))
needs_made = record {
  in_order = λ a b. refl;
  one_name = one_need_name;
  keyed = λ x r e. ap key_of (sym (same_Some (need_row x) r e));
  is_row = need_is;
  row_is = row_is_need;
}

-- ---- the table of amounts

-- the key of an amount's row
abbrev pub amount_name : OpKey × Name → RowKey
amount_name k = key.Amount k.0 k.1

one_amount_name : (a b : OpKey × Name) → amount_name a ≡ amount_name b → a ≡ b
one_amount_name a b e =
    let operation : a.0 ≡ b.0 = cc in
    let resource : a.1 ≡ b.1 = cc in
    λ i. (operation i, resource i)

-- which row an amount has
amount_of : (x : OpKey × Need) (r : PlanRow) → amount_row x ≡ Some r → (x.1.mode ≡ Shared) × (x.1.amount ≢ 1) × (row.Amount x.0 x.1.name x.1.amount ≡ r)
amount_of x r e = by_mode x.1.mode refl e
  where
    by_test : (b : Bool) → (x.1.amount == 1) ≡ b → cond b None (Some (row.Amount x.0 x.1.name x.1.amount)) ≡ Some r → (x.1.amount ≢ 1) × (row.Amount x.0 x.1.name x.1.amount ≡ r)
    by_test true is made = absurd (none-some r made)
    by_test false is made = (eqb-false x.1.amount 1 is, same_Some (row.Amount x.0 x.1.name x.1.amount) r made)

    by_mode : (mode : Mode) → x.1.mode ≡ mode → amount_by mode x ≡ Some r → (x.1.mode ≡ Shared) × (x.1.amount ≢ 1) × (row.Amount x.0 x.1.name x.1.amount ≡ r)
    by_mode Exclusive is made = absurd (none-some r made)
    by_mode Shared is made = let it = by_test (x.1.amount == 1) refl made in (is, it.0, it.1)

of_amount : (x : OpKey × Need) → x.1.mode ≡ Shared → x.1.amount ≢ 1 → amount_row x ≡ Some (row.Amount x.0 x.1.name x.1.amount)
of_amount x shared differs =
    ap (λ mode. amount_by mode x) shared
    ∙ ap (λ b. cond b None (Some (row.Amount x.0 x.1.name x.1.amount))) (false_from_ne_true (x.1.amount == 1) (λ same. differs (eqb-true x.1.amount 1 same)))

amount_is : (P : Plan) (x : OpKey × Need) (r : PlanRow) → HasNeed P x → amount_row x ≡ Some r → IsRowOf 9 P r
amount_is P x r (op, is, has) e =
    let it = amount_of x r e in
    subst (IsRowOf 9 P) it.2 ((op, is, (usage_of x.1, has, λ i. record { mode = it.0 i; amount = x.1.amount }, it.1)), refl)

row_is_amount : (P : Plan) (r : PlanRow) → IsRowOf 9 P r → (x : OpKey × Need) × HasNeed P x × (amount_row x ≡ Some r)
row_is_amount P (row.Amount o r amount) ((op, is, (usage, has, claim, differs)), e) =
    let x : OpKey × Need = (o, need_of (r, usage)) in
    let same : usage.claim.amount ≡ amount = ap (λ c. c.amount) claim in (
      x,
      (op, is, has),
      of_amount x (ap (λ c. c.mode) claim) (λ one. differs (sym same ∙ one)) ∙ ap (λ m. Some (row.Amount o r m)) same,
    )
row_is_amount P r (is, e) = absurd (cc)

pub amounts_made : AreMadeOfNeeds 9 amount_name amount_row
amounts_made = record {
  in_order = λ a b. refl;
  one_name = one_amount_name;
  keyed = λ x r e. ap key_of (sym (amount_of x r e).2);
  is_row = amount_is;
  row_is = row_is_amount;
}

-- each need has a row in the table of needs
pub each_need : (needs : List (OpKey × Need)) → filter_map (λ x. Some (need_row x)) needs ≡ map need_row needs
each_need = made_of_each need_row
