-- What records denote, from what each of them says.
use Rattle.std.proofs.Common.{◌≡◌, refl, sym, subst, ap₂, arith, ℕ, zero, suc, ◌+◌, ◌<◌, List, [], ◌∷◌, ◌++◌, length, get_or, take, All, Vec, true, false, eqb}
use Rattle.std.specs.List.{AllZip}
use Rattle.std.specs.declared.cmp.Ordering.{Ordering}
use Rattle.std.specs.FinMap.{FinMap, entries, len, len-entries}
use Rattle.std.proofs.lemmas.Bool.{eqb-true}
use Rattle.std.specs.declared.alloc.Global.{Global}
use Rattle.std.proofs.lemmas.List.Elements.{All-nil, All-cons}
use Rattle.plan_model.specs.Contents.{Contents}
use Rattle.plan_items.specs.declared.Item.{Item}
use Rattle.plan_items.specs.Items.{Fields, fields_of, IsItem, Says}
use Rattle.plan_items.proofs.ItemLaws.{one_item}
use Rattle.plan_drafts.specs.PlanItems.{CanBeLoaded, AreContentsOf}
use Rattle.plan_drafts.specs.Records.{records_of, StandsIn, IsItemOfPlan, AreItems, AreItemsOf, Denotes}
use Rattle.plan_drafts.proofs.Lists.{some_from_test}
use Rattle.plan_denotation.proofs.Needed.{needed}
use Rattle.plan_denotation.proofs.Made.{are_items, is_draft}

-- ---- one record after another
abbrev Records : Type 0
Records = List (List (Vec ℕ Global))

said_next : (records : Records) (items : List Item) (i : ℕ) (fields : List (Vec ℕ Global)) (item : Item) → i < length records → fields ≡ get_or records i fields → AllZip Says (records_of (take i records)) items → Says (fields_of fields) item → AllZip Says (records_of (take (suc i) records)) (items ++ item ∷ [])
said_next [] items i fields item lt is said one = absurd (omega arith)
said_next (x ∷ xs) [] zero fields item lt is said one = (subst (λ r. Says (fields_of r) item) is one, tt)
said_next (x ∷ xs) (y ∷ ys) zero fields item lt is said one = absurd said
said_next (x ∷ xs) [] (suc i) fields item lt is said one = absurd said
said_next (x ∷ xs) (y ∷ ys) (suc i) fields item lt is said one = (said.0, said_next xs ys i fields item (omega arith) is said.1 one)

-- what a record says goes to the end
pub said_more : (records : Records) (items : List Item) (i : ℕ) (fields : List (Vec ℕ Global)) (item : Item) → i < length records → fields ≡ get_or records i fields → AllZip Says (records_of (take i records)) items → Says (fields_of fields) item → AllZip Says (records_of (take (i + 1) records)) (items ++ item ∷ [])
said_more records items i fields item lt is said one = let next : suc i ≡ i + 1 = omega arith in subst (λ n. AllZip Says (records_of (take n records)) (items ++ item ∷ [])) next (said_next records items i fields item lt is said one)

-- each record says an item
pub said_at : (records : Records) (items : List Item) (i : ℕ) (fields : List (Vec ℕ Global)) → i < length records → fields ≡ get_or records i fields → AllZip Says (records_of records) items → (item : Item) × Says (fields_of fields) item
said_at [] items i fields lt is said = absurd (omega arith)
said_at (x ∷ xs) [] i fields lt is said = absurd said
said_at (x ∷ xs) (y ∷ ys) zero fields lt is said = (y, subst (λ r. Says (fields_of r) y) (sym is) said.0)
said_at (x ∷ xs) (y ∷ ys) (suc i) fields lt is said = said_at xs ys i fields (omega arith) is said.1

-- what records say, where they and the items go by other names
pub said_by : {read records : Records} {items said : List Item} → read ≡ records → items ≡ said → AllZip Says (records_of read) said → AllZip Says (records_of records) items
said_by {read} {records} {items} {said} same are h = subst (λ xs. AllZip Says (records_of records) xs) (sym are) (subst (λ rs. AllZip Says (records_of rs) said) same h)

-- records say one list of items at most
pub same_items : (records : List Fields) (a b : List Item) → AllZip Says records a → AllZip Says records b → a ≡ b
same_items [] [] [] h k = refl
same_items [] (x ∷ xs) b h k = absurd h
same_items [] [] (y ∷ ys) h k = absurd k
same_items (r ∷ rs) [] b h k = absurd h
same_items (r ∷ rs) (x ∷ xs) [] h k = absurd k
same_items (r ∷ rs) (x ∷ xs) (y ∷ ys) h k = ap₂ (λ z zs. z ∷ zs) (one_item r x y h.0 k.0) (same_items rs xs ys h.1 k.1)

-- what is said is in range
pub items_legal : (records : List Fields) (items : List Item) → AllZip Says records items → All IsItem items
items_legal [] [] h = All-nil IsItem
items_legal [] (y ∷ ys) h = absurd h
items_legal (r ∷ rs) [] h = absurd h
items_legal (r ∷ rs) (y ∷ ys) h = All-cons IsItem y ys h.0.0 (items_legal rs ys h.1)

-- ---- the plan
-- what is made of items in range is the plan that has them
pub made_of : (items : List Item) → All IsItem items → (P : Contents) → AreContentsOf items P → AreItemsOf items P
made_of items legal P (rows, made, is) = subst (AreItemsOf items) (sym is) (record { draft = is_draft items rows legal made; are = are_items items rows legal made })

-- items of which nothing can be made are those of no plan
pub none_made : (items : List Item) → ¬ CanBeLoaded items → (P : Contents) → ¬ AreItemsOf items P
none_made items none P is = none (needed P is.draft items is.are)

-- whether a map is empty, by the list of its entries
module _ {K V : Type 0} {R : K → K → Ordering} (m : FinMap R V) where
  pub no_entry : true ≡ eqb (length (entries m)) 0 → ¬ (0 < len m)
  no_entry e some = let none = eqb-true (length (entries m)) 0 (sym e) in omega (arith, len-entries m, none, some)

  pub some_entry : false ≡ eqb (length (entries m)) 0 → 0 < len m
  some_entry e = let some = some_from_test (entries m) e in omega (arith, len-entries m, some)

module _ (records : List Fields) (items : List Item) (said : AllZip Says records items) where
  pub are_denoted : (P : Contents) → AreItemsOf items P → 0 < len P.workstations → 0 < len P.occurrences → Denotes records P
  are_denoted P is some_workstation some_occurrence = record {
    draft = is.draft;
    some_workstation = some_workstation;
    some_occurrence = some_occurrence;
    described = record { items = items; said = said; are = is.are };
  }

  -- the items of a plan that the records denote
  pub denoted_items : (P : Contents) → Denotes records P → AreItemsOf items P
  denoted_items P d = let same = same_items records d.described.items items d.described.said said in record { draft = d.draft; are = subst (AreItems (StandsIn P) (IsItemOfPlan P)) same d.described.are }
