-- What records say so far, and what the next one adds.
use Rattle.std.proofs.Common.{◌≡◌, sym, refl, ℕ, List, [], ◌∷◌, ◌++◌, Option, Some, None, IfSome, MatchOption, All}
use Rattle.std.specs.List.{AllByRecursion, AllZip}
use Rattle.std.proofs.lemmas.List.Elements.{All-append, All-cons, All-nil}
use Rattle.csv.specs.Machine.{Read, next_record}
use Rattle.csv.specs.Reading.{Reached, default_config, strip_bom}
use Rattle.csv.specs.declared.parser.State.{State}
use Rattle.csv.specs.declared.parser.State.TheVariants as st
use Rattle.csv.proofs.ReadFacts.{reached-more}
use Rattle.plan_records.specs.plan_drafts.specs.Records.{Denotes, DenotesAddition, DenotesExtension}
use Rattle.plan_items.specs.Items.{Fields, IsItem, Says}
use Rattle.plan_items.specs.declared.Item.{Item}
use Rattle.plan_records.specs.plan_model.specs.Contents.{AddedParts, Contents}
use Rattle.plan_import.proofs.Rows.{all-more, one_reading, other-none}
use Rattle.plan_import.specs.Records.{IsSaidIn, IsTen, SaysSome}
use Rattle.plan_import.specs.Texts.{ReadsAs, TextDenotes, TextDenotesAddition, TextDenotesExtension}

-- the records so far say these items, and the bytes go on with y
abbrev pub SaidSoFar : Option (List ℕ) → Option (List ℕ) → State → List Item → Type 0
SaidSoFar o a s items = IfSome o (λ bytes. (y : List ℕ) × (a ≡ Some y) × (rows : List Fields) × AllByRecursion IsTen rows × AllZip Says rows items × Reached default_config st.StartRecord bytes rows s y)

said-more : (rows : List Fields) (items : List Item) (f : Fields) (item : Item) → AllZip Says rows items → Says f item → AllZip Says (rows ++ f ∷ []) (items ++ item ∷ [])
said-more [] [] f item said one = (one, tt)
said-more [] (i ∷ items) f item said one = absurd said
said-more (r ∷ rows) [] f item said one = absurd said
said-more (r ∷ rows) (i ∷ items) f item said one = (said.0, said-more rows items f item said.1 one)

-- one item more in range
pub all-item-more : (items : List Item) (item : Item) → All IsItem items → IsItem item → All IsItem (items ++ item ∷ [])
all-item-more items item all one = All-append IsItem items (item ∷ []) all (All-cons IsItem item [] one (All-nil IsItem))

-- records of ten fields that say items each say one
each-says : (rows : List Fields) (items : List Item) → AllByRecursion IsTen rows → AllZip Says rows items → AllByRecursion SaysSome rows
each-says [] items ten said = tt
each-says (r ∷ rows) [] ten said = absurd said
each-says (r ∷ rows) (i ∷ items) ten said = ((ten.0, i, said.0), each-says rows items ten.1 said.1)

pub begins-said : (o : Option (List ℕ)) (s : State) → s ≡ st.StartRecord → SaidSoFar o o s []
unfolding Reached
begins-said None s e = tt
begins-said (Some bytes) s e = (bytes, refl, [], tt, tt, (sym e, refl))

pub goes-said : (o a b : Option (List ℕ)) (s s2 : State) (items : List Item) (f : Fields) (item : Item) → SaidSoFar o a s items → IsTen f → Says f item
    → ((y : List ℕ) → a ≡ Some y → (rest : List ℕ) × (b ≡ Some rest) × (next_record default_config s [] [] y ≡ Some (f, s2, rest))) → SaidSoFar o b s2 (items ++ item ∷ [])
goes-said None a b s s2 items f item h ten one turn = tt
goes-said (Some bytes) a b s s2 items f item (y, is, rows, tens, said, reached) ten one turn =
    let t = turn y is in
    (t.0, t.1, rows ++ f ∷ [], all-more IsTen rows f tens ten, said-more rows items f item said one, reached-more default_config st.StartRecord s bytes y rows (f, s2, t.0) reached t.2)

pub ends-said : (o a : Option (List ℕ)) (s : State) (items : List Item) → SaidSoFar o a s items → ((y : List ℕ) → a ≡ Some y → next_record default_config s [] [] y ≡ None)
    → IfSome o (λ bytes. IsSaidIn bytes (Some items))
ends-said None a s items h turn = tt
ends-said (Some bytes) a s items (y, is, rows, tens, said, reached) turn = (rows, ((s, y, reached, turn y is), tens), said)

pub fails-said : (o a : Option (List ℕ)) (s : State) (items : List Item) → SaidSoFar o a s items
    → ((y : List ℕ) → a ≡ Some y → (p : Read) × (next_record default_config s [] [] y ≡ Some p) × ¬ SaysSome p.0) → IfSome o (λ bytes. IsSaidIn bytes None)
fails-said None a s items h turn = tt
fails-said (Some bytes) a s items (y, is, rows, tens, said, reached) turn = λ (other, (all, ten), more, says).
    let t = turn y is in
    other-none SaysSome default_config st.StartRecord s bytes y rows other t.0 reached t.1 t.2 all (each-says other more ten says)

-- ---- what the text denotes

module _ {X : Type 0} (D : List Fields → X → Type 0) where
  -- the text denotes it: its records do
  abbrev ByText : List ℕ → X → Type 0
  ByText text x = (records : List Fields) × ReadsAs text records × D records x

  -- records that say nothing denote nothing
  none_by : ((records : List Fields) (x : X) → D records x → (items : List Item) × AllZip Says records items) → (o : Option (List ℕ)) → IfSome o (λ text. IsSaidIn (strip_bom text) None) →
      IfSome o (λ text. (x : X) → ¬ ByText text x)
  none_by says None none = tt
  none_by says (Some text) none = λ x (records, reads, denotes). let said = says records x denotes in none (records, reads, said.0, said.1)

  -- what records that say these items denote, the text does, since it has no others
  denoted_by :
      (o : Option (List ℕ)) (items : List Item) (found : Option X) → IfSome o (λ text. IsSaidIn (strip_bom text) (Some items)) →
      ((records : List Fields) → AllZip Says records items → MatchOption found ((x : X) → ¬ D records x) (λ x. D records x)) →
      IfSome o (λ text. MatchOption found ((x : X) → ¬ ByText text x) (λ x. ByText text x))
  denoted_by None items found said denoted = tt
  denoted_by (Some text) items None (records, reads, says) denoted = λ x (other, reads_other, denotes).
      let same : other ≡ records = one_reading default_config st.StartRecord (strip_bom text) other records reads_other.0 reads.0 in
      denoted records says x (rw (← same) denotes)
  denoted_by (Some text) items (Some x) (records, reads, says) denoted = (records, reads, denoted records says)

pub no_plan_said : (o : Option (List ℕ)) → IfSome o (λ text. IsSaidIn (strip_bom text) None) → IfSome o (λ text. (P : Contents) → ¬ TextDenotes text P)
no_plan_said o none = none_by Denotes (λ records P denotes. (denotes.described.items, denotes.described.said)) o none

pub no_addition_said : (o : Option (List ℕ)) → IfSome o (λ text. IsSaidIn (strip_bom text) None) → IfSome o (λ text. (s : AddedParts) → ¬ TextDenotesAddition text s)
no_addition_said o none = none_by DenotesAddition (λ records s denotes. (denotes.described.items, denotes.described.said)) o none

pub no_extension_said : (o : Option (List ℕ)) → IfSome o (λ text. IsSaidIn (strip_bom text) None) → IfSome o (λ text. (s : AddedParts) → ¬ TextDenotesExtension text s)
no_extension_said o none = none_by DenotesExtension (λ records s denotes. (denotes.described.items, denotes.described.said)) o none

pub plan_by_items : (o : Option (List ℕ)) (items : List Item) (found : Option Contents) → IfSome o (λ text. IsSaidIn (strip_bom text) (Some items))
    → ((records : List Fields) → AllZip Says records items → MatchOption found ((P : Contents) → ¬ Denotes records P) (λ draft. Denotes records draft))
    → IfSome o (λ text. MatchOption found ((P : Contents) → ¬ TextDenotes text P) (λ draft. TextDenotes text draft))
plan_by_items o items found said denoted = denoted_by Denotes o items found said denoted

pub addition_by_items : (o : Option (List ℕ)) (items : List Item) (found : Option AddedParts) → IfSome o (λ text. IsSaidIn (strip_bom text) (Some items))
    → ((records : List Fields) → AllZip Says records items → MatchOption found ((s : AddedParts) → ¬ DenotesAddition records s) (λ a. DenotesAddition records a))
    → IfSome o (λ text. MatchOption found ((s : AddedParts) → ¬ TextDenotesAddition text s) (λ a. TextDenotesAddition text a))
addition_by_items o items found said denoted = denoted_by DenotesAddition o items found said denoted

pub extension_by_items : (o : Option (List ℕ)) (items : List Item) (found : Option AddedParts) → IfSome o (λ text. IsSaidIn (strip_bom text) (Some items))
    → ((records : List Fields) → AllZip Says records items → MatchOption found ((s : AddedParts) → ¬ DenotesExtension records s) (λ a. DenotesExtension records a))
    → IfSome o (λ text. MatchOption found ((s : AddedParts) → ¬ TextDenotesExtension text s) (λ a. TextDenotesExtension text a))
extension_by_items o items found said denoted = denoted_by DenotesExtension o items found said denoted
