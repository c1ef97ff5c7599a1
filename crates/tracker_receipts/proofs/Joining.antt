-- Keys' texts that are joined with blanks, and the text split at them.
use Rattle.std.proofs.Common.{◌≡◌, refl, sym, ap, ap₂, subst, ◌∙◌, arith, ℕ, ◌<◌, List, [], ◌∷◌, ◌++◌, length, get_or, map, eqb, All, Contains, codes, length-append, append_assoc}
use Rattle.std.specs.List.{AllByRecursion, join_with_byte, slice_split}
use Rattle.std.proofs.lemmas.List.{length_push, map-append}
use Rattle.std.proofs.lemmas.List.Elements.{All-contains, recursion_from_All}
use Rattle.std.proofs.lemmas.List.Splits.{join_with_byte-slice_split, slice_split_at, slice_split_none}
use Rattle.plan_basics.specs.declared.keys.OpKey.{OpKey}
use Rattle.plan_basics.specs.Digits.{digits}
use Rattle.plan_basics.specs.Keys.{IsOperationKey}
use Rattle.plan_basics.specs.KeyTexts.{IsOperationText, occurrence_text, operation_text}
use Rattle.plan_laws.specs.plan_drafts.proofs.Lists.{from_map}
use Rattle.tracker_receipts.specs.Replies.{Joins, joined}
use Rattle.tracker_receipts.proofs.Blanks.{IsNoBlank, in_key}

-- ---- one key more

some_text : (k : OpKey) → 0 < length (operation_text k)
some_text k = omega (arith, length-append (occurrence_text k.occurrence ++ codes "/") (digits 3 k.number), length_push (occurrence_text k.occurrence) 47)

pub some_joined : (k : OpKey) (ks : List OpKey) → 0 < length (joined (k ∷ ks))
some_joined k [] = some_text k
some_joined k (l ∷ ks) = omega (arith, some_text k, length-append (operation_text k) (32 ∷ joined (l ∷ ks)))

joined_more : (k : OpKey) (ks : List OpKey) (key : OpKey) → joined ((k ∷ ks) ++ key ∷ []) ≡ joined (k ∷ ks) ++ (32 ∷ operation_text key)
joined_more k [] key = refl
joined_more k (l ∷ ks) key =
    ap (λ t. operation_text k ++ (32 ∷ t)) (joined_more l ks key) ∙ sym (append_assoc (operation_text k) (32 ∷ joined (l ∷ ks)) (32 ∷ operation_text key))

-- behind nothing
pub first_pushed : (keys : List OpKey) (key : OpKey) (old new : List ℕ) → length old ≡ 0 → new ≡ old ++ operation_text key → old ≡ joined keys → new ≡ joined (keys ++ key ∷ [])
first_pushed [] key old new none e was = e ∙ ap (λ o. o ++ operation_text key) was
first_pushed (k ∷ ks) key old new none e was = absurd (omega (arith, some_joined k ks, ap length was, none))

-- behind others, after a blank
pub next_pushed : (keys : List OpKey) (key : OpKey) (old mid new : List ℕ) → 0 < length old → mid ≡ old ++ codes " " → new ≡ mid ++ operation_text key → old ≡ joined keys → new ≡ joined (keys ++ key ∷ [])
next_pushed [] key old mid new some d e was = let none : length old ≡ 0 = ap length was in absurd (omega (arith, none, some))
next_pushed (k ∷ ks) key old mid new some d e was =
    e ∙ ap (λ m. m ++ operation_text key) (d ∙ ap (λ o. o ++ codes " ") was)
    ∙ append_assoc (joined (k ∷ ks)) (32 ∷ []) (operation_text key)
    ∙ sym (joined_more k ks key)

-- ---- split at the blanks

-- the parts of a text
abbrev pub parts : List ℕ → List (List ℕ)
parts text = slice_split (λ b. eqb b 32) text

split_joined : (x : List ℕ) (xs : List (List ℕ)) → AllByRecursion (All IsNoBlank) (x ∷ xs) → parts (join_with_byte 32 (x ∷ xs)) ≡ x ∷ xs
split_joined x [] none = slice_split_none (λ b. eqb b 32) x none.0
split_joined x (y ∷ xs) none = slice_split_at (λ b. eqb b 32) x 32 (join_with_byte 32 (y ∷ xs)) none.0 refl ∙ ap (λ ps. x ∷ ps) (split_joined y xs none.1)

no_blanks : (keys : List OpKey) → AllByRecursion IsOperationKey keys → AllByRecursion (All IsNoBlank) (map operation_text keys)
no_blanks [] legal = tt
no_blanks (k ∷ ks) legal = (in_key k legal.0, no_blanks ks legal.1)

pub parts_are : (text : List ℕ) (keys : List OpKey) → Joins text keys → 0 < length text → parts text ≡ map operation_text keys
parts_are text [] joins some = let none : length text ≡ 0 = ap length joins.1 in absurd (omega (arith, none, some))
parts_are text (k ∷ ks) joins some =
    ap parts joins.1 ∙ split_joined (operation_text k) (map operation_text ks) (no_blanks (k ∷ ks) (recursion_from_All IsOperationKey (k ∷ ks) joins.0))

-- each part of a text that joins keys is the text of one
pub part_is_key : (text : List ℕ) (keys : List OpKey) (i : ℕ) (part : List ℕ) → 0 < length text → i < length (parts text) → part ≡ get_or (parts text) i part → Joins text keys → (key : OpKey) × IsOperationKey key × IsOperationText part key
part_is_key text keys i part some lt is joins =
    let has : Contains (map operation_text keys) part = subst (λ ps. Contains ps part) (parts_are text keys joins some) (i, lt, sym is) in
    let found = from_map operation_text keys part has in
    let legal = All-contains IsOperationKey keys found.0 joins.0 found.1 in
    (found.0, legal, (legal.0.1, sym found.2))

-- one key more, and one part more
pub texts_more : (ps : List (List ℕ)) (keys : List OpKey) (part : List ℕ) (key : OpKey) → map operation_text keys ≡ ps → IsOperationText part key → map operation_text (keys ++ key ∷ []) ≡ ps ++ part ∷ []
texts_more ps keys part key same is = map-append operation_text keys (key ∷ []) ∙ ap₂ (λ ts t. ts ++ t ∷ []) same (sym is.1)

-- a text whose parts are the texts of keys joins them
pub keys_joined : (text : List ℕ) (keys : List OpKey) → map operation_text keys ≡ parts text → All IsOperationKey keys → Joins text keys
keys_joined text keys same legal = (legal, sym (ap (join_with_byte 32) same ∙ join_with_byte-slice_split 32 text))
