-- Receipts of the same columns are one receipt.
use Rattle.std.proofs.Common.{◌≡◌, refl, sym, ap, ap₂, ◌∙◌, arith, ℕ, List, [], ◌∷◌, length, map, All, pos}
use Rattle.std.specs.List.{AllByRecursion}
use Rattle.std.proofs.lemmas.List.Elements.{recursion_from_All}
use Rattle.plan_basics.proofs.KeyLaws.{one_key}
use Rattle.plan_basics.specs.Keys.{IsOperationKey, Name}
use Rattle.plan_basics.specs.KeyTexts.{operation_text}
use Rattle.plan_basics.specs.declared.keys.OpKey.{OpKey}
use Rattle.plan_laws.specs.plan_records.specs.Receipts.{IsReceipt}
use Rattle.plan_laws.specs.plan_records.specs.Step.{Receipt}
use Rattle.tracker_receipts.specs.Replies.{joined}
use Rattle.tracker_receipts.specs.Stored.{columns_of}
use Rattle.tracker_receipts.proofs.Joining.{parts, parts_are, some_joined}

-- keys of operations by their texts
same_key : (k l : OpKey) → IsOperationKey k → IsOperationKey l → operation_text k ≡ operation_text l → k ≡ l
same_key k l legal of_number same =
    let small = legal.2 in
    let small₂ = of_number.2 in
    one_key (operation_text k) k l (omega (arith, small)) (omega (arith, small₂)) (legal.0.1, refl) (of_number.0.1, same)

same_keys : (ks ls : List OpKey) → AllByRecursion IsOperationKey ks → AllByRecursion IsOperationKey ls → map operation_text ks ≡ map operation_text ls → ks ≡ ls
same_keys [] [] legal others same = refl
same_keys [] (l ∷ ls) legal others same = absurd (omega (arith, ap length same))
same_keys (k ∷ ks) [] legal others same = absurd (omega (arith, ap length same))
same_keys (k ∷ ks) (l ∷ ls) legal others same =
    let first : operation_text k ≡ operation_text l = cc in
    let rest : map operation_text ks ≡ map operation_text ls = cc in
    ap₂ (λ x xs. x ∷ xs) (same_key k l legal.0 others.0 first) (same_keys ks ls legal.1 others.1 rest)

-- a text joins one list of keys
pub one_list : (ks ls : List OpKey) → All IsOperationKey ks → All IsOperationKey ls → joined ks ≡ joined ls → ks ≡ ls
one_list [] [] legal others same = refl
one_list [] (l ∷ ls) legal others same = absurd (omega (arith, some_joined l ls, ap length same))
one_list (k ∷ ks) [] legal others same = absurd (omega (arith, some_joined k ks, ap length same))
one_list (k ∷ ks) (l ∷ ls) legal others same =
    same_keys (k ∷ ks) (l ∷ ls) (recursion_from_All IsOperationKey (k ∷ ks) legal) (recursion_from_All IsOperationKey (l ∷ ls) others)
    (sym (parts_are (joined (k ∷ ks)) (k ∷ ks) (legal, refl) (some_joined k ks)) ∙ ap parts same ∙ parts_are (joined (l ∷ ls)) (l ∷ ls) (others, refl) (some_joined l ls))

-- columns are those of one tracker and one well formed receipt
pub one_receipt : (t u : Name) (r s : Receipt) → IsReceipt t r → IsReceipt u s → columns_of t r ≡ columns_of u s → (t ≡ u) × (r ≡ s)
one_receipt t u r s legal other same =
    let stored : pos r.number ≡ pos s.number = ap (λ c. c.number) same in
    let number : r.number ≡ s.number = cc in
    let text = ap (λ c. c.text) same in
    let named = one_list r.named s.named legal.named other.named (ap (λ c. c.reply) same) in
    (ap (λ c. c.tracker) same, λ i. record { number = number i; text = text i; named = named i })
