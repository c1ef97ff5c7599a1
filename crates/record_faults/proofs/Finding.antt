-- The faults that are told of a list of records are its faults, and there is none exactly where it denotes a plan.
use Rattle.std.proofs.Common.{◌≡◌, ◌↔◌, inl, inr, refl, sym, ap, ap₂, subst, ◌∙◌, true, false, true≢false, eqb, Bool, IsTrue, arith, ℕ, List, [], ◌∷◌, length, All, Contains, Some, None}
use Rattle.std.proofs.lemmas.Bool.{eqb-true}
use Rattle.plan_basics.proofs.Members.{all_by_members, contains_cases, contains_none}
use Rattle.plan_drafts.proofs.Lists.{no_members}
use Rattle.plan_items.specs.Items.{Fields}
use Rattle.plan_items.proofs.ItemLaws.{one_item}
use Rattle.record_faults.specs.declared.faults.Fault.{Fault}
use Rattle.record_faults.specs.declared.faults.RecordFault.{RecordFault}
use Rattle.record_faults.specs.declared.readings.Reading.{Reading}
use Rattle.record_faults.specs.Sayings.{Sayings, AreSayings}
use Rattle.record_faults.specs.Readings.{IsReadingOf}
use Rattle.record_faults.specs.Plans.{SaySome}
use Rattle.record_faults.specs.Faults.{IsFaultAt, AreFaults, IsReturning, IsFaultOfRecord, IsFault, DenoteSome}
use Rattle.record_faults.proofs.Denoted.{say_denoted, denoted_no_fault}

-- records say one thing at most
pub one_saying : (records : List Fields) (a b : Sayings) → AreSayings records a → AreSayings records b → a ≡ b
one_saying [] [] [] h k = refl
one_saying [] [] (y ∷ ys) h k = absurd k
one_saying [] (x ∷ xs) b h k = absurd h
one_saying (r ∷ rs) [] b h k = absurd h
one_saying (r ∷ rs) (x ∷ xs) [] h k = absurd k
one_saying (r ∷ rs) (None ∷ xs) (None ∷ ys) h k = ap (λ zs. None ∷ zs) (one_saying rs xs ys h.1 k.1)
one_saying (r ∷ rs) (None ∷ xs) (Some y ∷ ys) h k = absurd (h.0 y k.0)
one_saying (r ∷ rs) (Some x ∷ xs) (None ∷ ys) h k = absurd (k.0 x h.0)
one_saying (r ∷ rs) (Some x ∷ xs) (Some y ∷ ys) h k = ap₂ (λ z zs. z ∷ zs) (ap Some (one_item r x y h.0 k.0)) (one_saying rs xs ys h.1 k.1)

-- ---- what is told
module _ (records : List Fields) (r : Reading) (is : IsReadingOf records r) (faults : List RecordFault) (are : AreFaults records r.said.items faults) where
  pub are_faults : All (λ (f : RecordFault). IsFault records f.place f.fault) faults
  are_faults = all_by_members (λ (f : RecordFault). IsFault records f.place f.fault) faults (λ f has. (r.said.items, is.said, inl ((are.exact f).0 has)))

  pub each_is_told : (f : RecordFault) → IsFaultOfRecord records f.place f.fault → Contains faults f
  each_is_told f (said, says, at) =
      (are.exact f).1 (subst (λ z. IsFaultAt records z f.place f.fault) (one_saying records said r.said.items says is.said) at)

  -- where there are some, no plan is denoted
  pub some_fault : ¬ (faults ≡ []) → ¬ DenoteSome records
  some_fault some denoted = some (no_members faults (λ f has. denoted_no_fault records r.said.items is.said denoted f.place f.fault ((are.exact f).0 has)))

  -- where there is none, none is of a record
  pub never : faults ≡ [] → (place : ℕ) (f : Fault) → ¬ IsFaultAt records r.said.items place f
  never none place f h =
      let one : RecordFault = record { place = place; fault = f } in
      contains_none one (subst (λ z. Contains z one) none ((are.exact one).1 h))

  module _ (none : faults ≡ []) where
    pub alone_faults : (one : RecordFault) → IsReturning r.said.items one.place one.fault → All (λ (f : RecordFault). IsFault records f.place f.fault) (one ∷ [])
    alone_faults one returning = all_by_members (λ (f : RecordFault). IsFault records f.place f.fault) (one ∷ []) (λ f has. elim (contains_cases one [] f has) [
      | inl same ↦ subst (λ (z : RecordFault). IsFault records z.place z.fault) same (r.said.items, is.said, inr (never none, returning))
      | inr nowhere ↦ absurd (contains_none f nowhere)
    ])

    pub alone_each : (one f : RecordFault) → IsFaultOfRecord records f.place f.fault → Contains (one ∷ []) f
    alone_each one f h = absurd (contains_none f (subst (λ z. Contains z f) none (each_is_told f h)))

-- one fault is told where no plan is denoted
pub alone_none : (records : List Fields) (one : RecordFault) → ¬ DenoteSome records → (one ∷ [] ≡ []) ↔ DenoteSome records
alone_none records one no_plan = (λ e. cc, λ denoted. absurd (no_plan denoted))

-- whether a list is empty, by its length
pub empty_told : {X : Type 0} (xs : List X) (n : ℕ) → n ≡ length xs → true ≡ eqb n 0 → xs ≡ []
empty_told [] n size e = refl
empty_told (x ∷ xs) n size e = let none = eqb-true n 0 (sym e) in absurd (omega (arith, none, size))

pub some_told : {X : Type 0} (xs : List X) (n : ℕ) → n ≡ length xs → false ≡ eqb n 0 → ¬ (xs ≡ [])
some_told [] n size e empty = let none : n ≡ 0 = size in true≢false (sym (ap (λ k. eqb k 0) none) ∙ sym e)
some_told (x ∷ xs) n size e empty = cc

-- what is told of whether records say a plan
pub no_plan_told : (records : List Fields) (said read : Sayings) (told : Bool) → AreSayings records said → read ≡ said → (IsTrue told ↔ SaySome read) → told ≡ false → ¬ DenoteSome records
no_plan_told records said read told are same says is_false denoted = true≢false (sym (says.1 (subst SaySome (sym same) ((say_denoted records said are).1 denoted))) ∙ is_false)

-- where a plan is denoted no record has a fault
pub none_of_plan : (records : List Fields) (said : Sayings) → AreSayings records said → SaySome said → (f : RecordFault) → ¬ IsFaultOfRecord records f.place f.fault
none_of_plan records said are some f (other, are_other, at) =
    denoted_no_fault records said are ((say_denoted records said are).0 some) f.place f.fault (subst (λ z. IsFaultAt records z f.place f.fault) (one_saying records other said are_other are) at)
