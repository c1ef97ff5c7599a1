-- The operations that never begin, listed.
use Rattle.std.proofs.Common.{◌≡◌, refl, ap, ℕ, ◌+◌, ◌<◌, ◌≤◌, Bool, true, false, List, [], ◌++◌, length, Option}
use Rattle.std.specs.Prelude.{MatchOption}
use Rattle.std.specs.Cmp.{IsTotalOrder, bool_cmp_total, on_total, then_total}
use Rattle.std.specs.FinMap.{IsAntisymmetric, entries}
use Rattle.std.specs.List.Sorted.{IsPermutation, IsSortedByKey}
use Rattle.std.specs.Option.{option_to_list}
use Rattle.std.specs.Ordering.{bool_cmp}
use Rattle.plan_basics.specs.Keys.{operation_cmp, operation_cmp_total, operation_cmp-IsAntisymmetric, then_IsAntisymmetric}
use Rattle.plan_basics.specs.declared.keys.OpKey.{OpKey}
use Rattle.plan_model.proofs.Entries.{entries_in_order}
use Rattle.plan_reasons.specs.plan_drafts.proofs.RowPlaces.{row_at}
use Rattle.plan_outlooks.specs.Forecasts.{Forecast, NeverBegins}
use Rattle.plan_outlooks.specs.Lent.{IsOfRow}
use Rattle.plan_outlooks.specs.Standstills.{AreStandstills, AreStandstillsByKey, IsStandstill, standstill_place, waiting_key_cmp}
use Rattle.plan_outlooks.specs.declared.rows.Standstill.{Standstill}
use Rattle.plan_outlooks.proofs.Listing.{AreUpTo, all_listed, none_among, none_yet, one_more, placed}
use Rattle.plan_outlooks.proofs.OperationsListed.{among_all}

bool_exact : IsAntisymmetric bool_cmp
bool_exact true true e = refl
bool_exact false false e = refl
bool_exact true false e = cc
bool_exact false true e = cc

abbrev pub key_of : Standstill → OpKey
key_of r = r.key

-- those of the first n operations
abbrev pub StandstillsUpTo : Forecast → ℕ → List Standstill → Type 0
StandstillsUpTo F n rows = AreUpTo operation_cmp (entries F.plan.contents.operations) key_of (NeverBegins F) (IsStandstill F) n rows

pub no_standstills_yet : (F : Forecast) → StandstillsUpTo F 0 []
no_standstills_yet F =
    none_yet operation_cmp_total (entries F.plan.contents.operations) (entries_in_order operation_cmp F.plan.contents.operations) key_of (NeverBegins F) (IsStandstill F) 0
    (λ k is. absurd (none_among (entries F.plan.contents.operations) k is))

pub standstill_more : (F : Forecast) (n : ℕ) → n < length (entries F.plan.contents.operations) → (rows : List Standstill) → StandstillsUpTo F n rows → (told : Option Standstill)
    → ((o : OpKey) → IsOfRow F n o → MatchOption told (¬ NeverBegins F o) (λ r. (r.key ≡ o) × NeverBegins F o × IsStandstill F r)) → StandstillsUpTo F (n + 1) (rows ++ option_to_list told)
standstill_more F n within rows a told says =
    let r = row_at (entries F.plan.contents.operations) n within in
    one_more operation_cmp_total (entries F.plan.contents.operations) (entries_in_order operation_cmp F.plan.contents.operations) key_of (NeverBegins F) (IsStandstill F) n r.0.0 r.0.1 r.1 rows a told (says r.0.0 (r.0.1, r.1))

pub standstills_listed : (F : Forecast) (n : ℕ) → length (entries F.plan.contents.operations) ≤ n → (rows : List Standstill) → StandstillsUpTo F n rows → AreStandstillsByKey F rows
standstills_listed F n all rows a =
    all_listed operation_cmp_total (entries F.plan.contents.operations) (entries_in_order operation_cmp F.plan.contents.operations) key_of (NeverBegins F) (IsStandstill F) n
    (λ k begins. among_all F n all k begins.0.0.0 begins.0.0.1) rows a

-- ---- what doesn't wait first
pub waiting_key_total : IsTotalOrder waiting_key_cmp
waiting_key_total = then_total (on_total (λ (x : Bool × OpKey). x.0) bool_cmp_total) (on_total (λ (x : Bool × OpKey). x.1) operation_cmp_total)

pub waiting_key_exact : IsAntisymmetric waiting_key_cmp
waiting_key_exact = then_IsAntisymmetric {R = bool_cmp} {S = operation_cmp} (λ (x : Bool × OpKey). x.0) (λ x. x.1) (λ x y p q i. (p i, q i)) bool_exact operation_cmp-IsAntisymmetric

pub standstills_placed : (F : Forecast) (rows made : List Standstill) → IsPermutation rows made → AreStandstillsByKey F rows → IsSortedByKey standstill_place waiting_key_cmp made → AreStandstills F made
standstills_placed F rows made same a sorted =
    placed operation_cmp_total operation_cmp-IsAntisymmetric waiting_key_total waiting_key_exact key_of standstill_place (λ a b e. ap (λ (z : Bool × OpKey). z.1) e) (NeverBegins F) (IsStandstill F) rows made same a sorted
