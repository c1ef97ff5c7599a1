-- The operations that begin, listed.
use Rattle.std.proofs.Common.{◌≡◌, ap, arith, ℕ, ◌+◌, ◌<◌, ◌≤◌, List, [], ◌++◌, length, Option, Some}
use Rattle.std.specs.Prelude.{MatchOption}
use Rattle.std.specs.Cmp.{IsTotalOrder, nat_cmp_total, on_total, then_total}
use Rattle.std.specs.FinMap.{IsAntisymmetric, entries, get, nat_cmp-IsAntisymmetric}
use Rattle.std.specs.List.Sorted.{IsPermutation, IsSortedByKey}
use Rattle.std.specs.Option.{option_to_list}
use Rattle.std.specs.Ordering.{nat_cmp}
use Rattle.std.proofs.lemmas.Option.{slice_get_within}
use Rattle.plan_basics.specs.Keys.{operation_cmp, operation_cmp_total, operation_cmp-IsAntisymmetric, then_IsAntisymmetric}
use Rattle.plan_basics.specs.declared.keys.OpKey.{OpKey}
use Rattle.plan_model.specs.Contents.{Operation}
use Rattle.plan_model.proofs.Entries.{entries_in_order}
use Rattle.plan_reasons.specs.plan_drafts.proofs.RowPlaces.{row_at}
use Rattle.plan_outlooks.specs.Forecasts.{Begins, Forecast}
use Rattle.plan_outlooks.specs.Lent.{IsOfRow}
use Rattle.plan_outlooks.specs.Operations.{AreOperationOutlooks, AreOperationsByKey, IsOperationOutlook, minute_key_cmp, operation_place}
use Rattle.plan_outlooks.specs.declared.rows.OperationOutlook.{OperationOutlook}
use Rattle.plan_outlooks.proofs.Listing.{AreUpTo, IsAmong, all_listed, none_among, none_yet, one_more, placed}
use Rattle.plan_outlooks.proofs.OperationRows.{row_of}

abbrev pub key_of : OperationOutlook → OpKey
key_of r = r.key

-- those of the first n operations
abbrev pub OperationsUpTo : Forecast → ℕ → List OperationOutlook → Type 0
OperationsUpTo F n rows = AreUpTo operation_cmp (entries F.plan.contents.operations) key_of (Begins F) (IsOperationOutlook F) n rows

-- an operation that is to be listed is among all
pub among_all : (F : Forecast) (n : ℕ) → length (entries F.plan.contents.operations) ≤ n → (o : OpKey) (op : Operation) → get F.plan.contents.operations o ≡ Some op → IsAmong (entries F.plan.contents.operations) n o
among_all F n all o op is =
    let r = row_of F.plan.contents o op is in
    (r.0, op, (let within = slice_get_within (entries F.plan.contents.operations) r.0 (o, op) r.1 in omega (arith, within, all)), r.1)

pub no_operations_yet : (F : Forecast) → OperationsUpTo F 0 []
no_operations_yet F =
    none_yet operation_cmp_total (entries F.plan.contents.operations) (entries_in_order operation_cmp F.plan.contents.operations) key_of (Begins F) (IsOperationOutlook F) 0
    (λ k is. absurd (none_among (entries F.plan.contents.operations) k is))

pub operation_more : (F : Forecast) (n : ℕ) → n < length (entries F.plan.contents.operations) → (rows : List OperationOutlook) → OperationsUpTo F n rows → (told : Option OperationOutlook)
    → ((o : OpKey) → IsOfRow F n o → MatchOption told (¬ Begins F o) (λ r. (r.key ≡ o) × Begins F o × IsOperationOutlook F r)) → OperationsUpTo F (n + 1) (rows ++ option_to_list told)
operation_more F n within rows a told says =
    let r = row_at (entries F.plan.contents.operations) n within in
    one_more operation_cmp_total (entries F.plan.contents.operations) (entries_in_order operation_cmp F.plan.contents.operations) key_of (Begins F) (IsOperationOutlook F) n r.0.0 r.0.1 r.1 rows a told (says r.0.0 (r.0.1, r.1))

pub operations_listed : (F : Forecast) (n : ℕ) → length (entries F.plan.contents.operations) ≤ n → (rows : List OperationOutlook) → OperationsUpTo F n rows → AreOperationsByKey F rows
operations_listed F n all rows a =
    all_listed operation_cmp_total (entries F.plan.contents.operations) (entries_in_order operation_cmp F.plan.contents.operations) key_of (Begins F) (IsOperationOutlook F) n
    (λ k begins. among_all F n all k begins.0.0.0 begins.0.0.1) rows a

-- ---- by beginning
pub minute_key_total : IsTotalOrder minute_key_cmp
minute_key_total = then_total (on_total (λ (x : ℕ × OpKey). x.0) nat_cmp_total) (on_total (λ (x : ℕ × OpKey). x.1) operation_cmp_total)

pub minute_key_exact : IsAntisymmetric minute_key_cmp
minute_key_exact = then_IsAntisymmetric {R = nat_cmp} {S = operation_cmp} (λ (x : ℕ × OpKey). x.0) (λ x. x.1) (λ x y p q i. (p i, q i)) nat_cmp-IsAntisymmetric operation_cmp-IsAntisymmetric

pub operations_placed : (F : Forecast) (rows made : List OperationOutlook) → IsPermutation rows made → AreOperationsByKey F rows → IsSortedByKey operation_place minute_key_cmp made → AreOperationOutlooks F made
operations_placed F rows made same a sorted =
    placed operation_cmp_total operation_cmp-IsAntisymmetric minute_key_total minute_key_exact key_of operation_place (λ a b e. ap (λ (z : ℕ × OpKey). z.1) e) (Begins F) (IsOperationOutlook F) rows made same a sorted
