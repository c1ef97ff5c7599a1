-- The order of the rows' keys: by table, then by the key columns. It is total, and only equal keys tie.
use Rattle.std.specs.Prelude.{◌≡◌, ℕ}
use Rattle.std.proofs.Common.{refl, sym, subst, ap}
use Rattle.std.specs.declared.cmp.Ordering.{Ordering}
use Rattle.std.specs.declared.cmp.Ordering.TheVariants.{Equal}
use Rattle.std.specs.Ordering.{nat_cmp, ordering_then}
use Rattle.std.specs.Cmp.{IsTotalOrder}
use Rattle.std.specs.FinMap.{IsAntisymmetric, nat_cmp-IsAntisymmetric}
use Rattle.plan_basics.specs.Keys.{name_cmp, name_cmp-IsAntisymmetric, occurrence_cmp, occurrence_cmp-IsAntisymmetric, operation_cmp, operation_cmp-IsAntisymmetric}
use Rattle.plan_basics.proofs.PairOrders.{by_two-IsAntisymmetric}
use Rattle.plan_drafts.specs.declared.RowKey.{RowKey}
use Rattle.plan_drafts.specs.declared.RowKey.TheVariants as key
use Rattle.plan_drafts.specs.contracts.RowKeyOrd.TheImpl as derived
use Rattle.plan_drafts.specs.contracts.RowKeyOrd.TheImpl.Laws as laws

-- the tables in their order
abbrev pub table_of : RowKey → ℕ
table_of key.Meta = 0
table_of (key.Workstation w) = 1
table_of (key.Interval w from) = 2
table_of (key.Resource r) = 3
table_of (key.Occurrence c) = 4
table_of (key.Operation o) = 5
table_of (key.Dependency p s) = 6
table_of (key.Need o r) = 7
table_of (key.Quantity r) = 8
table_of (key.Amount o r) = 9

-- in one table
abbrev pub key_cmp : RowKey → RowKey → Ordering
key_cmp (key.Workstation a) (key.Workstation b) = name_cmp a b
key_cmp (key.Interval a m) (key.Interval b n) = ordering_then (name_cmp a b) (nat_cmp m n)
key_cmp (key.Resource a) (key.Resource b) = name_cmp a b
key_cmp (key.Occurrence a) (key.Occurrence b) = occurrence_cmp a b
key_cmp (key.Operation a) (key.Operation b) = operation_cmp a b
key_cmp (key.Dependency p s) (key.Dependency q t) = ordering_then (operation_cmp p q) (operation_cmp s t)
key_cmp (key.Need a m) (key.Need b n) = ordering_then (operation_cmp a b) (name_cmp m n)
key_cmp (key.Quantity a) (key.Quantity b) = name_cmp a b
key_cmp (key.Amount a m) (key.Amount b n) = ordering_then (operation_cmp a b) (name_cmp m n)
key_cmp a b = Equal

-- by table, then key
abbrev pub row_cmp : RowKey → RowKey → Ordering
row_cmp a b = ordering_then (nat_cmp (table_of a) (table_of b)) (key_cmp a b)

-- what is derived for keys in Rust
derived_at : (a b : RowKey) → derived.ghosts.cmp a b ≡ row_cmp a b
derived_at key.Meta key.Meta = refl
derived_at (key.Workstation a) (key.Workstation b) = refl
derived_at (key.Interval a m) (key.Interval b n) = refl
derived_at (key.Resource a) (key.Resource b) = refl
derived_at (key.Occurrence a) (key.Occurrence b) = refl
derived_at (key.Operation a) (key.Operation b) = refl
derived_at (key.Dependency p q) (key.Dependency s t) = refl
derived_at (key.Need a m) (key.Need b n) = refl
derived_at (key.Quantity a) (key.Quantity b) = refl
derived_at (key.Amount a m) (key.Amount b n) = refl
derived_at a b = refl

-- the order that is derived is this one
pub derived_is : derived.ghosts.cmp ≡ row_cmp
derived_is = λ i a b. derived_at a b i

-- it is total
pub row_cmp_total : IsTotalOrder row_cmp
row_cmp_total = subst IsTotalOrder derived_is laws.total-law

-- and only equal keys tie
pub row_cmp-IsAntisymmetric : IsAntisymmetric row_cmp
row_cmp-IsAntisymmetric key.Meta key.Meta e = refl
row_cmp-IsAntisymmetric (key.Workstation a) (key.Workstation b) e = ap key.Workstation (name_cmp-IsAntisymmetric a b e)
row_cmp-IsAntisymmetric (key.Interval a m) (key.Interval b n) e = ap (λ x. key.Interval x.0 x.1) (by_two-IsAntisymmetric name_cmp-IsAntisymmetric nat_cmp-IsAntisymmetric (a, m) (b, n) e)
row_cmp-IsAntisymmetric (key.Resource a) (key.Resource b) e = ap key.Resource (name_cmp-IsAntisymmetric a b e)
row_cmp-IsAntisymmetric (key.Occurrence a) (key.Occurrence b) e = ap key.Occurrence (occurrence_cmp-IsAntisymmetric a b e)
row_cmp-IsAntisymmetric (key.Operation a) (key.Operation b) e = ap key.Operation (operation_cmp-IsAntisymmetric a b e)
row_cmp-IsAntisymmetric (key.Dependency p q) (key.Dependency s t) e = ap (λ x. key.Dependency x.0 x.1) (by_two-IsAntisymmetric operation_cmp-IsAntisymmetric operation_cmp-IsAntisymmetric (p, q) (s, t) e)
row_cmp-IsAntisymmetric (key.Need a m) (key.Need b n) e = ap (λ x. key.Need x.0 x.1) (by_two-IsAntisymmetric operation_cmp-IsAntisymmetric name_cmp-IsAntisymmetric (a, m) (b, n) e)
row_cmp-IsAntisymmetric (key.Quantity a) (key.Quantity b) e = ap key.Quantity (name_cmp-IsAntisymmetric a b e)
row_cmp-IsAntisymmetric (key.Amount a m) (key.Amount b n) e = ap (λ x. key.Amount x.0 x.1) (by_two-IsAntisymmetric operation_cmp-IsAntisymmetric name_cmp-IsAntisymmetric (a, m) (b, n) e)
row_cmp-IsAntisymmetric a b e = absurd (cc)

pub derived_exact : IsAntisymmetric derived.ghosts.cmp
derived_exact = subst IsAntisymmetric (sym derived_is) row_cmp-IsAntisymmetric
