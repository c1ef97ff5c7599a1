-- What is added, of which a plan holds nothing yet.
use Rattle.std.specs.Prelude.{◌≡◌, true, false}
use Rattle.std.specs.declared.cmp.Ordering.{Ordering}
use Rattle.std.specs.FinMap.{FinMap, contains_key}
use Rattle.std.specs.FinSet.{FinSet, contains}
use Rattle.plan_records.specs.plan_model.specs.Contents.{Contents, AddedParts}

-- no key is in both
abbrev pub ShareNoKey : {K X : Type 0} {R : K → K → Ordering} → FinMap R X → FinMap R X → Type 0
ShareNoKey m n = (k : _) → contains_key m k ≡ true → contains_key n k ≡ false

-- no member is in both
abbrev pub ShareNoMember : {K : Type 0} {R : K → K → Ordering} → FinSet R → FinSet R → Type 0
ShareNoMember s t = (k : _) → contains s k ≡ true → contains t k ≡ false

-- the plan has no occurrence, no operation and no pair of what is added
pub record HasNothingOf (P : Contents) (s : AddedParts) : Type 0 where
  pub occurrences : ShareNoKey P.occurrences s.occurrences
  pub operations : ShareNoKey P.operations s.operations
  pub pairs : ShareNoMember P.pairs s.pairs
