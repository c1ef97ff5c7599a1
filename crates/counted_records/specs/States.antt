-- Counted records, as contracts see them.
use Rattle.std.specs.Prelude.{◌≡◌, ℕ, ◌+◌, ◌<◌, ◌≤◌, refl}
use Rattle.std.specs.Coded.{Coded, code_by, coded×, coded_ℕ}
use Rattle.plan_status.specs.plan_model.specs.Contents.{Contents}
use Rattle.plan_status.specs.plan_model.specs.Code.{contents_code}

-- what the plan holds, and how many of its operations' records were looked at
pub record CountedState : Type 0 where
  pub contents : Contents
  pub looks : ℕ

-- it is stored as its two parts
abbrev pub counted_code : Coded CountedState
counted_code = code_by (Contents × ℕ) (coded× contents_code coded_ℕ) (λ s. (s.contents, s.looks)) (λ p. record { contents = p.0; looks = p.1 }) (λ _. refl)

-- the plan stays, and one more record was looked at; the greatest number that there is counts for all that are greater
pub record IsOneLook (old new : CountedState) : Type 0 where
  pub contents : new.contents ≡ old.contents
  pub fewest : old.looks ≤ new.looks
  pub most : new.looks ≤ old.looks + 1
  pub exact : old.looks < 18446744073709551615 → new.looks ≡ old.looks + 1
