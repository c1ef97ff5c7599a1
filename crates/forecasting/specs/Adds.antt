-- Moments that are collected.
use Rattle.std.specs.Prelude.{◌⊎◌, ℕ, ◌≤◌, List, Contains}
use Rattle.plan_model.specs.Contents.{Contents}
use Rattle.plan_forecast.specs.Laws.{IsNotBefore, IsOpening}

-- to the old list come moments of a span alone, and all those of the span that are so
pub record Adds (from until : ℕ) (is_so : ℕ → Type 0) (old new : List ℕ) : Type 0 where
  pub kept : (c : ℕ) → Contains old c → Contains new c
  pub within : (c : ℕ) → Contains new c → Contains old c ⊎ ((from ≤ c) × (c ≤ until))
  pub all : (c : ℕ) → from ≤ c → c ≤ until → is_so c → Contains new c

-- the beginnings of intervals and the not-befores of a span are among these
abbrev pub AreLasting : Contents → ℕ → ℕ → List ℕ → Type 0
AreLasting P from until turns = (c : ℕ) → from ≤ c → c ≤ until → IsOpening P c ⊎ IsNotBefore P c → Contains turns c
