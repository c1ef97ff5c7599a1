-- Which workstations are shut, as they give out more.
use Rattle.std.proofs.Common.{◌≡◌, inl, inr, sym, ap, subst, ◌∙◌, true≢false, arith, ℕ, ◌+◌, ◌≤◌, Bool, true, false, List, length, set, replicate, slice_get, Some}
use Rattle.std.proofs.lemmas.Bool.{cases_lt}
use Rattle.std.proofs.lemmas.List.{length-replicate, length-set}
use Rattle.std.proofs.lemmas.Option.{same_Some}
use Rattle.counted_records.specs.plan_status.proofs.Ascending.{all_alike, set_cases}
use Rattle.workstations.specs.Timetables.{NamedWorkstation}
use Rattle.workstations.specs.Workstations.{HasCapacity, Workstation}
use Rattle.workstations.specs.declared.Capacity.{Capacity}
use Rattle.start_choice.specs.Shut.{AreShut, IsShut}

module _ (w : Workstation) (m : ℕ) (taken : Capacity) where
  -- what offers nothing is closed
  pub closed : ((c : Capacity) → HasCapacity w m c → ⊥) → IsShut w m taken
  closed none = inl (λ o. none o.0 o.1)

  -- what offers no more than is given out has no server left
  pub full : (c : Capacity) → HasCapacity w m c → c.servers ≤ taken.servers → IsShut w m taken
  full c has le = inr (λ room. let one = room c has in omega (arith, one, le))

  -- what is shut offers no more
  pub none_left : (c : Capacity) → HasCapacity w m c → ((d : Capacity) → HasCapacity w m d → c ≡ d) → IsShut w m taken → c.servers ≤ taken.servers
  none_left c has one (inl shut) = absurd (shut (c, has))
  none_left c has one (inr shut) = elim (cases_lt taken.servers c.servers) [
    | inl less ↦ absurd (shut (λ d it. subst (λ (x : Capacity). taken.servers + 1 ≤ x.servers) (one d it) (omega (arith, less))))
    | inr le ↦ le
  ]

module _ (rows : List NamedWorkstation) (m : ℕ) where
  -- none is told to be
  pub none_told : (given : List Capacity) (n : ℕ) → length given ≡ length rows → n ≡ length rows → AreShut rows m given (replicate n false)
  none_told given n sized told = record { sized = sized; told = told_all; each = λ i w taken is row there. absurd (true≢false (all_alike n i false true is)) }
    where
      told_all : length (replicate n false) ≡ length rows
      told_all = length-replicate n false ∙ told

  -- one is told so where it is
  pub told_one : (given : List Capacity) (shut : List Bool) → AreShut rows m given shut → (place : ℕ) (w : NamedWorkstation) → slice_get rows place ≡ Some w
      → (taken : Capacity) (b : Bool) → (b ≡ true → IsShut w.1 m taken) → AreShut rows m (set given place taken) (set shut place b)
  told_one given shut are place w row taken b is = record {
    sized = length-set given place taken ∙ are.sized;
    told = length-set shut place b ∙ are.told;
    each = λ i v x told at there. elim (set_cases shut place i b true told) [
      | inl here ↦ elim (set_cases given place i taken x there) [
        | inl this ↦
            let same : w ≡ v = same_Some w v (sym row ∙ ap (slice_get rows) (sym here.0) ∙ at) in
            subst (λ (c : Capacity). IsShut v.1 m c) (sym this.1) (subst (λ (z : NamedWorkstation). IsShut z.1 m taken) same (is (sym here.1)))
        | inr apart ↦ absurd (apart.0 here.0)
      ]
      | inr other ↦ elim (set_cases given place i taken x there) [
        | inl this ↦ absurd (other.0 this.0)
        | inr apart ↦ are.each i v x other.1 at apart.1
      ]
    ];
  }
