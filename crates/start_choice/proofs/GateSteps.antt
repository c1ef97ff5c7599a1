-- What a gate answers of one operation, by the checks on its start.
use Rattle.std.proofs.Common.{arith, ◌≡◌, inl, inr, sym, subst, ◌∙◌, true≢false, ℕ, Bool, true, false, List, get_or, slice_get, Result, Ok, Err, Some, IfErr, OnOk, is_err}
use Rattle.std.specs.FinMap.{entries, get, keys}
use Rattle.plan_basics.specs.Keys.{name_cmp_total, name_cmp-IsAntisymmetric}
use Rattle.plan_basics.specs.declared.Refusal.{Refusal}
use Rattle.plan_basics.specs.declared.Refusal.TheVariants as refusal
use Rattle.plan_basics.specs.declared.keys.OpKey.{OpKey}
use Rattle.std.proofs.lemmas.Option.{same_Some, slice_get-get_or, slice_get_within}
use Rattle.plan_model.specs.Contents.{Contents, Operation}
use Rattle.plan_model.specs.Starts.{MayStart}
use Rattle.workstations.specs.Workstations.{Workstation}
use Rattle.workstations.specs.declared.Capacity.{Capacity}
use Rattle.start_choice.specs.Choices.{HasTaken, IsStartLine}
use Rattle.counted_records.specs.plan_status.proofs.RowKeys.{row_of_key}
use Rattle.counted_records.specs.plan_drafts.proofs.EntryRows.{row_in}
use Rattle.start_choice.specs.Shut.{AreShut}
use Rattle.start_choice.specs.StartGates.{Counted, IsCountedIn}
use Rattle.start_choice.specs.Takings.{CanStart}
use Rattle.start_choice.proofs.StartLines.{no_room}

module _ (g : Counted) (op : Operation) (place : ℕ) (ws : Workstation) (at : slice_get (entries g.contents.workstations) place ≡ Some (op.workstation, ws))
    (taken : Capacity) (there : slice_get g.given place ≡ Some taken) where
  -- where what the gate counts is given out and held, this is taken
  has_taken : (P : Contents) → IsCountedIn g P → HasTaken P g.contents op taken g.held
  has_taken P counted = record {
    workstations = counted.workstations;
    resources = counted.resources;
    given = sym (counted.given.each place op.workstation ws taken at there);
    holders = counted.holders;
  }

  module _ (o : OpKey) where
    abbrev IsChecked : Result (Unit {0}) Refusal → Type 0
    IsChecked checked =
        OnOk checked ((P : Contents) → HasTaken P g.contents op taken g.held → (r : Refusal) → IsStartLine r → MayStart P o op g.at r)
        × IfErr checked IsStartLine
        × IfErr checked (λ r. (P : Contents) → HasTaken P g.contents op taken g.held → ¬ MayStart P o op g.at r)

    -- what is told of contents that are these
    pub checked_alike : (Q : Contents) → Q ≡ g.contents → (checked : Result (Unit {0}) Refusal)
        → OnOk checked ((P : Contents) → HasTaken P Q op taken g.held → (r : Refusal) → IsStartLine r → MayStart P o op g.at r)
        × IfErr checked IsStartLine
        × IfErr checked (λ r. (P : Contents) → HasTaken P Q op taken g.held → ¬ MayStart P o op g.at r)
        → IsChecked checked
    checked_alike Q same checked told =
        subst (λ (R : Contents).
        OnOk checked ((P : Contents) → HasTaken P R op taken g.held → (r : Refusal) → IsStartLine r → MayStart P o op g.at r)
        × IfErr checked IsStartLine
        × IfErr checked (λ r. (P : Contents) → HasTaken P R op taken g.held → ¬ MayStart P o op g.at r)) same told

    -- no check fails
    pub can_start : (checked : Result (Unit {0}) Refusal) → is_err checked ≡ false → IsChecked checked → (P : Contents) → IsCountedIn g P → CanStart P o op g.at
    can_start (Ok done) out told P counted = told.0 P (has_taken P counted)
    can_start (Err r) out told P counted = absurd (true≢false out)

    -- one fails
    pub cannot_start : (checked : Result (Unit {0}) Refusal) → is_err checked ≡ true → IsChecked checked → get g.contents.operations o ≡ Some op
        → (row : Operation) → get g.contents.operations o ≡ Some row → (P : Contents) → IsCountedIn g P → ¬ CanStart P o row g.at
    cannot_start (Ok done) out told found row is P counted can = absurd (true≢false (sym out))
    cannot_start (Err r) out told found row is P counted can =
        told.2 P (has_taken P counted) (subst (λ x. MayStart P o x g.at r) (same_Some row op (sym is ∙ found)) (can r told.1))

-- an operation on a workstation that is shut can't start
pub cannot_on_shut : (g : Counted) (o : OpKey) (site : ℕ) (shut : List Bool) → AreShut (entries g.contents.workstations) g.at g.given shut → slice_get shut site ≡ Some true
    → (row : Operation) → slice_get (keys g.contents.workstations) site ≡ Some row.workstation → (P : Contents) → IsCountedIn g P → ¬ CanStart P o row g.at
cannot_on_shut g o site shut are told row placed P counted can =
    let rows = entries g.contents.workstations in
    let at = row_of_key rows site row.workstation placed in
    let taken = get_or g.given site (record { servers = 0; r1 = 0; r2 = 0 }) in
    let there : slice_get g.given site ≡ Some taken = slice_get-get_or g.given site _ (omega (arith, are.sized, slice_get_within rows site _ at.1)) in
    let has = has_taken g row site at.0 at.1 taken there P counted in
    let found = row_in name_cmp_total name_cmp-IsAntisymmetric g.contents.workstations site row.workstation at.0 at.1 in
    elim (are.each site (row.workstation, at.0) taken told at.1 there) [
      | inl closed ↦ no_room g.contents row at.0 found g.at taken g.held P has o refusal.Closed closed (can refusal.Closed tt)
      | inr full ↦ no_room g.contents row at.0 found g.at taken g.held P has o refusal.NoServer full (can refusal.NoServer tt)
    ]
