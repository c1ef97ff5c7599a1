-- The gate that allows operations of a plan to start, one after the other.
use Rattle.std.specs.Prelude.{◌≡◌, ℕ, ◌+◌, ◌≤◌, Bool, true, false, List, Some, set, slice_get, refl}
use Rattle.std.specs.Coded.{Coded, code_by, coded×, coded_ℕ, coded_list}
use Rattle.std.specs.FinMap.{entries, get}
use Rattle.std.specs.FinMap as map
use Rattle.plan_basics.specs.contracts.keys.OpKey as operation_key
use Rattle.special_resources.specs.Holdings.{Held}
use Rattle.special_resources.specs.contracts.Claim as claim
use Rattle.status_rules.specs.declared.Mark.TheVariants.{Named}
use Rattle.plan_model.specs.Contents.{Contents, Operation}
use Rattle.plan_model.specs.Valid.{IsValid}
use Rattle.plan_model.specs.Code.{contents_code}
use Rattle.counted_records.specs.States.{CountedState}
use Rattle.workstations.specs.Workstations.{Workstation}
use Rattle.workstations.specs.contracts.Capacity as capacity
use Rattle.workstations.specs.declared.Capacity.{Capacity}
use Rattle.ready_list.specs.declared.entry.ReadyEntry.{ReadyEntry}
use Rattle.start_choice.specs.Choices.{AreGivenOut, AreHeldIn, HasItsWorkstation}
use Rattle.start_choice.specs.Takings.{CanStart, HaveTaken, IsAtMost, most_given_out, with_one_more}

-- the plan that is gone through and the moment, how many looks at its records were taken, and what is given out at each workstation's index and what is held so far
pub record Counted : Type 0 where
  pub contents : Contents
  pub looks : ℕ
  pub at : ℕ
  pub given : List Capacity
  pub held : Held

-- the counted records of a plan, the moment, and what is given out and held so far
abbrev pub counted : CountedState → ℕ → List Capacity → Held → Counted
counted s at given held = record { contents = s.contents; looks = s.looks; at = at; given = given; held = held }

-- the plan has these workstations and special resources, and in it this is given out and held
pub record IsCountedIn (g : Counted) (P : Contents) : Type 0 where
  pub workstations : P.workstations ≡ g.contents.workstations
  pub resources : P.resources ≡ g.contents.resources
  pub given : AreGivenOut P (entries g.contents.workstations) g.given
  pub holders : AreHeldIn P g.held

-- its workstation has given out a server more, and its R1 and R2, where no more is given out than a plan can
pub record GivesOneMore (g : Counted) (op : Operation) (given : List Capacity) : Type 0 where
  pub place : (i : ℕ) × (ws : Workstation) × (slice_get (entries g.contents.workstations) i ≡ Some (op.workstation, ws))
  pub before : (taken : Capacity) × (slice_get g.given place.0 ≡ Some taken)
  pub after : IsAtMost most_given_out before.0 → given ≡ set g.given place.0 (with_one_more before.0 op)

-- one look more was taken, or none
abbrev pub TakesALook : Counted → Counted → Type 0
TakesALook g h = (g.looks ≤ h.looks) × (h.looks ≤ g.looks + 1)

-- the operation of the entry is in the plan, which is valid, and can start, and counts as started then
pub record Allows (g : Counted) (e : ReadyEntry) (h : Counted) : Type 0 where
  pub valid : IsValid g.contents
  pub row : Operation
  pub in_plan : get g.contents.operations e.key.op ≡ Some row
  pub can : (P : Contents) → IsCountedIn g P → CanStart P e.key.op row g.at
  pub same : (h.contents ≡ g.contents) × (h.at ≡ g.at)
  pub looks : TakesALook g h
  pub given : GivesOneMore g row h.given
  pub held : HaveTaken g.held e.key.op row.needs Named h.held

-- the operation isn't in the plan or can't start, where the entry has its workstation, and nothing more counts then but a look
pub record PassesOver (g : Counted) (e : ReadyEntry) (h : Counted) : Type 0 where
  pub cannot : HasItsWorkstation g.contents e → (row : Operation) → get g.contents.operations e.key.op ≡ Some row → (P : Contents) → IsCountedIn g P → ¬ CanStart P e.key.op row g.at
  pub same : h ≡ record g { looks = h.looks }
  pub looks : TakesALook g h

-- what the gate answers of an operation, and what it counts then
abbrev pub Answers : Counted → ReadyEntry → Bool → Counted → Type 0
Answers g e true h = Allows g e h
Answers g e false h = PassesOver g e h

-- what is held is stored by resource and operation
abbrev held_code : Coded Held
held_code = map.code (coded× (coded_list coded_ℕ) (operation_key.the_row).coded) (claim.the_row).coded

-- what counts is stored as its five parts
abbrev pub counted_code : Coded Counted
counted_code = code_by
    (Contents × (ℕ × (ℕ × (List Capacity × Held))))
    (coded× contents_code (coded× coded_ℕ (coded× coded_ℕ (coded× (coded_list (capacity.the_row).coded) held_code))))
    (λ g. (g.contents, (g.looks, (g.at, (g.given, g.held)))))
    (λ p. record { contents = p.0; looks = p.1.0; at = p.1.1.0; given = p.1.1.1.0; held = p.1.1.1.1 })
    (λ _. refl)
