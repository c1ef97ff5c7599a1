-- What is worked out on the way to what starts.
use Rattle.std.specs.Prelude.{◌≡◌, ◌↔◌, Bool, List, ℤ, Contains, Some, slice_get}
use Rattle.std.specs.FinMap.{entries, get, keys}
use Rattle.plan_basics.specs.Keys.{Name}
use Rattle.special_resources.specs.declared.Claim.{Claim}
use Rattle.special_resources.specs.Holdings.{Held}
use Rattle.plan_basics.specs.declared.Refusal.{Refusal}
use Rattle.plan_basics.specs.declared.Refusal.TheVariants as refusal
use Rattle.plan_basics.specs.declared.keys.OpKey.{OpKey}
use Rattle.ready_list.specs.Entries.{keys_of}
use Rattle.ready_list.specs.declared.entry.ReadyEntry.{ReadyEntry}
use Rattle.plan_model.specs.Holdings.{given_out, Holds}
use Rattle.plan_model.specs.Contents.{Contents, Operation, Has, HasAttribute}
use Rattle.plan_model.specs.Ready.{IsReadyList}
use Rattle.plan_model.specs.Starts.{IsLatestStart}
use Rattle.counted_records.specs.plan_drafts.specs.Places.{AreByPlace}
use Rattle.workstations.specs.Timetables.{NamedWorkstation}
use Rattle.workstations.specs.declared.Capacity.{Capacity}

-- the latest start of each operation, in key order
abbrev pub AreLatestStarts : Contents → List ℤ → Type 0
AreLatestStarts P latest = AreByPlace (entries P.operations) latest (IsLatestStart P)

-- the entry has its operation's workstation, how that reports, and its place
abbrev pub HasItsWorkstation : Contents → ReadyEntry → Type 0
HasItsWorkstation P e = Has P e.key.op (λ op. (e.ws ≡ op.workstation) × HasAttribute P op.workstation e.attr × (slice_get (keys P.workstations) e.site ≡ Some op.workstation))

-- what is ready, in order, each with its workstation, how that reports and its place
pub record AreReadyEntries (P : Contents) (entries : List ReadyEntry) : Type 0 where
  pub list : IsReadyList P (keys_of entries)
  pub workstations : (e : ReadyEntry) → Contains entries e → HasItsWorkstation P e

-- what each row's workstation has given out
abbrev pub AreGivenOut : Contents → List NamedWorkstation → List Capacity → Type 0
AreGivenOut P rows taken = AreByPlace rows taken (λ w capacity. capacity ≡ given_out P w)

-- these are the holders of special resources, and how each holds
abbrev pub AreHeldIn : Contents → Held → Type 0
AreHeldIn P held = (o : OpKey) (r : Name) (claim : Claim) → (get held (r, o) ≡ Some claim) ↔ ((keep : Bool) × Holds P o r (record { claim = claim; keep = keep }))

-- the plan has these workstations and special resources, this is given out at the operation's workstation, and this is held
pub record HasTaken (P : Contents) (c : Contents) (op : Operation) (taken : Capacity) (held : Held) : Type 0 where
  pub workstations : P.workstations ≡ c.workstations
  pub resources : P.resources ≡ c.resources
  pub given : given_out P op.workstation ≡ taken
  pub holders : AreHeldIn P held

-- a line on what an operation needs to start, but for its status
abbrev pub IsStartLine : Refusal → Type 0
IsStartLine refusal.WrongStatus = ⊥
IsStartLine _ = Unit {0}
