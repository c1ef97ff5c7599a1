-- What is prepared for what is named, so that it can be noted.
use Rattle.std.specs.Prelude.{◌≡◌, ◌⊎◌, ◌≤◌, ◌+◌, ℕ, ℤ, List, Some, length, map, slice_get, Contains}
use Rattle.std.specs.FinMap.{entries}
use Rattle.plan_checks.specs.start_choice.specs.Choices.{AreGivenOut, AreHeldIn, AreLatestStarts}
use Rattle.plan_checks.specs.start_choice.specs.declared.choice.Choice.{Choice}
use Rattle.plan_model.specs.Contents.{Contents}
use Rattle.plan_model.specs.Ready.{IsChosen, named as named_in}
use Rattle.small_requests.specs.StepLooks.{AreBoth}
use Rattle.plan_checks.specs.derived_figures.specs.Entries.{AreEntriesAt}
use Rattle.plan_rows.specs.declared.notes.FacilityChange.{FacilityChange}
use Rattle.small_requests.specs.Columns.{AreColumnsOf, IsSnapshotOf, IsReadyListOf, figures_of}
use Rattle.small_requests.specs.Edits.{ArePlacesIn, WasEdited}
use Rattle.small_requests.specs.Naming.{IsNaming, IsStepOf}
use Rattle.small_requests.specs.declared.columns.FigureColumns.{FigureColumns}
use Rattle.small_requests.specs.declared.columns.Allocations.{Allocations}
use Rattle.small_requests.specs.declared.edits.Edit.{Edit}
use Rattle.small_requests.specs.declared.naming_effects.NamingEffects.{NamingEffects}
use Rattle.small_requests.specs.declared.named_steps.SmallStep.{SmallStep}
use Rattle.small_requests.specs.declared.step_context.StepContext.{StepContext}
use Rattle.ready_list.specs.Entries.{ReadyEntries}
use Rattle.status_rules.specs.declared.Status.{Status}
use Rattle.status_rules.specs.declared.Status.TheVariants.{Started}

-- this is chosen at m of the plan; what is given out and held is so once it is named
pub record IsChoiceOf (P : Contents) (m : ℕ) (c : Choice) : Type 0 where
  pub chosen : IsChosen P m c.named.items
  pub given : AreGivenOut (named_in c.named.items P) (entries P.workstations) c.given.items
  pub holders : AreHeldIn (named_in c.named.items P) c.holdings.held

-- the status at a place once those at some places are named: they have started, and any other has what it had
abbrev pub IsStatusOnceNamed : List Status → List ℕ → ℕ × Status → Type 0
IsStatusOnceNamed statuses named value = (Contains named value.0 × (value.1 ≡ Started)) ⊎ ((¬ Contains named value.0) × (slice_get statuses value.0 ≡ Some value.1))

-- the statuses at these places, in their order, once those at some places are named
pub record AreStatusesOnceNamed (statuses : List Status) (places named : List ℕ) (values : List (ℕ × Status)) : Type 0 where
  pub in_order : map (λ value. value.0) values ≡ places
  pub each : (value : ℕ × Status) → Contains values value → IsStatusOnceNamed statuses named value

-- this is named at m of the plan that holds P after an edit touched some places, and these are the places of both, what the plan's columns have there, the statuses there once it is named, and the entries there
pub record AreNamingEffects (P : Contents) (m : ℕ) (edited : List ℕ) (l : FigureColumns) (f : NamingEffects) : Type 0 where
  pub naming : IsNaming P m f.naming
  pub joined : AreBoth edited f.naming.places.items f.touched.items
  pub old : IsSnapshotOf P f.touched.items l f.old
  pub statuses : AreStatusesOnceNamed l.statuses.items f.touched.items f.naming.places.items f.statuses.items
  pub entries : AreEntriesAt P f.touched.items f.entries.items

-- of the plan that holds P, with these latest starts, columns and ready list, this follows after an edit touched some places; and then what follows was named, which made R of it
pub record WereEffectsNamed (P R : Contents) (m : ℕ) (edited : List ℕ) (starts : List ℤ) (l : FigureColumns) (r : ReadyEntries) (f : NamingEffects) : Type 0 where
  pub effects : AreNamingEffects P m edited l f
  pub places : ArePlacesIn P edited
  pub latest : AreLatestStarts P starts
  pub columns : AreColumnsOf P l
  pub ready : IsReadyListOf P r
  pub after : R ≡ named_in f.naming.named.items P

-- it is such a step once columns were moved on by a look at each of these places
abbrev pub IsMovedStepOf : Contents → ℕ → List ℕ → FacilityChange → ℕ → ℕ → SmallStep → Type 0
IsMovedStepOf Q m moved b before after s = (between : ℕ) × (before ≤ between) × (between ≤ before + length moved) × IsStepOf Q m moved b between after s

-- the edit made Q of P; graph and latest starts of P are in the context, and these columns, ready list and allocations are the figures of P
abbrev pub WasEditedIn : Contents → Contents → Edit → StepContext → FigureColumns → ReadyEntries → Allocations → Type 0
WasEditedIn P Q e context l r s = WasEdited P Q e context.graph.now context.latest.now.starts (figures_of l r s)
