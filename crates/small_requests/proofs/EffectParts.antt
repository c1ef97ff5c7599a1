-- What follows from a naming, once it is named.
use Rattle.std.proofs.Common.{inl, inr, sym, subst, ℕ, ℤ, ◌<◌, List, map}
use Rattle.plan_basics.specs.declared.keys.OpKey.{OpKey}
use Rattle.small_requests.specs.RequestEdits.{ArePlacesOf}
use Rattle.plan_model.specs.Contents.{Contents}
use Rattle.plan_model.specs.Moves.{IsMovedAt}
use Rattle.plan_checks.specs.derived_figures.proofs.StatusesKept.{remarked_by}
use Rattle.plan_checks.specs.derived_figures.proofs.Read.{noted_after}
use Rattle.plan_checks.specs.derived_figures.specs.StatusesBefore.{KeepStatus}
use Rattle.small_requests.specs.StepLooks.{AreBoth}
use Rattle.plan_checks.specs.derived_figures.specs.Entries.{AreEntriesAt, CanBeRelisted}
use Rattle.small_requests.proofs.Agreeing.{leads_home}
use Rattle.small_requests.proofs.ColumnParts.{columns_alike}
use Rattle.small_requests.proofs.Listing.{goes_before, goes_by, list_is, relistable}
use Rattle.small_requests.proofs.NamedFigures.{WasNamed, known_after, latest_after, moved_on, sound_after}
use Rattle.small_requests.proofs.StepParts.{keep_status}
use Rattle.small_requests.specs.Columns.{AreAlike, AreColumnsOf, GoesByStatuses, IsReadyListOf, MakesOf}
use Rattle.small_requests.specs.Edits.{ArePlacesIn}
use Rattle.small_requests.specs.Effects.{WereEffectsNamed}
use Rattle.small_requests.specs.Touched.{AreKnownAlike, IsTouchedAt}
use Rattle.small_requests.specs.declared.columns.FigureColumns.{FigureColumns}
use Rattle.small_requests.specs.declared.naming_effects.NamingEffects.{NamingEffects}
use Rattle.ready_list.specs.Entries.{ReadyEntries}
use Rattle.status_rules.specs.declared.Status.{Status}

-- the places of two lists are places of the plan
pub joined_within : (P : Contents) (edited : List ℕ) → ArePlacesIn P edited → (os : List OpKey) (places : List ℕ) → ArePlacesOf P os places → (touched : List ℕ) → AreBoth edited places touched → ArePlacesIn P touched
joined_within P edited first os places second touched both = record {
  ascend = both.ascend;
  within = λ i has. elim ((both.both i).0 has) [ inl one ↦ first.within i one | inr other ↦ second.within i other ];
}

module _ (P R : Contents) (m : ℕ) (edited : List ℕ) (starts : List ℤ) (l : FigureColumns) (r : ReadyEntries) (f : NamingEffects) (was : WereEffectsNamed P R m edited starts l r f) where
  abbrev os : List OpKey
  os = f.naming.named.items

  abbrev places : List ℕ
  places = f.naming.places.items

  abbrev touched : List ℕ
  touched = f.touched.items

  pub was_named : WasNamed P R os places starts l r
  was_named = record {
    sound = was.effects.naming.sound;
    chosen = (m, was.effects.naming.chosen);
    places = was.effects.naming.places;
    latest = was.latest;
    columns = was.columns;
    ready = was.ready;
    after = was.after;
  }

  pub moved_then : IsMovedAt P R places
  moved_then = moved_on P R os places starts l r was_named

  -- what isn't touched is known alike
  same_beside : AreKnownAlike P R touched
  same_beside i out = known_after P R os places starts l r was_named i (λ has. out ((was.effects.joined.both i).1 (inr has)))

  pub places_before : ArePlacesIn P touched
  places_before = joined_within P edited was.places os places was.effects.naming.places touched was.effects.joined

  pub places_then : ArePlacesIn R touched
  places_then = record { ascend = places_before.ascend; within = λ i has. subst (λ n. i < n) (sym moved_then.size) (places_before.within i has) }

  touched_at : IsTouchedAt P R touched
  touched_at = record {
    moved = record { places = places; moved = remarked_by P R places moved_then; among = λ i has. (was.effects.joined.both i).1 (inr has) };
    ascend = places_before.ascend;
    within = places_before.within;
    same = same_beside;
  }

  -- the entries are those of the plan then
  pub entries_then : AreEntriesAt R touched f.entries.items
  entries_then = noted_after P R places moved_then starts was.latest (latest_after P R os places starts l r was_named) touched f.entries.items was.effects.entries

  -- and those of the places at which statuses are written
  pub entries_listed : AreEntriesAt R (map (λ (value : ℕ × Status). value.0) f.statuses.items) f.entries.items
  entries_listed = subst (λ ps. AreEntriesAt R ps f.entries.items) (sym was.effects.statuses.in_order) entries_then

  -- at no other places is another status
  pub keeps_status : KeepStatus P R (map (λ (value : ℕ × Status). value.0) f.statuses.items)
  keeps_status = subst (KeepStatus P R) (sym was.effects.statuses.in_order) (keep_status P R places moved_then touched same_beside)

  -- what the columns had leads back
  pub followed_home : (n : FigureColumns) → AreColumnsOf R n → MakesOf f.old n l
  followed_home n are = leads_home P R was.effects.naming.sound.valid (sound_after P R os places starts l r was_named).valid touched touched_at l n was.columns are f.old was.effects.old

  module _ (n : FigureColumns) (are : AreColumnsOf R n) (q : ReadyEntries) (list : IsReadyListOf R q) where
    -- the ready list can be led back by the entries
    pub relistable_home : CanBeRelisted R n.statuses.items q f.old.statuses.items f.entries.items
    relistable_home =
        let goes = goes_by R (sound_after P R os places starts l r was_named) n.statuses.items are.statuses q starts (latest_after P R os places starts l r was_named) list in
        relistable R n.statuses.items q goes f.old.statuses.items l.statuses.items (followed_home n are).statuses touched was.effects.old.in_order f.entries.items entries_then

  -- and then it is that of the plan before
  pub list_home : (k : FigureColumns) → AreAlike k l → (q : ReadyEntries) → GoesByStatuses R k.statuses.items q → IsReadyListOf P q
  list_home k alike q goes =
      list_is P was.effects.naming.sound k.statuses.items (columns_alike P k l alike was.columns).statuses q
      (goes_before P R places moved_then starts was.latest (latest_after P R os places starts l r was_named) k.statuses.items q goes)
