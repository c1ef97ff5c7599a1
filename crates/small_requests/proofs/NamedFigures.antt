-- What is known and kept of a plan once what is chosen is named.
use Rattle.std.proofs.Common.{◌≡◌, refl, sym, subst, ℕ, ℤ, List}
use Rattle.std.specs.FinMap.{entries}
use Rattle.plan_basics.specs.Keys.{operation_cmp, operation_cmp_total, operation_cmp-IsAntisymmetric}
use Rattle.plan_basics.specs.declared.keys.OpKey.{OpKey}
use Rattle.plan_model.proofs.Looks.{as_named}
use Rattle.plan_model.specs.Contents.{Contents}
use Rattle.plan_model.specs.Ready.{IsChosen, named}
use Rattle.plan_model.specs.Valid.{IsSound}
use Rattle.plan_model.specs.Moves.{AreLiveAlike, IsMovedAt}
use Rattle.plan_drafts.proofs.MadeEntries.{entries-revise}
use Rattle.plan_drafts.specs.Places.{AreByPlace}
use Rattle.small_requests.proofs.ChosenEntries.{chosen_are_ready}
use Rattle.small_requests.proofs.SmallMoves.{naming_moves}
use Rattle.small_requests.specs.RequestEdits.{ArePlacesOf}
use Rattle.plan_checks.specs.plan_laws.proofs.Kept.{choice_keeps_sound}
use Rattle.small_requests.proofs.OneFrame.{frame_stays}
use Rattle.plan_checks.specs.start_choice.specs.Choices.{AreLatestStarts}
use Rattle.plan_checks.specs.derived_figures.specs.WaitStates.{AreWaitStates}
use Rattle.satisfaction.specs.declared.nodes.WaitState.{WaitState}
use Rattle.plan_checks.specs.derived_figures.proofs.StatusesKept.{remarked_by}
use Rattle.small_requests.specs.declared.columns.FigureColumns.{FigureColumns}
use Rattle.ready_list.specs.Entries.{ReadyEntries}
use Rattle.plan_checks.specs.plan_status.proofs.Naming.{naming_keeps_standings}
use Rattle.plan_checks.specs.plan_status.specs.Standings.{AreStandings, IsStanding}
use Rattle.plan_checks.specs.plan_status.specs.declared.standings.Standing.{Standing}
use Rattle.small_requests.proofs.KnownAlike.{known_alike}
use Rattle.small_requests.specs.Columns.{AreColumnsOf, IsReadyListOf}
use Rattle.small_requests.specs.Touched.{AreKnownAlike, IsTouchedAt}
use Rattle.plan_checks.specs.derived_figures.proofs.Naming.{known_stays, naming_keeps_kept}

module _ (P : Contents) (m : ℕ) (os : List OpKey) (chosen : IsChosen P m os) where
  -- the standings stay
  pub named_standings : (ss : List Standing) → AreStandings P ss → AreStandings (named os P) ss
  named_standings ss stood =
      subst (λ rows. AreByPlace rows ss (IsStanding (named os P))) (sym (entries-revise operation_cmp operation_cmp_total operation_cmp-IsAntisymmetric (as_named os) P.operations))
      (known_stays (as_named os) (IsStanding P) (IsStanding (named os P)) (entries P.operations) ss (naming_keeps_standings P os (chosen_are_ready P m os chosen).0) stood)

  module _ (places : List ℕ) (are : ArePlacesOf P os places) where
    -- their marks alone change
    pub naming_moved : IsMovedAt P (named os P) places
    naming_moved = (naming_moves P os places (chosen_are_ready P m os chosen).0 are).0

    -- and none is deleted
    pub naming_alike : AreLiveAlike P (named os P)
    naming_alike = (naming_moves P os places (chosen_are_ready P m os chosen).0 are).1

    -- what is known of all others stays
    pub named_alike : IsSound P → (wait_states : List WaitState) → AreWaitStates P wait_states → (standings : List Standing) → AreStandings P standings → AreKnownAlike P (named os P) places
    named_alike sound wait_states were standings stood =
        known_alike P (named os P) places naming_moved naming_alike sound.valid (choice_keeps_sound P m os sound chosen).valid
        wait_states wait_states were (naming_keeps_kept P os (chosen_are_ready P m os chosen).0 wait_states were) standings stood
        places (λ i has. has) (λ i out. refl)

    -- so that no more is touched
    pub named_touched : IsSound P → (l : FigureColumns) → AreColumnsOf P l → IsTouchedAt P (named os P) places
    named_touched sound l columns = record {
      moved = record { places = places; moved = remarked_by P (named os P) places naming_moved; among = λ i has. has };
      ascend = are.ascend;
      within = are.within;
      same = named_alike sound l.wait_states.items columns.wait_states l.standings.items columns.standings;
    }

-- ---- what is chosen was named

-- what is chosen at these places of the sound plan P was named, which made R of it; these are its latest starts, its columns and its ready list
pub record WasNamed (P R : Contents) (os : List OpKey) (indices : List ℕ) (starts : List ℤ) (l : FigureColumns) (r : ReadyEntries) : Type 0 where
  pub sound : IsSound P
  pub chosen : (m : ℕ) × IsChosen P m os
  pub places : ArePlacesOf P os indices
  pub latest : AreLatestStarts P starts
  pub columns : AreColumnsOf P l
  pub ready : IsReadyListOf P r
  pub after : R ≡ named os P

module _ (P R : Contents) (os : List OpKey) (places : List ℕ) (starts : List ℤ) (l : FigureColumns) (r : ReadyEntries) (was : WasNamed P R os places starts l r) where
  abbrev m : ℕ
  m = was.chosen.0

  abbrev chosen : IsChosen P m os
  chosen = was.chosen.1

  abbrev wait_states : List WaitState
  wait_states = l.wait_states.items

  pub moved_on : IsMovedAt P R places
  moved_on = subst (λ S. IsMovedAt P S places) (sym was.after) (naming_moved P m os chosen places was.places)

  pub alike_on : AreLiveAlike P R
  alike_on = subst (AreLiveAlike P) (sym was.after) (naming_alike P m os chosen places was.places)

  pub standings_after : AreStandings R l.standings.items
  standings_after = subst (λ S. AreStandings S l.standings.items) (sym was.after) (named_standings P m os chosen l.standings.items was.columns.standings)

  pub latest_after : AreLatestStarts R starts
  latest_after = (frame_stays P R places moved_on alike_on).latest starts was.latest

  pub kept_after : AreWaitStates R wait_states
  kept_after = subst (λ S. AreWaitStates S wait_states) (sym was.after) (naming_keeps_kept P os (chosen_are_ready P m os chosen).0 wait_states was.columns.wait_states)

  pub known_after : AreKnownAlike P R places
  known_after = subst (λ S. AreKnownAlike P S places) (sym was.after) (named_alike P m os chosen places was.places was.sound wait_states was.columns.wait_states l.standings.items was.columns.standings)

  pub sound_after : IsSound R
  sound_after = subst IsSound (sym was.after) (choice_keeps_sound P m os was.sound chosen)
