-- What an edit and the naming after it touch and leave.
use Rattle.std.proofs.Common.{◌↔◌, ◌⊎◌, inl, inr, refl, sym, subst, ℕ, ℤ, ◌<◌, List, length, Contains}
use Rattle.std.specs.FinMap.{entries}
use Rattle.std.specs.List.Sorted.{IsStrictlySortedBy}
use Rattle.std.specs.Ordering.{nat_cmp}
use Rattle.plan_basics.specs.declared.keys.OpKey.{OpKey}
use Rattle.small_requests.proofs.OneFrame.{frame_stays, moves_follow}
use Rattle.small_requests.specs.RequestEdits.{ArePlacesOf}
use Rattle.plan_checks.specs.start_choice.specs.Choices.{AreLatestStarts}
use Rattle.plan_model.specs.Contents.{Contents, Operation}
use Rattle.plan_model.specs.Ready.{IsChosen, named}
use Rattle.plan_model.specs.Moves.{AreLiveAlike, IsMovedAt, IsMovedRow, IsRemarkedAt}
use Rattle.plan_checks.specs.derived_figures.specs.Figures.{KeepsFrame}
use Rattle.plan_rows.specs.Touched.{IsFacilityChange}
use Rattle.plan_rows.specs.declared.notes.FacilityChange.{FacilityChange}
use Rattle.plan_rows.specs.declared.notes.FacilityChange.TheVariants as kind
use Rattle.plan_rows.specs.declared.notes.Notes.{Notes}
use Rattle.small_requests.proofs.Alike.{touched_sources}
use Rattle.small_requests.proofs.KnownAlike.{row_stays}
use Rattle.small_requests.proofs.NamedFigures.{naming_alike, naming_moved}
use Rattle.small_requests.specs.Edits.{ArePlacesWith}
use Rattle.small_requests.specs.Naming.{AreNotesOf, AreStepNotes}
use Rattle.small_requests.specs.Touched.{AreKnownAlike, IsTouchedAt}

-- what is named leaves workstations, special resources and pairs
stays_named : (b : FacilityChange) (P Q : Contents) (os : List OpKey) → IsFacilityChange b P Q → IsFacilityChange b P (named os Q)
stays_named kind.Nothing P Q os stays = stays
stays_named kind.Resources P Q os stays = stays
stays_named kind.Workstations P Q os stays = stays

module _ (P Q : Contents) (m : ℕ) (os : List OpKey) (chosen : IsChosen Q m os) (places : List ℕ) (are : ArePlacesOf Q os places) where
  abbrev later : IsMovedAt Q (named os Q) places
  later = naming_moved Q m os chosen places are

  -- the graph and the latest starts stay
  pub keeps_frame : (edits : List ℕ) → IsMovedAt P Q edits → AreLiveAlike P Q → KeepsFrame P (named os Q)
  keeps_frame edits moved alike =
      let first = frame_stays P Q edits moved alike in
      let second = frame_stays Q (named os Q) places later (naming_alike Q m os chosen places are) in
      record { graph = λ g is. second.graph g (first.graph g is); latest = λ starts is. second.latest starts (first.latest starts is) }

  module _ (edits : List ℕ) (moved : IsRemarkedAt P Q edits) (known : AreKnownAlike Q (named os Q) places) (edited touched : List ℕ) (first : ArePlacesWith Q edits edited) (same : AreKnownAlike P Q edited)
      (ascend : IsStrictlySortedBy nat_cmp touched) (both : (i : ℕ) → Contains touched i ↔ (Contains edited i ⊎ Contains places i)) where
    -- both with the pairs of the plan before
    abbrev before_naming : Contents
    before_naming = record Q { pairs = P.pairs }

    abbrev after_naming : Contents
    after_naming = record (named os Q) { pairs = P.pairs }

    still_later : IsMovedAt before_naming after_naming places
    still_later = record { workstations = later.workstations; occurrences = later.occurrences; pairs = refl; size = later.size; rows = λ i o op at. still_row (later.rows i o op at) }
      where
        still_row : {i : ℕ} {o : OpKey} {op : Operation} → IsMovedRow Q places i o op → IsMovedRow before_naming places i o op
        still_row row = record { before = row.before; was = row.was; remarked = row.remarked; elsewhere = row.elsewhere }

    moved_on : IsRemarkedAt P (named os Q) touched
    moved_on = moves_follow P before_naming after_naming edits places touched moved still_later (λ i some. elim some [ inl at ↦ (both i).1 (inl (first.among i at)) | inr at ↦ (both i).1 (inr at) ])

    within : (i : ℕ) → Contains touched i → i < length (entries P.operations)
    within i has = elim ((both i).0 has) [
      | inl at ↦ subst (λ n. i < n) moved.size (first.within i at)
      | inr at ↦ subst (λ n. i < n) moved.size (are.within i at)
    ]

    same_after : AreKnownAlike P (named os Q) touched
    same_after i out o op at =
        let once = same i (λ has. out ((both i).1 (inl has))) o op at in
        let twice = known i (λ has. out ((both i).1 (inr has))) o op (row_stays P before_naming edits moved i o op at (λ has. out ((both i).1 (inl (first.among i has))))) in
        (λ s is. twice.0 s (once.0 s is), λ s is. twice.1 s (once.1 s is))

    -- no more is touched than what the edit touches and what is named
    pub touched_by_both : IsTouchedAt P (named os Q) touched
    touched_by_both = record {
      moved = record { places = touched; moved = moved_on; among = λ i has. has };
      ascend = ascend;
      within = within;
      same = same_after;
    }

-- what is noted of the plan after notes the step, where its latest starts stay
pub step_notes : (P Q : Contents) (os : List OpKey) (b : FacilityChange) → IsFacilityChange b P Q → ((starts : List ℤ) → AreLatestStarts P starts → AreLatestStarts (named os Q) starts) → (touched : List ℕ) → IsTouchedAt P (named os Q) touched
    → (notes : Notes) → AreNotesOf (named os Q) b touched notes → AreStepNotes P (named os Q) notes
step_notes P Q os b stays latest touched at_touched notes noted before source holds = record {
  after = noted.source;
  source = noted.is_source;
  holds = noted.holds;
  facilities = b;
  touched = touched;
  stays = subst (λ (S : Contents). IsFacilityChange b S noted.source.contents.now) (sym holds) (subst (IsFacilityChange b P) (sym noted.holds) (stays_named b P Q os stays));
  among = touched_sources P (named os Q) touched at_touched latest before noted.source holds noted.holds source noted.is_source;
  noted = noted.noted;
}
