-- FigureColumns moved on by what was worked out of an edit.
use Rattle.std.proofs.Common.{subst, ℕ, ℤ, ◌<◌, List}
use Rattle.satisfaction.specs.declared.nodes.WaitState.{WaitState}
use Rattle.plan_model.specs.Contents.{Contents}
use Rattle.plan_checks.specs.derived_figures.proofs.StatusesKept.{remarked_by}
use Rattle.small_requests.proofs.Agreeing.{leads_back}
use Rattle.small_requests.proofs.KnownAlike.{known_alike}
use Rattle.small_requests.specs.Columns.{AreColumnsOf, MakesOf}
use Rattle.small_requests.specs.Edits.{ArePlacesIn}
use Rattle.small_requests.specs.Groundworks.{HasGroundwork}
use Rattle.small_requests.specs.Touched.{AreKnownAlike, IsTouchedAt}
use Rattle.plan_checks.specs.derived_figures.specs.Overwritten.{overwritten}
use Rattle.small_requests.specs.declared.columns.FigureColumns.{FigureColumns}
use Rattle.small_requests.specs.declared.groundwork.Groundwork.{Groundwork}
use Rattle.ready_list.specs.Entries.{ReadyEntries}

module _ (P Q : Contents) (edits : List ℕ) (starts : List ℤ) (l : FigureColumns) (r : ReadyEntries) (g : Groundwork) (has : HasGroundwork P Q edits starts l r g) where
  abbrev touched : List ℕ
  touched = g.touched.items

  -- what is kept then
  abbrev pub then : List WaitState
  then = overwritten g.wait_states.items l.wait_states.items

  pub then_known : AreKnownAlike P Q touched
  then_known =
      let on = has.worked_out.moved_on in
      known_alike P Q edits has.moved has.alike has.sound.valid has.sound_after.valid l.wait_states.items then has.columns.wait_states on.kept_then l.standings.items has.columns.standings touched on.touched.among on.elsewhere

  -- no more than that is touched by the edit
  pub then_touched : IsTouchedAt P Q touched
  then_touched =
      let on = has.worked_out.moved_on in
      record {
        moved = record { places = edits; moved = remarked_by P Q edits has.moved; among = on.touched.among };
        ascend = on.touched.ascend;
        within = λ i h. subst (λ n. i < n) has.moved.size (on.touched.within i h);
        same = then_known;
      }

  pub places_then : ArePlacesIn Q touched
  places_then = record { ascend = has.worked_out.moved_on.touched.ascend; within = has.worked_out.moved_on.touched.within }

  -- what stood in the columns leads back
  pub makes_back : (m : FigureColumns) → AreColumnsOf Q m → MakesOf g.old m l
  makes_back m are = leads_back P Q has.sound.valid has.sound_after.valid touched then_touched l m has.columns are g.old has.worked_out.old
