-- Figures in parts, and columns that are alike.
use Rattle.std.proofs.Common.{◌≡◌, refl, sym, subst, Vec, Global}
use Rattle.satisfaction.specs.declared.nodes.WaitState.{WaitState}
use Rattle.plan_drafts.specs.Places.{AreStatuses}
use Rattle.plan_model.specs.Contents.{Contents}
use Rattle.plan_checks.specs.derived_figures.specs.Figures.{AreFigures}
use Rattle.plan_checks.specs.derived_figures.specs.WaitStates.{AreWaitStates}
use Rattle.plan_checks.specs.plan_status.specs.Standings.{AreStandings, AreTallies}
use Rattle.small_requests.specs.Columns.{AreAlike, AreColumnsOf, AreAllocationsOf, IsReadyListOf, MakesOf, figures_of}
use Rattle.small_requests.specs.Values.{LeadsTo}
use Rattle.small_requests.specs.declared.columns.FigureColumns.{FigureColumns}
use Rattle.small_requests.specs.declared.columns.Allocations.{Allocations}
use Rattle.small_requests.specs.declared.snapshots.Snapshot.{Snapshot}
use Rattle.ready_list.specs.Entries.{ReadyEntries}

-- columns are alike where what is kept has the same
pub kept_alike : (l : FigureColumns) (wait_states : Vec WaitState Global) → wait_states.items ≡ l.wait_states.items → AreAlike (record l { wait_states = wait_states }) l
kept_alike l wait_states same = record { wait_states = same; standings = refl; statuses = refl; tallies = refl }

pub columns_alike : (P : Contents) (l m : FigureColumns) → AreAlike l m → AreColumnsOf P m → AreColumnsOf P l
columns_alike P l m same are = record {
  wait_states = subst (AreWaitStates P) (sym same.wait_states) are.wait_states;
  standings = subst (AreStandings P) (sym same.standings) are.standings;
  statuses = subst (AreStatuses P) (sym same.statuses) are.statuses;
  tallies = subst (AreTallies P) (sym same.tallies) are.tallies;
}

module _ (P : Contents) (l : FigureColumns) (r : ReadyEntries) (s : Allocations) where
  pub are_columns : AreFigures P (figures_of l r s) → AreColumnsOf P l
  are_columns are = record { wait_states = are.wait_states; standings = are.standings; statuses = are.statuses; tallies = are.tallies }

  pub is_list : AreFigures P (figures_of l r s) → IsReadyListOf P r
  is_list are = record { listed = are.ready; room = are.room }

  pub are_allocations : AreFigures P (figures_of l r s) → AreAllocationsOf P s
  are_allocations are = record { given = are.given; holders = are.holders }

  pub are_figures : AreColumnsOf P l → IsReadyListOf P r → AreAllocationsOf P s → AreFigures P (figures_of l r s)
  are_figures are list allocations = record {
    wait_states = are.wait_states;
    standings = are.standings;
    statuses = are.statuses;
    tallies = are.tallies;
    given = allocations.given;
    holders = allocations.holders;
    ready = list.listed;
    room = list.room;
  }

-- what makes columns of some makes them of others that are alike
pub makes_alike : (x : Snapshot) (l m to : FigureColumns) → AreAlike l m → MakesOf x m to → MakesOf x l to
makes_alike x l m to same makes = record {
  wait_states = subst (λ ks. LeadsTo x.wait_states.items ks to.wait_states.items) (sym same.wait_states) makes.wait_states;
  standings = subst (λ ss. LeadsTo x.standings.items ss to.standings.items) (sym same.standings) makes.standings;
  statuses = subst (λ ss. LeadsTo x.statuses.items ss to.statuses.items) (sym same.statuses) makes.statuses;
  tallies = subst (λ ns. LeadsTo x.tallies.items ns to.tallies.items) (sym same.tallies) makes.tallies;
}
