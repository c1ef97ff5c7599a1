-- What is kept of a loaded plan, for its views.
use Rattle.std.specs.Prelude.{ℕ, ℤ, List, Option, Some, None, option_map}
use Rattle.std.specs.List.{zip}
use Rattle.derived_figures.specs.start_choice.specs.Choices.{AreLatestStarts}
use Rattle.plan_records.specs.plan_drafts.specs.Places.{AreStatuses}
use Rattle.plan_model.specs.Contents.{Contents, nothing}
use Rattle.plan_model.specs.Plan.{Plan, plan_held}
use Rattle.plan_model.specs.Valid.{IsSound}
use Rattle.derived_figures.specs.plan_status.specs.Standings.{AreStandings, AreTallies}
use Rattle.derived_figures.specs.plan_status.specs.declared.standings.Standing.{Standing}
use Rattle.status_rules.specs.declared.Status.{Status}
use Rattle.plan_rows.specs.declared.columns.SourceColumns.{SourceColumns}
use Rattle.plan_rows.specs.declared.row_sources.RowSource.{RowSource}
use Rattle.plan_rows.specs.declared.row_sources.TableSource.{TableSource}

-- its contents are sound, and beside them is what is read off them
pub record IsSource (s : RowSource) : Type 0 where
  pub sound : IsSound s.contents.now
  pub standings : AreStandings s.contents.now s.standings.now
  pub statuses : AreStatuses s.contents.now s.statuses.now
  pub tallies : AreTallies s.contents.now s.tallies.now
  pub latest : AreLatestStarts s.contents.now s.latest.now.starts

-- the source of these contents, wherever they lie, and of these columns
abbrev pub source_with : Contents → SourceColumns → RowSource
source_with P c = record { contents = record { ref_ptr = (0, 0); now = P }; standings = c.standings; statuses = c.statuses; tallies = c.tallies; latest = c.latest }

-- what the tables of a plan are told by, as a source of its rows
abbrev pub source_of : TableSource → RowSource
source_of t = source_with t.uncounted.contents.now t.columns

-- so where there is one
abbrev pub source_if_any : Option TableSource → Option RowSource
source_if_any None = None
source_if_any (Some t) = Some (source_of t)

-- so where there is one
abbrev pub IsSourceIfAny : Option RowSource → Type 0
IsSourceIfAny None = Unit {0}
IsSourceIfAny (Some s) = IsSource s

-- what it holds; nothing where there is none
abbrev pub contents_if_any : Option RowSource → Contents
contents_if_any None = nothing
contents_if_any (Some s) = s.contents.now

-- the plan at this clock whose source this is; where there is none, no plan is loaded
abbrev pub plan_if_any : ℕ → Option RowSource → Plan
plan_if_any clock source = plan_held clock (option_map (λ s. s.contents.now) source)

-- what is known of an operation: its standing, its status, its latest start
abbrev pub Known : Type 0
Known = Standing × (Status × ℤ)

-- what is known of each operation
abbrev pub known_of : RowSource → List Known
known_of s = zip s.standings.now (zip s.statuses.now s.latest.now.starts)
