-- What an accepted request makes of a plan.
use Rattle.std.specs.Prelude.{◌≡◌, ℕ, true, List}
use Rattle.plan_basics.specs.declared.keys.OpKey.{OpKey}
use Rattle.request_outcomes.specs.declared.accepted.NextPlan.{NextPlan}
use Rattle.request_outcomes.specs.declared.accepted.NextPlan.TheVariants.{Whole, Small}
use Rattle.request_outcomes.specs.declared.accepted.Writing.{Writing}
use Rattle.small_requests.specs.Revisions.{HasPlaceFor, written}
use Rattle.small_requests.specs.FigureChanges.{IsFigureChange}
use Rattle.plan_model.specs.Contents.{Contents}
use Rattle.plan_model.specs.Plan.{Plan}
use Rattle.plan_model.specs.Ready.{IsChosen, named}
use Rattle.plan_model.specs.Valid.{IsSound}
use Rattle.small_requests.specs.derived_figures.specs.Figures.{KeepsFrame}

-- what P becomes once this is written to it
abbrev pub rewritten : Writing → Contents → Contents
rewritten w P = written w.keys.items w.revision P

-- it may be written to P; once it is and these are named, what is the graph of P and its latest starts is so still, and the change leads from its figures to those then
pub record IsWritingFor (P : Contents) (w : Writing) (os : List OpKey) : Type 0 where
  pub has_place : HasPlaceFor P w.revision
  pub sound : IsSound (rewritten w P)
  pub chosen : (m : ℕ) × IsChosen (rewritten w P) m os
  pub frame : KeepsFrame P (named os (rewritten w P))
  pub figure_change : IsFigureChange P (named os (rewritten w P)) w.figure_change

-- what a plan holds then, of what it holds now, where these are named
abbrev pub contents_next : Contents → NextPlan → List OpKey → Contents
contents_next P (Whole loaded) os = loaded
contents_next P (Small w) os = named os (rewritten w P)

-- this plan may be led there, where these are named
abbrev pub IsNextFor : Plan → NextPlan → List OpKey → Type 0
IsNextFor P (Whole loaded) os = Unit {0}
IsNextFor P (Small w) os = (P.loaded ≡ true) × IsWritingFor P.contents w os
