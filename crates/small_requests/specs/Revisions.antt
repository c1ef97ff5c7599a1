-- What an edit writes into what a plan holds.
use Rattle.std.specs.Prelude.{◌≡◌, true, List, []}
use Rattle.std.specs.FinMap.{contains_key, insert}
use Rattle.plan_basics.specs.declared.keys.OpKey.{OpKey}
use Rattle.plan_model.specs.Contents.{Contents, with_availability}
use Rattle.plan_model.specs.Ready.{with_mark}
use Rattle.plan_model.specs.Revise.{revise}
use Rattle.plan_records.specs.Changes.{Changes, IsRequest, is_at, revised}
use Rattle.plan_records.specs.declared.What.{What}
use Rattle.ready_list.specs.Choice.{is_among}
use Rattle.plan_checks.specs.plan_changes.specs.Markings.{DifferInMarks}
use Rattle.small_requests.specs.EditedKeys.{AreEditedKeys}
use Rattle.small_requests.specs.declared.revisions.Revision.{Revision}
use Rattle.small_requests.specs.declared.revisions.Revision.TheVariants as revision

-- what the plan holds once it is written, a mark on the operations of these keys
abbrev pub written : List OpKey → Revision → Contents → Contents
written keys revision.Nothing P = P
written keys (revision.Mark mark) P = revised (is_among keys) (with_mark mark) P
written keys (revision.Held o held) P = revised (is_at o) (λ op. record op { held = held }) P
written keys (revision.Nop o nop) P = revised (is_at o) (λ op. record op { nop = nop }) P
written keys (revision.Available r available) P = record P { resources = revise (with_availability r available) P.resources }
written keys (revision.Opened w) P = record P { workstations = insert P.workstations w.0 w.1 }

-- the special resource or the workstation that it writes is there
abbrev pub HasPlaceFor : Contents → Revision → Type 0
HasPlaceFor P (revision.Available r available) = contains_key P.resources r ≡ true
HasPlaceFor P (revision.Opened w) = contains_key P.workstations w.0 ≡ true
HasPlaceFor P x = Unit {0}

-- what the plan holds once it is written, but for operations
abbrev pub with_facilities : Revision → Contents → Contents
with_facilities x P = record (written [] x P) { operations = P.operations }

-- to write old after it puts back what stood beside operations
pub record PutsBack (P : Contents) (x old : Revision) : Type 0 where
  pub has_place : HasPlaceFor (with_facilities x P) old
  pub back : written [] old (with_facilities x P) ≡ P

-- written where this legal request edits, it makes what the request makes of the plan, and of operations markings alone
pub record IsRevisionFor (P : Contents) (w : What) (x : Revision) : Type 0 where
  pub legal : IsRequest w
  pub has_place : HasPlaceFor P x
  pub changes : (keys : List OpKey) → AreEditedKeys P w keys → Changes P w (written keys x P)
  pub remarks : (keys : List OpKey) → AreEditedKeys P w keys → DifferInMarks (with_facilities x P) (written keys x P) keys
