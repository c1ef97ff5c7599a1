-- What is known of an operation's predecessors, and of an occurrence's operations.
use Rattle.std.specs.Prelude.{◌≡◌, ◌⊎◌, true, List}
use Rattle.std.specs.FinMap.{entries}
use Rattle.plan_basics.specs.declared.keys.OccKey.{OccKey}
use Rattle.plan_basics.specs.declared.keys.OpKey.{OpKey}
use Rattle.status_rules.specs.declared.Counts.{Counts}
use Rattle.status_rules.specs.declared.Status.{Status}
use Rattle.status_rules.specs.declared.Status.TheVariants as status
use Rattle.plan_model.specs.ready_list.specs.Choice.{is_among}
use Rattle.plan_model.specs.Contents.{Contents, IsInPlan}
use Rattle.plan_model.specs.Ready.{named}
use Rattle.plan_model.specs.Status.{ArePreds, HasStatus, IsReady}
use Rattle.plan_laws.specs.plan_drafts.specs.Places.{AreByPlace}
use Rattle.plan_laws.specs.plan_records.specs.Rows.{IsCount, IsWaitingFor}
use Rattle.plan_status.specs.declared.standings.Standing.{Standing}

-- the truth values of o's live predecessors, and how many of them aren't satisfied
pub record IsStanding (P : Contents) (o : OpKey) (s : Standing) : Type 0 where
  pub preds : ArePreds P o s.preds
  pub waiting : IsWaitingFor P o s.waiting

-- the standing of each operation, in key order
abbrev pub AreStandings : Contents → List Standing → Type 0
AreStandings P standings = AreByPlace (entries P.operations) standings (IsStanding P)

-- o belongs to the occurrence, and has the status
abbrev pub BelongsWithStatus : Contents → OccKey → Status → OpKey → Type 0
BelongsWithStatus P c s o = (o.occurrence ≡ c) × HasStatus P o s

-- the numbers of the occurrence's operations: all, and those of a status; the interrupted ones count as started
pub record IsTally (P : Contents) (c : OccKey) (n : Counts) : Type 0 where
  pub all : IsCount (λ o. (o.occurrence ≡ c) × IsInPlan P o) n.all
  pub deleted : IsCount (BelongsWithStatus P c status.Deleted) n.deleted
  pub error : IsCount (BelongsWithStatus P c status.Error) n.error
  pub undecided : IsCount (BelongsWithStatus P c status.Undecided) n.undecided
  pub complete : IsCount (BelongsWithStatus P c status.Complete) n.complete
  pub started : IsCount (λ o. BelongsWithStatus P c status.Started o ⊎ BelongsWithStatus P c status.Interrupted o) n.started

-- the numbers of each occurrence, in key order
abbrev pub AreTallies : Contents → List Counts → Type 0
AreTallies P tallies = AreByPlace (entries P.occurrences) tallies (IsTally P)

-- to name operations that are ready changes nothing of what an operation waits for
abbrev pub NamingKeepsStandings : Type 0
NamingKeepsStandings = (P : Contents) (os : List OpKey) → ((k : OpKey) → is_among os k ≡ true → IsReady P k) → (o : OpKey) (s : Standing) → IsStanding P o s → IsStanding (named os P) o s
