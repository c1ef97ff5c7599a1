-- What is kept of operations, by their standings and statuses.
use Rattle.std.proofs.Common.{◌≡◌, sym, subst, true}
use Rattle.plan_basics.specs.declared.keys.OpKey.{OpKey}
use Rattle.status_rules.specs.Classes.{is_satisfied}
use Rattle.status_rules.specs.declared.Status.{Status}
use Rattle.start_choice.specs.satisfaction.specs.declared.nodes.WaitState.{WaitState}
use Rattle.start_choice.specs.plan_laws.proofs.Classes.{satisfied_decides}
use Rattle.plan_model.specs.Contents.{Contents}
use Rattle.plan_model.specs.Status.{HasStatus, IsSatisfied}
use Rattle.start_choice.specs.plan_records.specs.Rows.{IsWaitingFor}
use Rattle.start_choice.specs.plan_status.specs.Standings.{IsStanding}
use Rattle.start_choice.specs.plan_status.specs.declared.standings.Standing.{Standing}
use Rattle.derived_figures.specs.WaitStates.{IsKept}

pub kept_by : (P : Contents) (o : OpKey) (s : Standing) (t : Status) (k : WaitState) → IsStanding P o s → HasStatus P o t → k.satisfied ≡ is_satisfied t → k.waiting ≡ s.waiting → IsKept P o k
kept_by P o s t k stands has flag count = (
  subst (λ b. (b ≡ true → IsSatisfied P o) × (IsSatisfied P o → b ≡ true)) (sym flag) (satisfied_decides P o t has),
  subst (IsWaitingFor P o) (sym count) stands.waiting,
)
