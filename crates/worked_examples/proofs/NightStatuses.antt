-- The statuses of PAYROLL's operations, whatever is reported of them.
use Rattle.std.proofs.Common.{◌≡◌, ◌≢◌, not, Some, false, true}
use Rattle.std.specs.FinMap.{get, find, get-from_entries}
use Rattle.std.specs.FinSet.{contains-from_list}
use Rattle.plan_basics.specs.declared.keys.OpKey.{OpKey}
use Rattle.plan_basics.specs.Keys.{Name, name_cmp, name_cmp_total}
use Rattle.workstations.specs.Workstations.{Workstation}
use Rattle.status_rules.specs.Table.{reports, status_by}
use Rattle.status_rules.specs.declared.Mark.TheVariants as mark
use Rattle.status_rules.specs.declared.Preds.{Preds}
use Rattle.status_rules.specs.declared.Status.{Status}
use Rattle.plan_model.specs.Contents.{Contents, Operation, Operations, Precedes}
use Rattle.plan_model.specs.Status.{HasStatus}
use Rattle.plan_laws.proofs.Decide.{pair_cmp_total}
use Rattle.worked_examples.specs.Night.{night, night_pairs, night_workstations, payroll_at, cpu1_station, setp_station, prt1_station, dumm_station}
use Rattle.worked_examples.proofs.Facts.{none_before, one_is_before, status_of_first, status_of_next}
use Rattle.worked_examples.proofs.Literal.{one_before, only}

pub workstation_at : (w : Name) → get night.workstations w ≡ find name_cmp w night_workstations
workstation_at w = get-from_entries name_cmp_total night_workstations w

-- the operation is there, goes to this workstation and isn't deleted
abbrev pub Goes : Operations → OpKey → Operation → Workstation → Type 0
Goes operations o op ws = (get operations o ≡ Some op) × (get night.workstations op.workstation ≡ Some ws) × (op.mark ≢ mark.Deleted)

abbrev pub status_on : Operation → Workstation → Preds → Status
status_on op ws preds = status_by op.mark op.held op.nop ws.attribute preds

-- the night's plan with these operations
abbrev pub reported : Operations → Contents
reported operations = record night { operations = operations }

module _ (operations : Operations) where
  next : (o p : OpKey) (op before : Operation) (ws there : Workstation) (s : Status) → Goes operations o op ws → Goes operations p before there → Precedes night p o → ((q : OpKey) → Precedes night q o → q ≡ p)
      → HasStatus (reported operations) p s → HasStatus (reported operations) o (status_on op ws (one_is_before s (not (reports there.attribute))))
  next o p op before ws there s a b edge one has = status_of_next (reported operations) o op ws p before there s a.0 a.1 b.0 b.1 b.2 edge one has

  module _ (a5 a10 a20 a30 a40 : Operation)
      (g5 : Goes operations (payroll_at 5) a5 setp_station) (g10 : Goes operations (payroll_at 10) a10 cpu1_station) (g20 : Goes operations (payroll_at 20) a20 cpu1_station)
      (g30 : Goes operations (payroll_at 30) a30 dumm_station) (g40 : Goes operations (payroll_at 40) a40 prt1_station) where
    abbrev pub s5 : Status
    s5 = status_on a5 setp_station none_before

    abbrev pub s10 : Status
    s10 = status_on a10 cpu1_station (one_is_before s5 false)

    abbrev pub s20 : Status
    s20 = status_on a20 cpu1_station (one_is_before s10 false)

    abbrev pub s30 : Status
    s30 = status_on a30 dumm_station (one_is_before s20 false)

    abbrev pub s40 : Status
    s40 = status_on a40 prt1_station (one_is_before s30 true)

    pub at_5 : HasStatus (reported operations) (payroll_at 5) s5
    at_5 = status_of_first (reported operations) (payroll_at 5) a5 setp_station g5.0 g5.1 (λ p h. one_before night_pairs p (payroll_at 5) h)

    pub at_10 : HasStatus (reported operations) (payroll_at 10) s10
    at_10 = next (payroll_at 10) (payroll_at 5) a10 a5 cpu1_station setp_station s5 g10 g5 (contains-from_list pair_cmp_total night_pairs (payroll_at 5, payroll_at 10)) (λ q h. only q (payroll_at 5) (one_before night_pairs q (payroll_at 10) h)) at_5

    pub at_20 : HasStatus (reported operations) (payroll_at 20) s20
    at_20 = next (payroll_at 20) (payroll_at 10) a20 a10 cpu1_station cpu1_station s10 g20 g10 (contains-from_list pair_cmp_total night_pairs (payroll_at 10, payroll_at 20)) (λ q h. only q (payroll_at 10) (one_before night_pairs q (payroll_at 20) h)) at_10

    pub at_30 : HasStatus (reported operations) (payroll_at 30) s30
    at_30 = next (payroll_at 30) (payroll_at 20) a30 a20 dumm_station cpu1_station s20 g30 g20 (contains-from_list pair_cmp_total night_pairs (payroll_at 20, payroll_at 30)) (λ q h. only q (payroll_at 20) (one_before night_pairs q (payroll_at 30) h)) at_20

    pub at_40 : HasStatus (reported operations) (payroll_at 40) s40
    at_40 = next (payroll_at 40) (payroll_at 30) a40 a30 prt1_station dumm_station s30 g40 g30 (contains-from_list pair_cmp_total night_pairs (payroll_at 30, payroll_at 40)) (λ q h. only q (payroll_at 30) (one_before night_pairs q (payroll_at 40) h)) at_30

    -- the five statuses in order
    pub five_statuses : HasStatus (reported operations) (payroll_at 5) s5 × HasStatus (reported operations) (payroll_at 10) s10 × HasStatus (reported operations) (payroll_at 20) s20 × HasStatus (reported operations) (payroll_at 30) s30 × HasStatus (reported operations) (payroll_at 40) s40
    five_statuses = (at_5, at_10, at_20, at_30, at_40)
