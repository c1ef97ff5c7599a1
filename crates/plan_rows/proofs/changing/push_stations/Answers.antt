use Rattle.plan_rows.proofs.changing.push_stations.Goals as goal

-- table by table
pub returns : goal.returns
returns c = λ clock now so_far.
    let workstations = c.in_ok-push_workstations.ensures clock now so_far in
    c.push_resources.ensures clock now (c.in_ok-push_intervals.ensures clock now workstations)
