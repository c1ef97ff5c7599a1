-- What a desk that is served has seen, by its own clock.
use Rattle.std.specs.Prelude.{◌≡◌, ◌==◌, ℕ, ◌-◌, ◌/◌, cond, map}
use Rattle.plan_basics.specs.Keys.{Name}
use Rattle.desk_serving.specs.board_pages.specs.declared.views.Asked.{Asked}
use Rattle.desk_serving.specs.board_pages.specs.declared.views.Watch.{Watch}
use Rattle.desk_runs.specs.declared.seen.Seen.{Seen}

-- the whole minutes between two times in seconds
abbrev pub minutes_between : ℕ → ℕ → ℕ
minutes_between earlier now = (now - earlier) / 60

-- for how many minutes nobody has asked for a workstation
abbrev pub asked_by : ℕ → Name × ℕ → Asked
asked_by now e = record { workstation = e.0; minutes = minutes_between e.1 now }

-- when the plan's clock moved last: now, where it is another than before
abbrev pub moved_by : ℕ → ℕ → ℕ → ℕ → ℕ
moved_by before clock moved now = cond (before == clock) moved now

-- what is told of what was seen, at this time
pub record IsWatchOf (s : Seen) (now : ℕ) (w : Watch) : Type 0 where
  pub stood : w.stood ≡ minutes_between s.moved now
  pub stale : w.stale ≡ s.stale
  pub served : w.served ≡ minutes_between 0 now
  pub asked : w.asked.items ≡ map (asked_by now) s.asked.items
