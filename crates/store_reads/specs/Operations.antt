-- The columns of a row of `operation`, in three parts.
use Rattle.std.specs.Prelude.{◌≡◌, ◌<◌, ◌^◌, pos, [], ◌∷◌}
use Rattle.sqlite.specs.Order.{Row, column}
use Rattle.sqlite.specs.declared.types.Value.TheVariants.{Int, Text}
use Rattle.plan_basics.specs.Minutes.{IsMoment}
use Rattle.plan_basics.specs.Names.{IsName}
use Rattle.status_rules.specs.Texts.{status_letter}
use Rattle.plan_records.specs.declared.OperationRow.{OperationRow}
use Rattle.store_schema.specs.Columns.{flag}
use Rattle.store_reads.specs.Cells.{IsMarkAt, IsOperationKeyAt}
use Rattle.store_reads.specs.declared.decoding.operations.Planned.{Planned}
use Rattle.store_reads.specs.declared.decoding.operations.Reported.{Reported}
use Rattle.store_reads.specs.declared.decoding.operations.Derived.{Derived}

-- a row that is read of the table has this in the columns of what was planned, each in the range of its type
pub record IsPlannedIn (stored : Row) (p : Planned) : Type 0 where
  pub op : IsOperationKeyAt stored 1 p.op
  pub ws : IsName 4 p.ws × (column stored 4 ≡ Text p.ws)
  pub duration : (p.duration < 2 ^ 16) × (column stored 5 ≡ Int (pos p.duration))
  pub r1 : (p.r1 < 2 ^ 8) × (column stored 6 ≡ Int (pos p.r1))
  pub r2 : (p.r2 < 2 ^ 8) × (column stored 7 ≡ Int (pos p.r2))
  pub not_before : IsMoment p.not_before × (column stored 8 ≡ Int (pos p.not_before))
  pub deadline : IsMoment p.deadline × (column stored 9 ≡ Int (pos p.deadline))

-- it has this in the columns of what was reported and commanded
pub record IsReportedIn (stored : Row) (r : Reported) : Type 0 where
  pub mark : IsMarkAt stored 10 r.mark
  pub held : column stored 12 ≡ Int (flag r.held)
  pub nop : column stored 13 ≡ Int (flag r.nop)

-- it has this in the columns of what is read off the plan
pub record IsDerivedIn (stored : Row) (d : Derived) : Type 0 where
  pub status : column stored 14 ≡ Text (status_letter d.status ∷ [])
  pub latest : column stored 15 ≡ Int d.latest
  pub waiting : (d.waiting < 2 ^ 32) × (column stored 16 ≡ Int (pos d.waiting))

-- the operation's row of three parts
abbrev pub operation_of : Planned → Reported → Derived → OperationRow
operation_of p r d = record {
  op = p.op;
  ws = p.ws;
  duration = p.duration;
  r1 = p.r1;
  r2 = p.r2;
  not_before = p.not_before;
  deadline = p.deadline;
  mark = r.mark;
  held = r.held;
  nop = r.nop;
  status = d.status;
  latest = d.latest;
  waiting = d.waiting;
}
