-- The columns of a plan's rows, as their tables store them.
use Rattle.std.specs.Prelude.{ℕ, ℤ, pos, Bool, true, false, [], ◌∷◌}
use Rattle.plan_basics.specs.Attributes.{attribute_letter}
use Rattle.plan_basics.specs.Intervals.{OpenInterval}
use Rattle.plan_basics.specs.Keys.{Name}
use Rattle.plan_basics.specs.declared.Attr.{Attr}
use Rattle.plan_basics.specs.declared.keys.OccKey.{OccKey}
use Rattle.plan_basics.specs.declared.keys.OpKey.{OpKey}
use Rattle.tracker_receipts.specs.plan_items.specs.Parts.{mode_letter, keep_letter}
use Rattle.tracker_receipts.specs.special_resources.specs.declared.Mode.{Mode}
use Rattle.status_rules.specs.Texts.{mark_text, code_text, status_letter, occurrence_letter}
use Rattle.status_rules.specs.declared.OccStatus.{OccStatus}
use Rattle.tracker_receipts.specs.plan_records.specs.declared.OperationRow.{OperationRow}
use Rattle.store_schema.specs.StoredPlans.{StoredMeta, StoredWorkstation, StoredInterval, StoredResource, StoredOccurrence, StoredOperation, StoredDependency, StoredNeed, StoredQuantity, StoredAmount}

-- a truth value is 1 or 0
abbrev pub flag : Bool → ℤ
flag true = pos 1
flag false = pos 0

-- the version of the tables, whether a plan is loaded, and the clock in minutes; the id of the one row is 1
abbrev pub meta_columns : ℕ → Bool → ℕ → StoredMeta
meta_columns version loaded clock = record { id = pos 1; version = pos version; loaded = flag loaded; clock = pos clock }

-- a workstation's name, and the letter of its attribute
abbrev pub workstation_columns : Name → Attr → StoredWorkstation
workstation_columns name a = record { name = name; attr = attribute_letter a ∷ [] }

-- an interval of a workstation: its first minute, its end, servers and fixed resources
abbrev pub interval_columns : Name → OpenInterval → StoredInterval
interval_columns w i = record { ws = w; start = pos i.from; stop = pos i.end; servers = pos i.servers; r1 = pos i.r1; r2 = pos i.r2 }

-- a special resource's name, and whether it is available
abbrev pub resource_columns : Name → Bool → StoredResource
resource_columns name available = record { name = name; available = flag available }

-- an occurrence's key, priority and deadline, and the letter of its status
abbrev pub occurrence_columns : OccKey → ℕ → ℕ → OccStatus → StoredOccurrence
occurrence_columns c priority deadline status = record { app = c.app; ia = pos c.arrival; priority = pos priority; deadline = pos deadline; status = occurrence_letter status ∷ [] }

-- an operation's key, what was planned, reported and commanded of it, and what is read off the plan for it
abbrev pub operation_columns : OperationRow → StoredOperation
operation_columns r = record {
  app = r.op.occurrence.app;
  ia = pos r.op.occurrence.arrival;
  num = pos r.op.number;
  ws = r.ws;
  duration = pos r.duration;
  r1 = pos r.r1;
  r2 = pos r.r2;
  not_before = pos r.not_before;
  deadline = pos r.deadline;
  mark = mark_text r.mark;
  code = code_text r.mark;
  held = flag r.held;
  nop = flag r.nop;
  status = status_letter r.status ∷ [];
  latest = r.latest;
  waiting = pos r.waiting;
}

-- the keys of a predecessor and a successor
abbrev pub dependency_columns : OpKey → OpKey → StoredDependency
dependency_columns p s = record { papp = p.occurrence.app; pia = pos p.occurrence.arrival; pnum = pos p.number; sapp = s.occurrence.app; sia = pos s.occurrence.arrival; snum = pos s.number }

-- the key of an operation, the special resource that it needs, and the letters of the mode and of what an error does
abbrev pub need_columns : OpKey → Name → Mode → Bool → StoredNeed
need_columns o r mode keep = record { app = o.occurrence.app; ia = pos o.occurrence.arrival; num = pos o.number; resource = r; mode = mode_letter mode; keep = keep_letter keep }

-- a special resource's name, and how much of it there is
abbrev pub quantity_columns : Name → ℕ → StoredQuantity
quantity_columns r quantity = record { resource = r; quantity = pos quantity }

-- the key of an operation, a special resource that it shares, and how much of it it needs
abbrev pub amount_columns : OpKey → Name → ℕ → StoredAmount
amount_columns o r amount = record { app = o.occurrence.app; ia = pos o.occurrence.arrival; num = pos o.number; resource = r; amount = pos amount }
