-- After which answers the store may be shut.
use Rattle.std.specs.Prelude.{Bool, true, false, List, IsTrue}
use Rattle.std.specs.List.{list_any}
use Rattle.sqlite.specs.State.{State as StoreState}
use Rattle.plan_basics.specs.declared.Refusal.TheVariants as refusal
use Rattle.plan_records.specs.Answer.{Answer, refused}

-- such an answer may have shut the store: memory lacked, or the store failed
abbrev pub may_have_shut : Answer → Bool
may_have_shut (refused refusal.Memory) = true
may_have_shut (refused refusal.Store) = true
may_have_shut _ = false

-- where the answer may have shut the store, it is open all the same
abbrev pub IsOpenAfter : Answer → StoreState → Type 0
IsOpenAfter x new = IsTrue (may_have_shut x) → IsTrue new.is_open

-- so after several answers
abbrev pub IsOpenAfterAll : List Answer → StoreState → Type 0
IsOpenAfterAll answers new = IsTrue (list_any may_have_shut answers) → IsTrue new.is_open
