-- A request beside members that are counted, and not looked at yet.
use Rattle.std.specs.Prelude.{◌≡◌, ◌⊎◌, ℕ, suc, ◌+◌, List, length, codes, Option, Some, None, IsSome}
use Rattle.std.specs.List.{AllByRecursion}
use Rattle.plan_basics.specs.Minutes.{IsMinuteText}
use Rattle.plan_basics.specs.declared.keys.OpKey.{OpKey}
use Rattle.plan_records.specs.declared.Request.{Request}
use Rattle.plan_records.specs.declared.What.{What}
use Rattle.plan_records.specs.declared.What.TheVariants as what
use Rattle.serde_json.specs.Data.{Data, string}
use Rattle.request_json.specs.Members.{Member, HasMember, member_count}
use Rattle.request_json.specs.Requests.{Asks}

-- with this `do` the value asks for it by so many members, `at` and `do` among them
abbrev pub AsksBy : Data → List ℕ → ℕ → What → Type 0
AsksBy d verb count x = (more : List Member) × Asks x verb more × (count ≡ suc (suc (length more))) × AllByRecursion (HasMember d) more

-- the value has so many members beside others
abbrev pub HasBeside : Data → ℕ → ℕ → Type 0
HasBeside d others count = member_count d ≡ Some (count + others)

-- the value says the request by its members beside so many others
abbrev pub SaysBeside : Data → ℕ → Request → Type 0
SaysBeside d others r = (at : List ℕ) × (verb : List ℕ) × (count : ℕ) × HasMember d (codes "at", string at) × IsMinuteText at r.at
    × HasMember d (codes "do", string verb) × HasBeside d others count × AsksBy d verb count r.what

-- the `do` of a report
abbrev pub IsReportVerb : List ℕ → Type 0
IsReportVerb verb = (verb ≡ codes "started") ⊎ ((verb ≡ codes "ended") ⊎ ((verb ≡ codes "error") ⊎ ((verb ≡ codes "interrupted") ⊎ (verb ≡ codes "unknown"))))

-- a request on one operation and with its key alone: its `do`, and the key
abbrev pub on_operation : What → Option (List ℕ × OpKey)
on_operation (what.Started key) = Some (codes "started", key)
on_operation (what.Ended key) = Some (codes "ended", key)
on_operation (what.Interrupted key) = Some (codes "interrupted", key)
on_operation (what.Unknown key) = Some (codes "unknown", key)
on_operation (what.Hold key) = Some (codes "hold", key)
on_operation (what.Release key) = Some (codes "release", key)
on_operation (what.Nop key) = Some (codes "nop", key)
on_operation (what.Unnop key) = Some (codes "unnop", key)
on_operation (what.Rerun key) = Some (codes "rerun", key)
on_operation (what.Complete key) = Some (codes "complete", key)
on_operation _ = None

-- a request on one operation and with its key alone
abbrev pub IsOnOperation : What → Type 0
IsOnOperation x = IsSome (on_operation x)
