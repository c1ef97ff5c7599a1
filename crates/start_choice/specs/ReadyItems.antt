-- What the ready list is made of.
use Rattle.std.specs.Prelude.{◌≡◌, ◌≢◌, List, Contains, Some}
use Rattle.std.specs.FinMap.{get}
use Rattle.std.specs.List.{AllPairs}
use Rattle.plan_basics.specs.declared.keys.OpKey.{OpKey}
use Rattle.ready_list.specs.declared.ReadyKey.{ReadyKey}
use Rattle.ready_list.specs.declared.entry.ReadyEntry.{ReadyEntry}
use Rattle.plan_model.specs.Contents.{Contents, Has}
use Rattle.plan_model.specs.Ready.{IsEntry}
use Rattle.plan_model.specs.Starts.{IsLatestStart}
use Rattle.plan_model.specs.Status.{IsReady}
use Rattle.plan_model.specs.declared.Occurrence.{Occurrence}
use Rattle.start_choice.specs.Choices.{HasItsWorkstation}

-- what an operation's place in a ready list goes by, whether or not it is ready
abbrev pub IsKeyIn : Contents → ReadyKey → Type 0
IsKeyIn P k =
    IsLatestStart P k.op k.latest × Has P k.op (λ op. k.duration ≡ op.duration)
    × ((c : Occurrence) × (get P.occurrences k.op.occurrence ≡ Some c) × (k.priority ≡ c.priority))

-- the entry of an operation, whether or not it is ready: its key, its workstation, how that reports and its place
abbrev pub IsEntryIn : Contents → ReadyEntry → Type 0
IsEntryIn P e = IsKeyIn P e.key × HasItsWorkstation P e

-- an operation that is ready, with what its place in the list goes by, its workstation, how that reports and the place of that
abbrev pub IsReadyEntry : Contents → ReadyEntry → Type 0
IsReadyEntry P e = IsEntry P e.key × HasItsWorkstation P e

-- what is ready, each once, in any order
pub record AreAllReady (P : Contents) (entries : List ReadyEntry) : Type 0 where
  pub each : (e : ReadyEntry) → Contains entries e → IsReadyEntry P e
  pub every : (o : OpKey) → IsReady P o → (e : ReadyEntry) × Contains entries e × (e.key.op ≡ o)
  pub once : AllPairs (λ a b. a.key ≢ b.key) entries
