-- What the lines of a journal tell of starts.
use Rattle.std.specs.Prelude.{◌≡◌, ◌⊎◌, ℕ, ◌==◌, Bool, true, false, List, [], ◌∷◌, ◌++◌, Option, Some, None}
use Rattle.command_answers.specs.Lines.{IsFirstLine}
use Rattle.desk_journal.specs.Entries.{IsEntry}
use Rattle.desk_journal.specs.declared.entries.Entry.{Entry}
use Rattle.desk_journal.specs.declared.entries.Entry.TheVariants as entry
use Rattle.http_messages.specs.declared.asking.Asked.{Asked}
use Rattle.http_messages.specs.declared.asking.Asked.TheVariants as asked
use Rattle.plan_basics.specs.declared.keys.OpKey.{OpKey}
use Rattle.journal_starts.specs.Mentions.{IsMentionAsked}

-- whether a line accepts the request of the line before it
abbrev pub accepts : Entry → Bool
accepts (entry.Answer status) = status == 200
accepts _ = false

-- what a line asks, if it is a request's
abbrev pub asked_in : Entry → Option Asked
asked_in (entry.Report body) = Some (asked.Report body)
asked_in (entry.Operator body) = Some (asked.Operator body)
asked_in _ = None

-- what a line tells, where the line before it asks this, if anything: where it accepts that, what that tells; else nothing
abbrev pub IsMentioned : ℕ → Option Asked → Entry → Option (OpKey × Option ℕ) → Type 0
IsMentioned clock a x mention =
    ((accepts x ≡ true) × IsMentionAsked clock a mention)
    ⊎ ((accepts x ≡ false) × (mention ≡ None))

-- a line is read: what it tells, and what it asks
abbrev pub IsLineRead : ℕ → Option Asked → List ℕ → Option Asked → Option (OpKey × Option ℕ) → Type 0
IsLineRead clock a line next mention = (x : Entry) × IsEntry line x × IsMentioned clock a x mention × (next ≡ asked_in x)

-- what may be there, as a list
abbrev pub listed : {X : Type 0} → Option X → List X
listed None = []
listed (Some x) = x ∷ []

-- what the lines of a text tell, one after another, where the line before them asks this, if anything
pub data AreMentions (clock : ℕ) : Option Asked → List ℕ → List (OpKey × Option ℕ) → Type 0 where
  no_more : (a : Option Asked) → AreMentions clock a [] []
  one_more : (a : Option Asked) (text line rest : List ℕ) (next : Option Asked) (mention : Option (OpKey × Option ℕ)) (more : List (OpKey × Option ℕ))
      → IsFirstLine text line rest → IsLineRead clock a line next mention → AreMentions clock next rest more
      → AreMentions clock a text (listed mention ++ more)

-- so, of a journal's end, where nothing is known of the lines before it
abbrev pub AreMentioned : ℕ → List ℕ → List (OpKey × Option ℕ) → Type 0
AreMentioned clock journal mentions = AreMentions clock None journal mentions
