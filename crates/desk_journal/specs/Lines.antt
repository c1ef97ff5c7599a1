-- The lines of a journal: of a request before it is asked, and of what it is told.
use Rattle.std.specs.Prelude.{ℕ, ◌==◌, Bool, List, [], ◌∷◌, ◌++◌, length, take, codes, if◌then◌else◌, Option, Some, None}
use Rattle.std.specs.Str.{is_utf8}
use Rattle.plan_basics.specs.Watched.{inner_of}
use Rattle.serde_json.specs.Data.{Data, Members, null, number, unsigned, string, object, member, no_members}
use Rattle.serde_json.specs.Written.{compact_text}
use Rattle.desk_journal.specs.declared.lines.TheConstants.{BRIEF_BYTES}
use Rattle.desk_journal.specs.declared.journal.Journal.{Journal}
use Rattle.desk_journal.specs.declared.journal.Journal.TheVariants as journal

-- a value as a line
abbrev pub line_of : Data → List ℕ
line_of d = compact_text d ++ 10 ∷ []

-- a text, or null where there is none
abbrev pub text_or_null : Option (List ℕ) → Data
text_or_null (Some text) = string text
text_or_null None = null

-- a body as text; bytes that are no text are no body that could act
abbrev pub text_of : List ℕ → Option (List ℕ)
text_of body = if is_utf8 body then Some body else None

-- what is told of a body: all of it; or, in brief, its beginning
abbrev pub told_of : Bool → List ℕ → List ℕ
told_of brief body = if brief then take BRIEF_BYTES body else body

-- who makes a request, where that is known
abbrev pub by_member : Option (List ℕ) → Members → Members
by_member (Some by) others = member (codes "by") (string by) others
by_member None others = others

-- how long a body is, where it is told in brief
abbrev pub length_member : Bool → List ℕ → Members → Members
length_member brief body others = if brief then member (codes "bytes") (number (unsigned (length body))) others else others

-- a request: its body, who makes it, the plan's clock before it, where one is loaded, and its path
abbrev pub request_data : Option (List ℕ) → Option (List ℕ) → List ℕ → Bool → List ℕ → Data
request_data clock by path brief body =
    object (member (codes "body") (text_or_null (text_of (told_of brief body)))
    (by_member by (length_member brief body (member (codes "clock") (text_or_null clock) (member (codes "path") (string path) no_members)))))

-- an answer: the body of the reply and its status
abbrev pub answer_data : Data → ℕ → Data
answer_data reply status = object (member (codes "reply") reply (member (codes "status") (number (unsigned status)) no_members))

-- the known bytes of a journal; where none is kept, none are known
abbrev pub entries_of : {J : Type 0} → (J → Option (List ℕ)) → Journal J → Option (List ℕ)
entries_of contents journal.Absent = None
entries_of contents (journal.Kept writer) = contents (inner_of writer)

-- what ends the last line of a text, by its last byte
abbrev pub line_end : Option ℕ → List ℕ
line_end (Some byte) = if byte == 10 then [] else (10 ∷ [])
line_end None = []
