-- The lines on which records begin, found byte by byte.
use Rattle.std.proofs.Common.{◌≡◌, ◌∙◌, ℕ, suc, ◌+◌, List, [], ◌∷◌, ◌++◌, length, Bool, true, false, cond, Some, None, refl, sym, ap, subst, arith, append_assoc}
use Rattle.std.specs.Prelude.{◌==◌, ◌||◌, if◌then◌else◌}
use Rattle.std.specs.Bool.{MatchBool}
use Rattle.std.specs.List.{prefix_len}
use Rattle.std.proofs.lemmas.Bool.{false≢true}
use Rattle.std.proofs.lemmas.List.{append-nil}
use Rattle.std.proofs.lemmas.List.Sums.{sum_by-cons}
use Rattle.csv.specs.Machine.{Read, next_record, step, in_field, start_field, start_record, ends_with, is_end, fields_after, field_after, line_feed}
use Rattle.csv.specs.Reading.{Reached, AreRecords, default_config}
use Rattle.csv.specs.declared.parser.State.{State}
use Rattle.csv.specs.declared.parser.State.TheVariants as st
use Rattle.csv.specs.declared.parser.Action.{Action}
use Rattle.csv.specs.declared.parser.Action.TheVariants as act
use Rattle.csv.specs.declared.parser.Terminator.TheVariants as term
use Rattle.plan_import.specs.Lines.{line_feeds, line_ends, BeginOnFrom}
use Rattle.plan_import.specs.Places.{is_between, begins}

-- the line after a byte
abbrev pub line_after : ℕ → ℕ → ℕ
line_after line c = line + cond (c == line_feed) 1 0

-- the line, where a record begins with the byte
abbrev pub begun : State → ℕ → ℕ → List ℕ
begun s line c = if begins s c then line ∷ [] else []

-- the lines on which records begin, from a state, a line and the bytes that are left
unfoldable pub lines_from : State → ℕ → List ℕ → List ℕ
lines_from s line [] = []
lines_from s line (c ∷ rest) = begun s line c ++ lines_from (step default_config s c).0 (line_after line c) rest

-- a record is begun
abbrev is_open : State → Bool
is_open st.StartRecord = false
is_open st.AfterCr = false
is_open st.StartField = true
is_open st.InField = true
is_open st.InQuoted = true
is_open st.AfterQuote = true
is_open st.InEscape = false
is_open st.InComment = false

-- a byte of a record leads between records where it ends the record, and else stays in it
abbrev Lands : State × Action → Type 0
Lands x = MatchBool (is_end x.1) (is_between x.0 ≡ true) (is_open x.0 ≡ true)

field_lands : (d r l : Bool) → Lands (if d then (st.StartField, act.EndField) else if r || l then (if r then st.AfterCr else st.StartRecord, act.EndRecord) else (st.InField, act.Copy))
field_lands true r l = refl
field_lands false true l = refl
field_lands false false true = refl
field_lands false false false = refl

in_field_lands : (c : ℕ) → Lands (in_field default_config c)
in_field_lands c = field_lands (c == 44) (c == 13) (c == 10)

quote_lands : (q : Bool) (a : Action) (x : State × Action) → is_end a ≡ false → Lands x → Lands (if q then (st.InQuoted, a) else x)
quote_lands true a x e h = rw e refl
quote_lands false a x e h = h

quoted_lands : (q : Bool) → Lands (if q then (st.AfterQuote, act.Skip) else (st.InQuoted, act.Copy))
quoted_lands true = refl
quoted_lands false = refl

open_lands : (s : State) (c : ℕ) → is_open s ≡ true → Lands (step default_config s c)
open_lands st.StartField c o = quote_lands (c == 34) act.Skip (in_field default_config c) refl (in_field_lands c)
open_lands st.InField c o = in_field_lands c
open_lands st.InQuoted c o = quoted_lands (c == 34)
open_lands st.AfterQuote c o = quote_lands (c == 34) act.Copy (in_field default_config c) refl (in_field_lands c)
open_lands st.StartRecord c o = absurd (false≢true o)
open_lands st.AfterCr c o = absurd (false≢true o)
open_lands st.InEscape c o = absurd (false≢true o)
open_lands st.InComment c o = absurd (false≢true o)

open_between : (s : State) → is_open s ≡ true → is_between s ≡ false
open_between st.StartField o = refl
open_between st.InField o = refl
open_between st.InQuoted o = refl
open_between st.AfterQuote o = refl
open_between st.StartRecord o = absurd (false≢true o)
open_between st.AfterCr o = absurd (false≢true o)
open_between st.InEscape o = refl
open_between st.InComment o = refl

either : (b : Bool) (x y : State × Action) → y ≡ x → (if b then x else y) ≡ x
either true x y e = refl
either false x y e = e

second_false : (a b : Bool) → (a || b) ≡ false → b ≡ false
second_false true b e = cc e
second_false false b e = e

-- between records, an end of a line is passed over
blank_step : (s : State) (c : ℕ) → is_between s ≡ true → ends_with term.CRLF c ≡ true → step default_config s c ≡ (st.StartRecord, act.Skip)
blank_step st.StartRecord c b e = rw e refl
blank_step st.AfterCr c b e = either (c == 10) (st.StartRecord, act.Skip) _ (rw e refl)
blank_step st.StartField c b e = absurd (false≢true b)
blank_step st.InField c b e = absurd (false≢true b)
blank_step st.InQuoted c b e = absurd (false≢true b)
blank_step st.AfterQuote c b e = absurd (false≢true b)
blank_step st.InEscape c b e = absurd (false≢true b)
blank_step st.InComment c b e = absurd (false≢true b)

otherwise : (b : Bool) (x y z : State × Action) → b ≡ false → y ≡ z → (if b then x else y) ≡ z
otherwise true x y z e h = absurd (false≢true (sym e))
otherwise false x y z e h = h

start_again : (c : ℕ) → ends_with term.CRLF c ≡ false → start_record default_config c ≡ start_field default_config c
start_again c e = rw e refl

-- and any other byte begins a field
start_step : (s : State) (c : ℕ) → is_between s ≡ true → ends_with term.CRLF c ≡ false → step default_config s c ≡ start_field default_config c
start_step st.StartRecord c b e = start_again c e
start_step st.AfterCr c b e =
    otherwise (c == 10) (st.StartRecord, act.Skip) _ _ (second_false (c == 13) (c == 10) e) (start_again c e)
start_step st.StartField c b e = absurd (false≢true b)
start_step st.InField c b e = absurd (false≢true b)
start_step st.InQuoted c b e = absurd (false≢true b)
start_step st.AfterQuote c b e = absurd (false≢true b)
start_step st.InEscape c b e = absurd (false≢true b)
start_step st.InComment c b e = absurd (false≢true b)

abbrev Opens : State × Action → Type 0
Opens x = (is_end x.1 ≡ false) × (is_open x.0 ≡ true)

field_opens : (q d : Bool) (s : State) → Opens (if q then (st.InQuoted, act.Skip) else if d then (st.StartField, act.EndField) else (st.InField, act.Copy))
field_opens true d s = (refl, refl)
field_opens false true s = (refl, refl)
field_opens false false s = (refl, refl)

start_opens : (c : ℕ) → ends_with term.CRLF c ≡ false → Opens (start_field default_config c)
start_opens c e = rw e (field_opens (c == 34) (c == 44) st.InField)

-- what a read makes of one byte
next_end : (s : State) (f : List (List ℕ)) (p : List ℕ) (c : ℕ) (rest : List ℕ) → is_end (step default_config s c).1 ≡ true
    → next_record default_config s f p (c ∷ rest) ≡ Some (fields_after (step default_config s c).1 f p, (step default_config s c).0, rest)
unfolding next_record
next_end s f p c rest e = rw e refl

next_more : (s : State) (f : List (List ℕ)) (p : List ℕ) (c : ℕ) (rest : List ℕ) → is_end (step default_config s c).1 ≡ false
    → next_record default_config s f p (c ∷ rest)
    ≡ next_record default_config (step default_config s c).0 (fields_after (step default_config s c).1 f p) (field_after (step default_config s c).1 c p) rest
unfolding next_record
next_more s f p c rest e = rw e refl

next_blank : (s : State) (c : ℕ) (rest : List ℕ) → step default_config s c ≡ (st.StartRecord, act.Skip)
    → next_record default_config s [] [] (c ∷ rest) ≡ next_record default_config st.StartRecord [] [] rest
unfolding next_record
next_blank s c rest e = rw e refl

next_nothing : (s : State) → is_between s ≡ true → next_record default_config s [] [] [] ≡ None
unfolding next_record
next_nothing st.StartRecord b = refl
next_nothing st.AfterCr b = refl
next_nothing st.StartField b = absurd (false≢true b)
next_nothing st.InField b = absurd (false≢true b)
next_nothing st.InQuoted b = absurd (false≢true b)
next_nothing st.AfterQuote b = absurd (false≢true b)
next_nothing st.InEscape b = absurd (false≢true b)
next_nothing st.InComment b = absurd (false≢true b)

next_last : (s : State) (f : List (List ℕ)) (p : List ℕ) → is_open s ≡ true → next_record default_config s f p [] ≡ Some (f ++ p ∷ [], st.StartRecord, [])
unfolding next_record
next_last st.StartField f p o = refl
next_last st.InField f p o = refl
next_last st.InQuoted f p o = refl
next_last st.AfterQuote f p o = refl
next_last st.StartRecord f p o = absurd (false≢true o)
next_last st.AfterCr f p o = absurd (false≢true o)
next_last st.InEscape f p o = absurd (false≢true o)
next_last st.InComment f p o = absurd (false≢true o)

-- the lines, where a record begins with a byte, and where none does
lines_begin : (s : State) (line c : ℕ) (rest : List ℕ) → is_between s ≡ true → ends_with term.CRLF c ≡ false
    → lines_from s line (c ∷ rest) ≡ line ∷ lines_from (step default_config s c).0 (line_after line c) rest
unfolding lines_from
lines_begin s line c rest b e = rw (b, e) refl

lines_blank : (s : State) (line c : ℕ) (rest : List ℕ) → is_between s ≡ true → ends_with term.CRLF c ≡ true
    → lines_from s line (c ∷ rest) ≡ lines_from (step default_config s c).0 (line_after line c) rest
unfolding lines_from
lines_blank s line c rest b e = rw (b, e) refl

lines_within : (s : State) (line c : ℕ) (rest : List ℕ) → is_between s ≡ false
    → lines_from s line (c ∷ rest) ≡ lines_from (step default_config s c).0 (line_after line c) rest
unfolding lines_from
lines_within s line c rest b = rw b refl

-- line feeds, counted from the front
counted : (line c : ℕ) (taken : List ℕ) → line_after line c + line_feeds taken ≡ line + line_feeds (c ∷ taken)
counted line c taken =
    let first = sum_by-cons (λ (x : ℕ). cond (x == line_feed) 1 0) c taken in
    omega (arith, first)

ends_more : (c : ℕ) (rest : List ℕ) → ends_with term.CRLF c ≡ true → line_ends (c ∷ rest) ≡ c ∷ line_ends rest
ends_more c rest e =
    let one : 1 + prefix_len (ends_with term.CRLF) rest ≡ suc (prefix_len (ends_with term.CRLF) rest) = omega arith in
    rw (e, one) refl

ends_none : (c : ℕ) (rest : List ℕ) → ends_with term.CRLF c ≡ false → line_ends (c ∷ rest) ≡ []
ends_none c rest e = rw e refl

-- the read of the record that is begun, and the lines of those after it
abbrev Rest : State → List (List ℕ) → List ℕ → List ℕ → ℕ → List ℕ → Type 0
Rest s f p xs line ls = (read : Read) × (taken : List ℕ) × (next_record default_config s f p xs ≡ Some read) × (xs ≡ taken ++ read.2)
    × BeginOnFrom read.1 read.2 (line + line_feeds taken) ls

abbrev Between : List ℕ → Type 0
Between xs = (s : State) (line : ℕ) → is_between s ≡ true → BeginOnFrom s xs line (lines_from s line xs)

abbrev Within : List ℕ → Type 0
Within xs = (s : State) (f : List (List ℕ)) (p : List ℕ) (line : ℕ) → is_open s ≡ true → Rest s f p xs line (lines_from s line xs)

moved : (s : State) (xs : List ℕ) (m n : ℕ) (ls : List ℕ) → m ≡ n → BeginOnFrom s xs m ls → BeginOnFrom s xs n ls
moved s xs m n ls e h = subst (λ line. BeginOnFrom s xs line ls) e h

-- an end of a line before the next record
blank_more : (s : State) (c : ℕ) (rest : List ℕ) (line : ℕ) (ls : List ℕ) → ends_with term.CRLF c ≡ true
    → next_record default_config s [] [] (c ∷ rest) ≡ next_record default_config st.StartRecord [] [] rest
    → BeginOnFrom st.StartRecord rest (line_after line c) ls → BeginOnFrom s (c ∷ rest) line ls
blank_more s c rest line [] e n h = n ∙ h
blank_more s c rest line (l ∷ ls) e n (read, taken, found, split, first, others) =
    let here : line_feeds (line_ends (c ∷ rest)) ≡ line_feeds (c ∷ line_ends rest) = ap line_feeds (ends_more c rest e) in
    let place : l ≡ line + line_feeds (line_ends (c ∷ rest)) = first ∙ counted line c (line_ends rest) ∙ ap (λ n. line + n) (sym here) in
    (read, c ∷ taken, n ∙ found, ap (λ (t : List ℕ). c ∷ t) split, place, rw (counted line c taken) at others)

between_step : (c : ℕ) (rest : List ℕ) → Between rest → Within rest → (s : State) (line : ℕ) → is_between s ≡ true
    → (blank : Bool) → ends_with term.CRLF c ≡ blank → BeginOnFrom s (c ∷ rest) line (lines_from s line (c ∷ rest))
between_step c rest between within s line b true e =
    let passed = blank_step s c b e in
    let lines : lines_from s line (c ∷ rest) ≡ lines_from st.StartRecord (line_after line c) rest =
    lines_blank s line c rest b e ∙ ap (λ (x : State × Action). lines_from x.0 (line_after line c) rest) passed in
    rw lines (blank_more s c rest line _ e (next_blank s c rest passed) (between st.StartRecord (line_after line c) refl))
between_step c rest between within s line b false e =
    let begin = start_step s c b e in
    let opens : Opens (step default_config s c) = rw begin (start_opens c e) in
    let (read, taken, found, split, others) = within (step default_config s c).0 (fields_after (step default_config s c).1 [] []) (field_after (step default_config s c).1 c []) (line_after line c) opens.1 in
    let none : line_feeds (line_ends (c ∷ rest)) ≡ 0 = ap line_feeds (ends_none c rest e) in
    let place : line ≡ line + line_feeds (line_ends (c ∷ rest)) = omega (arith, none) in
    rw (lines_begin s line c rest b e) (read, c ∷ taken, next_more s [] [] c rest opens.0 ∙ found, ap (λ (t : List ℕ). c ∷ t) split, place, rw (counted line c taken) at others)

within_step : (c : ℕ) (rest : List ℕ) → Between rest → Within rest → (s : State) (f : List (List ℕ)) (p : List ℕ) (line : ℕ) → is_open s ≡ true
    → (ends : Bool) → is_end (step default_config s c).1 ≡ ends → Rest s f p (c ∷ rest) line (lines_from s line (c ∷ rest))
within_step c rest between within s f p line o true e =
    let lands : is_between (step default_config s c).0 ≡ true = rw e at (open_lands s c o) in
    let others = between (step default_config s c).0 (line_after line c) lands in
    let one : line_after line c ≡ line + line_feeds (c ∷ []) = omega (arith, counted line c []) in
    rw (lines_within s line c rest (open_between s o)) ((fields_after (step default_config s c).1 f p, (step default_config s c).0, rest), c ∷ [], next_end s f p c rest e, refl, moved _ rest _ _ _ one others)
within_step c rest between within s f p line o false e =
    let lands : is_open (step default_config s c).0 ≡ true = rw e at (open_lands s c o) in
    let (read, taken, found, split, others) = within (step default_config s c).0 (fields_after (step default_config s c).1 f p) (field_after (step default_config s c).1 c p) (line_after line c) lands in
    rw (lines_within s line c rest (open_between s o)) (read, c ∷ taken, next_more s f p c rest e ∙ found, ap (λ (t : List ℕ). c ∷ t) split, rw (counted line c taken) at others)

both : (xs : List ℕ) → Between xs × Within xs
unfolding lines_from
both [] = (
  (λ s line b. next_nothing s b),
  (λ s f p line o. ((f ++ p ∷ [], st.StartRecord, []), [], next_last s f p o, refl, next_nothing st.StartRecord refl)),
)
both (c ∷ rest) =
    let (between, within) = both rest in (
      (λ s line b. between_step c rest between within s line b _ refl),
      (λ s f p line o. within_step c rest between within s f p line o _ refl),
    )

-- the records of bytes begin on the lines that are found byte by byte
pub lines_are : (bytes : List ℕ) → BeginOnFrom st.StartRecord bytes 1 (lines_from st.StartRecord 1 bytes)
lines_are bytes = (both bytes).0 st.StartRecord 1 refl

-- each record begins on a line
pub as_many : (s : State) (xs : List ℕ) (line : ℕ) (ls : List ℕ) (rows : List (List (List ℕ)))
    → BeginOnFrom s xs line ls → AreRecords default_config s xs rows → length ls ≡ length rows
unfolding Reached
as_many s xs line [] [] h a = refl
as_many s xs line [] (r ∷ rs) h a = cc (sym h ∙ a.2.1)
as_many s xs line (l ∷ ls) [] h a =
    let gone : next_record default_config s [] [] xs ≡ None = rw (a.2.0, a.2.1) a.3 in
    cc (sym gone ∙ h.2)
as_many s xs line (l ∷ ls) (r ∷ rs) h a =
    let same : a.2.0 ≡ h.0 = cc (sym a.2.1 ∙ h.2) in
    ap suc (as_many h.0.1 h.0.2 _ ls rs h.5 (a.0, a.1, rw same at a.2.3, a.3))

-- the lines that are found are all, where no byte is left
pub all_found : (bytes : List ℕ) (s : State) (line : ℕ) (found : List ℕ) → found ++ lines_from s line [] ≡ lines_from st.StartRecord 1 bytes
    → BeginOnFrom st.StartRecord bytes 1 found
unfolding lines_from
all_found bytes s line found h =
    let same : found ≡ lines_from st.StartRecord 1 bytes = sym (append-nil found) ∙ h in
    rw same (lines_are bytes)

-- one byte more, with which a record begins
pub more_begun : (s : State) (line c : ℕ) (rest found whole : List ℕ) → begins s c ≡ true → found ++ lines_from s line (c ∷ rest) ≡ whole
    → (found ++ line ∷ []) ++ lines_from (step default_config s c).0 (line_after line c) rest ≡ whole
unfolding lines_from
more_begun s line c rest found whole b h =
    let one : begun s line c ≡ line ∷ [] = rw b refl in
    append_assoc found (line ∷ []) _ ∙ (rw one at h)

-- and one with which none does
pub more_none : (s : State) (line c : ℕ) (rest found whole : List ℕ) → begins s c ≡ false → found ++ lines_from s line (c ∷ rest) ≡ whole
    → found ++ lines_from (step default_config s c).0 (line_after line c) rest ≡ whole
unfolding lines_from
more_none s line c rest found whole b h =
    let none : begun s line c ≡ [] = rw b refl in
    rw none at h
