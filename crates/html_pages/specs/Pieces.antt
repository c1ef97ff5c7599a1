-- Pieces of a page and their bytes; and templates, into which texts are put.
use Rattle.std.specs.Prelude.{ℕ, ℤ, pos, negsuc, ◌==◌, ◌||◌, Bool, List, [], ◌∷◌, ◌++◌, codes, take, drop, map, flat_map, cond, decimal, Option, Some, None}
use Rattle.report_lines.specs.Moments.{latest_text}
use Rattle.html_pages.specs.declared.pieces.Value.{Value}
use Rattle.html_pages.specs.declared.pieces.Value.TheVariants as value

-- whether HTML takes a byte for markup: one of " & ' < >
abbrev pub is_special : ℕ → Bool
is_special b = (b == 34) || (b == 38) || (b == 39) || (b == 60) || (b == 62)

-- a byte that HTML takes as it stands; a question mark for any other
abbrev pub plain_byte : ℕ → ℕ
plain_byte b = cond (is_special b) 63 b

-- a text in which HTML takes each byte as it stands
abbrev pub plain : List ℕ → List ℕ
plain = map plain_byte

-- a piece of a page: markup, or a text that is put in
pub data Part : Type 0 where
  Markup : (markup : List ℕ) → Part
  Text : (text : List ℕ) → Part

-- its bytes
abbrev pub bytes_of : Part → List ℕ
bytes_of (Markup m) = m
bytes_of (Text t) = plain t

-- the bytes of pieces
abbrev pub bytes : List Part → List ℕ
bytes = flat_map bytes_of

-- the first of these texts; an empty one where there is none
abbrev pub first_of : List (List ℕ) → List ℕ
first_of [] = []
first_of (t ∷ texts) = t

-- a template, which is markup, with these texts in its holes, each a `~`, one after another
unfoldable pub filled : List ℕ → List (List ℕ) → List Part
filled [] texts = []
filled (b ∷ template) texts = cond (b == 126) (Text (first_of texts) ∷ filled template (drop 1 texts)) (Markup (b ∷ []) ∷ filled template texts)

-- one without holes
abbrev pub only : List ℕ → List Part
only template = filled template []

-- ---- texts

-- a byte of a path: a number sign, which would end it, is escaped
abbrev pub path_byte : ℕ → List ℕ
path_byte b = cond (b == 35) (37 ∷ 50 ∷ 51 ∷ []) (b ∷ [])

-- a text in a path
abbrev pub path_text : List ℕ → List ℕ
path_text = flat_map path_byte

-- a number of minutes, if there is one
abbrev pub minutes_text : Option ℕ → List ℕ
minutes_text (Some n) = decimal n ++ codes " min"
minutes_text None = []

-- the date of a minute; hyphens where no plan can name it
abbrev pub date_text : ℤ → List ℕ
date_text z = take 10 (latest_text z)

-- its hour and minute
abbrev pub hour_text : ℤ → List ℕ
hour_text z = drop 11 (latest_text z)

-- its month and day before these
abbrev pub minute_text : ℤ → List ℕ
minute_text z = take 5 (drop 5 (latest_text z)) ++ codes " " ++ hour_text z

-- a minute; one before all that a plan can name where there is none, which is shown by hyphens
abbrev pub minute_if_any : Option ℕ → ℤ
minute_if_any (Some m) = pos m
minute_if_any None = negsuc 0

-- what a value in memory puts in
abbrev pub text_of : Value → List ℕ
text_of (value.Text t) = t.now
text_of (value.Path t) = path_text t.now
text_of (value.Application name) = name
text_of (value.Workstation name) = name
text_of (value.Number n) = decimal n
text_of (value.Minutes n) = minutes_text n
text_of (value.Date m) = date_text (pos m)
text_of (value.Hour m) = hour_text (pos m)
text_of (value.At m) = minute_text (minute_if_any m)
text_of (value.Minute z) = minute_text z
