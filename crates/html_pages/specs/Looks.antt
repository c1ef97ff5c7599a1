-- The page of a look's text, in which each key is a path to what is shown of it.
use Rattle.std.specs.Prelude.{ℕ, ◌==◌, ◌||◌, ◌&&◌, Bool, true, false, List, [], ◌∷◌, ◌++◌, codes, cond, count_by, length, nat_le, Option, Some, None, slice_get}
use Rattle.html_pages.specs.Beginnings.{beginning_parts}
use Rattle.html_pages.specs.Pieces.{Part, Text, filled, only, path_text}

-- a blank, or a line's end
abbrev pub is_gap : ℕ → Bool
is_gap b = (b == 32) || (b == 10)

-- how many slashes a word has: one in the key of an occurrence, two in that of an operation
abbrev pub slashes : List ℕ → ℕ
slashes word = count_by (λ b. b == 47) word

-- whether there is a byte, and it is a digit
abbrev pub is_digit : Option ℕ → Bool
is_digit (Some b) = nat_le 48 b && nat_le b 57
is_digit None = false

-- whether a word begins with a digit
abbrev pub is_number : List ℕ → Bool
is_number word = is_digit (slice_get word 0)

-- a word that is no key is shown as it is; the number at the beginning of a row of this occurrence is that of an operation
abbrev pub number_parts : List ℕ → Bool → List ℕ → List Part
number_parts key true word = filled (codes "<a href=\"/page/why/~/~\">~</a>") (path_text key ∷ word ∷ word ∷ [])
number_parts key false word = filled (codes "~") (word ∷ [])

-- a word: the key of an operation, that of an occurrence, or neither
abbrev pub word_parts : List ℕ → Bool → List ℕ → List Part
word_parts key begins word =
    cond (slashes word == 2) (filled (codes "<a href=\"/page/why/~\">~</a>") (path_text word ∷ word ∷ []))
    (cond (slashes word == 1) (filled (codes "<a href=\"/page/show/operations/~\">~</a>") (path_text word ∷ word ∷ []))
    (number_parts key (begins && is_number word) word))

-- whether the next word begins a row, after this one and this gap, where there are rows
abbrev pub begins_next : Bool → Bool → List ℕ → ℕ → Bool
begins_next rows begins word b = cond (b == 10) rows (begins && (length word == 0))

-- a text word by word, and the gaps between them; so much of a word has come before it
abbrev pub linked : List ℕ → Bool → Bool → List ℕ → List ℕ → List Part
linked key rows begins word [] = word_parts key begins word
linked key rows begins word (b ∷ text) =
    cond (is_gap b) (word_parts key begins word ++ Text (b ∷ []) ∷ linked key rows (begins_next rows begins word b) [] text)
    (linked key rows begins (word ++ b ∷ []) text)

-- the page of a text, under a key; with the way back to the board
abbrev pub look_parts : List ℕ → Bool → List ℕ → List Part
look_parts key rows text =
    beginning_parts true (filled (codes "<title>~</title>\n<style>\n") (key ∷ []))
    ++ only (codes "pre{font-size:1rem}\n</style>\n</head>\n<body>\n<main>\n<section class=\"wide\"><p><a href=\"/board\">Board</a></p>\n<pre>")
    ++ linked key rows rows [] text ++ only (codes "</pre></section>\n</main>\n</body>\n</html>\n")
