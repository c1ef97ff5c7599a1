-- What is so of every page: no text that is put in breaks it.
use Rattle.std.specs.Prelude.{◌≡◌, ◌⊎◌, ℕ, List, [], filter, flat_map}
use Rattle.plan_basics.specs.Names.{IsName, IsResourceName}
use Rattle.html_pages.specs.Pieces.{Markup, Part, Text, bytes, is_special, plain}

-- the bytes of a piece's markup; none of a text that is put in
abbrev pub markup_of : Part → List ℕ
markup_of (Markup m) = m
markup_of (Text t) = []

-- of the bytes of a page those that HTML takes for markup are those of its markup
abbrev pub MarkupStands : Type 0
MarkupStands = (parts : List Part) → filter is_special (bytes parts) ≡ filter is_special (flat_map markup_of parts)

-- each name is shown as it is, that of a special resource too
abbrev pub NamesStand : Type 0
NamesStand = (n : ℕ) (t : List ℕ) → IsName n t ⊎ IsResourceName t → plain t ≡ t
