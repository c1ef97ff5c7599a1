-- Tables of a page.
use Rattle.std.specs.Prelude.{ℕ, zero, suc, ◌-◌, List, [], ◌∷◌, ◌++◌, codes, decimal, length, take, flat_map}
use Rattle.html_pages.specs.Pieces.{Part, filled, only}

-- that there are no rows
abbrev pub none_parts : ℕ → List Part
none_parts zero = only (codes "<tr><td colspan=\"7\">none</td></tr>\n")
none_parts (suc n) = []

-- how many more there are
abbrev pub more_parts : ℕ → List Part
more_parts zero = []
more_parts (suc n) = filled (codes "<tr><td colspan=\"7\">and ~ more</td></tr>\n") (decimal (suc n) ∷ [])

-- the first so many of the rows, and how many more there are
abbrev pub list_parts : {R : Type 0} → (R → List Part) → ℕ → List R → List Part
list_parts row most rows = none_parts (length rows) ++ flat_map row (take most rows) ++ more_parts (length rows - most)

-- these under a head
abbrev pub table_parts : {R : Type 0} → List ℕ → (R → List Part) → ℕ → List R → List Part
table_parts head row most rows = only head ++ list_parts row most rows ++ only (codes "</tbody></table></section>\n")
