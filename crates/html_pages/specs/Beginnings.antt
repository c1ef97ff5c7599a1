-- How a page begins.
use Rattle.std.specs.Prelude.{ℕ, Bool, true, false, List, [], ◌++◌, codes}
use Rattle.html_pages.specs.Pieces.{Part, only}
use Rattle.html_pages.specs.declared.beginnings.TheConstants as markup

-- what has a page loaded again, unless it is to be still
abbrev pub refresh : Bool → List ℕ
refresh true = []
refresh false = codes "<meta http-equiv=\"refresh\" content=\"30\">\n"

-- a page up to its colours, loaded again unless it is to be still, with this title
abbrev pub beginning_parts : Bool → List Part → List Part
beginning_parts still title = only markup.BEGINNING.now ++ only (refresh still) ++ title ++ only markup.STYLE.now
