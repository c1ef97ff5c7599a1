-- The pages that stand where no board is: why there is none, and the paths of a desk.
use Rattle.std.specs.Prelude.{ℕ, Bool, true, List, [], ◌∷◌, ◌++◌, codes}
use Rattle.html_pages.specs.Beginnings.{beginning_parts}
use Rattle.html_pages.specs.Pieces.{Part, filled, only}

-- its body: the refusal, and what ends it
abbrev pub refused_body : List ℕ → List Part
refused_body name = filled (codes "</style>\n</head>\n<body>\n<main>\n<section class=\"wide\"><p class=\"alarm\" role=\"alert\">No board: ~</p>\n<p>NotLoaded: load a plan. Reopen: start the desk again. MomentRange: write until=2024-03-02T06:00, a moment that there is. Past: write one from the plan's clock on. <a href=\"/board\">The board</a> loads again by itself.</p></section>\n</main>\n</body>\n</html>\n") (name ∷ [])

-- why there is no board, and what ends that; it loads again, unless it is to be still
abbrev pub refused_parts : Bool → List ℕ → List Part
refused_parts still name = beginning_parts still (filled (codes "<title>No board: ~</title>\n<style>\n") (name ∷ [])) ++ refused_body name

-- their body
abbrev pub front_body : List Part
front_body = only (codes "</style>\n</head>\n<body>\n<main>\n<section><h1>Plan</h1>\n<ul>\n<li><a href=\"/board\">Board</a></li>\n<li><a href=\"/board?still\">Board that doesn't load again</a></li>\n<li><a href=\"/forecast\">Forecast</a></li>\n<li><a href=\"/report/occurrences\">Occurrences</a></li>\n<li><a href=\"/report/errors\">In error</a></li>\n<li><a href=\"/report/late\">Late</a></li>\n<li><a href=\"/show/started\">Started</a></li>\n<li><a href=\"/show/resources\">Special resources</a></li>\n<li><a href=\"/show/workstations\">Workstations</a></li>\n<li><a href=\"/show/trackers\">Trackers</a></li>\n<li><a href=\"/health\">Health</a></li>\n</ul>\n<p>By key: /why/OPERATION, /show/operations/OCCURRENCE, and as pages /page/why/OPERATION, /page/show/operations/OCCURRENCE; /show/reach/OPERATION, /show/dependencies/OCCURRENCE; /report/ready/WORKSTATION, /show/intervals/WORKSTATION, /started/WORKSTATION. The board up to a moment: /board?until=2024-03-02T06:00.</p>\n</section>\n</main>\n</body>\n</html>\n")

-- the paths of a desk that look at it
abbrev pub front_parts : List Part
front_parts = beginning_parts true (only (codes "<title>Plan</title>\n<style>\n")) ++ front_body
