-- Which paths are routes, and which method each takes.
use Rattle.std.specs.Prelude.{◌≡◌, ℕ, ◌<◌, ◌==◌, List, ◌++◌, length, codes, IsUtf8, false}
use Rattle.std.specs.List.{before_first, list_any}
use Rattle.http_messages.specs.declared.routes.Route.{Route}
use Rattle.http_messages.specs.declared.routes.Route.TheVariants as route
use Rattle.http_messages.specs.declared.statuses.Method.{Method}
use Rattle.http_messages.specs.declared.statuses.Method.TheVariants as method

-- the path of a target: what stands before its first question mark
abbrev pub path_of : List ℕ → List ℕ
path_of target = before_first (λ b. b == 63) target

-- one part of a path: some bytes, none of them a slash
pub record IsSegment (bytes : List ℕ) : Type 0 where
  pub some : 0 < length bytes
  pub whole : list_any (λ b. b == 47) bytes ≡ false

-- the path is `/ready/` and this segment
abbrev pub IsReadyPath : List ℕ → List ℕ → Type 0
IsReadyPath path segment = IsSegment segment × (path ≡ codes "/ready/" ++ segment)

-- the path is that of the route
abbrev pub IsPathOf : Route → List ℕ → Type 0
IsPathOf route.Report path = path ≡ codes "/report"
IsPathOf route.Operator path = path ≡ codes "/operator"
IsPathOf route.Ready path = (segment : List ℕ) × IsReadyPath path segment
IsPathOf route.Occurrences path = path ≡ codes "/occurrences"

-- the path, as it stands, is text and matches the route
abbrev pub Matches : List ℕ → Route → Type 0
Matches path r = IsUtf8 path × IsPathOf r path

-- the method that a route takes
abbrev pub method_of : Route → Method
method_of route.Report = method.Post
method_of route.Operator = method.Post
method_of route.Ready = method.Get
method_of route.Occurrences = method.Get
