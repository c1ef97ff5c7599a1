-- A path that is none of the four routes' has no route.
use Rattle.std.proofs.Common.{◌≢◌, ℕ, List, codes}
use Rattle.http_messages.specs.declared.routes.Route.{Route}
use Rattle.http_messages.specs.declared.routes.Route.TheVariants as route
use Rattle.http_messages.specs.Routes.{IsReadyPath, Matches}

pub no_route : (path : List ℕ) → path ≢ codes "/report" → path ≢ codes "/operator" → path ≢ codes "/occurrences"
    → ((segment : List ℕ) → ¬ IsReadyPath path segment) → (r : Route) → ¬ Matches path r
no_route path report operator occurrences ready route.Report m = report m.1
no_route path report operator occurrences ready route.Operator m = operator m.1
no_route path report operator occurrences ready route.Occurrences m = occurrences m.1
no_route path report operator occurrences ready route.Ready m = ready m.1.0 m.1.1
