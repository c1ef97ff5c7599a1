-- A request to judge a text sends its body as an operator's does.
use Rattle.std.proofs.Common.{◌≡◌, ◌≢◌, refl, List, ℕ, codes, Some}
use Rattle.std.specs.Str.{IsUtf8}
use Rattle.http_messages.specs.declared.asking.Rejection.TheVariants as test
use Rattle.http_messages.specs.declared.routes.Route.TheVariants as route
use Rattle.http_messages.specs.declared.statuses.Method.TheVariants as method
use Rattle.http_messages.specs.Looks.{as_operator}
use Rattle.http_messages.specs.Routes.{Matches}
use Rattle.http_messages.specs.Statuses.{method_text}
use Rattle.http_messages.specs.Tests.{FailsIn, Request, SendsBody}

operators : Matches (codes "/operator") route.Operator
unfolding lib.Utf8.encode
operators = ((codes "/operator", (refl, refl)), refl)

pub sends : (request : Request) → request.method ≡ method_text method.Post → SendsBody (as_operator request)
sends request posts = (route.Operator, record { form = refl; path = operators; method = posts }, refl)

pub other_method : (most : ℕ) (request : Request) → request.method ≢ method_text method.Post → FailsIn most (as_operator request) (test.OtherMethod method.Post)
other_method most request other = (refl, (route.Operator, operators, refl, other))
