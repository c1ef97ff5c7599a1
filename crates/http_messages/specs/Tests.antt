-- The tests that a request has to pass before a desk is asked, in their order; each with the status of the reply where it
-- is the first that fails. All speak of the whole input of a connection, however it comes.
use Rattle.std.specs.Prelude.{◌≡◌, ◌≢◌, ℕ, ◌<◌, ◌≤◌, ◌⊎◌, List, [], ◌∷◌, length, take, map, codes, slice_get, Some, Result, Ok, Err}
use Rattle.percent_encoding.specs.Percent.{percent_decode}
use Rattle.httparse.specs.Grammar.{RequestHead, ReadsRequest, print_request}
use Rattle.httparse.specs.Spans.{name_and_value}
use Rattle.http_messages.specs.declared.asking.TheConstants.{MOST_HEAD_BYTES, MOST_FIELDS, MOST_BODY_BYTES}
use Rattle.http_messages.specs.declared.asking.Asked.{Asked}
use Rattle.http_messages.specs.declared.asking.Asked.TheVariants as asked
use Rattle.http_messages.specs.declared.asking.Rejection.{Rejection}
use Rattle.http_messages.specs.declared.asking.Rejection.TheVariants as test
use Rattle.http_messages.specs.declared.routes.Route.{Route}
use Rattle.http_messages.specs.declared.routes.Route.TheVariants as route
use Rattle.http_messages.specs.declared.statuses.Status.{Status}
use Rattle.http_messages.specs.declared.statuses.Status.TheVariants as status
use Rattle.http_messages.specs.declared.statuses.Method.TheVariants as method
use Rattle.http_messages.specs.Statuses.{method_text}
use Rattle.http_messages.specs.Routes.{path_of, IsReadyPath, Matches, method_of}
use Rattle.http_messages.specs.Fields.{values_of, TellsLength}

-- what is looked at of a request: the method, the target and the fields of its head, and what comes after the head
pub record Request : Type 0 where
  pub method : List ℕ
  pub target : List ℕ
  pub fields : List (List ℕ × List ℕ)
  pub rest : List ℕ

-- the input begins with a head by the grammar of HTTP/1.x, of bytes and fields within the limits
pub record HasHead (input : List ℕ) (head : RequestHead) (rest : List ℕ) : Type 0 where
  pub reads : ReadsRequest input head rest
  pub short : length (print_request head) ≤ MOST_HEAD_BYTES
  pub few : length head.fields ≤ MOST_FIELDS

-- the input is this request's
abbrev pub IsRequestIn : List ℕ → Request → Type 0
IsRequestIn input request = (head : RequestHead) × HasHead input head request.rest
    × (request.method ≡ head.method) × (request.target ≡ head.target) × (request.fields ≡ map name_and_value head.fields)

-- the target is a path of this server, and no whole address
abbrev pub IsOriginForm : List ℕ → Type 0
IsOriginForm target = slice_get target 0 ≡ Some 47

-- the request passes the tests of its first line, as one of this route
pub record Takes (request : Request) (r : Route) : Type 0 where
  pub form : IsOriginForm request.target
  pub path : Matches (path_of request.target) r
  pub method : request.method ≡ method_text (method_of r)

-- the same, for some route that takes a body
abbrev pub SendsBody : Request → Type 0
SendsBody request = (r : Route) × Takes request r × (method_of r ≡ method.Post)

-- what the request tells of codings of its body
abbrev pub codings_of : Request → List (List ℕ)
codings_of request = values_of (codes "transfer-encoding") request.fields

-- the body is sent in some coding, even one without a name
abbrev pub IsCoded : Request → Type 0
IsCoded request = codings_of request ≢ []

-- what the request tells as its body's length
abbrev pub lengths_of : Request → List (List ℕ)
lengths_of request = values_of (codes "content-length") request.fields

-- the body's length is told once, by a value of its form
abbrev pub HasLength : Request → ℕ → Type 0
HasLength request n = (value : List ℕ) × (lengths_of request ≡ value ∷ []) × TellsLength value n

-- a body is sent in no coding, and its length is told and within the limit
pub record HasGoodLengthIn (most : ℕ) (request : Request) (n : ℕ) : Type 0 where
  pub sends : SendsBody request
  pub plain : ¬ IsCoded request
  pub tells : HasLength request n
  pub within : n ≤ most

-- which test is the first that the request fails; who makes it is asked at a desk that is served for good alone
abbrev pub FailsIn : ℕ → Request → Rejection → Type 0
FailsIn most request test.NoHead = ⊥
FailsIn most request test.Foreign = ⊥
FailsIn most request test.Misnamed = ⊥
FailsIn most request test.OtherForm = ¬ IsOriginForm request.target
FailsIn most request test.NoRoute = IsOriginForm request.target × ((r : Route) → ¬ Matches (path_of request.target) r)
FailsIn most request (test.OtherMethod m) = IsOriginForm request.target
    × ((r : Route) × Matches (path_of request.target) r × (m ≡ method_of r) × (request.method ≢ method_text m))
FailsIn most request test.Coded = SendsBody request × IsCoded request
FailsIn most request test.NoLength = SendsBody request × (¬ IsCoded request) × (lengths_of request ≡ [])
FailsIn most request test.BadLength = SendsBody request × (¬ IsCoded request) × (lengths_of request ≢ []) × ((n : ℕ) → ¬ HasLength request n)
FailsIn most request test.TooLong = SendsBody request × (¬ IsCoded request) × ((n : ℕ) × HasLength request n × (most < n))
FailsIn most request test.CutShort = (n : ℕ) × HasGoodLengthIn most request n × (length request.rest < n)

-- the status of the reply where a test is the first that fails
abbrev pub status_of : Rejection → Status
status_of test.NoHead = status.BadRequest
status_of test.Foreign = status.Forbidden
status_of test.Misnamed = status.BadRequest
status_of test.OtherForm = status.BadRequest
status_of test.NoRoute = status.NotFound
status_of (test.OtherMethod m) = status.MethodNotAllowed m
status_of test.Coded = status.NotImplemented
status_of test.NoLength = status.LengthRequired
status_of test.BadLength = status.BadRequest
status_of test.TooLong = status.PayloadTooLarge
status_of test.CutShort = status.BadRequest

-- the body is so many of the bytes after the head as the request tells
abbrev pub HasBodyIn : ℕ → Request → List ℕ → Type 0
HasBodyIn most request body = (n : ℕ) × HasGoodLengthIn most request n × (n ≤ length request.rest) × (body ≡ take n request.rest)

-- what a request asks for that passes all tests
abbrev pub AsksIn : ℕ → Request → Asked → Type 0
AsksIn most request (asked.Report body) = Takes request route.Report × HasBodyIn most request body.items
AsksIn most request (asked.Operator body) = Takes request route.Operator × HasBodyIn most request body.items
AsksIn most request (asked.Ready name) = Takes request route.Ready
    × ((segment : List ℕ) × IsReadyPath (path_of request.target) segment × (name.items ≡ percent_decode segment))
AsksIn most request asked.Occurrences = Takes request route.Occurrences

-- what a request comes to: what it asks for, or the first test that it fails
abbrev pub ComesToIn : ℕ → Request → Result Asked Rejection → Type 0
ComesToIn most request (Ok a) = AsksIn most request a
ComesToIn most request (Err r) = FailsIn most request r

-- what an input comes to: that of the request in it, or that it has none
abbrev pub AnswersIn : ℕ → List ℕ → Result Asked Rejection → Type 0
AnswersIn most input answer = ((answer ≡ Err test.NoHead) × ((request : Request) → ¬ IsRequestIn input request))
    ⊎ ((request : Request) × IsRequestIn input request × ComesToIn most request answer)

-- the same where bodies have the limit of `serve`
abbrev pub Answers : List ℕ → Result Asked Rejection → Type 0
Answers = AnswersIn MOST_BODY_BYTES
