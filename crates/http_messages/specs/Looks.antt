-- Which paths are looks', beside the routes, and what a request comes to that may be one.
use Rattle.std.specs.Prelude.{◌≡◌, ◌≢◌, ◌⊎◌, ℕ, List, codes, Option, Result, Ok, Err, option_map, string_bytes}
use Rattle.http_messages.specs.declared.asking.Rejection.{Rejection}
use Rattle.http_messages.specs.declared.asking.Rejection.TheVariants as test
use Rattle.http_messages.specs.declared.looks.Detail.{Detail}
use Rattle.http_messages.specs.declared.looks.Detail.TheVariants as detail
use Rattle.http_messages.specs.declared.looks.Look.{Look}
use Rattle.http_messages.specs.declared.looks.Look.TheVariants as look
use Rattle.http_messages.specs.declared.looks.Page.{Page}
use Rattle.http_messages.specs.declared.looks.Page.TheVariants as page
use Rattle.http_messages.specs.declared.statuses.Method.TheVariants as method
use Rattle.http_messages.specs.declared.wanting.Wanted.{Wanted}
use Rattle.http_messages.specs.declared.wanting.Wanted.TheVariants as wanted
use Rattle.http_messages.specs.Foreign.{IsForeign}
use Rattle.http_messages.specs.Queries.{GoesOnBy, IsBoardQuery, query_of}
use Rattle.http_messages.specs.Requesters.{IsBy, IsMisnamed}
use Rattle.http_messages.specs.Routes.{path_of}
use Rattle.http_messages.specs.Statuses.{method_text}
use Rattle.http_messages.specs.Tests.{Request, AsksIn, FailsIn, HasBodyIn, IsRequestIn}

-- the path of a page
abbrev pub page_path : Page → List ℕ
page_path page.Front = codes "/"
page_path page.Occurrences = codes "/report/occurrences"
page_path page.Errors = codes "/report/errors"
page_path page.Late = codes "/report/late"
page_path page.ShowStarted = codes "/show/started"
page_path page.ShowResources = codes "/show/resources"
page_path page.ShowWorkstations = codes "/show/workstations"
page_path page.ShowTrackers = codes "/show/trackers"
page_path page.Started = codes "/started"
page_path page.Health = codes "/health"
page_path page.Forecast = codes "/forecast"

-- with what the path of a look at one thing begins
abbrev pub detail_path : Detail → List ℕ
detail_path detail.Ready = codes "/report/ready/"
detail_path detail.Why = codes "/why/"
detail_path detail.WhyPage = codes "/page/why/"
detail_path detail.Operations = codes "/show/operations/"
detail_path detail.OperationsPage = codes "/page/show/operations/"
detail_path detail.Started = codes "/started/"
detail_path detail.Dependencies = codes "/show/dependencies/"
detail_path detail.Reach = codes "/show/reach/"
detail_path detail.Intervals = codes "/show/intervals/"

-- the target is one of the look
abbrev pub IsLookOf : Look → List ℕ → Type 0
IsLookOf (look.Page p) target = path_of target ≡ page_path p
IsLookOf (look.Board q) target = (path_of target ≡ codes "/board") × IsBoardQuery (query_of target) q
IsLookOf (look.Detail d name) target = GoesOnBy (detail_path d) (path_of target) name.items
IsLookOf (look.Judged text) target = ⊥

-- the target is no look's
abbrev pub NoLook : List ℕ → Type 0
NoLook target = (l : Look) → ¬ IsLookOf l target

-- the target is a look's, and the method is the one that looks take; or it is another
abbrev pub LooksAt : List ℕ → List ℕ → Result Look Rejection → Type 0
LooksAt m target (Ok l) = IsLookOf l target × (m ≡ method_text method.Get)
LooksAt m target (Err t) = ((l : Look) × IsLookOf l target) × (m ≢ method_text method.Get) × (t ≡ test.OtherMethod method.Get)

-- the target's path is that under which a request's text is judged
abbrev pub IsJudging : List ℕ → Type 0
IsJudging target = path_of target ≡ codes "/validate"

-- the same request, of the path of operators
abbrev pub as_operator : Request → Request
as_operator request = record request { target = codes "/operator" }

-- what a request to judge a text comes to: its body is judged; or the first test that it would fail as an operator's
abbrev pub ComesToJudged : ℕ → Request → Result Wanted Rejection → Type 0
ComesToJudged most request (Ok (wanted.Look (look.Judged text))) = HasBodyIn most (as_operator request) text.items
ComesToJudged most request (Ok _) = ⊥
ComesToJudged most request (Err t) = FailsIn most (as_operator request) t

-- what any other comes to by this requester: what it looks at; or, where its path is no look's, what it asks for, or the first test that it fails
abbrev pub ComesToOther : ℕ → Request → Option (List ℕ) → Result Wanted Rejection → Type 0
ComesToOther most request by (Ok (wanted.Look l)) = LooksAt request.method request.target (Ok l)
ComesToOther most request by (Ok (wanted.Asked a)) = NoLook request.target × AsksIn most request a.asked × (option_map string_bytes a.by ≡ by)
ComesToOther most request by (Err t) = LooksAt request.method request.target (Err t) ⊎ (NoLook request.target × FailsIn most request t)

-- what a request by this requester comes to
abbrev pub ComesToOwn : ℕ → Request → Option (List ℕ) → Result Wanted Rejection → Type 0
ComesToOwn most request by answer = (IsJudging request.target × ComesToJudged most request answer) ⊎ ((¬ IsJudging request.target) × ComesToOther most request by answer)

-- what a request comes to: before all else, that it is foreign, or names who makes it in no form; or what it comes to by its requester
abbrev pub ComesToWanted : ℕ → Request → Result Wanted Rejection → Type 0
ComesToWanted most request answer =
    (IsForeign request × (answer ≡ Err test.Foreign))
    ⊎ (((¬ IsForeign request) × IsMisnamed request × (answer ≡ Err test.Misnamed))
    ⊎ ((¬ IsForeign request) × (by : Option (List ℕ)) × IsBy request by × ComesToOwn most request by answer))

-- what an input comes to: that of the request in it, or that it has none
abbrev pub AnswersWanted : ℕ → List ℕ → Result Wanted Rejection → Type 0
AnswersWanted most input answer = ((answer ≡ Err test.NoHead) × ((request : Request) → ¬ IsRequestIn input request))
    ⊎ ((request : Request) × IsRequestIn input request × ComesToWanted most request answer)
