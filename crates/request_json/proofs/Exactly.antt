-- Requests whose other members are counted, and those whose members are named.
use Rattle.std.proofs.Common.{◌≡◌, inl, inr, ℕ, suc, ◌+◌, ◌≤◌, List, [], ◌∷◌, ◌++◌, length, Bool, true, ◌||◌, true≢false, Option, Some, None, option_and_then, refl, sym, ap, subst, ◌∙◌, codes, arith, length-append}
use Rattle.std.specs.List.{AllByRecursion}
use Rattle.std.specs.Str.{bytes_eq}
use Rattle.plan_basics.specs.Names.{IsName}
use Rattle.plan_basics.specs.declared.limits.TheConstants.{GREATEST_REQUEST_NUMBER}
use Rattle.plan_items.specs.Parts.{IsReading}
use Rattle.plan_records.specs.declared.Request.{Request}
use Rattle.plan_records.specs.declared.What.{What}
use Rattle.plan_records.specs.declared.What.TheVariants as what
use Rattle.serde_json.specs.Data.{Data, string}
use Rattle.serde_json.specs.Find.{get, as_str}
use Rattle.request_json.specs.Intervals.{whole}
use Rattle.request_json.specs.Members.{Member, IsJsonOf, HasMember, IsNameAt}
use Rattle.request_json.specs.Requests.{Asks, IsReport, SaysRequest, SaysReport, ReadsAsRequest, ReadsAsReport}
use Rattle.request_json.specs.Counted.{SaysBeside, IsReportVerb}
use Rattle.request_json.specs.declared.NumberedRequest.{NumberedRequest}

all_joined : (d : Data) (xs ys : List Member) → AllByRecursion (HasMember d) xs → AllByRecursion (HasMember d) ys → AllByRecursion (HasMember d) (xs ++ ys)
all_joined d [] ys a b = b
all_joined d (x ∷ xs) ys a b = (a.0, all_joined d xs ys a.1 b)

all_parted : (d : Data) (xs ys : List Member) → AllByRecursion (HasMember d) (xs ++ ys) → AllByRecursion (HasMember d) xs × AllByRecursion (HasMember d) ys
all_parted d [] ys a = (tt, a)
all_parted d (x ∷ xs) ys a = let rest = all_parted d xs ys a.1 in ((a.0, rest.0), rest.1)

-- with the others named, the request is the whole object's
pub request_of : (d : Data) (others : List Member) (r : Request) → AllByRecursion (HasMember d) others → SaysBeside d (length others) r → SaysRequest d others r
request_of d others r all s =
    let more = s.7.0 in
    let size : s.2 + length others ≡ suc (suc (length (others ++ more))) = omega (arith, s.7.2, length-append others more) in
    (s.0, s.1, more, s.4, s.7.1, (s.6 ∙ ap Some size, (s.3, (s.5, all_joined d others more all s.7.3))))

-- and of the whole object's request the others may be counted
pub beside_of : (d : Data) (others : List Member) (r : Request) → SaysRequest d others r → SaysBeside d (length others) r × AllByRecursion (HasMember d) others
beside_of d others r s =
    let more = s.2 in
    let size : suc (suc (length (others ++ more))) ≡ suc (suc (length more)) + length others = omega (arith, length-append others more) in
    let all = all_parted d others more s.5.1.1.1 in
    ((s.0, s.1, suc (suc (length more)), s.5.1.0, s.3, s.5.1.1.0, s.5.0 ∙ ap Some size, (more, s.4, refl, all.1)), all.0)

-- ---- reports

is_report_verb : List ℕ → Bool
is_report_verb verb = bytes_eq verb (codes "started") || (bytes_eq verb (codes "ended") || (bytes_eq verb (codes "error") || (bytes_eq verb (codes "interrupted") || bytes_eq verb (codes "unknown"))))

among : (verb : List ℕ) → IsReportVerb verb → is_report_verb verb ≡ true
unfolding is_report_verb
among verb (inl e) = rw e refl
among verb (inr (inl e)) = rw e refl
among verb (inr (inr (inl e))) = rw e refl
among verb (inr (inr (inr (inl e)))) = rw e refl
among verb (inr (inr (inr (inr e)))) = rw e refl

-- what has the `do` of a report is one
pub report_of_verb : (x : What) (verb : List ℕ) (more : List Member) → IsReportVerb verb → Asks x verb more → IsReport x
unfolding is_report_verb
report_of_verb (what.Started key) verb more v a = tt
report_of_verb (what.Ended key) verb more v a = tt
report_of_verb (what.Error key code) verb more v a = tt
report_of_verb (what.Interrupted key) verb more v a = tt
report_of_verb (what.Unknown key) verb more v a = tt
report_of_verb _ verb more v a = absurd (true≢false (sym (among verb v) ∙ ap is_report_verb a.0))

-- and a report has such a `do`
pub verb_of_report : (x : What) (verb : List ℕ) (more : List Member) → IsReport x → Asks x verb more → IsReportVerb verb
verb_of_report (what.Started key) verb more r a = inl a.0
verb_of_report (what.Ended key) verb more r a = inr (inl a.0)
verb_of_report (what.Error key code) verb more r a = inr (inr (inl a.0))
verb_of_report (what.Interrupted key) verb more r a = inr (inr (inr (inl a.0)))
verb_of_report (what.Unknown key) verb more r a = inr (inr (inr (inr a.0)))
verb_of_report _ verb more r a = absurd r

-- a report is a request beside tracker and number
pub report_of : (d : Data) (n : NumberedRequest) (verb : List ℕ) → IsNameAt d (codes "tracker") (IsName 8) n.tracker
    → (n.number ≤ GREATEST_REQUEST_NUMBER) × HasMember d (codes "number", whole n.number) → HasMember d (codes "do", string verb) → IsReportVerb verb → SaysBeside d 2 n.request → SaysReport d n
report_of d n verb tracker number there v s =
    let same : verb ≡ s.1 = cc (there, s.5) in
    let others : List Member = (codes "tracker", string n.tracker) ∷ (codes "number", whole n.number) ∷ [] in
    (tracker.0, number.0, report_of_verb n.request.what s.1 s.7.0 (rw same at v) s.7.1, request_of d others n.request (tracker.1, (number.1, tt)) s)

-- its parts
pub report_said : (d : Data) (n : NumberedRequest) → SaysReport d n
    → IsNameAt d (codes "tracker") (IsName 8) n.tracker × ((n.number ≤ GREATEST_REQUEST_NUMBER) × HasMember d (codes "number", whole n.number))
    × ((verb : List ℕ) × HasMember d (codes "do", string verb) × IsReportVerb verb) × SaysBeside d 2 n.request
report_said d n h =
    let others : List Member = (codes "tracker", string n.tracker) ∷ (codes "number", whole n.number) ∷ [] in
    let s = beside_of d others n.request h.3 in
    ((h.0, s.1.0), (h.1, s.1.1.0), (h.3.1, h.3.5.1.1.0, verb_of_report n.request.what h.3.1 h.3.2 h.2 h.3.4), s.0)

-- without a `do` that is a text there is no report
pub no_verb : (d : Data) → None ≡ option_and_then as_str (get (codes "do") d) → (n : NumberedRequest) → ¬ SaysReport d n
no_verb d none n h = let said = (report_said d n h).2 in absurd (cc (rw said.1 at none))

-- nor with another `do` than a report's
pub no_report_verb : (d : Data) (verb : List ℕ) → HasMember d (codes "do", string verb) → ¬ IsReportVerb verb → (n : NumberedRequest) → ¬ SaysReport d n
no_report_verb d verb there other n h =
    let said = (report_said d n h).2 in
    let same : said.0 ≡ verb = cc (said.1, there) in
    other (rw same at said.2)

-- without a request beside tracker and number there is no report
pub no_report : (d : Data) → ((r : Request) → ¬ SaysBeside d 2 r) → (n : NumberedRequest) → ¬ SaysReport d n
no_report d none n h = none n.request (report_said d n h).3

-- ---- texts

one_value : (body : List ℕ) (d e : Data) → IsJsonOf body d → IsJsonOf body e → d ≡ e
one_value body d e h k = cc (h.1, k.1)

-- what a text's value says as a request is what the text says
pub request_read : (body : List ℕ) (d : Data) (r : Option Request) → IsJsonOf body d → IsReading (SaysBeside d 0) r → IsReading (ReadsAsRequest body) r
request_read body d None json none =
    λ r h.
    let same : h.0 ≡ d = one_value body h.0 d h.1 json in
    none r (subst (λ (e : Data). SaysBeside e 0 r) same (beside_of h.0 [] r h.2).0)
request_read body d (Some r) json s = (d, json, request_of d [] r tt s)

-- and so for a report
pub report_read : (body : List ℕ) (d : Data) (r : Option NumberedRequest) → IsJsonOf body d → IsReading (SaysReport d) r → IsReading (ReadsAsReport body) r
report_read body d None json none =
    λ n h.
    let same : h.0 ≡ d = one_value body h.0 d h.1 json in
    none n (subst (λ (e : Data). SaysReport e n) same h.2)
report_read body d (Some n) json s = (d, json, s)
