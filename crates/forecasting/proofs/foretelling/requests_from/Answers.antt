use Rattle.std.proofs.Common.{◌≡◌, sym, subst, ◌<◌, ◌++◌, ℕ, List, length}
use Rattle.std.specs.FinMap.{entries}
use Rattle.plan_forecast.specs.Ahead.{Ahead, IsGoing, LeadsOn, counted_from}
use Rattle.plan_records.specs.declared.Request.{Request}
use Rattle.forecasting.specs.Following.{AreAll, AreGoingAmong, ArePlaces, AreSetAt}
use Rattle.forecasting.specs.InMemory.{IsInMemory}
use Rattle.forecasting.proofs.AfterRequest.{Completes}
use Rattle.forecasting.proofs.First.{first_made, first_size, nothing_listed, whole}
use Rattle.forecasting.proofs.Followed.{first_begun, first_ended, first_followed}
use Rattle.forecasting.proofs.foretelling.requests_from.Goals as goal

pub set_times-requires-clause-since : goal.set_times-requires-clause-since
set_times-requires-clause-since c = first_size c.requires.begun.0 c.args.plan.now.plan c.args.at c.requires.begun.2 c.requires.begun.4 c.args.since.now c.requires.begun.1 c.requires.begun.3

pub set_times-requires-clause-done : goal.set_times-requires-clause-done
set_times-requires-clause-done c = c.requires.done.size

pub set_times-requires-clause-within : goal.set_times-requires-clause-within
set_times-requires-clause-within c =
    let Q = c.args.plan.now.plan.contents in
    let all = subst (λ n. AreAll n c.in_ok-every.every.items) c.count_of.ensures c.in_ok-every.ensures in
    subst (λ (xs : List ℕ). ArePlaces Q xs) (sym c.deref.ensures.value) all.within

pub follow_going-requires-clause-going : goal.follow_going-requires-clause-going
follow_going-requires-clause-going c = nothing_listed (λ i. i < length (entries c.args.plan.now.plan.contents.operations)) c.new-going.result.items c.new-going.ensures.items

pub follow_going-requires-clause-places : goal.follow_going-requires-clause-places
follow_going-requires-clause-places c =
    let Q = c.args.plan.now.plan.contents in
    let all = subst (λ n. AreAll n c.in_ok-every.every.items) c.count_of.ensures c.in_ok-every.ensures in
    subst (λ (xs : List ℕ). ArePlaces Q xs) (sym c.deref-2.ensures.value) all.within

pub go_on-requires-clause-ahead : goal.go_on-requires-clause-ahead
go_on-requires-clause-ahead c =
    let Q = c.args.plan.now.plan.contents in
    let rows = entries Q.operations in
    let every = c.in_ok-every.every.items in
    let all : AreAll (length rows) every = subst (λ n. AreAll n every) c.count_of.ensures c.in_ok-every.ensures in
    let valid = c.read_for_proof.ensures.contents.valid in
    let begun = c.args.since.now in
    let ended = c.args.done.now in
    let begun' = c.set_times.new.since in
    let ended' = c.set_times.new.done in
    let since : AreSetAt (IsGoing Q) (counted_from Q c.args.at) rows every begun begun' = subst (λ (xs : List ℕ). AreSetAt (IsGoing Q) (counted_from Q c.args.at) rows xs begun begun') c.deref.ensures.value c.set_times.ensures.since in
    let done : AreSetAt (Completes Q) (λ o. c.args.at) rows every ended ended' = subst (λ (xs : List ℕ). AreSetAt (Completes Q) (λ o. c.args.at) rows xs ended ended') c.deref.ensures.value c.set_times.ensures.done in
    let moved = first_begun Q every all valid c.args.at begun begun' ended ended' since done in
    let completed = first_ended Q every all valid c.args.at begun begun' ended ended' since done in
    let mid = first_made c.requires.begun.0 c.args.plan.now.plan c.args.at c.requires.begun.2 c.requires.begun.4 begun ended begun' ended' c.requires.begun.1 c.requires.begun.3 c.requires.done
    c.set_times.ensures.since_size c.set_times.ensures.done_size moved completed in
    (mid.0, mid.2)

pub go_on-requires-clause-followed : goal.go_on-requires-clause-followed
go_on-requires-clause-followed c =
    let Q = c.args.plan.now.plan.contents in
    let rows = entries Q.operations in
    let every = c.in_ok-every.every.items in
    let all : AreAll (length rows) every = subst (λ n. AreAll n every) c.count_of.ensures c.in_ok-every.ensures in
    let valid = c.read_for_proof.ensures.contents.valid in
    let begun = c.args.since.now in
    let ended = c.args.done.now in
    let begun' = c.set_times.new.since in
    let ended' = c.set_times.new.done in
    let since : AreSetAt (IsGoing Q) (counted_from Q c.args.at) rows every begun begun' = subst (λ (xs : List ℕ). AreSetAt (IsGoing Q) (counted_from Q c.args.at) rows xs begun begun') c.deref.ensures.value c.set_times.ensures.since in
    let done : AreSetAt (Completes Q) (λ o. c.args.at) rows every ended ended' = subst (λ (xs : List ℕ). AreSetAt (Completes Q) (λ o. c.args.at) rows xs ended ended') c.deref.ensures.value c.set_times.ensures.done in
    let going = c.new-going.result.items in
    let next = c.follow_going.new.going.items in
    let among : AreGoingAmong Q going every next = subst (λ (xs : List ℕ). AreGoingAmong Q going xs next) c.deref-2.ensures.value c.in_ok-follow_going.ensures in
    first_followed Q every all valid c.args.at begun begun' ended ended' since done going next (first_size c.requires.begun.0 c.args.plan.now.plan c.args.at c.requires.begun.2 c.requires.begun.4 begun c.requires.begun.1 c.requires.begun.3) c.requires.done.size among

pub go_on-requires-clause-lasting : goal.go_on-requires-clause-lasting
go_on-requires-clause-lasting c = c.in_ok-horizon.ensures.lasting

pub returns-clause-made : goal.returns-clause-made
returns-clause-made c = λ P known chosen is step.
    let Q = c.args.plan.now.plan.contents in
    let rows = entries Q.operations in
    let every = c.in_ok-every.every.items in
    let all : AreAll (length rows) every = subst (λ n. AreAll n every) c.count_of.ensures c.in_ok-every.ensures in
    let valid = c.read_for_proof.ensures.contents.valid in
    let begun = c.args.since.now in
    let ended = c.args.done.now in
    let begun' = c.set_times.new.since in
    let ended' = c.set_times.new.done in
    let since : AreSetAt (IsGoing Q) (counted_from Q c.args.at) rows every begun begun' = subst (λ (xs : List ℕ). AreSetAt (IsGoing Q) (counted_from Q c.args.at) rows xs begun begun') c.deref.ensures.value c.set_times.ensures.since in
    let done : AreSetAt (Completes Q) (λ o. c.args.at) rows every ended ended' = subst (λ (xs : List ℕ). AreSetAt (Completes Q) (λ o. c.args.at) rows xs ended ended') c.deref.ensures.value c.set_times.ensures.done in
    let moved = first_begun Q every all valid c.args.at begun begun' ended ended' since done in
    let completed = first_ended Q every all valid c.args.at begun begun' ended ended' since done in
    let last = c.go_on.new.plan.plan in
    let on = subst (λ n. (s : Ahead) → IsInMemory s c.args.plan.now.plan begun' ended' → (qs : List Request) × (t : Ahead) × (c.go_on.new.requests.items ≡ c.add_request.new.requests.items ++ qs) × LeadsOn n s qs t × IsInMemory t last c.go_on.new.since c.go_on.new.done)
    c.in_ok-horizon.ensures.until c.in_ok-go_on.ensures.made in
    whole P c.args.plan.now.plan c.args.at chosen step begun ended begun' ended' known is c.requires.done c.set_times.ensures.since_size c.set_times.ensures.done_size moved completed
    c.args.until last c.go_on.new.since c.go_on.new.done c.go_on.new.requests.items c.add_request.new.requests.items c.new-requests.result.items c.args.first
    c.in_ok-add_request.ensures c.new-requests.ensures.items c.requires.first on
