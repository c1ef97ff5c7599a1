use Rattle.std.proofs.Common.{◌≡◌, ◌++◌, ◌∙◌, ◌==◌, true, false, sym, rules, codes}
use Rattle.std.proofs.lemmas.List.{append_cancel_left}
use Rattle.std.specs.List.{list_any}
use Rattle.http_messages.proofs.routes.ready_segment.Goals as goal

pub returns-in-None : goal.returns-in-None
returns-in-None c =
    let told = rw c.in-None.is at c.rest_after.ensures in
    λ segment h. told segment h.0.some h.1

pub returns-then-contains : goal.returns-then-contains
returns-then-contains c =
    let told = rw c.in-Some.is at c.rest_after.ensures in
    λ segment h.
    let same : segment ≡ c.in-Some.rest.now = append_cancel_left (codes "/ready/") segment c.in-Some.rest.now (sym h.1 ∙ told.1) in
    let some : list_any (λ b. b == 47) c.in-Some.rest.now ≡ true = search rules in
    let none : list_any (λ b. b == 47) c.in-Some.rest.now ≡ false = rw same at h.0.whole in
    absurd (cc)

pub returns : goal.returns
returns c =
    let told = rw c.in-Some.is at c.rest_after.ensures in
    (record { some = told.0; whole = search rules }, told.1)
