use Rattle.std.proofs.Common.{codes, rules, FitsSigned, w64, to_z-of_z}
use Rattle.serde_json.specs.Find.{get}
use Rattle.serde_json.specs.View.{view}
use Rattle.request_json.proofs.Texts.{text_there}
use Rattle.request_json.proofs.Wholes.{nothing_said}
use Rattle.request_json.proofs.requests.read_request.Goals as goal

pub returns-in_default : goal.returns-in_default
returns-in_default c = λ r s. c.in_default.ensures r.at (s.0, s.3, s.4)

pub returns-in-Some-2 : goal.returns-in-Some-2
returns-in-Some-2 c =
    let at = c.in-Some.ensures in
    let verb = c.in-Some-text_at.verb.now in
    let there = text_there (get (codes "do") (view c.args.value.now)) verb c.in-Some-text_at.ensures in
    let fits : FitsSigned w64 c.in-Some.at = search rules in
    let minute = simp to_z-of_z at c.request_at.ensures.at in
    let asked = c.request_at.ensures.what in
    rw (minute, asked) (at.0, verb, c.in-Some-members_beside.count, at.1, at.2, there, c.in-Some-members_beside.ensures, rw c.in-Some-2.is at c.in_ok-what.ensures)

pub returns-in-None : goal.returns-in-None
returns-in-None c =
    let verb = c.in-Some-text_at.verb.now in
    let there = text_there (get (codes "do") (view c.args.value.now)) verb c.in-Some-text_at.ensures in
    nothing_said (view c.args.value.now) c.args.others c.in-Some-members_beside.count verb there c.in-Some-members_beside.ensures (rw c.in-None.is at c.in_ok-what.ensures)
