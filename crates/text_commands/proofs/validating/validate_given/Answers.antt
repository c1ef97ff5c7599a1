use Rattle.std.proofs.Common.{◌≡◌, FitsSigned, IfOk, Some, None, codes, rules, subst, subst₂, sym, to_z-of_z, w64}
use Rattle.clap.specs.Matches.{first_value, found_of}
use Rattle.plan_basics.specs.Watched.{inner_of}
use Rattle.text_commands.specs.Besides.{IsExtensionJudged, IsSomeBesideText}
use Rattle.text_commands.proofs.Besides.{beside_given}
use Rattle.text_commands.proofs.validating.validate_given.Goals as goal

pub returns-in-Some-default-clause-shown : goal.returns-in-Some-default-clause-shown
returns-in-Some-default-clause-shown g c =
    let old = g.W.Write.contents (inner_of c.args.out.now) in
    let new = g.W.Write.contents (inner_of c.validate_stored.new.out) in
    let given : first_value (found_of c.args.given.now) (codes "db") ≡ Some c.in-Some-default.db.now = search rules in
    let plan = first_value (found_of c.args.given.now) (codes "plan") in
    let at = first_value (found_of c.args.given.now) (codes "at") in
    subst (λ o. IfOk c.validate_stored.result (IsExtensionJudged o plan at old new)) (sym given) c.validate_stored.ensures.shown

pub returns-in_ok-at-in-None-Some-clause-shown : goal.returns-in_ok-at-in-None-Some-clause-shown
returns-in_ok-at-in-None-Some-clause-shown g c =
    let old = g.W.Write.contents (inner_of c.args.out.now) in
    let new = g.W.Write.contents (inner_of c.validate_planned.new.out) in
    let none : first_value (found_of c.args.given.now) (codes "db") ≡ None = search rules in
    let given : first_value (found_of c.args.given.now) (codes "plan") ≡ Some c.in-None-Some.plan.now = search rules in
    let at = first_value (found_of c.args.given.now) (codes "at") in
    let z = c.in_ok-at-in-None-Some.at in
    let fits : FitsSigned w64 z = search rules in
    let shown : IfOk c.validate_planned.result (IsSomeBesideText z old new) = simp to_z-of_z at c.validate_planned.ensures.shown in
    subst₂ (λ o p. IfOk c.validate_planned.result (IsExtensionJudged o p at old new)) (sym none) (sym given)
    (beside_given at z c.in_ok-at-in-None-Some.ensures.minute c.in-None-Some.plan.now old new c.validate_planned.result shown)

pub returns-in-None-None-clause-shown : goal.returns-in-None-None-clause-shown
returns-in-None-None-clause-shown g c =
    let old = g.W.Write.contents (inner_of c.args.out.now) in
    let new = g.W.Write.contents (inner_of c.validate_extension.new.out) in
    let none : first_value (found_of c.args.given.now) (codes "db") ≡ None = search rules in
    let given : first_value (found_of c.args.given.now) (codes "plan") ≡ None = search rules in
    let at = first_value (found_of c.args.given.now) (codes "at") in
    subst₂ (λ o p. IfOk c.validate_extension.result (IsExtensionJudged o p at old new)) (sym none) (sym given) c.validate_extension.ensures.shown

pub returns-in_ok-at-in-None-Some-clause-moment : goal.returns-in_ok-at-in-None-Some-clause-moment
returns-in_ok-at-in-None-Some-clause-moment g c lacks = absurd (lacks.2 c.in_ok-at-in-None-Some.at c.in_ok-at-in-None-Some.ensures.minute)
