use Rattle.std.proofs.Common.{◌≡◌, ◌∙◌, refl, ap, subst, sym, Some, IfOk, option_copied}
use Rattle.plan_basics.specs.declared.Refusal.TheVariants as refusal
use Rattle.plan_records.specs.declared.What.TheVariants as what
use Rattle.request_outcomes.specs.Requested.{AreMadeBy}
use Rattle.small_requests.specs.plan_changes.proofs.Answered.{if_ok}
use Rattle.request_outcomes.proofs.Made.{clear_of, has_addition, if_made}
use Rattle.request_outcomes.proofs.requests.changed.Goals as goal
use Rattle.request_outcomes.proofs.requests.changed.Goals.{in-DeleteOccurrence, in-AddOccurrence, in-AddDependency}

pub unwrap-requires : goal.unwrap-requires
unwrap-requires c =
    let P = c.args.copy in
    let clear = clear_of P P refl c.args.what.now (what.AddOccurrence c.in-AddOccurrence.addition) c.in-AddOccurrence.is c.requires.clear in
    c.as_ref.ensures.variant ∙ has_addition P clear.0 c.in-AddOccurrence.addition clear.1

pub added-new-requires-clause-new : goal.added-new-requires-clause-new
added-new-requires-clause-new c =
    let P = c.args.copy in
    let w = what.AddOccurrence (Some c.unwrap.result.now) in
    let is : c.args.what.now ≡ w = c.in-AddOccurrence.is ∙ ap what.AddOccurrence (sym c.as_ref.ensures.value ∙ ap option_copied c.unwrap.ensures) in
    (clear_of P P refl c.args.what.now w is c.requires.clear).1 refusal.Duplicate

pub returns-clause-made : goal.returns-clause-made
returns-clause-made c =
    let P = c.args.copy in
    let v = c.args.what.now in
    let made : IfOk c.match-what.new (AreMadeBy P v) = elim c.match-what.branch [
      | in-DeleteOccurrence w ↦ let new = w.deleted-new in if_made P (what.DeleteOccurrence w.in-DeleteOccurrence.key) tt v w.in-DeleteOccurrence.is new.result w.new-is new.ensures
      | in-AddOccurrence w ↦
          let new = w.added-new in
          let s = w.unwrap.result.now in
          let is : v ≡ what.AddOccurrence (Some s) = w.in-AddOccurrence.is ∙ ap what.AddOccurrence (sym w.as_ref.ensures.value ∙ ap option_copied w.unwrap.ensures) in
          if_made P (what.AddOccurrence (Some s)) new.ensures.legal v is new.result w.new-is (if_ok new.result (λ x h. (s, refl, h)) new.ensures.plan)
      | in-AddDependency w ↦ let new = w.with_pair-new in if_made P (what.AddDependency w.in-AddDependency.predecessor w.in-AddDependency.successor) tt v w.in-AddDependency.is new.result w.new-is new.ensures
    ] in
    subst (λ r. IfOk r (AreMadeBy P v)) c.in_ok-new.was made
