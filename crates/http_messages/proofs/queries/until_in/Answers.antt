use Rattle.std.proofs.Common.{List, ℕ, subst, inr}
use Rattle.std.proofs.lemmas.Result.{IfOk-weaker}
use Rattle.http_messages.specs.Queries.{IsUntil}
use Rattle.http_messages.specs.declared.queries.Until.{Until}
use Rattle.http_messages.specs.declared.queries.Until.TheVariants as until
use Rattle.http_messages.proofs.queries.until_in.Goals as goal

pub returns-in-End : goal.returns-in-End
returns-in-End c =
    let told = subst (λ (u : Until). IsUntil c.before-2.result.now u) c.in-End.is c.in_ok-until.ensures in
    let first = subst (λ (part : List ℕ). IsUntil part until.End) c.before-2.ensures told in
    IfOk-weaker c.until_of-in-End.result _ _ (λ u h. inr (first, subst (λ (part : List ℕ). IsUntil part u) c.after.ensures h)) c.until_of-in-End.ensures
