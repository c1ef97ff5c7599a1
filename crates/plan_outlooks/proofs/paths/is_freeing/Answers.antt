use Rattle.std.proofs.Common.{refl, sym, ◌∙◌, true≢false, false}
use Rattle.plan_outlooks.specs.Paths.{IsFreeing}
use Rattle.plan_outlooks.proofs.Deciding.{not_by}
use Rattle.plan_outlooks.proofs.paths.is_freeing.Goals as goal

pub returns-then-not-lasts_until : goal.returns-then-not-lasts_until
returns-then-not-lasts_until c = λ F q lent there.
    not_by (IsFreeing F c.args.moment c.args.lack.now q) false refl (λ h. true≢false (sym ((c.lasts_until.ensures F q lent there).1 (h.0, h.1)) ∙ c.if-not-lasts_until.true))

pub returns : goal.returns
returns c = λ F q lent there.
    let told = c.has_of.ensures F q lent there in
    let lasts = (c.lasts_until.ensures F q lent there).0 c.if-not-lasts_until.false in
    ((λ e. (lasts.0, lasts.1, told.0 e)), (λ h. told.1 h.2))
