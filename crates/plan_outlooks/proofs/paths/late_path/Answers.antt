use Rattle.std.proofs.Common.{◌≡◌, sym, ◌∙◌, ap, subst, not, Some}
use Rattle.plan_model.specs.Contents.{Contents}
use Rattle.plan_model.specs.Valid.{IsAcyclic}
use Rattle.plan_outlooks.specs.Occurrences.{IsEnd}
use Rattle.plan_outlooks.specs.PathParts.{IsFirstIn}
use Rattle.plan_outlooks.specs.Paths.{EndsAt, StandsBefore}
use Rattle.plan_outlooks.proofs.FirstOnes.{some_first}
use Rattle.plan_outlooks.proofs.LastEnds.{some_ends_last}
use Rattle.plan_outlooks.proofs.PathsListed.{some_late}
use Rattle.plan_outlooks.proofs.paths.late_path.Goals as goal

pub unwrap-last-requires : goal.unwrap-last-requires
unwrap-last-requires c =
    let (F, lent, outstanding, told) = c.requires in
    let key = c.args.late.now.key in
    let end = c.in-Some.end in
    let q = some_ends_last F c.args.refs.now lent (subst (λ (P : Contents). IsAcyclic P.pairs) lent.plan c.read_for_proof.ensures.valid.acyclic) key end (subst (IsEnd F key) c.in-Some.is told.ending) outstanding.1 in
    some_first F (λ p. (p.occurrence ≡ key) × EndsAt F end p) c.last_of.result (c.last_of.ensures F lent) q.0 (q.1, q.2)

pub path_to-requires : goal.path_to-requires
path_to-requires c =
    let (F, lent, outstanding, told) = c.requires in
    let first : IsFirstIn F (λ p. (p.occurrence ≡ c.args.late.now.key) × EndsAt F c.in-Some.end p) (Some c.unwrap-last.result) =
    subst (IsFirstIn F (λ p. (p.occurrence ≡ c.args.late.now.key) × EndsAt F c.in-Some.end p)) c.unwrap-last.ensures (c.last_of.ensures F lent) in
    (F, first.0, lent, first.1, first.2.0.1)

pub returns : goal.returns
returns c = λ F lent outstanding told.
    let key = c.args.late.now.key in
    let first : IsFirstIn F (λ p. (p.occurrence ≡ key) × EndsAt F c.in-Some.end p) (Some c.unwrap-last.result) =
    subst (IsFirstIn F (λ p. (p.occurrence ≡ key) × EndsAt F c.in-Some.end p)) c.unwrap-last.ensures (c.last_of.ensures F lent) in
    let back = c.in_ok-path.ensures F first.0 lent first.1 first.2.0.1 in
    let late = some_late c.args.late.now.late (c.is_none.ensures ∙ ap not c.if-is_none.false) in
    let path = c.reverse.new.self.items in
    let stands : StandsBefore F key (Some c.in-Some.end) (Some late.0) path = (first.0, first.2, (c.in_ok-path.path.items, back, c.reverse.ensures.items)) in
    subst (λ e. StandsBefore F key e c.args.late.now.late path) (sym c.in-Some.is) (subst (λ l. StandsBefore F key (Some c.in-Some.end) l path) (sym late.1) stands)
