-- Where some of what is ready is named, the rest stays ready.
use Rattle.std.proofs.Common.{◌≡◌, inl, inr, sym, subst, ◌∙◌, true, false, List, Some, MatchOption}
use Rattle.std.specs.FinMap.{get}
use Rattle.plan_basics.specs.declared.keys.OpKey.{OpKey}
use Rattle.status_rules.specs.Table.{marked_status}
use Rattle.status_rules.specs.declared.Mark.TheVariants as mark
use Rattle.status_rules.specs.declared.Status.{Status}
use Rattle.status_rules.specs.declared.Status.TheVariants as status
use Rattle.ready_list.specs.Choice.{is_among}
use Rattle.plan_model.specs.Contents.{Contents, Operation}
use Rattle.plan_model.specs.Ready.{named}
use Rattle.plan_model.specs.Status.{AllPredecessorsSatisfied, FollowsNonreporting, HasStatus, IsReady, UnmarkedStatus}
use Rattle.counted_records.specs.plan_laws.proofs.Kept.{ready_unmarked}
use Rattle.counted_records.specs.plan_laws.proofs.Starts.{by_unmarked, never_arriving, never_ready, never_star}
use Rattle.counted_records.specs.plan_status.proofs.Naming.{live_after, live_before, nonreporting_after, nonreporting_before, same_row, stays_satisfied, was_satisfied}

module _ (os : List OpKey) (P : Contents) where
  -- what isn't named is as before
  pub still : (o : OpKey) (y : Operation) → is_among os o ≡ false → get P.operations o ≡ Some y → get (named os P).operations o ≡ Some y
  still o y out e = same_row P os o out ∙ e

  module _ (ready : (o : OpKey) → is_among os o ≡ true → IsReady P o) where
    all_still : (o : OpKey) → AllPredecessorsSatisfied P o → AllPredecessorsSatisfied (named os P) o
    all_still o all p live = stays_satisfied P os ready (all p (live.0, live_before P os ready p live.1))

    follows_still : (o : OpKey) → FollowsNonreporting P o → FollowsNonreporting (named os P) o
    follows_still o (p, live, on) = (p, (live.0, live_after P os ready p live.1), nonreporting_after P os ready p on)

    followed_before : (o : OpKey) → FollowsNonreporting (named os P) o → FollowsNonreporting P o
    followed_before o (p, live, on) = (p, (live.0, live_before P os ready p live.1), nonreporting_before P os ready p on)

    told_unmarked : (o : OpKey) (op : Operation) (s : Status) → get P.operations o ≡ Some op → is_among os o ≡ false → op.mark ≡ mark.Unmarked
        → UnmarkedStatus (named os P) o s → HasStatus (named os P) o s
    told_unmarked o op s is out e h = (op, still o op out is, subst (λ z. MatchOption (marked_status z) (UnmarkedStatus (named os P) o s) (λ t. s ≡ t)) (sym e) h)

    -- what is ready, and isn't named, stays ready
    pub ready_still : (o : OpKey) → is_among os o ≡ false → IsReady P o → IsReady (named os P) o
    ready_still o out (inl h) =
        let u = by_unmarked P o status.Arriving (marked_status h.0.mark) (never_arriving h.0.mark) h.2 in
        inl (told_unmarked o h.0 status.Arriving h.1 out (ready_unmarked P o h.0 h.1 (inl h)) (λ s. u.0 (was_satisfied P os ready s), λ p live. u.1 p (live.0, live_before P os ready p live.1)))
    ready_still o out (inr (inl h)) =
        let u = by_unmarked P o status.ReadyAfterNonreporting (marked_status h.0.mark) (never_star h.0.mark) h.2 in
        inr (inl (told_unmarked o h.0 status.ReadyAfterNonreporting h.1 out (ready_unmarked P o h.0 h.1 (inr (inl h))) (λ s. u.0 (was_satisfied P os ready s), all_still o u.1, follows_still o u.2)))
    ready_still o out (inr (inr h)) =
        let u = by_unmarked P o status.Ready (marked_status h.0.mark) (never_ready h.0.mark) h.2 in
        inr (inr (told_unmarked o h.0 status.Ready h.1 out (ready_unmarked P o h.0 h.1 (inr (inr h)))
        (λ s. u.0 (was_satisfied P os ready s), all_still o u.1, (u.2.0, (u.2.1.0, live_after P os ready u.2.0 u.2.1.1)), λ f. u.3 (followed_before o f))))
