-- One more pair is added, after those that lead to where it leads from: whether its predecessor is satisfied is settled, and its successor's standing alone may change.
use Rattle.std.proofs.Common.{◌≡◌, ◌≢◌, ◌⊎◌, ◌↔◌, inl, inr, refl, sym, ◌∙◌, subst, true≢false, Bool, true, false, ◌&&◌, ◌||◌, ◌+◌, cond, List, ◌∷◌, Decides}
use Rattle.plan_basics.specs.declared.keys.OpKey.{OpKey}
use Rattle.status_rules.specs.LeastSet.{by_all_before, by_given}
use Rattle.plan_model.specs.Contents.{Contents, IsLive, LivePredecessor, Precedes}
use Rattle.plan_model.specs.Status.{AllPredecessorsSatisfied, FollowsNonreporting, IsSatisfied}
use Rattle.plan_laws.specs.plan_records.specs.Rows.{IsWaitingFor}
use Rattle.plan_laws.specs.plan_drafts.proofs.Pairs.{pair_added, pair_cases, pair_kept}
use Rattle.plan_status.specs.Incoming.{ComesAfter, with_pairs}
use Rattle.plan_status.specs.Standings.{IsStanding}
use Rattle.plan_status.specs.declared.standings.Standing.{Standing}
use Rattle.plan_status.proofs.Alike.{IsOnNonreporting, count_alike, standing_alike}
use Rattle.plan_status.proofs.CountOneMore.{count_more}
use Rattle.std.proofs.lemmas.Bool.{and_from, and_parts, or_cases, or_left, or_right}

module _ (P : Contents) (pairs : List (OpKey × OpKey)) (pair : OpKey × OpKey) (next : ComesAfter pairs pair) where
  abbrev was : Contents
  was = with_pairs pairs P

  abbrev now : Contents
  now = with_pairs (pair ∷ pairs) P

  -- no predecessor of anything is where the pair leads
  not_there : (q o : OpKey) → Precedes now q o → q ≢ pair.1
  not_there q o h e = next.leads_on o (subst (λ z. Precedes now z o) e h)

  still_precedes : (q o : OpKey) → Precedes was q o → Precedes now q o
  still_precedes q o h = pair_kept pair pairs q o h

  preceded : (q o : OpKey) → o ≢ pair.1 → Precedes now q o → Precedes was q o
  preceded q o other h = elim (pair_cases pair pairs q o h) [ inl old ↦ old | inr at ↦ absurd (other at.1) ]

  -- what isn't where the pair leads is satisfied as before
  still_satisfied : {o : OpKey} → o ≢ pair.1 → IsSatisfied was o → IsSatisfied now o
  still_satisfied other (by_given h) = by_given h
  still_satisfied {o} other (by_all_before h before) =
      by_all_before h (λ q live. still_satisfied (not_there q o live.0) (before q (preceded q o other live.0, live.1)))

  was_satisfied : {o : OpKey} → o ≢ pair.1 → IsSatisfied now o → IsSatisfied was o
  was_satisfied other (by_given h) = by_given h
  was_satisfied {o} other (by_all_before h before) =
      by_all_before h (λ q live. let there = still_precedes q o live.0 in was_satisfied (not_there q o there) (before q (there, live.1)))

  -- so is each live predecessor of anything
  pub settled : (q o : OpKey) → LivePredecessor now q o → IsSatisfied was q ↔ IsSatisfied now q
  settled q o live = let there = not_there q o live.0 in (still_satisfied there, was_satisfied there)

  -- elsewhere standings are as before
  pub stands_as_before : (o : OpKey) → o ≢ pair.1 → (s : Standing) → IsStanding was o s → IsStanding now o s
  stands_as_before o other = standing_alike was now o
      (λ q. (λ live. (still_precedes q o live.0, live.1), λ live. (preceded q o other live.0, live.1)))
      (λ q live. settled q o (still_precedes q o live.0, live.1))
      (λ q live. (λ on. on, λ on. on))

  -- a predecessor that isn't live changes nothing
  pub dead_changes_nothing : ¬ IsLive P pair.0 → (s : Standing) → IsStanding was pair.1 s → IsStanding now pair.1 s
  dead_changes_nothing dead = standing_alike was now pair.1
      (λ q. (λ live. (still_precedes q pair.1 live.0, live.1), λ live. (by_old q live.0 live.1, live.1)))
      (λ q live. settled q pair.1 (still_precedes q pair.1 live.0, live.1))
      (λ q live. (λ on. on, λ on. on))
    where
      by_old : (q : OpKey) → Precedes now q pair.1 → IsLive P q → Precedes was q pair.1
      by_old q h live = elim (pair_cases pair pairs q pair.1 h) [ inl old ↦ old | inr at ↦ absurd (dead (subst (IsLive P) at.0 live)) ]

  module _ (live : IsLive P pair.0) (s : Standing) (is : IsStanding was pair.1 s) where
    -- the live predecessors are those before, and the pair's
    this_precedes : LivePredecessor now pair.0 pair.1
    this_precedes = (pair_added pair pairs, live)

    predecessor_cases : (q : OpKey) → LivePredecessor now q pair.1 → LivePredecessor was q pair.1 ⊎ (q ≡ pair.0)
    predecessor_cases q h = elim (pair_cases pair pairs q pair.1 h.0) [ inl old ↦ inl (old, h.1) | inr at ↦ inr at.0 ]

    old_predecessor : (q : OpKey) → LivePredecessor was q pair.1 → LivePredecessor now q pair.1
    old_predecessor q h = (still_precedes q pair.1 h.0, h.1)

    now_satisfied : (q : OpKey) → LivePredecessor now q pair.1 → IsSatisfied was q → IsSatisfied now q
    now_satisfied q h = (settled q pair.1 h).0

    then_satisfied : (q : OpKey) → LivePredecessor now q pair.1 → IsSatisfied now q → IsSatisfied was q
    then_satisfied q h = (settled q pair.1 h).1

    all_now : AllPredecessorsSatisfied was pair.1 → IsSatisfied was pair.0 → AllPredecessorsSatisfied now pair.1
    all_now all this q h = elim (predecessor_cases q h) [
      | inl old ↦ now_satisfied q h (all q old)
      | inr e ↦ now_satisfied q h (subst (IsSatisfied was) (sym e) this)
    ]

    all_then : AllPredecessorsSatisfied now pair.1 → AllPredecessorsSatisfied was pair.1
    all_then all q old = let h = old_predecessor q old in then_satisfied q h (all q h)

    this_then : AllPredecessorsSatisfied now pair.1 → IsSatisfied was pair.0
    this_then all = then_satisfied pair.0 this_precedes (all pair.0 this_precedes)

    follows_now : FollowsNonreporting was pair.1 ⊎ IsOnNonreporting P pair.0 → FollowsNonreporting now pair.1
    follows_now (inl h) = (h.0, old_predecessor h.0 h.1, h.2)
    follows_now (inr on) = (pair.0, this_precedes, on)

    follows_then : FollowsNonreporting now pair.1 → FollowsNonreporting was pair.1 ⊎ IsOnNonreporting P pair.0
    follows_then h = elim (predecessor_cases h.0 h.1) [ inl old ↦ inl (h.0, old, h.2) | inr e ↦ inr (subst (IsOnNonreporting P) e h.2) ]

    waits_as_before : IsSatisfied was pair.0 → IsWaitingFor now pair.1 s.waiting
    waits_as_before this = count_alike
        (λ q h. let there = old_predecessor q h.0 in (there, λ done. h.1 (then_satisfied q there done)))
        (λ q h. elim (predecessor_cases q h.0) [
          | inl old ↦ (old, λ done. h.1 (now_satisfied q h.0 done))
          | inr e ↦ absurd (h.1 (now_satisfied q h.0 (subst (IsSatisfied was) (sym e) this)))
        ])
        is.waiting

    waits_for_one_more : ¬ IsSatisfied was pair.0 → IsWaitingFor now pair.1 (s.waiting + 1)
    waits_for_one_more never = count_more pair.0
        (λ h. next.is_new h.0.0)
        (this_precedes, λ done. never (then_satisfied pair.0 this_precedes done))
        (λ q h. let there = old_predecessor q h.0 in (there, λ done. h.1 (then_satisfied q there done)))
        (λ q h. elim (predecessor_cases q h.0) [ inl old ↦ inl (old, λ done. h.1 (now_satisfied q h.0 done)) | inr e ↦ inr (sym e) ])
        is.waiting

    waits_now : (satisfied : Bool) → Decides satisfied (IsSatisfied was pair.0) → IsWaitingFor now pair.1 (cond satisfied s.waiting (s.waiting + 1))
    waits_now true d = waits_as_before (d.0 refl)
    waits_now false d = waits_for_one_more (λ done. true≢false (sym (d.1 done)))

    -- with one more live predecessor, by whether that is satisfied and whether it is on a workstation that doesn't report
    pub stands_behind : (satisfied nonreporting : Bool) → Decides satisfied (IsSatisfied was pair.0) → Decides nonreporting (IsOnNonreporting P pair.0)
        → (t : Standing) → t.preds.live ≡ true → t.preds.satisfied ≡ (s.preds.satisfied && satisfied) → t.preds.nonreporting ≡ (s.preds.nonreporting || nonreporting) → t.waiting ≡ cond satisfied s.waiting (s.waiting + 1) → IsStanding now pair.1 t
    stands_behind satisfied nonreporting d f t is_live is_satisfied is_nonreporting is_waiting = record {
      preds = record {
        live = (λ _. (pair.0, this_precedes), λ _. is_live);
        satisfied = (
          λ e. let h = and_parts s.preds.satisfied satisfied (sym is_satisfied ∙ e) in all_now (is.preds.satisfied.0 h.0) (d.0 h.1),
          λ all. is_satisfied ∙ and_from s.preds.satisfied satisfied (is.preds.satisfied.1 (all_then all)) (d.1 (this_then all)),
        );
        nonreporting = (
          λ e. follows_now (elim (or_cases s.preds.nonreporting nonreporting (sym is_nonreporting ∙ e)) [ inl h ↦ inl (is.preds.nonreporting.0 h) | inr h ↦ inr (f.0 h) ]),
          λ h. is_nonreporting ∙ elim (follows_then h) [ inl x ↦ or_left s.preds.nonreporting nonreporting (is.preds.nonreporting.1 x) | inr x ↦ or_right s.preds.nonreporting nonreporting (f.1 x) ],
        );
      };
      waiting = subst (IsWaitingFor now pair.1) (sym is_waiting) (waits_now satisfied d);
    }
