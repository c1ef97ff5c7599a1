-- In a plan without returning paths statuses can be decided; in a valid one each operation has exactly one.
use Rattle.std.proofs.Common.{◌≡◌, inl, inr, refl, sym, ◌∙◌, subst, Bool, true, false, cond, not, Option, Some, None, MatchOption}
use Rattle.std.specs.FinMap.{get}
use Rattle.plan_basics.specs.declared.Attr.TheVariants as attribute
use Rattle.plan_basics.specs.declared.keys.OpKey.{OpKey}
use Rattle.status_rules.specs.Table.{marked_status}
use Rattle.status_rules.specs.declared.Preds.{Preds}
use Rattle.status_rules.specs.declared.Status.{Status}
use Rattle.status_rules.specs.declared.Status.TheVariants as status
use Rattle.plan_laws.proofs.Decide.{told_attribute, told_live_predecessor, told_satisfied}
use Rattle.plan_laws.proofs.Entries.{told_has, told_operation, told_operations}
use Rattle.plan_records.specs.plan_drafts.proofs.Tables.{is_found}
use Rattle.std.proofs.lemmas.Option.{same_Some}
use Rattle.plan_laws.proofs.Ordered.{pairs_have_rank}
use Rattle.plan_laws.proofs.Tables.{status_is}
use Rattle.operation_graph.proofs.Telling.{Told, if_told, is_told, told_alike, told_and, told_four, told_if, told_if_then, told_none, told_not, told_three}
use Rattle.plan_laws.specs.Derived.{EachHasOneStatus, SatisfiedIsTold}
use Rattle.plan_records.specs.plan_model.specs.Contents.{Contents, Has, HasAttribute, IsInPlan, LivePredecessor}
use Rattle.plan_records.specs.plan_model.specs.Status.{AllPredecessorsSatisfied, ArePreds, FollowsNonreporting, HasStatus, IsSatisfied, UnmarkedStatus}
use Rattle.plan_records.specs.plan_model.specs.Valid.{IsAcyclic, IsValid}

same_status : (s t : Status) → Told (s ≡ t)
same_status status.Started status.Started = inl refl
same_status status.Interrupted status.Interrupted = inl refl
same_status status.Error status.Error = inl refl
same_status status.Undecided status.Undecided = inl refl
same_status status.Deleted status.Deleted = inl refl
same_status status.Complete status.Complete = inl refl
same_status status.Arriving status.Arriving = inl refl
same_status status.ReadyAfterNonreporting status.ReadyAfterNonreporting = inl refl
same_status status.Ready status.Ready = inl refl
same_status status.Waiting status.Waiting = inl refl
same_status s t = inr (λ e. cc)

-- the status of what has no mark, by whether it is satisfied, has live predecessors, has all of them satisfied, and follows one that isn't reported
pick : Bool → Bool → Bool → Bool → Status
pick a b c d = cond a status.Complete (cond (not b) status.Arriving (cond (not c) status.Waiting (cond d status.ReadyAfterNonreporting status.Ready)))

module _ (P : Contents) (acyclic : IsAcyclic P.pairs) where
  pub satisfied_told : (o : OpKey) → Told (IsSatisfied P o)
  satisfied_told o = let r = pairs_have_rank P.pairs acyclic in told_satisfied P r.0 r.1 o

  pub all_satisfied_told : (o : OpKey) → Told (AllPredecessorsSatisfied P o)
  all_satisfied_told o = told_operations P (λ p. LivePredecessor P p o → IsSatisfied P p)
      (λ p. told_if_then (told_live_predecessor P p o) (λ _. satisfied_told p))
      (λ p not live. absurd (not (live.1.0, live.1.1, tt)))

  some_live_told : (o : OpKey) → Told ((p : OpKey) × LivePredecessor P p o)
  some_live_told o = told_operation P (λ p. LivePredecessor P p o) (λ p. told_live_predecessor P p o) (λ p live. (live.1.0, live.1.1, tt))

  follows_told : (o : OpKey) → Told (FollowsNonreporting P o)
  follows_told o = told_alike {A = (p : OpKey) × (LivePredecessor P p o × Has P p (λ op. HasAttribute P op.workstation attribute.Nonreporting))}
      (λ h. (h.0, h.1.0, h.1.1)) (λ h. (h.0, (h.1, h.2)))
      (told_operation P (λ p. LivePredecessor P p o × Has P p (λ op. HasAttribute P op.workstation attribute.Nonreporting))
      (λ p. told_and (told_live_predecessor P p o) (λ _. told_has P p (λ op. HasAttribute P op.workstation attribute.Nonreporting) (λ op e. told_attribute P op.workstation attribute.Nonreporting)))
      (λ p h. (h.0.1.0, h.0.1.1, tt)))

  no_live_told : (o : OpKey) → Told ((p : OpKey) → ¬ LivePredecessor P p o)
  no_live_told o = told_alike {A = ¬ ((p : OpKey) × LivePredecessor P p o)} (λ h p live. h (p, live)) (λ h some. h some.0 some.1) (told_none (some_live_told o))

  unmarked_told : (o : OpKey) (s : Status) → Told (UnmarkedStatus P o s)
  unmarked_told o status.Complete = satisfied_told o
  unmarked_told o status.Arriving = told_and (told_none (satisfied_told o)) (λ _. no_live_told o)
  unmarked_told o status.ReadyAfterNonreporting = told_three (told_none (satisfied_told o)) (all_satisfied_told o) (follows_told o)
  unmarked_told o status.Ready = told_four (told_none (satisfied_told o)) (all_satisfied_told o) (some_live_told o) (told_none (follows_told o))
  unmarked_told o status.Waiting = told_and (told_none (satisfied_told o)) (λ _. told_none (all_satisfied_told o))
  unmarked_told o s = inr (λ h. h)

  by_mark_told : (o : OpKey) (s : Status) (x : Option Status) → Told (MatchOption x (UnmarkedStatus P o s) (λ t. s ≡ t))
  by_mark_told o s None = unmarked_told o s
  by_mark_told o s (Some t) = same_status s t

  pub status_told : (o : OpKey) (s : Status) → Told (HasStatus P o s)
  status_told o s = told_has P o (λ op. MatchOption (marked_status op.mark) (UnmarkedStatus P o s) (λ t. s ≡ t)) (λ op e. by_mark_told o s (marked_status op.mark))

  -- where not all are satisfied there is one that is live
  some_live_of : (o : OpKey) → ¬ AllPredecessorsSatisfied P o → (p : OpKey) × LivePredecessor P p o
  some_live_of o h = elim (some_live_told o) [ inl some ↦ some | inr none ↦ absurd (h (λ p live. absurd (none (p, live)))) ]

  -- ---- one status at most

  abbrev picked : OpKey → Status
  picked o = pick (is_told (satisfied_told o)) (is_told (some_live_told o)) (is_told (all_satisfied_told o)) (is_told (follows_told o))

  picks : (o : OpKey) (a b c d : Bool) → is_told (satisfied_told o) ≡ a → is_told (some_live_told o) ≡ b → is_told (all_satisfied_told o) ≡ c → is_told (follows_told o) ≡ d → picked o ≡ pick a b c d
  picks o a b c d e f g h = λ i. pick (e i) (f i) (g i) (h i)

  unmarked_is_picked : (o : OpKey) (s : Status) → UnmarkedStatus P o s → s ≡ picked o
  unfolding pick
  unmarked_is_picked o status.Complete h = sym (picks o true _ _ _ (told_if (satisfied_told o) h) refl refl refl)
  unmarked_is_picked o status.Arriving h = sym (picks o false false _ _ (told_not (satisfied_told o) h.0) (told_not (some_live_told o) (λ some. h.1 some.0 some.1)) refl refl)
  unmarked_is_picked o status.ReadyAfterNonreporting h = sym (picks o false true true true (told_not (satisfied_told o) h.0) (told_if (some_live_told o) (h.2.0, h.2.1)) (told_if (all_satisfied_told o) h.1) (told_if (follows_told o) h.2))
  unmarked_is_picked o status.Ready h = sym (picks o false true true false (told_not (satisfied_told o) h.0) (told_if (some_live_told o) h.2) (told_if (all_satisfied_told o) h.1) (told_not (follows_told o) h.3))
  unmarked_is_picked o status.Waiting h = sym (picks o false true false _ (told_not (satisfied_told o) h.0) (told_if (some_live_told o) (some_live_of o h.1)) (told_not (all_satisfied_told o) h.1) refl)
  unmarked_is_picked o s h = absurd h

  same_told : (o : OpKey) (s t : Status) (x : Option Status) → MatchOption x (UnmarkedStatus P o s) (λ u. s ≡ u) → MatchOption x (UnmarkedStatus P o t) (λ u. t ≡ u) → s ≡ t
  same_told o s t None h k = unmarked_is_picked o s h ∙ sym (unmarked_is_picked o t k)
  same_told o s t (Some u) h k = h ∙ sym k

  pub one_status : (o : OpKey) (s t : Status) → HasStatus P o s → HasStatus P o t → s ≡ t
  one_status o s t h k =
      let same : k.0 ≡ h.0 = same_Some k.0 h.0 (sym k.1 ∙ h.1) in
      same_told o s t (marked_status h.0.mark) h.2 (subst (λ x. MatchOption (marked_status x.mark) (UnmarkedStatus P o t) (λ u. t ≡ u)) same k.2)

  -- ---- and one at least

  the_preds : OpKey → Preds
  the_preds o = record { live = is_told (some_live_told o); satisfied = is_told (all_satisfied_told o); nonreporting = is_told (follows_told o) }

  are_preds : (o : OpKey) → ArePreds P o (the_preds o)
  unfolding the_preds
  are_preds o = record {
    live = (if_told (some_live_told o), told_if (some_live_told o));
    satisfied = (if_told (all_satisfied_told o), told_if (all_satisfied_told o));
    nonreporting = (if_told (follows_told o), told_if (follows_told o));
  }

pub satisfied_is_told : SatisfiedIsTold
satisfied_is_told P valid o = satisfied_told P valid.acyclic o

pub some_status : (P : Contents) → IsValid P → (o : OpKey) → IsInPlan P o → (s : Status) × HasStatus P o s
some_status P valid o h =
    let w = is_found (get P.workstations h.0.workstation) (valid.have_workstations o h.0 h.1) in
    (_, status_is P o h.0 w.0 (the_preds P valid.acyclic o) h.1 w.1 (are_preds P valid.acyclic o) h.0.mark refl)

pub each_has_one_status : EachHasOneStatus
each_has_one_status P valid o h = let s = some_status P valid o h in (s.0, s.1, λ t k. one_status P valid.acyclic o t s.0 k s.1)
