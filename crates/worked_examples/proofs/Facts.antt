-- Statuses and latest starts, one operation after another: from what is known of a predecessor or a successor.
use Rattle.std.proofs.Common.{arith, ◌≡◌, ◌≢◌, inl, inr, refl, sym, ◌∙◌, ap, subst, true≢false, ℕ, pos, Bool, true, false, not, List, [], ◌∷◌, Some, Decides, MatchOption, option_map}
use Rattle.std.specs.Prelude.{ℤ, ◌-ℤ◌, ◌≤ℤ◌}
use Rattle.std.proofs.lemmas.Int.{ints}
use Rattle.std.proofs.lemmas.List.Sums.{sum_by-cons}
use Rattle.std.specs.FinMap.{get}
use Rattle.plan_basics.specs.declared.Attr.{Attr}
use Rattle.plan_basics.specs.declared.Attr.TheVariants as attribute
use Rattle.plan_basics.specs.declared.keys.OpKey.{OpKey}
use Rattle.operation_graph.specs.Paths.{IsPathBy}
use Rattle.latest_start.specs.LeastStart.{IsLeastStart, start_by}
use Rattle.status_rules.specs.Table.{marked_status, reports, status_by}
use Rattle.status_rules.specs.declared.Mark.{Mark}
use Rattle.status_rules.specs.declared.Mark.TheVariants as mark
use Rattle.status_rules.specs.declared.Preds.{Preds}
use Rattle.status_rules.specs.declared.Status.{Status}
use Rattle.status_rules.specs.declared.Status.TheVariants as status
use Rattle.status_rules.specs.LeastSet.{by_given}
use Rattle.plan_model.specs.Contents.{Contents, attribute_at, HasAttribute, Operation, Precedes}
use Rattle.plan_model.specs.Status.{ArePreds, HasStatus, IsReady, IsSatisfied, UnmarkedStatus}
use Rattle.plan_laws.proofs.Decide.{invert}
use Rattle.std.proofs.lemmas.Option.{same_Some}
use Rattle.plan_laws.proofs.Tables.{status_is}
use Rattle.workstations.specs.Workstations.{Workstation}
use Rattle.plan_basics.specs.Keys.{Name}

-- ---- statuses

-- complete or deleted
abbrev pub is_over : Status → Bool
is_over status.Complete = true
is_over status.Deleted = true
is_over _ = false

-- no predecessor
abbrev pub none_before : Preds
none_before = record { live = false; satisfied = true; nonreporting = false }

-- one live predecessor, which has this status, and reports or not
abbrev pub one_is_before : Status → Bool → Preds
one_is_before s nonreporting = record { live = true; satisfied = is_over s; nonreporting = nonreporting }

by_status : (P : Contents) (o : OpKey) (s : Status) → UnmarkedStatus P o s → Decides (is_over s) (IsSatisfied P o)
by_status P o status.Complete h = (λ e. h, λ s. refl)
by_status P o status.Arriving h = (λ e. absurd (true≢false (sym e)), λ s. absurd (h.0 s))
by_status P o status.ReadyAfterNonreporting h = (λ e. absurd (true≢false (sym e)), λ s. absurd (h.0 s))
by_status P o status.Ready h = (λ e. absurd (true≢false (sym e)), λ s. absurd (h.0 s))
by_status P o status.Waiting h = (λ e. absurd (true≢false (sym e)), λ s. absurd (h.0 s))
by_status P o _ h = absurd h

module _ (P : Contents) (o : OpKey) (op : Operation) (is : get P.operations o ≡ Some op) where
  -- a mark other than none, done and deleted
  under_way : (op.mark ≢ mark.Done) → (op.mark ≢ mark.Deleted) → (op.mark ≢ mark.Unmarked) → Decides false (IsSatisfied P o)
  under_way done deleted unmarked = (
    λ e. absurd (true≢false (sym e)),
    λ s.
        let c = invert P s in
        let e : c.0 ≡ op = same_Some c.0 op (sym c.1 ∙ is) in
        elim c.2 [
          | inl d ↦ absurd (done (ap (λ z. z.mark) (sym e) ∙ d))
          | inr (inl d) ↦ absurd (deleted (ap (λ z. z.mark) (sym e) ∙ d))
          | inr (inr u) ↦ absurd (unmarked (ap (λ z. z.mark) (sym e) ∙ u.0))
        ],
  )

  at_mark : (s : Status) → (m : Mark) → op.mark ≡ m → MatchOption (marked_status m) (UnmarkedStatus P o s) (λ t. s ≡ t) → Decides (is_over s) (IsSatisfied P o)
  at_mark s mark.Unmarked e h = by_status P o s h
  at_mark s mark.Done e h = subst (λ t. Decides (is_over t) (IsSatisfied P o)) (sym h) (λ k. by_given (op, is, inl e), λ k. refl)
  at_mark s mark.Deleted e h = subst (λ t. Decides (is_over t) (IsSatisfied P o)) (sym h) (λ k. by_given (op, is, inr e), λ k. refl)
  at_mark s mark.Named e h = subst (λ t. Decides (is_over t) (IsSatisfied P o)) (sym h) (under_way (λ k. cc) (λ k. cc) (λ k. cc))
  at_mark s mark.Running e h = subst (λ t. Decides (is_over t) (IsSatisfied P o)) (sym h) (under_way (λ k. cc) (λ k. cc) (λ k. cc))
  at_mark s mark.Interrupted e h = subst (λ t. Decides (is_over t) (IsSatisfied P o)) (sym h) (under_way (λ k. cc) (λ k. cc) (λ k. cc))
  at_mark s (mark.Error code) e h = subst (λ t. Decides (is_over t) (IsSatisfied P o)) (sym h) (under_way (λ k. cc) (λ k. cc) (λ k. cc))
  at_mark s mark.Undecided e h = subst (λ t. Decides (is_over t) (IsSatisfied P o)) (sym h) (under_way (λ k. cc) (λ k. cc) (λ k. cc))

  -- an operation's status shows whether it is satisfied
  pub satisfied_by_status : (s : Status) → HasStatus P o s → Decides (is_over s) (IsSatisfied P o)
  satisfied_by_status s h =
      at_mark s op.mark refl (subst (λ x. MatchOption (marked_status x.mark) (UnmarkedStatus P o s) (λ t. s ≡ t)) (same_Some h.0 op (sym h.1 ∙ is)) h.2)

pub preds_of_none : (P : Contents) (o : OpKey) → ((p : OpKey) → Precedes P p o → ⊥) → ArePreds P o none_before
preds_of_none P o never = record {
  live = (λ e. absurd (true≢false (sym e)), λ h. absurd (never h.0 h.1.0));
  satisfied = (λ e p live. absurd (never p live.0), λ h. refl);
  nonreporting = (λ e. absurd (true≢false (sym e)), λ h. absurd (never h.0 h.1.0));
}

pub preds_of_one : (P : Contents) (o p : OpKey) (op : Operation) (s : Status) (n : Bool) → Precedes P p o → ((q : OpKey) → Precedes P q o → q ≡ p)
    → get P.operations p ≡ Some op → op.mark ≢ mark.Deleted → HasStatus P p s → Decides n (HasAttribute P op.workstation attribute.Nonreporting) → ArePreds P o (one_is_before s n)
preds_of_one P o p op s n before only is not_deleted has told =
    let d = satisfied_by_status P p op is s has in
    record {
      live = (λ e. (p, (before, (op, is, not_deleted))), λ h. refl);
      satisfied = (
        λ e q live. subst (IsSatisfied P) (sym (only q live.0)) (d.0 e),
        λ all. d.1 (all p (before, (op, is, not_deleted))),
      );
      nonreporting = (
        λ e. (p, (before, (op, is, not_deleted)), (op, is, told.0 e)),
        λ h.
            let same : h.2.0 ≡ op = same_Some h.2.0 op (sym h.2.1 ∙ ap (get P.operations) (only h.0 h.1.0) ∙ is) in
            told.1 (subst (λ x. HasAttribute P x.workstation attribute.Nonreporting) same h.2.2),
      );
    }

told_attribute : (a : Attr) → Decides (not (reports a)) (a ≡ attribute.Nonreporting)
told_attribute attribute.Nonreporting = (λ e. refl, λ e. refl)
told_attribute attribute.Automatic = (λ e. absurd (true≢false (sym e)), λ e. cc)
told_attribute attribute.StartAndCompletion = (λ e. absurd (true≢false (sym e)), λ e. cc)
told_attribute attribute.CompletionOnly = (λ e. absurd (true≢false (sym e)), λ e. cc)

-- whether a workstation doesn't report
pub told_nonreporting : (P : Contents) (w : Name) (ws : Workstation) → get P.workstations w ≡ Some ws → Decides (not (reports ws.attribute)) (HasAttribute P w attribute.Nonreporting)
told_nonreporting P w ws is =
    let d = told_attribute ws.attribute in
    let found : attribute_at P w ≡ Some ws.attribute = ap (option_map (λ z. z.attribute)) is in
    (λ e. found ∙ ap Some (d.0 e), λ h. d.1 (same_Some ws.attribute attribute.Nonreporting (sym found ∙ h)))

-- the status of an operation without predecessors
pub status_of_first : (P : Contents) (o : OpKey) (op : Operation) (ws : Workstation) → get P.operations o ≡ Some op → get P.workstations op.workstation ≡ Some ws → ((p : OpKey) → Precedes P p o → ⊥)
    → HasStatus P o (status_by op.mark op.held op.nop ws.attribute none_before)
status_of_first P o op ws is w never = status_is P o op ws none_before is w (preds_of_none P o never) op.mark refl

-- the status of an operation with one predecessor, from the predecessor's
pub status_of_next : (P : Contents) (o : OpKey) (op : Operation) (ws : Workstation) (p : OpKey) (before : Operation) (there : Workstation) (s : Status)
    → get P.operations o ≡ Some op → get P.workstations op.workstation ≡ Some ws → get P.operations p ≡ Some before → get P.workstations before.workstation ≡ Some there
    → before.mark ≢ mark.Deleted → Precedes P p o → ((q : OpKey) → Precedes P q o → q ≡ p) → HasStatus P p s
    → HasStatus P o (status_by op.mark op.held op.nop ws.attribute (one_is_before s (not (reports there.attribute))))
status_of_next P o op ws p before there s is w is_p w_p lives edge only has =
    status_is P o op ws (one_is_before s (not (reports there.attribute))) is w (preds_of_one P o p before s (not (reports there.attribute)) edge only is_p lives has (told_nonreporting P before.workstation there w_p)) op.mark refl

-- what a status says of an operation without a mark
pub unmarked_has : (P : Contents) (o : OpKey) (op : Operation) (s : Status) → get P.operations o ≡ Some op → op.mark ≡ mark.Unmarked → HasStatus P o s → UnmarkedStatus P o s
unmarked_has P o op s is none h = subst (λ m. MatchOption (marked_status m) (UnmarkedStatus P o s) (λ t. s ≡ t)) (ap (λ x. x.mark) (same_Some h.0 op (sym h.1 ∙ is)) ∙ none) h.2

-- an operation that waits isn't ready
pub waiting_is_not_ready : (P : Contents) (o : OpKey) (op : Operation) → get P.operations o ≡ Some op → op.mark ≡ mark.Unmarked → HasStatus P o status.Waiting → IsReady P o → ⊥
waiting_is_not_ready P o op is none waits ready =
    let w = unmarked_has P o op status.Waiting is none waits in
    elim ready [
      | inl h ↦ let k = unmarked_has P o op status.Arriving is none h in w.1 (λ p live. absurd (k.1 p live))
      | inr (inl h) ↦ let k = unmarked_has P o op status.ReadyAfterNonreporting is none h in w.1 k.1
      | inr (inr h) ↦ let k = unmarked_has P o op status.Ready is none h in w.1 k.1
    ]

-- an operation with a mark isn't ready
pub marked_is_not_ready : (P : Contents) (o : OpKey) (op : Operation) (s : Status) → get P.operations o ≡ Some op → marked_status op.mark ≡ Some s → (s ≢ status.Arriving) → (s ≢ status.ReadyAfterNonreporting) → (s ≢ status.Ready) → IsReady P o → ⊥
marked_is_not_ready P o op s is told a b c ready =
    elim ready [
      | inl h ↦ a (sym (told_alone status.Arriving h))
      | inr (inl h) ↦ b (sym (told_alone status.ReadyAfterNonreporting h))
      | inr (inr h) ↦ c (sym (told_alone status.Ready h))
    ]
  where
    told_alone : (t : Status) → HasStatus P o t → t ≡ s
    told_alone t h = subst (λ x. MatchOption x (UnmarkedStatus P o t) (λ z. t ≡ z)) (ap (λ x. marked_status x.mark) (same_Some h.0 op (sym h.1 ∙ is)) ∙ told) h.2

-- ---- latest starts

module _ {K : Type 0} (duration deadline : K → ℕ) where
  start_at : (a : K) (d e : ℕ) → duration a ≡ d → deadline a ≡ e → start_by duration deadline a [] ≡ pos e -ℤ pos d
  start_at a d e is_d is_e = omega (arith, ints)

  start_before : (a b : K) (rest : List K) (d : ℕ) → duration a ≡ d → start_by duration deadline a (b ∷ rest) ≡ start_by duration deadline b rest -ℤ pos d
  start_before a b rest d is_d = let s = sum_by-cons duration a (b ∷ rest) in omega (arith, ints)

module _ {K : Type 0} {edge : K → K → Type 0} {live : K → Type 0} {duration deadline : K → ℕ} where
  -- without a successor: the deadline less the duration
  pub latest_of_last : (a : K) (d e : ℕ) (v : ℤ) → ((b : K) → edge a b → ⊥) → duration a ≡ d → deadline a ≡ e → v ≡ pos e -ℤ pos d → IsLeastStart edge live duration deadline a v
  latest_of_last a d e v never is_d is_e is = record {
    of_a_path = ([], tt, is ∙ sym (start_at duration deadline a d e is_d is_e));
    least = least;
  }
    where
      least : (rest : List K) → IsPathBy edge live a rest → v ≤ℤ start_by duration deadline a rest
      least [] path = let s = start_at duration deadline a d e is_d is_e in omega (arith, ints)
      least (b ∷ rest) path = absurd (never b path.0)

  -- with one successor, whose latest start is no later than the deadline
  pub latest_of_one : (a b : K) (d e : ℕ) (v w : ℤ) → edge a b → live b → ((c : K) → edge a c → c ≡ b) → duration a ≡ d → deadline a ≡ e → w ≤ℤ pos e → IsLeastStart edge live duration deadline b w → v ≡ w -ℤ pos d → IsLeastStart edge live duration deadline a v
  latest_of_one a b d e v w after lives only is_d is_e within of_b is = record {
    of_a_path = (b ∷ of_b.of_a_path.0, (after, lives, of_b.of_a_path.1), let s = start_before duration deadline a b of_b.of_a_path.0 d is_d in let k = of_b.of_a_path.2 in omega (arith, ints));
    least = least;
  }
    where
      least : (rest : List K) → IsPathBy edge live a rest → v ≤ℤ start_by duration deadline a rest
      least [] path = let s = start_at duration deadline a d e is_d is_e in omega (arith, ints)
      least (c ∷ rest) path =
          let k = of_b.least rest (subst (λ z. IsPathBy edge live z rest) (only c path.0) path.2) in
          let s = start_before duration deadline a c rest d is_d in
          let t : start_by duration deadline c rest ≡ start_by duration deadline b rest = ap (λ z. start_by duration deadline z rest) (only c path.0) in
          omega (arith, ints)

  -- there is one latest start
  pub one_latest : (a : K) (v w : ℤ) → IsLeastStart edge live duration deadline a v → IsLeastStart edge live duration deadline a w → v ≡ w
  one_latest a v w x y =
      let p = x.least y.of_a_path.0 y.of_a_path.1 in
      let q = y.least x.of_a_path.0 x.of_a_path.1 in
      let r = x.of_a_path.2 in
      let s = y.of_a_path.2 in
      omega (arith, ints)
