-- To name operations that are ready changes nothing of what any operation waits for.
use Rattle.std.proofs.Common.{◌≡◌, ◌≢◌, inl, inr, refl, sym, ◌∙◌, ap, subst, Bool, true, false, cond, List, Option, Some, None, option_map}
use Rattle.std.specs.FinMap.{get}
use Rattle.plan_basics.specs.declared.Attr.TheVariants.{Nonreporting}
use Rattle.plan_basics.specs.declared.keys.OpKey.{OpKey}
use Rattle.status_rules.specs.LeastSet.{by_all_before, by_given}
use Rattle.status_rules.specs.declared.Mark.TheVariants as mark
use Rattle.plan_model.specs.ready_list.specs.Choice.{is_among}
use Rattle.plan_model.specs.Contents.{Contents, Operation, HasAttribute, IsLive}
use Rattle.plan_model.specs.Ready.{named, with_mark}
use Rattle.plan_model.specs.Status.{IsReady, IsSatisfied}
use Rattle.plan_laws.proofs.Kept.{ready_not_satisfied, ready_unmarked}
use Rattle.plan_model.proofs.Looks.{get-named, same_workstation}
use Rattle.plan_laws.specs.plan_drafts.proofs.Needed.{mapped}
use Rattle.std.proofs.lemmas.Bool.{false_from_ne_true}
use Rattle.plan_status.specs.Standings.{NamingKeepsStandings}
use Rattle.plan_status.proofs.Alike.{IsOnNonreporting, standing_alike}

-- the operation, named or not
abbrev pub named_if : Bool → Operation → Operation
named_if b op = cond b (with_mark mark.Named op) op

none_named : (x : Option Operation) → option_map (named_if false) x ≡ x
none_named None = refl
none_named (Some op) = refl

stays_live : (b : Bool) (op : Operation) → op.mark ≢ mark.Deleted → (named_if b op).mark ≢ mark.Deleted
stays_live true op h = λ e. cc
stays_live false op h = h

was_live : (b : Bool) (op : Operation) → (b ≡ true → op.mark ≡ mark.Unmarked) → (named_if b op).mark ≢ mark.Deleted → op.mark ≢ mark.Deleted
was_live true op unmarked h = let u = unmarked refl in λ e. cc
was_live false op unmarked h = h

module _ (P : Contents) (os : List OpKey) where
  abbrev after : Contents
  after = named os P

  pub row_after : (o : OpKey) (op : Operation) → get P.operations o ≡ Some op → get after.operations o ≡ Some (named_if (is_among os o) op)
  row_after o op is = get-named os P o ∙ ap (option_map (named_if (is_among os o))) is

  pub row_before : (o : OpKey) (op : Operation) → get after.operations o ≡ Some op → (was : Operation) × (get P.operations o ≡ Some was) × (named_if (is_among os o) was ≡ op)
  row_before o op is = mapped (named_if (is_among os o)) (get P.operations o) op (sym (get-named os P o) ∙ is)

  pub same_row : (o : OpKey) → is_among os o ≡ false → get after.operations o ≡ get P.operations o
  same_row o e = get-named os P o ∙ ap (λ b. option_map (named_if b) (get P.operations o)) e ∙ none_named (get P.operations o)

  module _ (ready : (k : OpKey) → is_among os k ≡ true → IsReady P k) where
    -- what is satisfied isn't ready, so it isn't named
    pub satisfied_is_other : (o : OpKey) → IsSatisfied P o → is_among os o ≡ false
    satisfied_is_other o s = false_from_ne_true (is_among os o) (λ e. ready_not_satisfied P o (ready o e) s)

    another_mark : (o : OpKey) (op : Operation) → get after.operations o ≡ Some op → op.mark ≢ mark.Named → is_among os o ≡ false
    another_mark o op is other = false_from_ne_true (is_among os o) (λ e.
        let was = row_before o op is in
        other (ap (λ x. x.mark) (sym (subst (λ b. named_if b was.0 ≡ op) e was.2))))

    pub live_after : (p : OpKey) → IsLive P p → IsLive after p
    live_after p live = (named_if (is_among os p) live.0, row_after p live.0 live.1, stays_live (is_among os p) live.0 live.2)

    pub live_before : (p : OpKey) → IsLive after p → IsLive P p
    live_before p live =
        let was = row_before p live.0 live.1 in
        (was.0, was.1, was_live (is_among os p) was.0 (λ e. ready_unmarked P p was.0 was.1 (ready p e)) (subst (λ x. x.mark ≢ mark.Deleted) (sym was.2) live.2))

    pub stays_satisfied : {o : OpKey} → IsSatisfied P o → IsSatisfied after o
    stays_satisfied {o} (by_given h) = by_given (h.0, same_row o (satisfied_is_other o (by_given h)) ∙ h.1, h.2)
    stays_satisfied {o} (by_all_before h before) =
        by_all_before (h.0, same_row o (satisfied_is_other o (by_all_before h before)) ∙ h.1, h.2) (λ p live. stays_satisfied (before p (live.0, live_before p live.1)))

    pub was_satisfied : {o : OpKey} → IsSatisfied after o → IsSatisfied P o
    was_satisfied {o} (by_given h) =
        by_given (h.0, sym (same_row o (another_mark o h.0 h.1 (elim h.2 [ inl done ↦ λ e. cc | inr deleted ↦ λ e. cc ]))) ∙ h.1, h.2)
    was_satisfied {o} (by_all_before h before) =
        by_all_before (h.0, sym (same_row o (another_mark o h.0 h.1 (let u = h.2.0 in λ e. cc))) ∙ h.1, h.2) (λ p live. was_satisfied (before p (live.0, live_after p live.1)))

    pub nonreporting_after : (p : OpKey) → IsOnNonreporting P p → IsOnNonreporting after p
    nonreporting_after p on =
        (named_if (is_among os p) on.0, row_after p on.0 on.1, subst (λ w. HasAttribute P w Nonreporting) (sym (same_workstation (is_among os p) on.0)) on.2)

    pub nonreporting_before : (p : OpKey) → IsOnNonreporting after p → IsOnNonreporting P p
    nonreporting_before p on =
        let was = row_before p on.0 on.1 in
        (was.0, was.1, subst (λ w. HasAttribute P w Nonreporting) (sym (ap (λ x. x.workstation) was.2) ∙ same_workstation (is_among os p) was.0) on.2)

pub naming_keeps_standings : NamingKeepsStandings
naming_keeps_standings P os ready o = standing_alike P (named os P) o
    (λ p. (λ live. (live.0, live_after P os ready p live.1), λ live. (live.0, live_before P os ready p live.1)))
    (λ p _. (stays_satisfied P os ready, was_satisfied P os ready))
    (λ p _. (nonreporting_after P os ready p, nonreporting_before P os ready p))
