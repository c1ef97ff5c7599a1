-- Statuses in a plan of lines, by tests that compute.
use Rattle.std.proofs.Common.{◌≡◌, inl, inr, refl, sym, ◌∙◌, ap, subst, true≢false, ℕ, ◌+◌, ◌≤◌, Bool, true, false, not, ◌&&◌, ◌||◌, T, Decides, MatchOption, List, Contains, Option, Some, None, is_some}
use Rattle.std.specs.Prelude.{nat_le}
use Rattle.std.specs.List.{list_all, list_any}
use Rattle.std.specs.FinMap.{find, get, is_sorted}
use Rattle.std.specs.FinSet.{contains-from_list}
use Rattle.std.specs.Ordering.{eq_by_cmp}
use Rattle.std.proofs.lemmas.Bool.{leb-true, le-leb}
use Rattle.std.proofs.lemmas.Option.{none-some, same_Some}
use Rattle.plan_basics.specs.declared.Attr.{Attr}
use Rattle.plan_basics.specs.declared.Attr.TheVariants as attribute
use Rattle.plan_basics.specs.declared.keys.OpKey.{OpKey}
use Rattle.plan_basics.specs.Keys.{name_cmp, occurrence_cmp, operation_cmp, operation_cmp-IsAntisymmetric}
use Rattle.workstations.specs.declared.Capacity.{Capacity}
use Rattle.status_rules.specs.LeastSet.{by_given}
use Rattle.status_rules.specs.Table.{marked_status}
use Rattle.status_rules.specs.declared.Mark.{Mark}
use Rattle.status_rules.specs.declared.Mark.TheVariants as mark
use Rattle.status_rules.specs.declared.Status.{Status}
use Rattle.status_rules.specs.declared.Status.TheVariants as status
use Rattle.plan_model.specs.Contents.{Contents, Has, HasAttribute, IsInPlan, LivePredecessor, Operation}
use Rattle.plan_model.specs.Status.{AllPredecessorsSatisfied, HasStatus, IsReady, IsSatisfied, NeedsNoReport}
use Rattle.plan_model.proofs.Members.{if_member, member_if}
use Rattle.plan_forecast.specs.Ahead.{IsDue, IsGoing}
use Rattle.plan_laws.proofs.Classes.{satisfied_by_status}
use Rattle.plan_laws.proofs.Decide.{invert}
use Rattle.plan_laws.proofs.Pairs.{pair_cmp-IsAntisymmetric, pair_cmp_total}
use Rattle.plan_laws.proofs.Starts.{never_arriving, never_ready, never_star, ready_in_order}
use Rattle.plan_laws.proofs.Tables.{by_mark_of}
use Rattle.worked_examples.specs.Day.{loaded_at}
use Rattle.worked_examples.specs.Written.{Line, Lines, Sheet, line_at, operation_of, plan_of, time_of}
use Rattle.worked_examples.proofs.Given.{given_out_by}
use Rattle.worked_examples.proofs.Literal.{EachEntry, at_entry, found_entry}
use Rattle.worked_examples.proofs.WrittenLines.{attribute_is, both, each_told, either, has_told, if_so, line_of, operations_of, passes, refuted, same_told, some_told}

-- ---- marks and attributes

-- neither deleted nor interrupted
abbrev pub is_plain : Mark → Bool
is_plain mark.Deleted = false
is_plain mark.Interrupted = false
is_plain m = true

-- complete
abbrev pub is_done : Mark → Bool
is_done mark.Done = true
is_done m = false

-- nothing is reported
abbrev pub is_unmarked : Mark → Bool
is_unmarked mark.Unmarked = true
is_unmarked m = false

-- it was named, or its start was reported
abbrev pub is_started : Mark → Bool
is_started mark.Named = true
is_started mark.Running = true
is_started m = false

-- a workstation is there, and of this attribute
abbrev pub is_kind : Attr → Option Attr → Bool
is_kind attribute.Automatic (Some attribute.Automatic) = true
is_kind attribute.StartAndCompletion (Some attribute.StartAndCompletion) = true
is_kind attribute.CompletionOnly (Some attribute.CompletionOnly) = true
is_kind attribute.Nonreporting (Some attribute.Nonreporting) = true
is_kind a x = false

done_told : (m : Mark) → Decides (is_done m) (m ≡ mark.Done)
done_told mark.Done = (λ e. refl, λ e. refl)
done_told m = (λ e. absurd (true≢false (sym e)), λ e. cc)

unmarked_mark : (m : Mark) → Decides (is_unmarked m) (m ≡ mark.Unmarked)
unmarked_mark mark.Unmarked = (λ e. refl, λ e. refl)
unmarked_mark m = (λ e. absurd (true≢false (sym e)), λ e. cc)

started_mark : (m : Mark) → Decides (is_started m) (MatchOption (marked_status m) ⊥ (λ t. status.Started ≡ t))
started_mark mark.Named = (λ e. refl, λ e. refl)
started_mark mark.Running = (λ e. refl, λ e. refl)
started_mark mark.Unmarked = (λ e. absurd (true≢false (sym e)), λ h. absurd h)
started_mark m = (λ e. absurd (true≢false (sym e)), λ e. cc)

kind_told : (a : Attr) (x : Option Attr) → Decides (is_kind a x) (x ≡ Some a)
kind_told attribute.Automatic (Some attribute.Automatic) = (λ e. refl, λ e. refl)
kind_told attribute.StartAndCompletion (Some attribute.StartAndCompletion) = (λ e. refl, λ e. refl)
kind_told attribute.CompletionOnly (Some attribute.CompletionOnly) = (λ e. refl, λ e. refl)
kind_told attribute.Nonreporting (Some attribute.Nonreporting) = (λ e. refl, λ e. refl)
kind_told a x = (λ e. absurd (true≢false (sym e)), λ e. cc)

no_mark : (A : Type 0) (m : Mark) (s : Status) → MatchOption (marked_status m) A (λ t. s ≡ t) → (marked_status m ≡ Some s → ⊥) → m ≡ mark.Unmarked
no_mark A mark.Unmarked s h never = refl
no_mark A m s h never = absurd (never (ap Some (sym h)))

-- ---- the tests

-- what the workstation of a line has given out
abbrev pub taken_at : Sheet → Lines → Line → Capacity
taken_at S lines l = given_out_by l.planned.workstation (find name_cmp l.planned.workstation S.attributes) (operations_of lines)

-- in reach of the tests: its workstation is there, is reported of, and has enough of R1 and R2; its mark is plain, and its occurrence is there
abbrev pub IsInReach : Sheet → Lines → OpKey → Line → Type 0
IsInReach S lines o l =
    (is_some (find name_cmp l.planned.workstation S.attributes) ≡ true)
    × (not (is_kind attribute.Nonreporting (find name_cmp l.planned.workstation S.attributes)) ≡ true)
    × (nat_le ((taken_at S lines l).r1 + 0) S.interval.r1 ≡ true)
    × (nat_le ((taken_at S lines l).r2 + 0) S.interval.r2 ≡ true)
    × (is_plain l.mark ≡ true)
    × (is_some (find occurrence_cmp o.occurrence S.occurrences) ≡ true)

-- each line is so, and they are in the keys' order
abbrev pub IsFit : Sheet → Lines → Type 0
IsFit S lines = EachEntry (IsInReach S lines) lines × T (is_sorted operation_cmp (operations_of lines))

-- the operation of this key is there, and complete
abbrev pub done_at : Lines → OpKey → Bool
done_at lines o = passes (λ l. is_done l.mark) (line_at lines o)

-- it is there
abbrev pub is_there : Lines → OpKey → Bool
is_there lines o = passes (λ l. true) (line_at lines o)

-- it is there, and nothing is reported of it
abbrev pub unmarked_at : Lines → OpKey → Bool
unmarked_at lines o = passes (λ l. is_unmarked l.mark) (line_at lines o)

-- it is started
abbrev pub started_at : Lines → OpKey → Bool
started_at lines o = passes (λ l. is_started l.mark) (line_at lines o)

-- it is on a workstation of this attribute
abbrev pub is_on : Sheet → Lines → Attr → OpKey → Bool
is_on S lines a o = passes (λ l. is_kind a (find name_cmp l.planned.workstation S.attributes)) (line_at lines o)

-- a pair that comes before o doesn't keep it waiting
abbrev pub is_clear : Lines → OpKey → OpKey × OpKey → Bool
is_clear lines o pair = not (eq_by_cmp operation_cmp o pair.1) || (not (is_there lines pair.0) || done_at lines pair.0)

-- nothing is reported of it, and all its predecessors that are there are done
abbrev pub ready_at : Sheet → Lines → OpKey → Bool
ready_at S lines o = unmarked_at lines o && list_all (is_clear lines o) S.pairs

-- it is started, or it is ready where its completion alone is reported
abbrev pub going_at : Sheet → Lines → OpKey → Bool
going_at S lines o = started_at lines o || (ready_at S lines o && is_on S lines attribute.CompletionOnly o)

-- so long after this, if it is known, x is reached
abbrev pub is_over : Option ℕ → ℕ → ℕ → Bool
is_over None duration x = false
is_over (Some b) duration x = nat_le (b + duration) x

-- it is going, and its duration is over at x
abbrev pub due_at : Sheet → Lines → List (OpKey × ℕ) → ℕ → OpKey → Bool
due_at S lines begins x o = going_at S lines o && passes (λ l. is_over (time_of begins o) l.planned.duration x) (line_at lines o)

over_told : (z : Option ℕ) (d x : ℕ) → Decides (is_over z d x) ((b : ℕ) × (z ≡ Some b) × (b + d ≤ x))
over_told None d x = (λ e. absurd (true≢false (sym e)), λ h. absurd (none-some h.0 h.1))
over_told (Some b) d x = (λ e. (b, refl, leb-true _ _ e), λ h. le-leb _ _ (subst (λ n. n + d ≤ x) (sym (same_Some b h.0 h.1)) h.2))

-- ---- what they decide

module _ (S : Sheet) (lines : Lines) (fit : IsFit S lines) where
  abbrev P : Contents
  P = plan_of S lines

  pub in_reach : (o : OpKey) (l : Line) → line_at lines o ≡ Some l → IsInReach S lines o l
  in_reach o l is = at_entry (IsInReach S lines) lines o l fit.0 (found_entry operation_cmp-IsAntisymmetric lines o l is)

  -- it is to be reported, its mark is plain, and it isn't held
  abbrev pub IsCommon : Operation → Type 0
  IsCommon op = (NeedsNoReport P op → ⊥) × (is_plain op.mark ≡ true) × (op.held ≡ false)

  -- so is each operation
  pub common : (o : OpKey) (op : Operation) → get P.operations o ≡ Some op → IsCommon op
  common o op is =
      let k = line_of S lines o op is in
      let reach = in_reach o k.0 k.1 in
      let by : NeedsNoReport P (operation_of k.0) → ⊥ = λ h. elim h [
        | inl nop ↦ true≢false (sym nop)
        | inr non ↦ refuted reach.1 ((kind_told attribute.Nonreporting (find name_cmp k.0.planned.workstation S.attributes)).1 (sym (attribute_is S lines k.0.planned.workstation) ∙ non))
      ] in
      subst IsCommon k.2 (by, reach.4, refl)

  not_deleted : (o : OpKey) (op : Operation) → get P.operations o ≡ Some op → op.mark ≡ mark.Deleted → ⊥
  not_deleted o op is d = true≢false (sym (common o op is).1 ∙ ap is_plain d)

  module _ (o : OpKey) where
    satisfied_is : IsSatisfied P o → Has P o (λ op. op.mark ≡ mark.Done)
    satisfied_is s =
        let c = invert P s in
        (c.0, c.1, elim c.2 [ inl done ↦ done | inr (inl d) ↦ absurd (not_deleted o c.0 c.1 d) | inr (inr u) ↦ absurd ((common o c.0 c.1).0 u.2) ])

    satisfied_told : Decides (done_at lines o) (IsSatisfied P o)
    satisfied_told =
        let d = has_told S lines o (λ l. is_done l.mark) (λ op. op.mark ≡ mark.Done) (λ l is. done_told l.mark) in
        (λ e. let h = d.0 e in by_given (h.0, h.1, inl h.2), λ s. d.1 (satisfied_is s))

    there_told : Decides (is_there lines o) (IsInPlan P o)
    there_told = has_told S lines o (λ l. true) (λ op. Unit {0}) (λ l is. (λ e. tt, λ h. refl))

    unmarked_told : Decides (unmarked_at lines o) (Has P o (λ op. op.mark ≡ mark.Unmarked))
    unmarked_told = has_told S lines o (λ l. is_unmarked l.mark) (λ op. op.mark ≡ mark.Unmarked) (λ l is. unmarked_mark l.mark)

    pub started_told : Decides (started_at lines o) (HasStatus P o status.Started)
    started_told = has_told S lines o (λ l. is_started l.mark) (λ op. MatchOption (marked_status op.mark) ⊥ (λ t. status.Started ≡ t)) (λ l is. started_mark l.mark)

    pub complete_told : Decides (done_at lines o) (HasStatus P o status.Complete)
    complete_told = (
      λ e. let h = satisfied_is (satisfied_told.0 e) in by_mark_of P o h.0 mark.Done status.Complete h.1 h.2 refl,
      λ h. satisfied_told.1 ((satisfied_by_status P o).1 (inl h)),
    )

    pub on_told : (a : Attr) → Decides (is_on S lines a o) (Has P o (λ op. HasAttribute P op.workstation a))
    on_told a = has_told S lines o (λ l. is_kind a (find name_cmp l.planned.workstation S.attributes)) (λ op. HasAttribute P op.workstation a)
        (λ l is. subst (λ x. Decides (is_kind a (find name_cmp l.planned.workstation S.attributes)) (x ≡ Some a)) (sym (attribute_is S lines l.planned.workstation)) (kind_told a (find name_cmp l.planned.workstation S.attributes)))

  -- ---- ready

  module _ (o : OpKey) where
    is_live : (pair : OpKey × OpKey) → Contains S.pairs pair → o ≡ pair.1 → IsInPlan P pair.0 → LivePredecessor P pair.0 o
    is_live pair has at h = (contains-from_list pair_cmp_total S.pairs (pair.0, o) ∙ if_member pair_cmp_total S.pairs (pair.0, o) (subst (λ z. Contains S.pairs (pair.0, z)) (sym at) has), (h.0, h.1, not_deleted pair.0 h.0 h.1))

    is_pair : (p : OpKey) → LivePredecessor P p o → Contains S.pairs (p, o)
    is_pair p live = member_if pair_cmp-IsAntisymmetric S.pairs (p, o) (sym (contains-from_list pair_cmp_total S.pairs (p, o)) ∙ live.0)

    all_told : Decides (list_all (is_clear lines o) S.pairs) (AllPredecessorsSatisfied P o)
    all_told =
        let d = each_told (is_clear lines o) (λ pair. o ≡ pair.1 → IsInPlan P pair.0 → IsSatisfied P pair.0) S.pairs (λ pair has. if_so (same_told o pair.1) (if_so (there_told pair.0) (satisfied_told pair.0))) in
        (λ e p live. d.0 e (p, o) (is_pair p live) refl (live.1.0, live.1.1, tt), λ all. d.1 (λ pair has at h. all pair.0 (is_live pair has at h)))

    abbrev precedes : OpKey × OpKey → Bool
    precedes pair = eq_by_cmp operation_cmp o pair.1 && is_there lines pair.0

    some_before : Decides (list_any precedes S.pairs) ((pair : OpKey × OpKey) × Contains S.pairs pair × ((o ≡ pair.1) × IsInPlan P pair.0))
    some_before = some_told precedes (λ pair. (o ≡ pair.1) × IsInPlan P pair.0) S.pairs (λ pair. both (same_told o pair.1) (there_told pair.0))

    module _ (unmarked : Has P o (λ op. op.mark ≡ mark.Unmarked)) where
      not_satisfied : IsSatisfied P o → ⊥
      not_satisfied s =
          let d = satisfied_is o s in
          let clash : mark.Done ≡ mark.Unmarked = sym d.2 ∙ ap (λ x. x.mark) (same_Some d.0 unmarked.0 (sym d.1 ∙ unmarked.1)) ∙ unmarked.2 in
          cc

      ready_by : AllPredecessorsSatisfied P o → (b : Bool) → list_any precedes S.pairs ≡ b → IsReady P o
      ready_by all true some =
          let p = some_before.0 some in
          inr (inr (by_mark_of P o unmarked.0 mark.Unmarked status.Ready unmarked.1 unmarked.2 (not_satisfied, all, (p.0.0, is_live p.0 p.1 p.2.0 p.2.1), λ f. (common f.0 f.2.0 f.2.1).0 (inr f.2.2))))
      ready_by all false none =
          inl (by_mark_of P o unmarked.0 mark.Unmarked status.Arriving unmarked.1 unmarked.2
          (not_satisfied, λ p live. true≢false (sym (some_before.1 ((p, o), is_pair p live, (refl, (live.1.0, live.1.1, tt)))) ∙ none)))

    -- nothing is reported of what is ready
    pub unmarked_of : IsReady P o → Has P o (λ op. op.mark ≡ mark.Unmarked)
    unmarked_of (inl h) = (h.0, h.1, no_mark _ h.0.mark status.Arriving h.2 (never_arriving h.0.mark))
    unmarked_of (inr (inl h)) = (h.0, h.1, no_mark _ h.0.mark status.ReadyAfterNonreporting h.2 (never_star h.0.mark))
    unmarked_of (inr (inr h)) = (h.0, h.1, no_mark _ h.0.mark status.Ready h.2 (never_ready h.0.mark))

    pub ready_told : Decides (ready_at S lines o) (IsReady P o)
    ready_told =
        let d = both (unmarked_told o) all_told in
        (λ e. let h = d.0 e in ready_by h.0 h.1 (list_any precedes S.pairs) refl, λ r. d.1 (unmarked_of r, ready_in_order P o r))

    -- ---- going, and due

    pub going_told : Decides (going_at S lines o) (IsGoing P o)
    going_told =
        let on = on_told o attribute.CompletionOnly in
        either (started_told o)
        (both ready_told
        (λ e. let h = on.0 e in (h.0, h.1, (h.2, (common o h.0 h.1).2)), λ h. on.1 (h.0, h.1, h.2.0)))

    pub due_told : (begins : List (OpKey × ℕ)) (done : OpKey → Option ℕ) (clock x : ℕ) → Decides (due_at S lines begins x o) (IsDue (record { plan = loaded_at clock P; since = time_of begins; done = done }) o x)
    due_told begins done clock x =
        both going_told
        (has_told S lines o (λ l. is_over (time_of begins o) l.planned.duration x) (λ op. (b : ℕ) × (time_of begins o ≡ Some b) × (b + op.duration ≤ x)) (λ l is. over_told (time_of begins o) l.planned.duration x))
