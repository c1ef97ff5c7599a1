-- What a call is answered at the desk, by how it ended.
use Rattle.std.proofs.Common.{◌≡◌, ◌⊎◌, inl, inr, refl, sym, arith, subst, subst₂, ◌+◌, Bool, true, false, List, Option, Some}
use Rattle.std.proofs.lemmas.Bool.{true≢false, false≢true}
use Rattle.std.specs.FinMap.{get}
use Rattle.plan_basics.specs.declared.Refusal.{Refusal}
use Rattle.plan_basics.specs.declared.Refusal.TheVariants as refusal
use Rattle.plan_basics.specs.declared.keys.OpKey.{OpKey}
use Rattle.plan_core.specs.Provided.{StartsAreProvided}
use Rattle.tracker_receipts.specs.plan_laws.proofs.Receipts.{answer_keeps_receipts}
use Rattle.tracker_receipts.specs.plan_laws.proofs.Running.{answered, plan_answers}
use Rattle.plan_model.specs.Plan.{Plan}
use Rattle.plan_model.specs.Status.{HasStatus}
use Rattle.plan_records.specs.Answer.{Answer, accepted, refused}
use Rattle.plan_records.specs.Run.{Answers, Call, CallStep, State, numbered, plain, usable}
use Rattle.plan_records.specs.Schedules.{IsDeskState}
use Rattle.plan_records.specs.Step.{AnswersAgain, Numbered, Receipt, Step, last_number}
use Rattle.plan_records.specs.declared.Request.{Request}
use Rattle.status_rules.specs.declared.Status.TheVariants as status
use Rattle.desk_tables.specs.Desk.{DeskState, IsCarriedOut, state_of, usability}

-- states of one plan and the same receipts are one
pub states_alike : (s t : State) → s.plan ≡ t.plan → s.receipts ≡ t.receipts → s ≡ t
states_alike s t p q = λ i. record { plan = p i; receipts = q i }

-- a step answers the call
step_answers : (s t : State) (c : Call) (x : Answer) → CallStep s c x t → Answers s usable c x t usable
step_answers s t c x step = answered s t c x (plan_answers s t c x step) step

-- after a fault of the store nothing is carried out
pub reopened : (s : State) (c : Call) (b : Bool) → b ≡ false → Answers s (usability b) c (refused refusal.Reopen) s (usability b)
reopened s c true e = absurd (true≢false e)
reopened s c false e = (refl, refl)

-- a call by which nothing changes
pub same_answers : (s : State) (c : Call) (b : Bool) (x : Answer) → b ≡ true → CallStep s c x s → Answers s (usability b) c x s (usability b)
same_answers s c true x e step = step_answers s s c x step
same_answers s c false x e step = absurd (false≢true e)

-- one for which memory lacked, or that is refused
pub not_prepared : (s : State) (c : Call) (b : Bool) (r : Refusal) → b ≡ true → (r ≡ refusal.Memory) ⊎ CallStep s c (refused r) s → Answers s (usability b) c (refused r) s (usability b)
not_prepared s c b r e (inr step) = same_answers s c b (refused r) e step
not_prepared s c true r e (inl is) = subst (λ x. Answers s usable c (refused x) s usable) (sym is) (refl, refl)
not_prepared s c false r e (inl is) = absurd (false≢true e)

-- so it is of a plain request
pub plain_not_prepared : (s : State) (q : Request) (b : Bool) (r : Refusal) → b ≡ true → (r ≡ refusal.Memory) ⊎ Step s.plan q (refused r) s.plan → Answers s (usability b) (plain q) (refused r) s (usability b)
plain_not_prepared s q b r e (inl is) = not_prepared s (plain q) b r e (inl is)
plain_not_prepared s q b r e (inr step) = not_prepared s (plain q) b r e (inr (step, refl))

-- ---- numbers

-- the kept keys answer a repeated request
pub again_answers : (s : State) (n : Numbered) (b : Bool) (named : List OpKey) → b ≡ true → AnswersAgain (get s.receipts n.tracker) n (accepted named) → Answers s (usability b) (numbered n) (accepted named) s (usability b)
again_answers s n b named e again = same_answers s (numbered n) b (accepted named) e (inl (again, refl, refl))

-- the next number isn't answered again
pub never_again : (last : Option Receipt) (n : Numbered) (x : Answer) → n.number ≡ last_number last + 1 → AnswersAgain last n x → ⊥
never_again (Some receipt) n (accepted chosen) next h = omega (arith, next, h.1)
never_again (Some receipt) n (refused refusal.Reused) next h = omega (arith, next, h.1)
never_again last n (refused refusal.Old) next (inl less) = omega (arith, next, less)
never_again last n (refused refusal.Old) next (inr none) = omega (arith, next, none)
never_again last n (refused refusal.Gap) next h = omega (arith, next, h)
never_again last n x next h = absurd h

-- ---- what starts

-- nothing starts where the plan stays
pub none_starts : (P Q : Plan) (q : Request) (x : Answer) → Q ≡ P → StartsAreProvided P q x Q
none_starts P Q q x same o begun = absurd (begun.0 (subst (λ (z : Plan). HasStatus z.contents o status.Started) same begun.1))

-- a call that was prepared: it names these, and leads to the state t
module _ {S : Type 0} (old new : DeskState S) (c : Call) (named : List OpKey) (t : State) (was : old.is_usable ≡ true) (step : CallStep (state_of old) c (accepted named) t) where
  abbrev AnswersBetween : Answer → Bool → Bool → Type 0
  AnswersBetween x u v = Answers (state_of old) (usability u) c x (state_of new) (usability v)

  pub carried_answers : (x : Answer) → IsCarriedOut old named t x new → AnswersBetween x old.is_usable new.is_usable
  carried_answers (accepted chosen) h =
      let made : CallStep (state_of old) c (accepted chosen) (state_of new) = subst₂ (λ os u. CallStep (state_of old) c (accepted os) u) (sym h.0) (states_alike t (state_of new) (sym h.1) (sym h.2)) step in
      subst₂ (AnswersBetween (accepted chosen)) (sym was) (sym h.3) (step_answers (state_of old) (state_of new) c (accepted chosen) made)
  carried_answers (refused refusal.Memory) h = subst₂ (AnswersBetween (refused refusal.Memory)) (sym was) (sym h.2) (states_alike (state_of new) (state_of old) h.0 h.1, refl)
  carried_answers (refused refusal.Store) h = subst₂ (AnswersBetween (refused refusal.Store)) (sym was) (sym h.2) (states_alike (state_of new) (state_of old) h.0 h.1, refl)
  carried_answers (refused r) h = absurd h

  pub carried_starts : (q : Request) (x : Answer) → IsCarriedOut old named t x new → StartsAreProvided old.plan q (accepted named) t.plan → StartsAreProvided old.plan q x new.plan
  carried_starts q (accepted chosen) h starts = subst₂ (λ os Q. StartsAreProvided old.plan q (accepted os) Q) (sym h.0) (sym h.1) starts
  carried_starts q (refused refusal.Memory) h starts = none_starts old.plan new.plan q (refused refusal.Memory) h.0
  carried_starts q (refused refusal.Store) h starts = none_starts old.plan new.plan q (refused refusal.Store) h.0
  carried_starts q (refused r) h starts = absurd h

-- a step of a legal state leaves a legal one
pub step_legal : (s t : State) (c : Call) (x : Answer) → IsDeskState s → CallStep s c x t → IsDeskState t
step_legal s t c x legal step = answer_keeps_receipts s t usable usable c x legal (step_answers s t c x step)
