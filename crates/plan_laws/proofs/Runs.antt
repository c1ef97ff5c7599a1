-- The accepted requests of a run, taken alone.
use Rattle.std.proofs.Common.{◌≡◌, refl, subst, inl, inr, List, [], ◌∷◌}
use Rattle.plan_basics.specs.declared.Refusal.TheVariants as refusal
use Rattle.plan_records.specs.Answer.{accepted, refused}
use Rattle.plan_basics.specs.declared.Refusal.{Refusal}
use Rattle.plan_basics.specs.declared.keys.OpKey.{OpKey}
use Rattle.plan_records.specs.Run.{AcceptedAlone, Answers, Call, CallStep, Run, State, Usable, accepted_calls, accepted_replies, numbered, plain, to_be_reopened, usable}

-- two states with the same plan and the same receipts
same_state : (s t : State) → t.plan ≡ s.plan → t.receipts ≡ s.receipts → t ≡ s
same_state s t p q = λ i. record { plan = p i; receipts = q i }

refused_call : (s t : State) (c : Call) (r : Refusal) → CallStep s c (refused r) t → t ≡ s
refused_call s t (plain q) r h = same_state s t h.0.is_after h.1
refused_call s t (numbered n) r (inl h) = same_state s t h.1 h.2
refused_call s t (numbered n) r (inr h) = same_state s t h.2.is_after h.3

-- a refusal leaves the state as it was
pub refused_changes_nothing : (s t : State) (u v : Usable) (c : Call) (r : Refusal) → Answers s u c (refused r) t v → t ≡ s
refused_changes_nothing s t usable v c refusal.Memory h = h.0
refused_changes_nothing s t usable v c refusal.Store h = h.0
refused_changes_nothing s t usable v c r h = refused_call s t c r h.0
refused_changes_nothing s t to_be_reopened v c refusal.Reopen h = h.0
refused_changes_nothing s t to_be_reopened v c r h = absurd h

pub accepted_call : (s t : State) (u v : Usable) (c : Call) (chosen : List OpKey) → Answers s u c (accepted chosen) t v → CallStep s c (accepted chosen) t
accepted_call s t usable v c chosen h = h.0
accepted_call s t to_be_reopened v c chosen h = absurd h

pub accepted_alone : AcceptedAlone
accepted_alone s t u v [] [] h = (h.0, refl)
accepted_alone s t u v [] (reply ∷ replies) h = absurd h
accepted_alone s t u v (c ∷ cs) [] h = absurd h
accepted_alone s t u v (c ∷ cs) (accepted chosen ∷ replies) h =
    (h.0, usable, (accepted_call s h.0 u h.1 c chosen h.2, refl), accepted_alone h.0 t h.1 v cs replies h.3)
accepted_alone s t u v (c ∷ cs) (refused r ∷ replies) h =
    subst (λ x. Run x usable (accepted_calls cs replies) (accepted_replies replies) t usable) (refused_changes_nothing s h.0 u h.1 c r h.2) (accepted_alone h.0 t h.1 v cs replies h.3)
