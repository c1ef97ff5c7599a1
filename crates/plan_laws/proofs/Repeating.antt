-- A numbered request has one answer, and so has each call of a run that neither memory nor the store disturbs.
use Rattle.std.proofs.Common.{◌≡◌, ◌≢◌, ◌⊎◌, inl, inr, refl, sym, ◌∙◌, ap, ap₂, subst, arith, ◌+◌, ◌<◌, [], ◌∷◌, Option, Some}
use Rattle.std.specs.FinMap.{get}
use Rattle.plan_basics.specs.declared.Refusal.TheVariants as refusal
use Rattle.plan_laws.proofs.Elements.{first_of_all, rest_of_all}
use Rattle.std.proofs.lemmas.Option.{same_Some}
use Rattle.plan_laws.proofs.Single.{one_step, one_step_by}
use Rattle.plan_laws.specs.Steps.{IsOfThePlan, OneNumberedStep, OneRun}
use Rattle.plan_records.specs.Answer.{Answer, accepted, refused}
use Rattle.plan_records.specs.Run.{Answers, Call, CallStep, Run, State, Usable, numbered, plain, to_be_reopened, usable}
use Rattle.plan_records.specs.Step.{AnswersAgain, Numbered, NumberedMayBeAccepted, Receipt, last_number, receipts_after}

-- ---- a number that isn't the next one

module _ (last : Option Receipt) (n : Numbered) where
  -- the tracker's last number again
  abbrev pub IsLast : Receipt → Type 0
  IsLast receipt = (last ≡ Some receipt) × (0 < n.number) × (n.number ≡ receipt.number)

  abbrev pub IsBehind : Type 0
  IsBehind = (n.number < last_number last) ⊎ (n.number ≡ 0)

  abbrev pub IsAhead : Type 0
  IsAhead = last_number last + 1 < n.number

  -- the four cases of such an answer
  abbrev pub Again : Answer → Type 0
  Again x =
      ((receipt : Receipt) × IsLast receipt × (n.text ≡ receipt.text) × (x ≡ accepted receipt.named))
      ⊎ ((receipt : Receipt) × IsLast receipt × (n.text ≢ receipt.text) × (x ≡ refused refusal.Reused))
      ⊎ (IsBehind × (x ≡ refused refusal.Old))
      ⊎ (IsAhead × (x ≡ refused refusal.Gap))

  not_behind : (receipt : Receipt) → IsLast receipt → IsBehind → ⊥
  not_behind receipt h (inl less) = let e : last_number last ≡ receipt.number = ap last_number h.0 in omega (arith, h.2, e, less)
  not_behind receipt h (inr none) = omega (arith, h.1, none)

  not_ahead : (receipt : Receipt) → IsLast receipt → IsAhead → ⊥
  not_ahead receipt h more = let e : last_number last ≡ receipt.number = ap last_number h.0 in omega (arith, h.2, e, more)

  not_both : IsBehind → IsAhead → ⊥
  not_both (inl less) more = omega (arith, less, more)
  not_both (inr none) more = omega (arith, none, more)

  same_receipt : (a b : Receipt) → IsLast a → IsLast b → a ≡ b
  same_receipt a b h k = same_Some a b (sym h.0 ∙ k.0)

  one_again : (x y : Answer) → Again x → Again y → x ≡ y
  one_again x y (inl h) (inl k) = h.3 ∙ ap (λ r. accepted r.named) (same_receipt h.0 k.0 h.1 k.1) ∙ sym k.3
  one_again x y (inl h) (inr (inl k)) = absurd (k.2 (h.2 ∙ ap (λ r. r.text) (same_receipt h.0 k.0 h.1 k.1)))
  one_again x y (inl h) (inr (inr (inl k))) = absurd (not_behind h.0 h.1 k.0)
  one_again x y (inl h) (inr (inr (inr k))) = absurd (not_ahead h.0 h.1 k.0)
  one_again x y (inr (inl h)) (inl k) = absurd (h.2 (k.2 ∙ ap (λ r. r.text) (same_receipt k.0 h.0 k.1 h.1)))
  one_again x y (inr (inl h)) (inr (inl k)) = h.3 ∙ sym k.3
  one_again x y (inr (inl h)) (inr (inr (inl k))) = absurd (not_behind h.0 h.1 k.0)
  one_again x y (inr (inl h)) (inr (inr (inr k))) = absurd (not_ahead h.0 h.1 k.0)
  one_again x y (inr (inr (inl h))) (inl k) = absurd (not_behind k.0 k.1 h.0)
  one_again x y (inr (inr (inl h))) (inr (inl k)) = absurd (not_behind k.0 k.1 h.0)
  one_again x y (inr (inr (inl h))) (inr (inr (inl k))) = h.1 ∙ sym k.1
  one_again x y (inr (inr (inl h))) (inr (inr (inr k))) = absurd (not_both h.0 k.0)
  one_again x y (inr (inr (inr h))) (inl k) = absurd (not_ahead k.0 k.1 h.0)
  one_again x y (inr (inr (inr h))) (inr (inl k)) = absurd (not_ahead k.0 k.1 h.0)
  one_again x y (inr (inr (inr h))) (inr (inr (inl k))) = absurd (not_both k.0 h.0)
  one_again x y (inr (inr (inr h))) (inr (inr (inr k))) = h.1 ∙ sym k.1

  not_last_next : (receipt : Receipt) → IsLast receipt → n.number ≡ last_number last + 1 → ⊥
  not_last_next receipt h next = let e : last_number last ≡ receipt.number = ap last_number h.0 in omega (arith, h.2, e, next)

  not_next : (x : Answer) → Again x → n.number ≡ last_number last + 1 → ⊥
  not_next x (inl h) next = not_last_next h.0 h.1 next
  not_next x (inr (inl h)) next = not_last_next h.0 h.1 next
  not_next x (inr (inr (inl (inl less, e)))) next = omega (arith, less, next)
  not_next x (inr (inr (inl (inr none, e)))) next = omega (arith, none, next)
  not_next x (inr (inr (inr h))) next = let more = h.0 in omega (arith, more, next)

pub again : (last : Option Receipt) (n : Numbered) (x : Answer) → AnswersAgain last n x → Again last n x
again (Some receipt) n (accepted chosen) h = inl (receipt, (refl, h.0, h.1), h.2, ap accepted h.3)
again (Some receipt) n (refused refusal.Reused) h = inr (inl (receipt, (refl, h.0, h.1), h.2, refl))
again last n (refused refusal.Old) h = inr (inr (inl (h, refl)))
again last n (refused refusal.Gap) h = inr (inr (inr (h, refl)))
again last n x h = absurd h

pub one_numbered_step : OneNumberedStep
one_numbered_step P a b T U V n x y (inl h) (inl k) = (one_again (get T n.tracker) n x y (again (get T n.tracker) n x h.0) (again (get T n.tracker) n y k.0), h.1 ∙ sym k.1, h.2 ∙ sym k.2)
one_numbered_step P a b T U V n x y (inl h) (inr k) = absurd (not_next (get T n.tracker) n x (again (get T n.tracker) n x h.0) k.0)
one_numbered_step P a b T U V n x y (inr h) (inl k) = absurd (not_next (get T n.tracker) n y (again (get T n.tracker) n y k.0) h.0)
one_numbered_step P a b T U V n x y (inr h) (inr k) =
    let one = one_step_by (NumberedMayBeAccepted P T n) P a b n.request x y h.2 k.2 in
    (one.0, one.1, h.3 ∙ ap (receipts_after T n) one.0 ∙ sym k.3)

-- ---- calls and runs

one_call : (s a b : State) (c : Call) (x y : Answer) → CallStep s c x a → CallStep s c y b → (x ≡ y) × (a ≡ b)
one_call s a b (plain q) x y h k =
    let one = one_step s.plan a.plan b.plan q x y h.0 k.0 in
    (one.0, λ i. record { plan = one.1 i; receipts = (h.1 ∙ sym k.1) i })
one_call s a b (numbered n) x y h k =
    let one = one_numbered_step s.plan a.plan b.plan s.receipts a.receipts b.receipts n x y h k in
    (one.0, λ i. record { plan = one.1 i; receipts = one.2 i })

-- an answer of the plan's own is a step
undisturbed : (s t : State) (u v : Usable) (c : Call) (x : Answer) → IsOfThePlan x → Answers s u c x t v → CallStep s c x t × (v ≡ u)
undisturbed s t usable v c (refused refusal.Memory) own h = absurd own
undisturbed s t usable v c (refused refusal.Store) own h = absurd own
undisturbed s t usable v c x own h = h
undisturbed s t to_be_reopened v c (refused refusal.Reopen) own h = absurd own
undisturbed s t to_be_reopened v c x own h = absurd h

pub one_run : OneRun
one_run s u [] [] [] a b v w f g h k = (refl, h.0 ∙ sym k.0, h.1 ∙ sym k.1)
one_run s u [] [] (y ∷ ys) a b v w f g h k = absurd k
one_run s u [] (x ∷ xs) ys a b v w f g h k = absurd h
one_run s u (c ∷ cs) [] ys a b v w f g h k = absurd h
one_run s u (c ∷ cs) (x ∷ xs) [] a b v w f g h k = absurd k
one_run s u (c ∷ cs) (x ∷ xs) (y ∷ ys) a b v w f g h k =
    let p = undisturbed s h.0 u h.1 c x (first_of_all IsOfThePlan x xs f) h.2 in
    let q = undisturbed s k.0 u k.1 c y (first_of_all IsOfThePlan y ys g) k.2 in
    let call = one_call s h.0 k.0 c x y p.0 q.0 in
    let same : Run h.0 h.1 cs ys b w = subst (λ z. Run z h.1 cs ys b w) (sym call.1) (subst (λ z. Run k.0 z cs ys b w) (q.1 ∙ sym p.1) k.3) in
    let rest = one_run h.0 h.1 cs xs ys a b v w (rest_of_all IsOfThePlan x xs f) (rest_of_all IsOfThePlan y ys g) h.3 same in
    (ap₂ (λ z zs. z ∷ zs) call.0 rest.0, rest.1, rest.2)
