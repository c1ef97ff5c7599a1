-- What a request is told by its number and its text is its one answer.
use Rattle.std.proofs.Common.{◌≡◌, ◌↔◌, inl, inr, refl, sym, subst, ap, arith, ◌+◌, Option}
use Rattle.std.specs.FinMap.{get}
use Rattle.plan_laws.specs.plan_model.specs.Plan.{no_plan}
use Rattle.plan_laws.proofs.Repeating.{Again as IsAgain, again, one_numbered_step}
use Rattle.plan_laws.specs.plan_records.specs.Answer.{Answer, accepted, refused}
use Rattle.plan_laws.specs.plan_records.specs.Step.{AnswersAgain, Numbered, Receipt, Receipts, last_number}
use Rattle.tracker_receipts.specs.declared.judging.Judged.{Judged}
use Rattle.tracker_receipts.specs.declared.judging.Judged.TheVariants.{New, Again, Refused}
use Rattle.tracker_receipts.specs.Judging.{IsAnsweredBy, IsJudged, IsNew}

-- what is answered again hasn't the next number
not_next_of : (last : Option Receipt) (n : Numbered) (x : Answer) → IsAgain last n x → n.number ≡ last_number last + 1 → ⊥
not_next_of last n x (inl h) next = omega (arith, h.1.2, ap last_number h.1.0, next)
not_next_of last n x (inr (inl h)) next = omega (arith, h.1.2, ap last_number h.1.0, next)
not_next_of last n x (inr (inr (inl (inl less, e)))) next = omega (arith, less, next)
not_next_of last n x (inr (inr (inl (inr none, e)))) next = omega (arith, none, next)
not_next_of last n x (inr (inr (inr h))) next = let more = h.0 in omega (arith, more, next)

module _ (T : Receipts) (n : Numbered) where
  next_is_new : (x : Answer) → AnswersAgain (get T n.tracker) n x → n.number ≡ last_number (get T n.tracker) + 1 → ⊥
  next_is_new x h = not_next_of (get T n.tracker) n x (again (get T n.tracker) n x h)

  one_answer : (x y : Answer) → AnswersAgain (get T n.tracker) n x → AnswersAgain (get T n.tracker) n y → x ≡ y
  one_answer x y h k = (one_numbered_step no_plan no_plan no_plan T T T n x y (inl (h, refl, refl)) (inl (k, refl, refl))).0

  pub told_new : (j : Judged) → IsJudged (get T n.tracker) n j → IsNew j ↔ (n.number ≡ last_number (get T n.tracker) + 1)
  told_new New h = (λ _. h, λ _. tt)
  told_new (Again named) h = (λ e. absurd e, λ next. absurd (next_is_new (accepted named.now) h next))
  told_new (Refused r) h = (λ e. absurd e, λ next. absurd (next_is_new (refused r) h next))

  pub told_again : (j : Judged) → IsJudged (get T n.tracker) n j → (reply : Answer) → AnswersAgain (get T n.tracker) n reply ↔ IsAnsweredBy j reply
  told_again New h reply = (λ a. next_is_new reply a h, λ e. absurd e)
  told_again (Again named) h reply = (λ a. one_answer reply (accepted named.now) a h, λ e. subst (AnswersAgain (get T n.tracker) n) (sym e) h)
  told_again (Refused r) h reply = (λ a. one_answer reply (refused r) a h, λ e. subst (AnswersAgain (get T n.tracker) n) (sym e) h)
