-- What a page says of starts that aren't known.
use Rattle.std.proofs.lemmas.List.Sums.{length-filter}
use Rattle.std.specs.Prelude.{◌==◌, codes, cond, count_by, decimal, drop}
use Rattle.std.proofs.Common.{◌≡◌, ◌∙◌, refl, sym, ap, subst, ℕ, zero, suc, Bool, true, false, not, ◌&&◌, List, [], ◌∷◌, length, filter, Contains}
use Rattle.forecast_texts.specs.plan_outlooks.specs.Forecasts.{Forecast, IsForecastOf, IsSinceUnknown}
use Rattle.forecast_texts.specs.plan_outlooks.specs.Operations.{IsOperationOutlook}
use Rattle.forecast_texts.specs.plan_outlooks.specs.Outlooks.{AreOutlooks}
use Rattle.forecast_texts.specs.plan_outlooks.specs.declared.rows.OperationOutlook.{OperationOutlook}
use Rattle.forecast_texts.specs.plan_outlooks.specs.declared.rows.Outlooks.{Outlooks}
use Rattle.plan_basics.proofs.Members.{contains_head, contains_none, mapped_contains}
use Rattle.plan_basics.specs.declared.keys.OpKey.{OpKey}
use Rattle.plan_model.specs.ready_list.proofs.Members.{contains_filter, contains_from_filter}
use Rattle.board_pages.specs.Choices.{is_going_since_unknown}
use Rattle.board_pages.specs.Laws.{UnknownIsTold}
use Rattle.html_pages.specs.Pieces.{Markup, Part, Text, filled, first_of}
use Rattle.board_pages.specs.Pages.{unknown_count, unknown_parts}
use Rattle.board_pages.proofs.Going.{begins_if_going}

both : (a b : Bool) → a && not b ≡ true → (a ≡ true) × (b ≡ false)
both true false e = (refl, refl)
both true true e = absurd (cc)
both false b e = absurd (cc)

-- ---- the row of an operation says of it that it is going since an unknown minute exactly where it is so
module _ (F : Forecast) (r : OperationOutlook) (row : IsOperationOutlook F r) where
  is_told : IsSinceUnknown F r.key → is_going_since_unknown r ≡ true
  is_told unknown = ap (λ b. b && not r.is_known) (row.going.1 unknown.0) ∙ row.known.1 unknown

  is_so : is_going_since_unknown r ≡ true → IsSinceUnknown F r.key
  is_so tells = row.known.0 (ap not (both r.is_going r.is_known tells).1)

-- ---- the page

-- a template that isn't empty has pieces
either_piece : (b : Bool) (p q : Part) (ps qs : List Part) → cond b (p ∷ ps) (q ∷ qs) ≡ [] → ⊥
either_piece true p q ps qs e = cc
either_piece false p q ps qs e = cc

some_piece : (b : ℕ) (t : List ℕ) (texts : List (List ℕ)) → filled (b ∷ t) texts ≡ [] → ⊥
unfolding filled
some_piece b t texts e = either_piece (b == 126) (Text (first_of texts)) (Markup (b ∷ [])) (filled t (drop 1 texts)) (filled t texts) e

silent : (n : ℕ) → unknown_parts n ≡ [] → n ≡ 0
silent zero e = refl
silent (suc n) e = absurd (some_piece 46 (codes " Going since an unknown moment: <b>~</b>, each taken to begin at the clock and to last its whole duration") (decimal (suc n) ∷ []) e)

no_length : {X : Type 0} (xs : List X) → length xs ≡ 0 → xs ≡ []
no_length [] e = refl
no_length (x ∷ xs) e = absurd (cc)

no_members : {X : Type 0} (xs : List X) → ((x : X) → Contains xs x → ⊥) → xs ≡ []
no_members [] h = refl
no_members (x ∷ xs) h = absurd (h x (contains_head x xs))

module _ (F : Forecast) (x : Outlooks) (is : IsForecastOf F) (are : AreOutlooks F x) where
  abbrev rows : List OperationOutlook
  rows = x.operations.items

  abbrev key_of : OperationOutlook → OpKey
  key_of r = r.key

  none_where_silent : unknown_count x ≡ [] → (o : OpKey) → ¬ IsSinceUnknown F o
  none_where_silent quiet o = λ so.
      let (r, same, there) = mapped_contains key_of rows o ((are.operations.every o).1 (begins_if_going F is o so.0)) in
      let tells = is_told F r (are.operations.each r there) (subst (IsSinceUnknown F) (sym same) so) in
      let none : filter is_going_since_unknown rows ≡ [] = no_length (filter is_going_since_unknown rows) (length-filter is_going_since_unknown rows ∙ silent (count_by is_going_since_unknown rows) quiet) in
      contains_none r (subst (λ ys. Contains ys r) none (contains_filter is_going_since_unknown rows r tells there))

  silent_where_none : ((o : OpKey) → ¬ IsSinceUnknown F o) → unknown_count x ≡ []
  silent_where_none none =
      let empty : filter is_going_since_unknown rows ≡ [] = no_members (filter is_going_since_unknown rows) (λ r has.
      let (there, tells) = contains_from_filter is_going_since_unknown rows r has in
      none r.key (is_so F r (are.operations.each r there) tells)) in
      ap unknown_parts (sym (length-filter is_going_since_unknown rows) ∙ ap length empty)

pub unknown_is_told : UnknownIsTold
unknown_is_told F x is are = (none_where_silent F x is are, silent_where_none F x is are)
