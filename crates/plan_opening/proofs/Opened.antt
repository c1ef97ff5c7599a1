-- The plan that was found is the one whose rows these are.
use Rattle.std.proofs.Common.{◌≡◌, sym, ap, subst, ◌∙◌, ℕ, Bool, true, false, List, Option, Some, None, Result, Ok, Err}
use Rattle.std.specs.Prelude.{IfOk, MatchOption}
use Rattle.std.proofs.lemmas.Option.{same_Some}
use Rattle.plan_rows.specs.plan_laws.proofs.Every.{no_plan_is_sound}
use Rattle.plan_model.specs.Contents.{Contents}
use Rattle.plan_model.specs.Plan.{Plan, no_plan, plan_held}
use Rattle.plan_model.specs.Valid.{IsSound}
use Rattle.plan_opening.specs.Opening.{AreContentsOf, AreOfNoPlan, IsPlanOf}
use Rattle.plan_records.specs.Rows.{AreRows}
use Rattle.plan_records.specs.declared.PlanRow.{PlanRow}
use Rattle.plan_opening.specs.These.{AreThese}

module _ (P : Plan) (rows all : List PlanRow) (are : AreRows P all) where
  -- where they are these, they are all rows of the plan too
  pub rows_from_these : AreThese rows all → AreRows P rows
  rows_from_these these = record { has_all = λ r. (λ has. (are.has_all r).0 ((these.has_all r).0 has), λ is. (these.has_all r).1 ((are.has_all r).1 is)); once = these.once }

  -- and the way back
  pub these_from_rows : AreRows P rows → AreThese rows all
  these_from_rows h = record { has_all = λ r. (λ has. (are.has_all r).1 ((h.has_all r).0 has), λ has. (h.has_all r).1 ((are.has_all r).0 has)); once = h.once }

-- what is said of the plan is so
pub told_of : (said : Bool × ℕ) (P : Plan) → ◌≡◌ {A = Option (Bool × ℕ)} (Some said) (Some (P.loaded, P.clock)) → (P.loaded ≡ said.0) × (P.clock ≡ said.1)
told_of said P e = let own = sym (same_Some said (P.loaded, P.clock) e) in (ap (λ (x : Bool × ℕ). x.0) own, ap (λ (x : Bool × ℕ). x.1) own)

-- of every plan that has these rows it is told whether it is loaded, and its clock
module _ (rows : List PlanRow) (loaded : Bool) (clock : ℕ) (told : (P : Plan) → AreRows P rows → (P.loaded ≡ loaded) × (P.clock ≡ clock)) where
  -- where it is loaded, and no contents at that clock have these rows, there is none
  pub none_loaded : loaded ≡ true → ((P : Contents) → ¬ AreContentsOf clock rows P) → AreOfNoPlan rows
  none_loaded is none = λ P h.
      let own = told P h.are_rows in
      let yes : P.loaded ≡ true = own.0 ∙ is in
      let at : P.clock ≡ clock = own.1 in
      none P.contents (record { sound = h.sound.contents; are_rows = subst (λ Q. AreRows Q rows) (λ i. record { loaded = yes i; clock = at i; contents = P.contents }) h.are_rows })

  -- before one is loaded, it is the plan of nothing, or there is none
  pub none_first : loaded ≡ false → ¬ AreRows no_plan rows → AreOfNoPlan rows
  none_first is none = λ P h. none (subst (λ Q. AreRows Q rows) (h.sound.before_load ((told P h.are_rows).0 ∙ is)) h.are_rows)

  pub the_first : AreRows no_plan rows → IsPlanOf rows (plan_held clock None)
  the_first are = subst (λ n. IsPlanOf rows (record no_plan { clock = n })) (told no_plan are).1 (record { sound = no_plan_is_sound; are_rows = are })

-- what is judged of valid contents: they are the plan's, if the plan is sound and these are its rows
pub if_judged :
    {E : Type 0} (rows : List PlanRow) (valid : Contents) (r : Result (Option Contents) E) → IfOk r (λ found. MatchOption found (¬ IsSound valid) (λ sound. sound ≡ valid)) → ((P : Plan) → IsSound P.contents → AreRows P rows → valid ≡ P.contents) →
    IfOk r (λ found. (P : Plan) → IsSound P.contents → AreRows P rows → found ≡ Some P.contents)
if_judged rows valid (Ok (Some s)) told its = λ P sound are. ap Some (told ∙ its P sound are)
if_judged rows valid (Ok None) told its = λ P sound are. absurd (told (subst IsSound (sym (its P sound are)) sound))
if_judged rows valid (Err e) told its = tt

-- of a plan that is loaded where all of these are its rows: it is the one whose rows these are, since no other can be
pub if_loaded :
    {E : Type 0} (clock : ℕ) (rows : List PlanRow) (H : Contents) → IsSound H → ((P : Plan) → IsSound P.contents → AreRows P rows → ◌≡◌ {A = Option Contents} (Some H) (Some P.contents)) → (r : Result (Option Contents) E) →
    IfOk r (λ found. MatchOption found (¬ AreRows (plan_held clock (Some H)) rows) (λ loaded. AreRows (plan_held clock (Some H)) rows × (loaded ≡ H))) →
    IfOk r (λ found. MatchOption found ((P : Contents) → ¬ AreContentsOf clock rows P) (AreContentsOf clock rows))
if_loaded clock rows H sound its (Ok (Some loaded)) (are, same) = record { sound = subst IsSound (sym same) sound; are_rows = subst (λ Q. AreRows (plan_held clock (Some Q)) rows) (sym same) are }
if_loaded clock rows H sound its (Ok None) none = λ P h.
    let same = same_Some H P (its (plan_held clock (Some P)) h.sound h.are_rows) in
    none (subst (λ Q. AreRows (plan_held clock (Some Q)) rows) (sym same) h.are_rows)
if_loaded clock rows H sound its (Err e) told = tt
