-- Intervals that may be taken.
use Rattle.std.proofs.Common.{◌≡◌, refl, sym, ap, subst, ◌∙◌, true, true≢false, List, Option, Some, None, is_some, Result, Ok, Err, IfErr}
use Rattle.std.specs.Option.{IsNone, IsSome}
use Rattle.std.specs.Result.{IsOk, OnOk}
use Rattle.std.specs.FinMap.{get, insert}
use Rattle.plan_basics.specs.declared.Refusal.{Refusal}
use Rattle.plan_basics.specs.declared.Refusal.TheVariants as refusal
use Rattle.plan_basics.specs.Intervals.{OpenInterval}
use Rattle.plan_basics.specs.Keys.{Name, name_cmp_total, name_cmp-IsAntisymmetric}
use Rattle.plan_basics.specs.Refusals.{IsLeastRefusal, NoneRefuses}
use Rattle.plan_records.specs.workstations.specs.Timetables.{MayBeTaken, reopened}
use Rattle.plan_records.specs.workstations.specs.Workstations.{Workstation, with_intervals}
use Rattle.plan_records.specs.plan_model.specs.Contents.{Contents}
use Rattle.plan_records.specs.Acceptance.{MayBeOpenBy}
use Rattle.plan_changes.specs.Intervals.{opened}
use Rattle.plan_changes.proofs.Put.{put_made}

may_be_taken : (P : Contents) (w : Name) (items : List OpenInterval) → NoneRefuses (MayBeOpenBy P w items) → NoneRefuses (MayBeTaken items)
may_be_taken P w items free refusal.Limit = free refusal.Limit
may_be_taken P w items free refusal.BadPlan = free refusal.BadPlan
may_be_taken P w items free _ = tt

-- what isn't absent is there
pub is_there : {A B : Type 0} (r : Option A) (y : Option B) → (IsNone r → y ≡ None) → is_some y ≡ true → IsSome r
is_there (Some x) y absent known = refl
is_there None y absent known = absurd (true≢false (sym known ∙ ap is_some (absent refl)))

-- are taken
pub is_taken : (P : Contents) (w : Name) (items own : List OpenInterval) → own ≡ items → NoneRefuses (MayBeOpenBy P w items)
    → (r : Result (Unit {0}) Refusal) → IfErr r (IsLeastRefusal (MayBeTaken own)) → IsOk r
is_taken P w items own same free (Ok x) h = refl
is_taken P w items own same free (Err e) h = absurd (h.0 (subst (λ zs. MayBeTaken zs e) (sym same) (may_be_taken P w items free e)))

-- and the workstation is open in them
pub reopened_in : {E : Type 0} (items own : List OpenInterval) → own ≡ items → (was now : Name × Workstation) (r : Result (Unit {0}) E) (x : Unit {0}) → r ≡ Ok x → OnOk r (now ≡ reopened own was) → now ≡ reopened items was
reopened_in items own same was now r x is h = subst (λ z. OnOk z (now ≡ reopened own was)) is h ∙ ap (λ zs. reopened zs was) same

-- a workstation that is put in so is opened
pub put_opened : (P : Contents) (k : Name) (items : List OpenInterval) (was now : Name × Workstation) → now ≡ (was.0, with_intervals items was.1) → was.0 ≡ k → get P.workstations k ≡ Some was.1
    → record P { workstations = insert P.workstations now.0 now.1 } ≡ opened k items P
put_opened P k items was now is name found =
    ap (λ (w : Name × Workstation). record P { workstations = insert P.workstations w.0 w.1 }) is
    ∙ ap (λ (n : Name). record P { workstations = insert P.workstations n (with_intervals items was.1) }) name
    ∙ ap (λ m. record P { workstations = m }) (put_made name_cmp_total name_cmp-IsAntisymmetric k (with_intervals items) P.workstations was.1 found)
