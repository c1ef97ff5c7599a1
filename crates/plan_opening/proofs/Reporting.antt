-- Contents with what rows of operations say of them.
use Rattle.std.proofs.Common.{◌≡◌, ◌≢◌, refl, sym, ap, ◌∙◌, ℕ, ◌+◌, ◌<◌, List, [], ◌∷◌, ◌++◌, take, length, get_or}
use Rattle.std.proofs.lemmas.List.{take_more}
use Rattle.plan_basics.specs.Keys.{Name}
use Rattle.plan_basics.specs.Names.{IsName}
use Rattle.status_rules.specs.declared.Mark.TheVariants as mark
use Rattle.plan_model.specs.Contents.{Contents}
use Rattle.plan_model.specs.Valid.{IsValid}
use Rattle.plan_records.specs.Changes.{is_at, revised}
use Rattle.plan_records.specs.declared.PlanRow.{PlanRow}
use Rattle.plan_records.specs.declared.PlanRow.TheVariants as row
use Rattle.plan_records.specs.declared.OperationRow.{OperationRow}
use Rattle.plan_rows.specs.plan_laws.proofs.Revising.{valid_revised, with_state}
use Rattle.plan_opening.specs.Restoring.{reported, reported_by, with_report}

-- ---- they stay valid
pub report_valid : (r : OperationRow) (P : Contents) → ((code : Name) → r.mark ≡ mark.Error code → IsName 4 code) → IsValid P → IsValid (revised (is_at r.op) (with_report r) P)
report_valid r P code valid = valid_revised (is_at r.op) (with_report r) P (λ op. refl) (λ op. refl) (λ o op e t is. with_state is r.mark r.held r.nop code) valid

-- ---- one row after another
reported_last : (rows : List PlanRow) (r : PlanRow) (P : Contents) → reported (rows ++ r ∷ []) P ≡ reported_by r (reported rows P)
reported_last [] r P = refl
reported_last (x ∷ rows) r P = reported_last rows r (reported_by x P)

pub reported_more : (rows : List PlanRow) (i : ℕ) (r : PlanRow) → i < length rows → r ≡ get_or rows i r → (P : Contents) → reported_by r (reported (take i rows) P) ≡ reported (take (i + 1) rows) P
reported_more rows i r lt is P =
    sym (reported_last (take i rows) r P) ∙ ap (λ rs. reported rs P) (ap (λ (x : PlanRow). take i rows ++ x ∷ []) is ∙ sym (take_more rows i r lt))

-- a row of no operation says nothing of that
pub passed_over : (r : PlanRow) → ((x : OperationRow) → r ≢ row.Operation x) → (P : Contents) → reported_by r P ≡ P
passed_over (row.Operation x) other P = absurd (other x refl)
passed_over _ other P = refl
