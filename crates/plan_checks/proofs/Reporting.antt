-- What the lines of a reported operation come to for the request that reports it.
use Rattle.std.proofs.Common.{◌≡◌, ◌↔◌, ◌⊎◌, inl, inr, refl, sym, subst, ◌∙◌, arith, ℕ, ◌<◌, Option, Some, None, Result, IfErr, OnOk}
use Rattle.std.specs.FinMap.{get}
use Rattle.plan_basics.specs.declared.Attr.{Attr}
use Rattle.plan_basics.specs.declared.Attr.TheVariants as attribute
use Rattle.plan_basics.specs.declared.Refusal.{Refusal}
use Rattle.plan_basics.specs.declared.Refusal.TheVariants as refusal
use Rattle.plan_basics.specs.declared.keys.OpKey.{OpKey}
use Rattle.plan_basics.specs.Keys.{Name}
use Rattle.plan_basics.specs.Refusals.{number_of, IsLeastRefusal, NoneRefuses}
use Rattle.std.proofs.lemmas.Option.{none-some, same_Some}
use Rattle.plan_model.specs.Contents.{Contents, Operation, attribute_at}
use Rattle.plan_records.specs.Acceptance.{MayBeCompleted, MayBeDone, MayBeEnded, MayBeFlagged, MayBeInterrupted, MayBeRerun, MayBeStarted, MayBeUndecided, OfOperation}
use Rattle.plan_records.specs.declared.What.{What}
use Rattle.plan_records.specs.declared.What.TheVariants as what
use Rattle.plan_checks.proofs.Searching.{if_err, if_ok, if_refused}
use Rattle.plan_checks.specs.Bars.{FailsAt, MeetsAll}
use Rattle.plan_records.specs.Changes.{operation_of}
use Rattle.derived_figures.specs.Reports.{IsReported}
use Rattle.derived_figures.specs.declared.outlines.ReportedOperation.{ReportedOperation}

-- ---- one operation's lines

module _ (P : Contents) (o : OpKey) (rest : Operation → Refusal → Type 0) where
  -- what is so of the operation is so of the request, but that it is there
  of_found : (op : Operation) → get P.operations o ≡ Some op → (r : Refusal) → rest op r → OfOperation P o rest r
  of_found op is refusal.UnknownOperation may = (op, is, tt)
  of_found op is r may = λ x e. subst (λ z. rest z r) (same_Some op x (sym is ∙ e)) may

  not_of_found : (op : Operation) → get P.operations o ≡ Some op → rest op refusal.UnknownOperation → (r : Refusal) → ¬ rest op r → ¬ OfOperation P o rest r
  not_of_found op is known refusal.UnknownOperation never may = never known
  not_of_found op is known r never may = never (may op is)

-- what all plans say, this one says of the operation
module _ (P : Contents) (o : OpKey) (x : ReportedOperation) (lines : Contents → OpKey → Refusal → Type 0) (known : IsReported P o x) where
  pub met_at : {T E : Type 0} (r : Result T E) → OnOk r (MeetsAll x lines) → OnOk r (NoneRefuses (lines P o))
  met_at r met = if_ok r met (λ all. all P o known)

  pub failed_at : {T : Type 0} (r : Result T Refusal) → IfErr r (FailsAt x lines) → IfErr r (λ e. (e ≡ refusal.Memory) ⊎ IsLeastRefusal (lines P o) e)
  failed_at r failed = if_err r failed (λ e fails. inr (fails P o known))

-- ---- the request

-- what a request asks of its operation, by its workstation's attribute
abbrev pub AsksOf : Type 1
AsksOf = Contents → OpKey → Option Attr → Operation → Refusal → Type 0

-- these lines ask nothing under the refusal of an unknown operation
abbrev KnowsOperation : AsksOf → Type 0
KnowsOperation lines = (P : Contents) (o : OpKey) (a : Option Attr) (op : Operation) → lines P o a op refusal.UnknownOperation

-- at minute m the request w asks these lines of the operation o
pub record Asks (m : ℕ) (w : What) (o : OpKey) (lines : AsksOf) : Type 0 where
  pub about : operation_of w ≡ Some o
  pub knows : KnowsOperation lines
  pub each : (P : Contents) (r : Refusal) → OfOperation P o (λ op. lines P o (attribute_at P op.workstation) op) r ↔ MayBeDone P m w r

-- what each request asks of its operation
abbrev start : ℕ → AsksOf
start m P q a op = MayBeStarted P m q op a

abbrev end : AsksOf
end P q a op = MayBeEnded P q op a

abbrev interruption : AsksOf
interruption P q a op = MayBeInterrupted P q op

abbrev unknown : AsksOf
unknown P q a op = MayBeUndecided P q

abbrev flag : AsksOf
flag P q a op = MayBeFlagged P q

abbrev rerun : AsksOf
rerun P q a op = MayBeRerun P q

abbrev completion : AsksOf
completion P q a op = MayBeCompleted P q op

start_knows : (m : ℕ) → KnowsOperation (start m)
start_knows m P q (Some attribute.Automatic) op = tt
start_knows m P q (Some attribute.StartAndCompletion) op = tt
start_knows m P q (Some attribute.CompletionOnly) op = tt
start_knows m P q (Some attribute.Nonreporting) op = tt
start_knows m P q None op = tt

end_knows : KnowsOperation end
end_knows P q (Some attribute.Automatic) op = tt
end_knows P q (Some attribute.StartAndCompletion) op = tt
end_knows P q (Some attribute.CompletionOnly) op = tt
end_knows P q (Some attribute.Nonreporting) op = tt
end_knows P q None op = tt

-- what a request asks by its definition, one that is it asks
asks_as : {m : ℕ} {v : What} {o : OpKey} (w : What) (lines : AsksOf) → operation_of w ≡ Some o → KnowsOperation lines → ((P : Contents) (r : Refusal) → OfOperation P o (λ op. lines P o (attribute_at P op.workstation) op) r ↔ MayBeDone P m w r) → v ≡ w → Asks m v o lines
asks_as {m} {v} {o} w lines about knows each is = subst (λ z. Asks m z o lines) (sym is) (record { about = about; knows = knows; each = each })

module _ {m : ℕ} {v : What} {o : OpKey} where
  pub asks_start : v ≡ what.Started o → Asks m v o (start m)
  asks_start = asks_as (what.Started o) (start m) refl (start_knows m) (λ P r. (λ h. h, λ h. h))

  pub asks_end : (v ≡ what.Ended o) ⊎ ((code : Name) × (v ≡ what.Error o code)) → Asks m v o end
  asks_end (inl is) = asks_as (what.Ended o) end refl end_knows (λ P r. (λ h. h, λ h. h)) is
  asks_end (inr (code, is)) = asks_as (what.Error o code) end refl end_knows (λ P r. (λ h. h, λ h. h)) is

  pub asks_interruption : v ≡ what.Interrupted o → Asks m v o interruption
  asks_interruption = asks_as (what.Interrupted o) interruption refl (λ P q a op. tt) (λ P r. (λ h. h, λ h. h))

  pub asks_unknown : v ≡ what.Unknown o → Asks m v o unknown
  asks_unknown = asks_as (what.Unknown o) unknown refl (λ P q a op. tt) (λ P r. (λ h. h, λ h. h))

  pub asks_flag : (v ≡ what.Hold o) ⊎ (v ≡ what.Release o) ⊎ (v ≡ what.Nop o) ⊎ (v ≡ what.Unnop o) → Asks m v o flag
  asks_flag (inl is) = asks_as (what.Hold o) flag refl (λ P q a op. tt) (λ P r. (λ h. h, λ h. h)) is
  asks_flag (inr (inl is)) = asks_as (what.Release o) flag refl (λ P q a op. tt) (λ P r. (λ h. h, λ h. h)) is
  asks_flag (inr (inr (inl is))) = asks_as (what.Nop o) flag refl (λ P q a op. tt) (λ P r. (λ h. h, λ h. h)) is
  asks_flag (inr (inr (inr is))) = asks_as (what.Unnop o) flag refl (λ P q a op. tt) (λ P r. (λ h. h, λ h. h)) is

  pub asks_rerun : v ≡ what.Rerun o → Asks m v o rerun
  asks_rerun = asks_as (what.Rerun o) rerun refl (λ P q a op. tt) (λ P r. (λ h. h, λ h. h))

  pub asks_completion : v ≡ what.Complete o → Asks m v o completion
  asks_completion = asks_as (what.Complete o) completion refl (λ P q a op. tt) (λ P r. (λ h. h, λ h. h))

-- what an answer says of the request v, by this plan at minute m
abbrev pub Tells : {T : Type 0} → Contents → ℕ → What → Result T Refusal → Type 0
Tells P m v answer = record { ok : OnOk answer (NoneRefuses (MayBeDone P m v)); refused : IfErr answer (λ r. (r ≡ refusal.Memory) ⊎ IsLeastRefusal (MayBeDone P m v) r) }

-- the request v asks these lines of the operation o, of which x is known
module _ (P : Contents) (m : ℕ) {v : What} {o : OpKey} {x : ReportedOperation} {lines : AsksOf} (asks : Asks m v o lines) (reported : (q : OpKey) → operation_of v ≡ Some q → IsReported P q x) where
  pub known : IsReported P o x
  known = reported o asks.about

  abbrev rest : Operation → Refusal → Type 0
  rest op = lines P o (attribute_at P op.workstation) op

  abbrev its : Contents → OpKey → Refusal → Type 0
  its Q q = lines Q q (Some x.attribute) x.operation.now

  permitted : NoneRefuses (its P o) → NoneRefuses (MayBeDone P m v)
  permitted all = λ r. (asks.each P r).0 (of_found P o rest x.operation.now known.operation r (subst (λ a. lines P o a x.operation.now r) (sym known.attribute) (all r)))

  barred : (r : Refusal) → IsLeastRefusal (its P o) r → IsLeastRefusal (MayBeDone P m v) r
  barred r least =
      let fails = subst (λ a. IsLeastRefusal (lines P o a x.operation.now) r) (sym known.attribute) least in (
        λ may. not_of_found P o rest x.operation.now known.operation (asks.knows P o (attribute_at P x.operation.now.workstation) x.operation.now) r fails.0 ((asks.each P r).1 may),
        λ lower less. (asks.each P lower).0 (of_found P o rest x.operation.now known.operation lower (fails.1 lower less)),
      )

  -- what is known of this plan
  pub told_here : {T : Type 0} (answer : Result T Refusal) → record { ok : OnOk answer (NoneRefuses (its P o)); refused : IfErr answer (λ r. (r ≡ refusal.Memory) ⊎ IsLeastRefusal (its P o) r) } → Tells P m v answer
  told_here answer told = record { ok = if_ok answer told.ok permitted; refused = if_refused answer told.refused barred }

  -- and of all plans
  pub told_anywhere : {T : Type 0} (answer : Result T Refusal) → record { ok : OnOk answer (MeetsAll x its); refused : IfErr answer (FailsAt x its) } → Tells P m v answer
  told_anywhere answer told = told_here answer (record { ok = met_at P o x its known answer told.ok; refused = failed_at P o x its known answer told.refused })

-- ---- an operation that isn't in the plan

module _ (P : Contents) (o : OpKey) (rest : Operation → Refusal → Type 0) (gone : get P.operations o ≡ None) where
  asked_before : (lower : Refusal) → number_of lower < number_of refusal.UnknownOperation → OfOperation P o rest lower
  asked_before refusal.UnknownOperation less = absurd (omega (arith, less))
  asked_before r less = λ op is. absurd (none-some op (sym gone ∙ is))

  not_there : IsLeastRefusal (OfOperation P o rest) refusal.UnknownOperation
  not_there = (λ there. none-some there.0 (sym gone ∙ there.1), asked_before)

missing : (P : Contents) {m : ℕ} {v : What} {o : OpKey} {lines : AsksOf} → Asks m v o lines → (q : OpKey) → operation_of v ≡ Some q → get P.operations q ≡ None → IsLeastRefusal (MayBeDone P m v) refusal.UnknownOperation
missing P {m} {v} {o} {lines} asks q about gone =
    let same : q ≡ o = same_Some q o (sym about ∙ asks.about) in
    let least = not_there P o (λ op. lines P o (attribute_at P op.workstation) op) (subst (λ z. get P.operations z ≡ None) same gone) in
    (λ may. least.0 ((asks.each P refusal.UnknownOperation).1 may), λ lower less. (asks.each P lower).0 (least.1 lower less))

-- what is asked of an operation that isn't in the plan is refused so
pub unknown_operation : (P : Contents) (m : ℕ) (v : What) (q : OpKey) → operation_of v ≡ Some q → get P.operations q ≡ None → IsLeastRefusal (MayBeDone P m v) refusal.UnknownOperation
unknown_operation P m (what.Started o) = missing P {m = m} (asks_start refl)
unknown_operation P m (what.Ended o) = missing P {m = m} (asks_end (inl refl))
unknown_operation P m (what.Error o code) = missing P {m = m} (asks_end (inr (code, refl)))
unknown_operation P m (what.Interrupted o) = missing P {m = m} (asks_interruption refl)
unknown_operation P m (what.Unknown o) = missing P {m = m} (asks_unknown refl)
unknown_operation P m (what.Hold o) = missing P {m = m} (asks_flag (inl refl))
unknown_operation P m (what.Release o) = missing P {m = m} (asks_flag (inr (inl refl)))
unknown_operation P m (what.Nop o) = missing P {m = m} (asks_flag (inr (inr (inl refl))))
unknown_operation P m (what.Unnop o) = missing P {m = m} (asks_flag (inr (inr (inr refl))))
unknown_operation P m (what.Rerun o) = missing P {m = m} (asks_rerun refl)
unknown_operation P m (what.Complete o) = missing P {m = m} (asks_completion refl)
unknown_operation P m v = λ q about. absurd (none-some q about)

-- ---- a request that asks these lines of the plan

module _ (P : Contents) (m : ℕ) {v w : What} (is : v ≡ w) where
  pub if_none_refuses : {T : Type 0} (answer : Result T Refusal) → OnOk answer (NoneRefuses (MayBeDone P m w)) → OnOk answer (NoneRefuses (MayBeDone P m v))
  if_none_refuses answer all = if_ok answer all (subst (λ z. NoneRefuses (MayBeDone P m z)) (sym is))

  is_barred : (r : Refusal) → IsLeastRefusal (MayBeDone P m w) r → IsLeastRefusal (MayBeDone P m v) r
  is_barred r = subst (λ z. IsLeastRefusal (MayBeDone P m z) r) (sym is)

  pub if_barred : {T : Type 0} (answer : Result T Refusal) → IfErr answer (λ r. (r ≡ refusal.Memory) ⊎ IsLeastRefusal (MayBeDone P m w) r) → IfErr answer (λ r. (r ≡ refusal.Memory) ⊎ IsLeastRefusal (MayBeDone P m v) r)
  if_barred answer told = if_refused answer told is_barred

  -- where memory isn't wanted
  pub if_fails : {T : Type 0} (answer : Result T Refusal) → IfErr answer (IsLeastRefusal (MayBeDone P m w)) → IfErr answer (λ r. (r ≡ refusal.Memory) ⊎ IsLeastRefusal (MayBeDone P m v) r)
  if_fails answer fails = if_barred answer (if_err answer fails (λ r h. inr h))
