-- Requests that write a flag which stands so already.
use Rattle.std.proofs.Common.{◌≡◌, refl, sym, ap, ◌∙◌, Bool, true, false, cond, Option, Some, None, option_map}
use Rattle.std.proofs.lemmas.Option.{same_Some}
use Rattle.std.specs.FinMap.{get, same_map}
use Rattle.plan_basics.specs.Keys.{operation_cmp_total, operation_cmp-IsAntisymmetric}
use Rattle.plan_basics.specs.declared.keys.OpKey.{OpKey}
use Rattle.small_requests.specs.RequestEdits.{Edits}
use Rattle.plan_checks.specs.plan_laws.proofs.Revised.{get-revised}
use Rattle.plan_model.proofs.Looks.{same_key}
use Rattle.plan_model.specs.Contents.{Contents, Operation}
use Rattle.small_requests.specs.Anew.{IsFlaggedSo}
use Rattle.plan_model.specs.Markings.{marking_of}
use Rattle.plan_model.specs.declared.moves.Marking.{Marking}
use Rattle.plan_records.specs.Changes.{Changes, is_at, revised}
use Rattle.plan_records.specs.declared.What.{What}
use Rattle.plan_records.specs.declared.What.TheVariants as what
use Rattle.small_requests.specs.Idle.{IsIdle}

-- ---- operations made anew

-- an operation that is made anew, but no other of it
same_at : (t : Bool) (f : Operation → Operation) (x : Option Operation) → (t ≡ true → (op : Operation) → x ≡ Some op → f op ≡ op) → option_map (λ op. cond t (f op) op) x ≡ x
same_at t f None same = refl
same_at true f (Some op) same = ap Some (same refl op refl)
same_at false f (Some op) same = refl

pub none_anew : (P : Contents) (o : OpKey) (f : Operation → Operation) → ((op : Operation) → get P.operations o ≡ Some op → f op ≡ op) → P ≡ revised (is_at o) f P
none_anew P o f same =
    sym (ap (λ operations. record P { operations = operations }) (same_map operation_cmp_total operation_cmp-IsAntisymmetric (revised (is_at o) f P).operations P.operations (λ q.
    get-revised (is_at o) f P q ∙ same_at (is_at o q) f (get P.operations q) (λ t op is. same op (sym (ap (get P.operations) (same_key q o t)) ∙ is)))))

-- ---- an idle request

-- it makes the plan of itself
pub idle_changes : (P : Contents) (w : What) (o : OpKey) (op : Operation) → Edits P w o → get P.operations o ≡ Some op → IsIdle w (marking_of op) → Changes P w P
idle_changes P (what.Hold q) o op edits was idle =
    none_anew P q (λ op. record op { held = true }) (λ z is. let same = same_Some z op (sym is ∙ ap (get P.operations) (same_Some q o edits) ∙ was) in ap (λ b. record z { held = b }) (sym (ap (λ (x : Operation). x.held) same ∙ idle)))
idle_changes P (what.Release q) o op edits was idle =
    none_anew P q (λ op. record op { held = false }) (λ z is. let same = same_Some z op (sym is ∙ ap (get P.operations) (same_Some q o edits) ∙ was) in ap (λ b. record z { held = b }) (sym (ap (λ (x : Operation). x.held) same ∙ idle)))
idle_changes P (what.Nop q) o op edits was idle =
    none_anew P q (λ op. record op { nop = true }) (λ z is. let same = same_Some z op (sym is ∙ ap (get P.operations) (same_Some q o edits) ∙ was) in ap (λ b. record z { nop = b }) (sym (ap (λ (x : Operation). x.nop) same ∙ idle)))
idle_changes P (what.Unnop q) o op edits was idle =
    none_anew P q (λ op. record op { nop = false }) (λ z is. let same = same_Some z op (sym is ∙ ap (get P.operations) (same_Some q o edits) ∙ was) in ap (λ b. record z { nop = b }) (sym (ap (λ (x : Operation). x.nop) same ∙ idle)))
idle_changes P w o op edits was idle = absurd idle

-- it edits one operation
pub idle_target : (w : What) (m : Marking) → IsIdle w m → (P : Contents) (o q : OpKey) → Edits P w o → Edits P w q → o ≡ q
idle_target (what.Hold p) m idle P o q one other = sym (same_Some p o one) ∙ same_Some p q other
idle_target (what.Release p) m idle P o q one other = sym (same_Some p o one) ∙ same_Some p q other
idle_target (what.Nop p) m idle P o q one other = sym (same_Some p o one) ∙ same_Some p q other
idle_target (what.Unnop p) m idle P o q one other = sym (same_Some p o one) ∙ same_Some p q other
idle_target w m idle P o q one other = absurd idle

-- a flag of an operation that stands so already does so by its marking
pub idle_by_flag : (w : What) (op : Operation) → IsFlaggedSo w op → IsIdle w (marking_of op)
idle_by_flag (what.Hold q) op so = so
idle_by_flag (what.Release q) op so = so
idle_by_flag (what.Nop q) op so = so
idle_by_flag (what.Unnop q) op so = so
idle_by_flag w op so = absurd so
