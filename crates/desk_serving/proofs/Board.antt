-- What a desk owes to whoever asks for the board: what it owes to any report, or else the refusal of the moment.
use Rattle.std.proofs.Common.{◌≡◌, ◌∙◌, refl, sym, subst, Bool, true, false, if◌then◌else◌, Option, Some, None, Result, Ok, Err, IfErr, IsErrAnd}
use Rattle.std.proofs.lemmas.Option.{none-some}
use Rattle.http_messages.specs.declared.queries.Until.{Until}
use Rattle.plan_basics.specs.declared.Refusal.{Refusal}
use Rattle.plan_basics.specs.declared.Refusal.TheVariants as refusal
use Rattle.plan_reports.specs.Reports.{IsOwed, refusal_of}
use Rattle.plan_reports.specs.desk_tables.specs.plan_model.specs.Plan.{Plan}
use Rattle.desk_serving.specs.Shown.{board_refusal_of, until_refusal_of}

-- an error that is handed on
pub handed_on : {T E : Type 0} (A : E → Type 0) (r : Result T E) (e : E) → IsErrAnd r (λ y. y ≡ e) → A e → IfErr r A
handed_on A (Ok x) e same a = tt
handed_on A (Err y) e same a = subst A (sym same) a

abbrev owed_by : Bool → Bool → Option Refusal → Option Refusal
owed_by usable loaded more = if usable then (if loaded then more else Some refusal.NotLoaded) else Some refusal.Reopen

owed_first : (usable loaded : Bool) (more : Option Refusal) (r : Refusal) → owed_by usable loaded None ≡ Some r → owed_by usable loaded more ≡ Some r
owed_first true true more r h = absurd (none-some r h)
owed_first true false more r h = h
owed_first false loaded more r h = h

then_more : (usable loaded : Bool) (more : Option Refusal) → owed_by usable loaded None ≡ None → owed_by usable loaded more ≡ more
then_more true true more h = refl
then_more true false more h = absurd (none-some refusal.NotLoaded (sym h))
then_more false loaded more h = absurd (none-some refusal.Reopen (sym h))

-- what is owed to any report
pub owes_any : (usable : Bool) (P : Plan) (u : Until) (r : Refusal) → refusal_of usable P ≡ Some r → IsOwed (board_refusal_of usable P u) r
owes_any usable P u r h = subst (λ (owed : Option Refusal). IsOwed owed r) (sym (owed_first usable P.loaded (until_refusal_of P.clock u) r h)) refl

-- the refusal of the moment, if it has one
pub owes_moment : (usable : Bool) (P : Plan) (u : Until) → refusal_of usable P ≡ None → board_refusal_of usable P u ≡ until_refusal_of P.clock u
owes_moment usable P u h = then_more usable P.loaded (until_refusal_of P.clock u) h

pub owes_that : (usable : Bool) (P : Plan) (u : Until) (r : Refusal) → refusal_of usable P ≡ None → until_refusal_of P.clock u ≡ Some r → IsOwed (board_refusal_of usable P u) r
owes_that usable P u r h e = subst (λ (owed : Option Refusal). IsOwed owed r) (sym (owes_moment usable P u h ∙ e)) refl

-- where neither is owed, what may be refused for want of memory alone
pub owes_none : {A : Type 0} (usable : Bool) (P : Plan) (u : Until) (made : Result A Refusal) → refusal_of usable P ≡ None → until_refusal_of P.clock u ≡ None
    → IfErr made (IsOwed (refusal_of usable P)) → IfErr made (IsOwed (board_refusal_of usable P u))
owes_none usable P u made h e owed = subst (λ (o : Option Refusal). IfErr made (IsOwed o)) (h ∙ sym (owes_moment usable P u h ∙ e)) owed
