use Rattle.std.proofs.Common.{◌≡◌, ◌∙◌, ℕ, ◌+◌, ◌<◌, Bool, true, false, cond, List, [], ◌∷◌, ◌++◌, sym, ap, get_or, length, refl, take, Option, Some, None, option_map}
use Rattle.std.proofs.lemmas.List.{take_more}
use Rattle.std.proofs.lemmas.Option.{same_Some, none-some}
use Rattle.std.specs.FinMap.{get, insert}
use Rattle.plan_basics.specs.Keys.{operation_cmp-IsAntisymmetric}
use Rattle.plan_basics.specs.declared.keys.OpKey.{OpKey}
use Rattle.plan_records.specs.status_rules.specs.declared.Mark.{Mark}
use Rattle.ready_list.specs.Choice.{is_among}
use Rattle.plan_records.specs.plan_model.specs.Contents.{Contents, Operation}
use Rattle.plan_records.specs.plan_model.specs.Ready.{with_mark}
use Rattle.plan_records.specs.plan_model.specs.Revise.{get-revise}
use Rattle.plan_records.specs.Changes.{revised}
use Rattle.plan_changes.proofs.Put.{made, marked_more, marked_none, none_made}
use Rattle.plan_changes.proofs.mark_rows.mark_all.Goals as goal

keys_more : (keys : List OpKey) (i : ℕ) (key : OpKey) → i < length keys → key ≡ get_or keys i key → (mark : Mark) (P : Contents)
    → revised (is_among (take i keys ++ key ∷ [])) (with_mark mark) P ≡ revised (is_among (take (i + 1) keys)) (with_mark mark) P
keys_more keys i key lt is mark P = ap (λ os. revised (is_among os) (with_mark mark) P) (ap (λ (k : OpKey). take i keys ++ k ∷ []) is ∙ sym (take_more keys i key lt))

-- to mark an operation again is to mark it
marked_again : (mark : Mark) (b : Bool) (op : Operation) → with_mark mark (cond b (with_mark mark op) op) ≡ with_mark mark op
marked_again mark true op = refl
marked_again mark false op = refl

-- what is made anew was there
was : (f : Operation → Operation) (x : Option Operation) (v : Operation) → option_map f x ≡ Some v → (op : Operation) × (x ≡ Some op) × (v ≡ f op)
was f None v e = absurd (none-some v e)
was f (Some op) v e = (op, refl, sym (same_Some (f op) v e))

was_none : (f : Operation → Operation) (x : Option Operation) → option_map f x ≡ None → x ≡ None
was_none f None e = refl
was_none f (Some op) e = absurd (none-some (f op) (sym e))

-- a value is there, or none
by_cases : {A T : Type 0} (x : Option A) → ((a : A) → x ≡ Some a → T) → (x ≡ None → T) → T
by_cases None some none = none refl
by_cases (Some a) some none = some a refl

pub loop-key-init : goal.loop-key-init
loop-key-init c = ap (λ m. record c.args.contents.now { operations = m }) (none_made c.args.mark.now c.args.contents.now.operations)

pub loop-key-preserved : goal.loop-key-preserved
loop-key-preserved c =
    let old = c.args.contents.now in
    let mark = c.args.mark.now in
    let before = take c.loop-key.key-index c.args.keys.now in
    let k = c.key-item.result in
    let more = keys_more c.args.keys.now c.loop-key.key-index k c.loop-key-test.true c.key-item.is mark old in
    let there : get c.loop-key.contents.operations k ≡ option_map (made before mark k) (get old.operations k) =
    ap (λ (P : Contents). get P.operations k) c.loop-key.invariant ∙ get-revise operation_cmp-IsAntisymmetric (made before mark) old.operations k in
    by_cases (get c.loop-key.contents.operations k)
    (λ op is.
    let first = was (made before mark k) (get old.operations k) op (sym there ∙ is) in
    let again : with_mark mark op ≡ with_mark mark first.0 = ap (with_mark mark) first.2 ∙ marked_again mark (is_among before k) first.0 in
    c.set_mark.ensures.there op is
    ∙ ap (λ (P : Contents). record P { operations = insert P.operations k (with_mark mark op) }) c.loop-key.invariant
    ∙ ap (λ (row : Operation). record old { operations = insert (revised (is_among before) (with_mark mark) old).operations k row }) again
    ∙ ap (λ m. record old { operations = m }) (marked_more mark before k old.operations first.0 first.1)
    ∙ more)
    (λ none. c.set_mark.ensures.absent none ∙ c.loop-key.invariant ∙ ap (λ m. record old { operations = m }) (marked_none mark before k old.operations (was_none (made before mark k) (get old.operations k) (sym there ∙ none))) ∙ more)
