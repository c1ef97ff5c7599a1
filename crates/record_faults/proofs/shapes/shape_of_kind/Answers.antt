use Rattle.std.proofs.Common.{◌≡◌, ◌∙◌, sym, subst, arith, get_or, Some}
use Rattle.std.proofs.Common.{inl, inr}
use Rattle.std.specs.Prelude.{slice_get}
use Rattle.std.proofs.lemmas.Option.{slice_get-get_or}
use Rattle.plan_items.specs.Items.{fields_of}
use Rattle.record_faults.specs.declared.kinds.Kind.TheVariants as kind
use Rattle.record_faults.specs.declared.kinds.Form.TheVariants as form
use Rattle.record_faults.specs.Shapes.{forms_of, AreRead, IsFirstUnread, IsOfKind}
use Rattle.record_faults.proofs.Forms.{says, nine}
use Rattle.record_faults.proofs.shapes.shape_of_kind.Goals as goal

pub returns-in-Some : goal.returns-in-Some
returns-in-Some c =
    let forms = c.forms-forms.result in
    let place = c.in-Some.place in
    let here = subst (λ fs. slice_get fs place ≡ Some (get_or fs place form.WorkstationName)) (sym c.forms-forms.ensures) (slice_get-get_or (forms_of c.args.kind) place form.WorkstationName (omega (arith, nine c.args.kind, c.in-Some.ensures.0))) in
    let first = c.in-Some.ensures.1 (get_or forms place form.WorkstationName) here in
    (c.requires.kind, subst (λ fs. IsFirstUnread fs (fields_of c.args.fields.now) place (get_or forms place form.WorkstationName)) c.forms-forms.ensures first)

pub returns-in-Need : goal.returns-in-Need
returns-in-Need c =
    let read = subst (λ fs. AreRead fs 9 (fields_of c.args.fields.now)) c.forms-forms.ensures c.in-None.ensures in
    elim (says (fields_of c.args.fields.now) c.args.kind c.requires.kind read) [
      | inl said ↦ absurd (c.requires.silent said.0 said.1)
      | inr other ↦ elim other [
        | inl early ↦ let same : kind.Interval ≡ kind.Need = sym early.0 ∙ c.in-Need.is in absurd (cc)
        | inr more ↦ (subst (λ k. IsOfKind k (fields_of c.args.fields.now)) more.0 c.requires.kind, more.1, subst (λ k. AreRead (forms_of k) 9 (fields_of c.args.fields.now)) more.0 read)
      ]
    ]

pub returns-in_default : goal.returns-in_default
returns-in_default c =
    let read = subst (λ fs. AreRead fs 9 (fields_of c.args.fields.now)) c.forms-forms.ensures c.in-None.ensures in
    elim (says (fields_of c.args.fields.now) c.args.kind c.requires.kind read) [
      | inl said ↦ absurd (c.requires.silent said.0 said.1)
      | inr other ↦ elim other [
        | inl early ↦ (subst (λ k. IsOfKind k (fields_of c.args.fields.now)) early.0 c.requires.kind, early.1, subst (λ k. AreRead (forms_of k) 9 (fields_of c.args.fields.now)) early.0 read)
        | inr more ↦ absurd (c.in_default.not-Need more.0)
      ]
    ]
