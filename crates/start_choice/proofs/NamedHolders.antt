-- Who holds special resources, once one operation more is named.
use Rattle.std.proofs.Common.{◌≡◌, ◌≢◌, ◌↔◌, refl, sym, ap, subst, ◌∙◌, true≢false, Bool, true, false, ◌||◌, cond, List, [], ◌∷◌, ◌++◌, Option, None, Some, option_map}
use Rattle.std.specs.Cmp.{eq_by_cmp_equiv}
use Rattle.std.specs.FinMap.{get}
use Rattle.std.specs.Ordering.{eq_by_cmp}
use Rattle.plan_basics.specs.Keys.{Name, operation_cmp, operation_cmp_total}
use Rattle.plan_basics.specs.declared.Attr.TheVariants.{Automatic}
use Rattle.plan_basics.specs.declared.keys.OpKey.{OpKey}
use Rattle.special_resources.specs.Holders.{Usage}
use Rattle.special_resources.specs.Holdings.{Held}
use Rattle.special_resources.specs.declared.Claim.{Claim}
use Rattle.status_rules.specs.Table.{marked_status}
use Rattle.status_rules.specs.declared.Mark.TheVariants as mark
use Rattle.ready_list.specs.Choice.{is_among}
use Rattle.plan_model.specs.Holdings.{Holds, holds_resource, takes}
use Rattle.plan_model.specs.Contents.{Contents, HasAttribute, Operation}
use Rattle.plan_model.specs.Ready.{named, with_mark}
use Rattle.plan_model.proofs.Looks.{get-named, same_key}
use Rattle.std.proofs.lemmas.Option.{same_Some}
use Rattle.start_choice.specs.Choices.{AreHeldIn}
use Rattle.start_choice.specs.Takings.{HaveTaken}
use Rattle.start_choice.proofs.NamedGiven.{among_more}
use Rattle.start_choice.proofs.Naming.{still}
use Rattle.counted_records.specs.plan_status.proofs.Naming.{row_after}
use Rattle.std.proofs.Math.Bool.{or-false, or-true}

-- two plans with the same workstations, whose operations are alike at a key
module _ (P Q : Contents) (stations : Q.workstations ≡ P.workstations) (o : OpKey) (same : get Q.operations o ≡ get P.operations o) where
  held_alike : (r : Name) (usage : Usage) → Holds P o r usage → Holds Q o r usage
  held_alike r usage (op, is, (needs, known, holds)) =
      (op, same ∙ is, (needs, ap (λ all. takes (option_map (λ ws. ws.attribute) (get all op.workstation))) stations ∙ known, holds))

none_of : {A : Type 0} (x : Option A) → ((a : A) → ¬ (x ≡ Some a)) → x ≡ None
none_of None none = refl
none_of (Some a) none = absurd (none a refl)

module _ (P : Contents) (os : List OpKey) (k : OpKey) (op : Operation) (is : get P.operations k ≡ Some op) (out : is_among os k ≡ false) (unmarked : op.mark ≡ mark.Unmarked)
    (automatic : HasAttribute P op.workstation Automatic) where
  abbrev before : Contents
  before = named os P

  abbrev after : Contents
  after = named (os ++ k ∷ []) P

  -- whether o holds r so is decided by what is held
  abbrev TellsHolding : Held → OpKey → Name → Claim → Type 0
  TellsHolding held o r claim = (get held (r, o) ≡ Some claim) ↔ ((keep : Bool) × Holds after o r (record { claim = claim; keep = keep }))

  -- another operation is the same in both
  same_row : (o : OpKey) → eq_by_cmp operation_cmp o k ≡ false → get after.operations o ≡ get before.operations o
  same_row o apart =
      get-named (os ++ k ∷ []) P o
      ∙ ap (λ b. option_map (λ x. cond b (with_mark mark.Named x) x) (get P.operations o)) (among_more os k o ∙ ap (λ b. is_among os o || b) apart ∙ or-false (is_among os o))
      ∙ sym (get-named os P o)

  named_row : get after.operations k ≡ Some (with_mark mark.Named op)
  named_row =
      row_after P (os ++ k ∷ []) k op is
      ∙ ap (λ b. Some (cond b (with_mark mark.Named op) op)) (among_more os k k ∙ ap (λ b. is_among os k || b) ((eq_by_cmp_equiv operation_cmp_total).refl k) ∙ or-true (is_among os k))

  -- what is unmarked holds nothing
  holds_nothing : (r : Name) (usage : Usage) → ¬ Holds before k r usage
  holds_nothing r usage (x, found, (needs, known, holds)) =
      let same : x ≡ op = same_Some x op (sym found ∙ still os P k op out is) in
      true≢false (sym holds ∙ ap (λ (z : Operation). holds_resource usage.keep (marked_status z.mark)) same ∙ ap (λ m. holds_resource usage.keep (marked_status m)) unmarked)

  -- named, it holds what it needs
  holds_needs : (r : Name) (usage : Usage) → get op.needs r ≡ Some usage → Holds after k r usage
  holds_needs r usage needs = (with_mark mark.Named op, named_row, (needs, ap takes automatic, refl))

  needs_held : (r : Name) (usage : Usage) → Holds after k r usage → get op.needs r ≡ Some usage
  needs_held r usage (x, found, (needs, known, holds)) = subst (λ (z : Operation). get z.needs r ≡ Some usage) (same_Some x (with_mark mark.Named op) (sym found ∙ named_row)) needs

  module _ (old new : Held) (held : AreHeldIn before old) (taken : HaveTaken old k op.needs mark.Named new) where
    none_yet : (r : Name) → get old (r, k) ≡ None
    none_yet r = none_of (get old (r, k)) (λ claim e. let h = (held k r claim).0 e in holds_nothing r _ h.1)

    its_own : (r : Name) (claim : Claim) → TellsHolding new k r claim
    its_own r claim =
        let own = taken.own r (none_yet r) claim in (
          λ e. let h = own.0 e in (h.0, holds_needs r _ h.1),
          λ h. own.1 (h.0, needs_held r _ h.1, refl),
        )

    of_another : (o : OpKey) → eq_by_cmp operation_cmp o k ≡ false → o ≢ k → (r : Name) (claim : Claim) → TellsHolding new o r claim
    of_another o apart differs r claim = (
      λ e. let h = (held o r claim).0 (sym (taken.others o r differs) ∙ e) in (h.0, held_alike before after refl o (same_row o apart) r _ h.1),
      λ h. taken.others o r differs ∙ (held o r claim).1 (h.0, held_alike after before refl o (sym (same_row o apart)) r _ h.1),
    )

    by_key : (o : OpKey) (b : Bool) → eq_by_cmp operation_cmp o k ≡ b → (r : Name) (claim : Claim) → TellsHolding new o r claim
    by_key o true e r claim = subst (λ z. TellsHolding new z r claim) (sym (same_key o k e)) (its_own r claim)
    by_key o false e r claim =
        of_another o e (λ same. true≢false (sym ((eq_by_cmp_equiv operation_cmp_total).refl k) ∙ ap (λ z. eq_by_cmp operation_cmp z k) (sym same) ∙ e)) r claim

    -- once it is named, it holds what it takes
    pub named_held : AreHeldIn after new
    named_held o r claim = by_key o (eq_by_cmp operation_cmp o k) refl r claim
