-- Which of the three are chosen, by the order in which the ready list has them.
use Rattle.std.proofs.Common.{◌≡◌, ◌⊎◌, inl, inr, ◌∙◌, ◌+◌, ◌<◌, ◌≤◌, true, false, cond, List, [], ◌∷◌, Some}
use Rattle.std.specs.FinMap.{find}
use Rattle.std.specs.List.Sorted.{IsStrictlySortedBy}
use Rattle.std.specs.Ordering.{eq_by_cmp}
use Rattle.std.specs.declared.cmp.Ordering.TheVariants.{Less}
use Rattle.plan_basics.specs.declared.keys.OpKey.{OpKey}
use Rattle.plan_basics.specs.Keys.{operation_cmp}
use Rattle.ready_list.specs.declared.ReadyKey.{ReadyKey}
use Rattle.ready_list.specs.Choice.{among, is_among}
use Rattle.ready_list.specs.Order.{ready_cmp}
use Rattle.plan_model.specs.Ready.{IsChosen, IsOnAutomatic, named}
use Rattle.plan_model.specs.Starts.{IsAllowedToStart}
use Rattle.worked_examples.specs.Day.{evening}
use Rattle.worked_examples.specs.Trio.{Terms, aaa, bbb, operation_by, trio, trio_operations}
use Rattle.worked_examples.proofs.Lists.{AreAmong, EachSplit, each_so}
use Rattle.worked_examples.proofs.TrioChoice.{chosen_by, not_left}
use Rattle.worked_examples.proofs.TrioList.{allowed_then, found_at, key_of, no_fixed_then, no_server_then, on_automatic, ready_list_is, taken_by, three_keys}

module _ (a b c : Terms) where
  -- the terms of one of the three
  abbrev pub terms_of : OpKey → Terms
  terms_of o = cond (eq_by_cmp operation_cmp o aaa) a (cond (eq_by_cmp operation_cmp o bbb) b c)

  abbrev pub own_key : OpKey → ReadyKey
  own_key o = key_of o (terms_of o)

  -- it is one of the three, and none of those before it
  abbrev pub IsNext : List OpKey → OpKey → Type 0
  IsNext before o = (find operation_cmp o (trio_operations a b c) ≡ Some (operation_by (terms_of o))) × (is_among before o ≡ false)

  -- with those before it named, a server and enough of R1 are left for it
  abbrev pub Fits : List OpKey → OpKey → Type 0
  Fits before o = IsNext before o × ((taken_by a b c before).servers + 1 ≤ 2) × ((taken_by a b c before).r1 + (terms_of o).r1 ≤ 3) × ((taken_by a b c before).r2 + 0 ≤ 0)

  -- no server is left, or too little of R1
  abbrev pub Lacks : List OpKey → OpKey → Type 0
  Lacks before o = IsNext before o × ((2 < (taken_by a b c before).servers + 1) ⊎ (3 < (taken_by a b c before).r1 + (terms_of o).r1))

  module _ (x y z : OpKey) (chosen : List OpKey) where
    abbrev pub own_keys : List ReadyKey
    own_keys = own_key x ∷ own_key y ∷ own_key z ∷ []

    -- it is chosen, or lacks something
    abbrev pub IsPassed : List OpKey → OpKey → Type 0
    IsPassed before o = (is_among chosen o ≡ true) ⊎ Lacks (among chosen before) o

    passed : (before : List OpKey) (o : OpKey) → IsPassed before o → is_among chosen o ≡ false → IsAllowedToStart (named (among chosen before) (trio a b c)) o evening → ⊥
    passed before o (inl has) = not_left (is_among chosen o) has
    passed before o (inr lacks) =
        let is = found_at a b c o ∙ lacks.0.0 in
        λ left. elim lacks.1 [
          | inl few ↦ no_server_then a b c (among chosen before) o (terms_of o) lacks.0.1 is few
          | inr little ↦ no_fixed_then a b c (among chosen before) o (terms_of o) lacks.0.1 is little
        ]

    -- x, y and z are the three in the order of the ready list, and those that fit are chosen, where each other lacks something
    pub record AreInOrder : Type 0 where
      pub ascend : (ready_cmp (own_key x) (own_key y) ≡ Less) × (ready_cmp (own_key x) (own_key z) ≡ Less) × (ready_cmp (own_key y) (own_key z) ≡ Less)
      pub each_is_one : AreAmong own_keys (three_keys a b c)
      pub has_all : AreAmong (three_keys a b c) own_keys
      pub chosen_in_order : chosen ≡ among chosen (x ∷ y ∷ z ∷ [])
      pub each_fits : EachSplit chosen Fits
      pub each_is_passed : EachSplit (x ∷ y ∷ z ∷ []) IsPassed

    pub chosen_of : AreInOrder → IsChosen (trio a b c) evening chosen
    unfolding IsStrictlySortedBy
    chosen_of h =
        chosen_by (trio a b c) evening own_keys chosen (ready_list_is a b c own_keys ((h.ascend.0, (h.ascend.1, tt)), ((h.ascend.2, tt), (tt, tt))) h.each_is_one h.has_all) h.chosen_in_order
        (each_so Fits (λ before o. IsOnAutomatic (trio a b c) o) chosen (λ before o fits. on_automatic a b c o (terms_of o) (found_at a b c o ∙ fits.0.0)) h.each_fits)
        (each_so Fits (λ before o. IsAllowedToStart (named before (trio a b c)) o evening) chosen (λ before o fits. allowed_then a b c before o (terms_of o) fits.0.1 (found_at a b c o ∙ fits.0.0) fits.1 fits.2 fits.3) h.each_fits)
        (each_so IsPassed (λ before o. is_among chosen o ≡ false → IsAllowedToStart (named (among chosen before) (trio a b c)) o evening → ⊥) (x ∷ y ∷ z ∷ []) passed h.each_is_passed)
