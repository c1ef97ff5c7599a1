-- The entries on a workstation, by the first of a list.
use Rattle.std.proofs.Common.{◌≡◌, ap, ◌∙◌, true, false, cond, List, ◌∷◌}
use Rattle.std.specs.Str.{bytes_eq}
use Rattle.std.proofs.lemmas.Map.Text.{is_eq-slice_cmp}
use Rattle.plan_basics.specs.Keys.{Name}
use Rattle.ready_list.specs.declared.entry.ReadyEntry.{ReadyEntry}
use Rattle.ready_list.specs.Entries.{on_workstation}

module _ (ws : Name) {es : List ReadyEntry} {e : ReadyEntry} {others : List ReadyEntry} (is : es ≡ e ∷ others) where
  -- it is on it
  pub first_on : bytes_eq e.ws ws ≡ true → on_workstation ws es ≡ e ∷ on_workstation ws others
  first_on same = ap (on_workstation ws) is ∙ ap (λ b. cond b (e ∷ on_workstation ws others) (on_workstation ws others)) (is_eq-slice_cmp e.ws ws ∙ same)

  -- it is on another
  pub first_off : bytes_eq e.ws ws ≡ false → on_workstation ws es ≡ on_workstation ws others
  first_off other = ap (on_workstation ws) is ∙ ap (λ b. cond b (e ∷ on_workstation ws others) (on_workstation ws others)) (is_eq-slice_cmp e.ws ws ∙ other)
