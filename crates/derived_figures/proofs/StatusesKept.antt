-- What stays where only marks and flags of operations change: keys, live predecessors, and how workstations report.
use Rattle.std.proofs.Common.{◌≡◌, ◌≢◌, refl, sym, ap, subst, ◌∙◌, true≢false, arith, ℕ, true, false, cond, List, [], ◌∷◌, map, length, get_or, slice_get, Some, option_map, Ordering}
use Rattle.std.proofs.lemmas.Map.Entries.{length-keys_of}
use Rattle.std.proofs.lemmas.Option.{slice_get-get_or, slice_get_within, some_pair_parts}
use Rattle.std.specs.FinMap.{entries, find, get, get-entries, keys}
use Rattle.std.specs.Map.{keys_of}
use Rattle.std.specs.Ordering.{eq_by_cmp}
use Rattle.plan_basics.specs.Keys.{Name, name_cmp}
use Rattle.plan_basics.specs.declared.Attr.{Attr}
use Rattle.plan_basics.specs.declared.Attr.TheVariants.{Nonreporting}
use Rattle.plan_basics.specs.declared.keys.OpKey.{OpKey}
use Rattle.status_rules.specs.Classes.{is_live}
use Rattle.status_rules.specs.declared.Mark.{Mark}
use Rattle.status_rules.specs.declared.Mark.TheVariants as mark
use Rattle.plan_model.specs.Contents.{Contents, HasAttribute, IsPairOf, LivePredecessor, Operation, Workstations, attribute_at}
use Rattle.workstations.specs.Timetables.{NamedWorkstation}
use Rattle.workstations.specs.Workstations.{Workstation}
use Rattle.plan_model.specs.latest_start.proofs.Placed.{same_places}
use Rattle.start_choice.specs.plan_drafts.proofs.RowPlaces.{row_at}
use Rattle.plan_model.specs.Moves.{AreLiveAlike, IsMovedAt, IsRemarked, IsRemarkedAt, reporting}
use Rattle.start_choice.specs.plan_status.proofs.Alike.{IsOnNonreporting}
use Rattle.start_choice.specs.plan_status.proofs.LoadedRows.{row_found, row_of}
use Rattle.start_choice.specs.plan_status.proofs.RowKeys.{key_of_row, row_of_key}

-- what is found among rows, of which something is read
find_mapped : {K X Y : Type 0} (R : K → K → Ordering) (f : X → Y) (k : K) (rows : List (K × X)) → option_map f (find R k rows) ≡ find R k (map (λ (r : K × X). (r.0, f r.1)) rows)
find_mapped R f k [] = refl
find_mapped {K} {X} R f k (row ∷ rows) = elim (eq_by_cmp R k row.0) as (λ b. option_map f (cond b (Some row.1) (find R k rows)) ≡ cond b (Some (f row.1)) (find R k (map (λ (r : K × X). (r.0, f r.1)) rows))) [
  | true ↦ refl
  | false ↦ find_mapped R f k rows
]

reported : (ws : Workstations) (w : Name) → option_map (λ (x : Workstation). x.attribute) (get ws w) ≡ find name_cmp w (reporting (entries ws))
reported ws w = ap (option_map (λ (x : Workstation). x.attribute)) (get-entries ws w) ∙ find_mapped name_cmp (λ (x : Workstation). x.attribute) w (entries ws)

live_is : (m : Mark) → m ≢ mark.Deleted → is_live m ≡ true
live_is mark.Deleted h = absurd (h refl)
live_is m h = refl

live_told : (m : Mark) → is_live m ≡ true → m ≢ mark.Deleted
live_told m t e = true≢false (sym t ∙ ap is_live e)

names_told : (ws : List NamedWorkstation) → keys_of (reporting ws) ≡ keys_of ws
names_told [] = refl
names_told (w ∷ ws) = ap (λ ns. w.0 ∷ ns) (names_told ws)

module _ (P Q : Contents) (moved_at : List ℕ) (moved : IsMovedAt P Q moved_at) where
  pub same_workstations : keys Q.workstations ≡ keys P.workstations
  same_workstations = sym (names_told (entries Q.workstations)) ∙ ap keys_of moved.workstations ∙ names_told (entries P.workstations)

  pub same_keys : keys Q.operations ≡ keys P.operations
  same_keys = same_places (keys_of (entries Q.operations)) (keys_of (entries P.operations)) (omega (arith, as_long)) (λ i lt.
      let key = row_at (keys_of (entries Q.operations)) i (omega (arith, lt, as_long)) in
      let row = row_of_key (entries Q.operations) i key.0 key.1 in
      let was = moved.rows i key.0 row.0 row.1 in
      key.1 ∙ sym (key_of_row (entries P.operations) i key.0 was.before was.was))
    where
      as_long : length (keys_of (entries Q.operations)) ≡ length (keys_of (entries P.operations))
      as_long = length-keys_of (entries Q.operations) ∙ moved.size ∙ sym (length-keys_of (entries P.operations))

  pub row_before : (o : OpKey) (op : Operation) → get Q.operations o ≡ Some op → (before : Operation) × (get P.operations o ≡ Some before) × IsRemarked before op
  row_before o op is =
      let at = row_of Q o op is in
      let was = moved.rows at.0 o op at.1 in
      (was.before, row_found P at.0 o was.before was.was, was.remarked)

  pub row_after : (o : OpKey) (op : Operation) → get P.operations o ≡ Some op → (after : Operation) × (get Q.operations o ≡ Some after) × IsRemarked op after
  row_after o op is =
      let at = row_of P o op is in
      let row : OpKey × Operation = get_or (entries Q.operations) at.0 (o, op) in
      let within = slice_get_within (entries P.operations) at.0 (o, op) at.1 in
      let here : slice_get (entries Q.operations) at.0 ≡ Some row = slice_get-get_or (entries Q.operations) at.0 (o, op) (omega (arith, within, moved.size)) in
      let was = moved.rows at.0 row.0 row.1 here in
      let parts = some_pair_parts o row.0 op was.before (sym at.1 ∙ was.was) in
      (row.1, subst (λ k. get Q.operations k ≡ Some row.1) (sym parts.0) (row_found Q at.0 row.0 row.1 here), subst (λ b. IsRemarked b row.1) (sym parts.1) was.remarked)

  pub same_attribute : (w : Name) → attribute_at Q w ≡ attribute_at P w
  same_attribute w = reported Q.workstations w ∙ ap (find name_cmp w) moved.workstations ∙ sym (reported P.workstations w)

  pub attribute_after : (w : Name) (a : Attr) → HasAttribute P w a → HasAttribute Q w a
  attribute_after w a on = same_attribute w ∙ on

  pub attribute_before : (w : Name) (a : Attr) → HasAttribute Q w a → HasAttribute P w a
  attribute_before w a on = sym (same_attribute w) ∙ on

  pub predecessor_after : AreLiveAlike P Q → (p o : OpKey) → LivePredecessor P p o → LivePredecessor Q p o
  predecessor_after alike p o h =
      let at = row_of P p h.1.0 h.1.1 in
      let within = slice_get_within (entries P.operations) at.0 (p, h.1.0) at.1 in
      let row = row_at (entries Q.operations) at.0 (omega (arith, within, moved.size)) in
      let was = moved.rows at.0 row.0.0 row.0.1 row.1 in
      let parts = some_pair_parts p row.0.0 h.1.0 was.before (sym at.1 ∙ was.was) in
      let here : slice_get (entries Q.operations) at.0 ≡ Some (p, row.0.1) = subst (λ k. slice_get (entries Q.operations) at.0 ≡ Some (k, row.0.1)) (sym parts.0) row.1 in
      (subst (λ s. IsPairOf s p o) (sym moved.pairs) h.0, (row.0.1, row_found Q at.0 p row.0.1 here, live_told row.0.1.mark (alike at.0 p h.1.0 row.0.1 at.1 here ∙ live_is h.1.0.mark h.1.2)))

  pub predecessor_before : AreLiveAlike P Q → (p o : OpKey) → LivePredecessor Q p o → LivePredecessor P p o
  predecessor_before alike p o h =
      let at = row_of Q p h.1.0 h.1.1 in
      let was = moved.rows at.0 p h.1.0 at.1 in
      (subst (λ s. IsPairOf s p o) moved.pairs h.0, (was.before, row_found P at.0 p was.before was.was, live_told was.before.mark (sym (alike at.0 p was.before h.1.0 was.was at.1) ∙ live_is h.1.0.mark h.1.2)))

  pub nonreporting_after : (p : OpKey) → IsOnNonreporting P p → IsOnNonreporting Q p
  nonreporting_after p h =
      let a = row_after p h.0 h.1 in
      (a.0, a.1, attribute_after a.0.workstation Nonreporting (subst (λ w. HasAttribute P w Nonreporting) (sym (ap (λ (x : Operation). x.workstation) a.2.rest)) h.2))

  pub nonreporting_before : (p : OpKey) → IsOnNonreporting Q p → IsOnNonreporting P p
  nonreporting_before p h =
      let b = row_before p h.0 h.1 in
      (b.0, b.1, attribute_before b.0.workstation Nonreporting (subst (λ w. HasAttribute Q w Nonreporting) (ap (λ (x : Operation). x.workstation) b.2.rest) h.2))

-- ---- whatever the pairs are

-- where only marks and flags differ, they differ so whatever the pairs are
pub remarked_by : (P Q : Contents) (moved_at : List ℕ) → IsMovedAt P Q moved_at → IsRemarkedAt P Q moved_at
remarked_by P Q moved_at moved = record { workstations = moved.workstations; occurrences = moved.occurrences; pairs = refl; size = moved.size; rows = moved.rows }

-- ---- the way back

remarked_back : (a b : Operation) → IsRemarked a b → IsRemarked b a
remarked_back a b h = record { rest = sym (ap (λ (x : Operation). record x { mark = a.mark; held = a.held; nop = a.nop }) h.rest) }

-- where Q differs from P in marks and flags alone, P differs so from Q
pub moved_back : (P Q : Contents) (moved_at : List ℕ) → IsMovedAt P Q moved_at → IsMovedAt Q P moved_at
moved_back P Q moved_at moved = record {
  workstations = sym moved.workstations;
  occurrences = sym moved.occurrences;
  pairs = sym moved.pairs;
  size = sym moved.size;
  rows = λ i o op row.
      let now : OpKey × Operation = get_or (entries Q.operations) i (o, op) in
      let within = slice_get_within (entries P.operations) i (o, op) row in
      let here : slice_get (entries Q.operations) i ≡ Some now = slice_get-get_or (entries Q.operations) i (o, op) (omega (arith, within, moved.size)) in
      let was = moved.rows i now.0 now.1 here in
      let parts = some_pair_parts o now.0 op was.before (sym row ∙ was.was) in
      record {
        before = now.1;
        was = subst (λ k. slice_get (entries Q.operations) i ≡ Some (k, now.1)) (sym parts.0) here;
        remarked = subst (λ b. IsRemarked now.1 b) (sym parts.1) (remarked_back was.before now.1 was.remarked);
        elsewhere = λ out. parts.1 ∙ sym (was.elsewhere out);
      };
}
