-- Where only marks and flags change, keys and the graph stay; and where the same operations are live, latest starts do too.
use Rattle.std.proofs.Common.{◌≡◌, inl, inr, refl, sym, ap, subst, ◌∙◌, arith, ℕ, suc, Bool, true, false, cond, List, [], ◌∷◌, length, Contains, Option, Some, None, option_map, slice_get, ℤ}
use Rattle.std.proofs.lemmas.Option.{none-some, same_Some, slice_get_within}
use Rattle.std.specs.FinMap.{entries, find, from_entries, get, get-entries, keys}
use Rattle.std.specs.Ordering.{eq_by_cmp}
use Rattle.std.specs.Map.{keys_of}
use Rattle.operation_graph.specs.Graphs.{Digraph}
use Rattle.operation_graph.specs.Paths.{IsPathBy}
use Rattle.plan_model.specs.latest_start.specs.LeastStart.{IsLeastStart}
use Rattle.plan_basics.specs.declared.Attr.{Attr}
use Rattle.plan_basics.specs.Keys.{Name, name_cmp, operation_cmp, operation_cmp_total, operation_cmp-IsAntisymmetric}
use Rattle.plan_basics.specs.declared.keys.OpKey.{OpKey}
use Rattle.status_rules.proofs.Live.{live_mark, mark_live}
use Rattle.plan_model.proofs.Entries.{entries_are, keys_of-entries}
use Rattle.plan_model.specs.Contents.{Contents, IsLive, IsPairOf, Operation, Precedes, attribute_at}
use Rattle.plan_model.specs.Starts.{IsLatestStart, amount_of}
use Rattle.plan_drafts.proofs.Lists.{length_map}
use Rattle.plan_drafts.proofs.RowPlaces.{row_at}
use Rattle.plan_drafts.specs.PlanGraphs.{IsGraphFor, IsGraphOf}
use Rattle.plan_checks.specs.plan_status.proofs.LoadedRows.{row_found, row_of}
use Rattle.plan_checks.specs.plan_status.proofs.RowKeys.{key_of_row, row_of_key}
use Rattle.plan_checks.specs.start_choice.proofs.ItemStarts.{deadline_in, duration_in}
use Rattle.plan_checks.specs.start_choice.specs.Choices.{AreLatestStarts}
use Rattle.workstations.specs.Timetables.{NamedWorkstation}
use Rattle.workstations.specs.Workstations.{Workstation}
use Rattle.plan_model.specs.Moves.{AreLiveAlike, IsMovedAt, IsRemarked, reporting}
use Rattle.small_requests.specs.KeptLaws.{FrameStays, LivesFollow, MovesFollow, OperationsStay}

-- ---- lists

-- what has the same at each index is the same
pub same_list : {X : Type 0} (xs ys : List X) → length xs ≡ length ys → ((i : ℕ) (x : X) → slice_get xs i ≡ Some x → slice_get ys i ≡ Some x) → xs ≡ ys
same_list [] [] size each = refl
same_list [] (y ∷ ys) size each = absurd (omega (arith, size))
same_list (x ∷ xs) [] size each = absurd (omega (arith, size))
same_list (x ∷ xs) (y ∷ ys) size each =
    let first : x ≡ y = sym (same_Some y x (each 0 x refl)) in
    let later = same_list xs ys (omega (arith, size)) (λ i z at. each (suc i) z at) in
    λ j. first j ∷ later j

-- ---- any least start, where the same paths are there

module _ {K : Type 0} (edge : K → K → Type 0) where
  path_kept : (live still : K → Type 0) → ((k : K) → live k → still k) → (a : K) (rest : List K) → IsPathBy edge live a rest → IsPathBy edge still a rest
  path_kept live still keeps a [] path = tt
  path_kept live still keeps a (b ∷ rest) path = (path.0, keeps b path.1, path_kept live still keeps b rest path.2)

  pub least_kept : (live still : K → Type 0) → ((k : K) → live k → still k) → ((k : K) → still k → live k) → (duration deadline : K → ℕ) (a : K) (v : ℤ)
      → IsLeastStart edge live duration deadline a v → IsLeastStart edge still duration deadline a v
  least_kept live still forth back duration deadline a v least = record {
    of_a_path = (least.of_a_path.0, path_kept live still forth a least.of_a_path.0 least.of_a_path.1, least.of_a_path.2);
    least = λ rest path. least.least rest (path_kept still live back a rest path);
  }

-- ---- how workstations report

one_found : (b : Bool) (ws : Workstation) (later : Option Attr) (rest : Option Workstation) → later ≡ option_map (λ (x : Workstation). x.attribute) rest
    → cond b (Some ws.attribute) later ≡ option_map (λ (x : Workstation). x.attribute) (cond b (Some ws) rest)
one_found true ws later rest same = refl
one_found false ws later rest same = same

found_reporting : (w : Name) (rows : List NamedWorkstation) → find name_cmp w (reporting rows) ≡ option_map (λ (x : Workstation). x.attribute) (find name_cmp w rows)
found_reporting w [] = refl
found_reporting w (row ∷ rows) = one_found (eq_by_cmp name_cmp w row.0) row.1 (find name_cmp w (reporting rows)) (find name_cmp w rows) (found_reporting w rows)

attribute_told : (P : Contents) (w : Name) → attribute_at P w ≡ find name_cmp w (reporting (entries P.workstations))
attribute_told P w = ap (option_map (λ (x : Workstation). x.attribute)) (get-entries P.workstations w) ∙ sym (found_reporting w (entries P.workstations))

-- ---- two plans of which only marks and flags differ

module _ (P Q : Contents) (places : List ℕ) (moved : IsMovedAt P Q places) where
  -- what an operation was before
  pub was : (o : OpKey) (op : Operation) → get Q.operations o ≡ Some op → (before : Operation) × (get P.operations o ≡ Some before) × IsRemarked before op
  was o op is =
      let at = row_of Q o op is in
      let row = moved.rows at.0 o op at.1 in
      (row.before, row_found P at.0 o row.before row.was, row.remarked)

  -- the row at its index after
  there : (i : ℕ) (o : OpKey) (op : Operation) → slice_get (entries P.operations) i ≡ Some (o, op) → (after : Operation) × (slice_get (entries Q.operations) i ≡ Some (o, after)) × IsRemarked op after
  there i o op at =
      let lt = slice_get_within (entries P.operations) i (o, op) at in
      let row = row_at (entries Q.operations) i (omega (arith, lt, moved.size)) in
      let after : Operation = row.0.1 in
      let old = moved.rows i row.0.0 after row.1 in
      let same : ◌≡◌ {A = OpKey × Operation} (row.0.0, old.before) (o, op) = same_Some _ _ (sym old.was ∙ at) in
      (after, row.1 ∙ ap (λ (z : OpKey × Operation). Some (z.0, after)) same, subst (λ (z : OpKey × Operation). IsRemarked z.1 after) same old.remarked)

  -- what it is after
  pub now : (o : OpKey) (op : Operation) → get P.operations o ≡ Some op → (after : Operation) × (get Q.operations o ≡ Some after) × IsRemarked op after
  now o op is =
      let at = row_of P o op is in
      let row = there at.0 o op at.1 in
      (row.0, row_found Q at.0 o row.0 row.1, row.2)

  -- a number that neither marks nor flags change
  module _ (number : Operation → ℕ) (same : (before after : Operation) → IsRemarked before after → number after ≡ number before) (o : OpKey) where
    amounts : (x y : Option Operation) → get P.operations o ≡ x → get Q.operations o ≡ y → amount_of x number ≡ amount_of y number
    amounts None None in_P in_Q = refl
    amounts (Some before) None in_P in_Q = let after = now o before in_P in absurd (none-some after.0 (sym in_Q ∙ after.1))
    amounts None (Some after) in_P in_Q = let before = was o after in_Q in absurd (none-some before.0 (sym in_P ∙ before.1))
    amounts (Some before) (Some after) in_P in_Q =
        let found = was o after in_Q in
        ap number (same_Some before found.0 (sym in_P ∙ found.1)) ∙ sym (same found.0 after found.2)

    amount_kept : amount_of (get P.operations o) number ≡ amount_of (get Q.operations o) number
    amount_kept = amounts (get P.operations o) (get Q.operations o) refl refl

  same_duration : (o : OpKey) → duration_in P o ≡ duration_in Q o
  same_duration o = amount_kept (λ op. op.duration) (λ before after h. ap (λ (op : Operation). op.duration) h.rest) o

  same_deadline : (o : OpKey) → deadline_in P o ≡ deadline_in Q o
  same_deadline o = amount_kept (λ op. op.deadline) (λ before after h. ap (λ (op : Operation). op.deadline) h.rest) o

  -- the same operations are live in both
  module _ (alike : AreLiveAlike P Q) where
    pub live_after : (o : OpKey) → IsLive P o → IsLive Q o
    live_after o live =
        let at = row_of P o live.0 live.1 in
        let row = there at.0 o live.0 at.1 in
        (row.0, row_found Q at.0 o row.0 row.1, live_mark row.0.mark (alike at.0 o live.0 row.0 at.1 row.1 ∙ mark_live live.0.mark live.2))

    pub live_before : (o : OpKey) → IsLive Q o → IsLive P o
    live_before o live =
        let at = row_of Q o live.0 live.1 in
        let row = moved.rows at.0 o live.0 at.1 in
        (row.before, row_found P at.0 o row.before row.was, live_mark row.before.mark (sym (alike at.0 o row.before live.0 row.was at.1) ∙ mark_live live.0.mark live.2))

    latest_start_stays : (o : OpKey) (v : ℤ) → IsLatestStart P o v → IsLatestStart Q o v
    latest_start_stays o v latest =
        subst (λ pairs. IsLeastStart (IsPairOf pairs) (IsLive Q) (duration_in Q) (deadline_in Q) o v) (sym moved.pairs)
        (subst (λ (f : OpKey → ℕ). IsLeastStart (Precedes P) (IsLive Q) f (deadline_in Q) o v) (λ i q. same_duration q i)
        (subst (λ (f : OpKey → ℕ). IsLeastStart (Precedes P) (IsLive Q) (duration_in P) f o v) (λ i q. same_deadline q i)
        (least_kept (Precedes P) (IsLive P) (IsLive Q) live_after live_before (duration_in P) (deadline_in P) o v latest)))

    pub latest_stay : (starts : List ℤ) → AreLatestStarts P starts → AreLatestStarts Q starts
    latest_stay starts are = record {
      size = are.size ∙ sym moved.size;
      each = λ i o op v at is. let row = moved.rows i o op at in latest_start_stays o v (are.each i o row.before v row.was is);
    }

  pub keys_stay : keys P.operations ≡ keys Q.operations
  keys_stay =
      let before = entries P.operations in
      let after = entries Q.operations in
      let size : length (keys_of after) ≡ length (keys_of before) = length_map (λ (row : OpKey × Operation). row.0) after ∙ moved.size ∙ sym (length_map (λ (row : OpKey × Operation). row.0) before) in
      let same : keys_of after ≡ keys_of before = same_list (keys_of after) (keys_of before) size (λ i o at.
      let row = row_of_key after i o at in
      let old = moved.rows i o row.0 row.1 in
      key_of_row before i o old.before old.was) in
      keys_of-entries operation_cmp P.operations ∙ sym same ∙ sym (keys_of-entries operation_cmp Q.operations)

  pub graph_stays : (g : Digraph) → IsGraphFor P g → IsGraphFor Q g
  graph_stays g graph =
      subst (λ pairs. IsGraphOf (keys Q.operations) pairs g) (sym moved.pairs) (subst (λ (ks : List OpKey). IsGraphOf ks P.pairs g) keys_stay graph)

  pub attributes_stay : (w : Name) → attribute_at P w ≡ attribute_at Q w
  attributes_stay w = attribute_told P w ∙ ap (find name_cmp w) (sym moved.workstations) ∙ sym (attribute_told Q w)

pub frame_stays : FrameStays
frame_stays P Q places moved alike = record {
  attributes = attributes_stay P Q places moved;
  keys = keys_stay P Q places moved;
  live = λ o. (live_after P Q places moved alike o, live_before P Q places moved alike o);
  graph = graph_stays P Q places moved;
  latest = latest_stay P Q places moved alike;
}

-- ---- one change after another

module _ (before mid after : Operation) (first : IsRemarked before mid) (second : IsRemarked mid after) where
  remarked_again : IsRemarked before after
  remarked_again = record { rest = second.rest ∙ ap (λ (op : Operation). record op { mark = after.mark; held = after.held; nop = after.nop }) first.rest }

pub moves_follow : MovesFollow
moves_follow P Q R first second places to on has = record {
  workstations = on.workstations ∙ to.workstations;
  occurrences = on.occurrences ∙ to.occurrences;
  pairs = on.pairs ∙ to.pairs;
  size = on.size ∙ to.size;
  rows = λ i o op at.
      let last = on.rows i o op at in
      let old = to.rows i o last.before last.was in
      record {
        before = old.before;
        was = old.was;
        remarked = remarked_again old.before last.before op old.remarked last.remarked;
        elsewhere = λ other. last.elsewhere (λ h. other (has i (inr h))) ∙ old.elsewhere (λ h. other (has i (inl h)));
      };
}

pub lives_follow : LivesFollow
lives_follow P Q R second on first later i o before after was is = let mid = on.rows i o after is in later i o mid.before after mid.was is ∙ first i o before mid.before was mid.was

-- ---- changes nowhere

none_there : (i : ℕ) → ¬ Contains {X = ℕ} [] i
none_there i has = let lt = has.1 in omega (arith, lt)

pub operations_stay : OperationsStay
operations_stay P Q moved =
    let same : entries Q.operations ≡ entries P.operations = same_list (entries Q.operations) (entries P.operations) moved.size (λ i row at.
    let old = moved.rows i row.0 row.1 at in
    old.was ∙ ap (λ (op : Operation). Some (row.0, op)) (sym (old.elsewhere (none_there i)))) in
    sym (entries_are operation_cmp operation_cmp_total operation_cmp-IsAntisymmetric Q.operations)
    ∙ ap (from_entries {R = operation_cmp}) same
    ∙ entries_are operation_cmp operation_cmp_total operation_cmp-IsAntisymmetric P.operations
