-- The rows of the operations and the occurrences of a source.
use Rattle.std.proofs.Common.{◌≡◌, refl, sym, subst, ap, ◌∙◌, arith, ℕ, ℤ, ◌<◌, length, List, [], ◌∷◌, map, Contains, slice_get, Option, Some, None}
use Rattle.std.proofs.lemmas.Option.{none-some, slice_get_within}
use Rattle.std.proofs.lemmas.List.{length-map}
use Rattle.std.specs.FinMap.{entries, get, get-empty}
use Rattle.std.specs.List.{zip}
use Rattle.std.specs.List.Sorted.{IsStrictlySortedBy}
use Rattle.std.specs.Map.{keys_of}
use Rattle.plan_basics.proofs.Members.{at_place, contains_mapped, contains_none, mapped_contains}
use Rattle.plan_basics.specs.Keys.{occurrence_cmp, occurrence_cmp-IsAntisymmetric, occurrence_cmp_total, operation_cmp, operation_cmp-IsAntisymmetric, operation_cmp_total}
use Rattle.plan_basics.specs.declared.keys.OccKey.{OccKey}
use Rattle.plan_basics.specs.declared.keys.OpKey.{OpKey}
use Rattle.plan_records.specs.plan_drafts.proofs.EntryRows.{entry_of, row_in}
use Rattle.plan_records.specs.plan_drafts.proofs.RowPlaces.{row_at}
use Rattle.plan_records.specs.plan_drafts.specs.declared.RowKey.{RowKey}
use Rattle.plan_records.specs.plan_drafts.specs.declared.RowKey.TheVariants as key
use Rattle.derived_figures.specs.plan_laws.proofs.Tabling.{one_row}
use Rattle.derived_figures.specs.plan_laws.proofs.Waiting.{one_occurrence_status}
use Rattle.plan_model.proofs.Entries.{entries_in_order}
use Rattle.plan_model.specs.Contents.{Contents, Operation}
use Rattle.plan_model.specs.Plan.{Plan}
use Rattle.plan_model.specs.Status.{HasOccurrenceStatus}
use Rattle.plan_model.specs.declared.Occurrence.{Occurrence}
use Rattle.plan_records.specs.Rows.{IsOperationRow, key_of}
use Rattle.plan_records.specs.declared.PlanRow.{PlanRow}
use Rattle.plan_records.specs.declared.PlanRow.TheVariants as row
use Rattle.plan_rows.proofs.NoRows.{none_ascend, none_kept}
use Rattle.plan_rows.proofs.SideBySide.{from_viewed, from_zipped, keys_viewed, length_zipped, viewed_at, zipped_at}
use Rattle.plan_rows.specs.Rows.{if_any, keyed_occurrence, keyed_occurrences, keyed_operation, keyed_operations, operation_row_of, rows_of}
use Rattle.plan_rows.specs.Sources.{contents_if_any, IsSource, IsSourceIfAny, Known, known_of, plan_if_any}
use Rattle.plan_rows.specs.Tables.{AreRowsOf, IsRowOf}
use Rattle.plan_rows.specs.declared.row_sources.RowSource.{RowSource}
use Rattle.derived_figures.specs.plan_status.proofs.OfOccurrences.{status_counted}
use Rattle.derived_figures.specs.plan_status.specs.Standings.{IsTally}
use Rattle.derived_figures.specs.plan_status.specs.declared.standings.Standing.{Standing}
use Rattle.status_rules.proofs.CountsTable.{first_by_table}
use Rattle.status_rules.specs.Table.{occurrence_by}
use Rattle.status_rules.specs.declared.Counts.{Counts}
use Rattle.status_rules.specs.declared.OccStatus.{OccStatus}
use Rattle.status_rules.specs.declared.Status.{Status}

-- rows that are made with their keys are under these
keyed_made : {Z K : Type 0} (name : K → RowKey) (f : Z → K × PlanRow) → ((z : Z) → key_of (f z).1 ≡ name (f z).0) → (zs : List Z) → map key_of (rows_of (map f zs)) ≡ map name (keys_of (map f zs))
keyed_made name f same [] = refl
keyed_made name f same (z ∷ zs) = λ i. same z i ∷ keyed_made name f same zs i

module _ (s : RowSource) (source : IsSource s) where
  abbrev P : Contents
  P = s.contents.now

  abbrev operations : List (OpKey × Operation)
  operations = entries P.operations

  abbrev others : List (Status × ℤ)
  others = zip s.statuses.now s.latest.now.starts

  size_others : length others ≡ length operations
  size_others = length_zipped s.statuses.now s.latest.now.starts (source.latest.size ∙ sym source.statuses.size) ∙ source.statuses.size

  -- as much is known as there are operations
  pub size_known : length (known_of s) ≡ length operations
  size_known = length_zipped s.standings.now others (size_others ∙ sym source.standings.size) ∙ source.standings.size

  pub operation_keys : keys_of (keyed_operations s) ≡ keys_of operations
  operation_keys = keys_viewed keyed_operation (λ z. z.0) (λ p. refl) operations (known_of s) size_known

  pub operation_within : (i : ℕ) → i < length (keys_of (keyed_operations s)) → i < length operations
  operation_within i lt = let e = ap length operation_keys in let f = length-map operations (λ (x : OpKey × Operation). x.0) in omega (arith, lt, e, f)

  pub operation_at : (i : ℕ) (o : OpKey) (op : Operation) (x : Standing) (t : Status) (v : ℤ) → slice_get operations i ≡ Some (o, op) → slice_get s.standings.now i ≡ Some x → slice_get s.statuses.now i ≡ Some t → slice_get s.latest.now.starts i ≡ Some v
      → slice_get (keyed_operations s) i ≡ Some (keyed_operation ((o, op), (x, (t, v))))
  operation_at i o op x t v at standing status start =
      viewed_at keyed_operation operations (known_of s) i (o, op) (x, (t, v)) at (zipped_at s.standings.now others i x (t, v) standing (zipped_at s.statuses.now s.latest.now.starts i t v status start))

  pub is_operation_row : (i : ℕ) (o : OpKey) (op : Operation) (k : Known) → slice_get operations i ≡ Some (o, op) → slice_get (known_of s) i ≡ Some k → IsOperationRow P (operation_row_of ((o, op), k))
  is_operation_row i o op k at known =
      let both = from_zipped s.standings.now others i k known in
      let other = from_zipped s.statuses.now s.latest.now.starts i k.1 both.1 in
      record {
        op = op;
        is_in_plan = row_in operation_cmp_total operation_cmp-IsAntisymmetric P.operations i o op at;
        columns = (refl, refl, refl, refl, refl, refl, refl, refl, refl);
        status = source.statuses.each i o op k.1.0 at other.0;
        latest = source.latest.each i o op k.1.1 at other.1;
        waiting = (source.standings.each i o op k.0 at both.0).waiting;
      }

  operation_told : (Q : Plan) → Q.contents ≡ P → (r : PlanRow) → Contains (rows_of (keyed_operations s)) r → IsRowOf 5 Q r
  operation_told Q same r has =
      let z = mapped_contains (λ (x : OpKey × PlanRow). x.1) (keyed_operations s) r has in
      let x = from_viewed keyed_operation operations (known_of s) z.0 z.2 in
      let is = is_operation_row x.0 x.1.0 x.1.1 x.2 x.3 x.4 in
      subst (IsRowOf 5 Q) (ap (λ (y : OpKey × PlanRow). y.1) x.5 ∙ z.1) (subst (λ C. IsOperationRow C (operation_row_of (x.1, x.2))) (sym same) is, refl)

  operation_there : (Q : Plan) → Q.contents ≡ P → (r : PlanRow) → IsRowOf 5 Q r → Contains (rows_of (keyed_operations s)) r
  operation_there Q same (row.Operation q) (is, e) =
      let here = subst (λ C. IsOperationRow C q) same is in
      let at = entry_of operation_cmp_total operation_cmp-IsAntisymmetric P.operations q.op here.op here.is_in_plan in
      let k = row_at (known_of s) at.0 (let lt = slice_get_within operations at.0 (q.op, here.op) at.1 in omega (arith, lt, size_known)) in
      let one = one_row P source.sound.valid.acyclic (operation_row_of ((q.op, here.op), k.0)) q (is_operation_row at.0 q.op here.op k.0 at.1 k.1) here refl in
      subst (λ z. Contains (rows_of (keyed_operations s)) (row.Operation z)) one
      (contains_mapped (λ (x : OpKey × PlanRow). x.1) (keyed_operations s) (keyed_operation ((q.op, here.op), k.0)) (at_place (keyed_operations s) at.0 (keyed_operation ((q.op, here.op), k.0)) (viewed_at keyed_operation operations (known_of s) at.0 (q.op, here.op) k.0 at.1 k.1)))
  operation_there Q same r (is, e) = absurd (cc)

  source_operations : (Q : Plan) → Q.contents ≡ P → AreRowsOf key.Operation 5 Q (keys_of (keyed_operations s)) (rows_of (keyed_operations s))
  source_operations Q same = record { keyed = keyed_made key.Operation keyed_operation (λ _. refl) (zip operations (known_of s)); all = λ r. (operation_told Q same r, operation_there Q same r) }

  -- ---- occurrences
  abbrev occurrences : List (OccKey × Occurrence)
  occurrences = entries P.occurrences

  pub occurrence_keys : keys_of (keyed_occurrences s) ≡ keys_of occurrences
  occurrence_keys = keys_viewed keyed_occurrence (λ z. z.0) (λ p. refl) occurrences s.tallies.now source.tallies.size

  pub occurrence_within : (i : ℕ) → i < length (keys_of (keyed_occurrences s)) → i < length occurrences
  occurrence_within i lt = let e = ap length occurrence_keys in let f = length-map occurrences (λ (x : OccKey × Occurrence). x.0) in omega (arith, lt, e, f)

  pub has_status : (i : ℕ) (c : OccKey) (x : Occurrence) (n : Counts) → slice_get occurrences i ≡ Some (c, x) → slice_get s.tallies.now i ≡ Some n → HasOccurrenceStatus P c (occurrence_by n)
  has_status i c x n at numbers = status_counted P c n (source.tallies.each i c x n at numbers) (occurrence_by n) (first_by_table n)

  -- the row at an index, with the status that follows from its numbers
  pub occurrence_at : (i : ℕ) (c : OccKey) (x : Occurrence) (n : Counts) (t : OccStatus) → slice_get occurrences i ≡ Some (c, x) → slice_get s.tallies.now i ≡ Some n → ((C : Contents) (k : OccKey) → IsTally C k n → HasOccurrenceStatus C k t)
      → slice_get (keyed_occurrences s) i ≡ Some (c, row.Occurrence c x.priority x.deadline t)
  occurrence_at i c x n t at numbers told =
      let status = one_occurrence_status P c (occurrence_by n) t (has_status i c x n at numbers) (told P c (source.tallies.each i c x n at numbers)) in
      viewed_at keyed_occurrence occurrences s.tallies.now i (c, x) n at numbers ∙ (λ j. Some (c, row.Occurrence c x.priority x.deadline (status j)))

  occurrence_told : (Q : Plan) → Q.contents ≡ P → (r : PlanRow) → Contains (rows_of (keyed_occurrences s)) r → IsRowOf 4 Q r
  occurrence_told Q same r has =
      let z = mapped_contains (λ (x : OccKey × PlanRow). x.1) (keyed_occurrences s) r has in
      let x = from_viewed keyed_occurrence occurrences s.tallies.now z.0 z.2 in
      let kept = row_in occurrence_cmp_total occurrence_cmp-IsAntisymmetric P.occurrences x.0 x.1.0 x.1.1 x.3 in
      let known = has_status x.0 x.1.0 x.1.1 x.2 x.3 x.4 in
      subst (IsRowOf 4 Q) (ap (λ (y : OccKey × PlanRow). y.1) x.5 ∙ z.1) (subst (λ C. (get C.occurrences x.1.0 ≡ Some x.1.1) × HasOccurrenceStatus C x.1.0 (occurrence_by x.2)) (sym same) (kept, known), refl)

  occurrence_there : (Q : Plan) → Q.contents ≡ P → (r : PlanRow) → IsRowOf 4 Q r → Contains (rows_of (keyed_occurrences s)) r
  occurrence_there Q same (row.Occurrence c priority deadline t) (is, e) =
      let terms : Occurrence = record { priority = priority; deadline = deadline } in
      let here : (get P.occurrences c ≡ Some terms) × HasOccurrenceStatus P c t = subst (λ C. (get C.occurrences c ≡ Some terms) × HasOccurrenceStatus C c t) same is in
      let at = entry_of occurrence_cmp_total occurrence_cmp-IsAntisymmetric P.occurrences c terms here.0 in
      let n = row_at s.tallies.now at.0 (let lt = slice_get_within occurrences at.0 (c, terms) at.1 in let size = source.tallies.size in omega (arith, lt, size)) in
      let one = one_occurrence_status P c (occurrence_by n.0) t (has_status at.0 c terms n.0 at.1 n.1) here.1 in
      subst (λ z. Contains (rows_of (keyed_occurrences s)) (row.Occurrence c priority deadline z)) one
      (contains_mapped (λ (x : OccKey × PlanRow). x.1) (keyed_occurrences s) (keyed_occurrence ((c, terms), n.0)) (at_place (keyed_occurrences s) at.0 (keyed_occurrence ((c, terms), n.0)) (viewed_at keyed_occurrence occurrences s.tallies.now at.0 (c, terms) n.0 at.1 n.1)))
  occurrence_there Q same r (is, e) = absurd (cc)

  source_occurrences : (Q : Plan) → Q.contents ≡ P → AreRowsOf key.Occurrence 4 Q (keys_of (keyed_occurrences s)) (rows_of (keyed_occurrences s))
  source_occurrences Q same = record { keyed = keyed_made key.Occurrence keyed_occurrence (λ _. refl) (zip occurrences s.tallies.now); all = λ r. (occurrence_told Q same r, occurrence_there Q same r) }

-- ---- where there is no source there is no row

no_operation_row : (clock : ℕ) (r : PlanRow) → IsRowOf 5 (plan_if_any clock None) r → Contains [] r
no_operation_row clock (row.Operation q) (is, e) = absurd (none-some is.op (sym (get-empty operation_cmp q.op) ∙ is.is_in_plan))
no_operation_row clock r (is, e) = absurd (cc)

no_occurrence_row : (clock : ℕ) (r : PlanRow) → IsRowOf 4 (plan_if_any clock None) r → Contains [] r
no_occurrence_row clock (row.Occurrence c priority deadline t) (is, e) = absurd (none-some _ (sym (get-empty occurrence_cmp c) ∙ is.0))
no_occurrence_row clock r (is, e) = absurd (cc)

pub are_operations : (clock : ℕ) (source : Option RowSource) → IsSourceIfAny source → AreRowsOf key.Operation 5 (plan_if_any clock source) (keys_of (if_any keyed_operations source)) (rows_of (if_any keyed_operations source))
are_operations clock None is = record { keyed = refl; all = λ r. (λ has. absurd (contains_none r has), no_operation_row clock r) }
are_operations clock (Some s) is = source_operations s is (plan_if_any clock (Some s)) refl

pub are_occurrences : (clock : ℕ) (source : Option RowSource) → IsSourceIfAny source → AreRowsOf key.Occurrence 4 (plan_if_any clock source) (keys_of (if_any keyed_occurrences source)) (rows_of (if_any keyed_occurrences source))
are_occurrences clock None is = record { keyed = refl; all = λ r. (λ has. absurd (contains_none r has), no_occurrence_row clock r) }
are_occurrences clock (Some s) is = source_occurrences s is (plan_if_any clock (Some s)) refl

pub operations_ascend : (source : Option RowSource) → IsSourceIfAny source → IsStrictlySortedBy operation_cmp (keys_of (if_any keyed_operations source))
operations_ascend None is = none_ascend operation_cmp
operations_ascend (Some s) is = subst (IsStrictlySortedBy operation_cmp) (sym (operation_keys s is)) (entries_in_order operation_cmp s.contents.now.operations)

pub occurrences_ascend : (source : Option RowSource) → IsSourceIfAny source → IsStrictlySortedBy occurrence_cmp (keys_of (if_any keyed_occurrences source))
occurrences_ascend None is = none_ascend occurrence_cmp
occurrences_ascend (Some s) is = subst (IsStrictlySortedBy occurrence_cmp) (sym (occurrence_keys s is)) (entries_in_order occurrence_cmp s.contents.now.occurrences)

-- the keys of the rows of a source are those of what is kept
pub operation_keys_kept : (source : Option RowSource) → IsSourceIfAny source → keys_of (if_any keyed_operations source) ≡ keys_of (entries (contents_if_any source).operations)
operation_keys_kept None is = ap keys_of (none_kept operation_cmp_total)
operation_keys_kept (Some s) is = operation_keys s is

pub occurrence_keys_kept : (source : Option RowSource) → IsSourceIfAny source → keys_of (if_any keyed_occurrences source) ≡ keys_of (entries (contents_if_any source).occurrences)
occurrence_keys_kept None is = ap keys_of (none_kept occurrence_cmp_total)
occurrence_keys_kept (Some s) is = occurrence_keys s is
