-- Operations of which only marks and flags change: their keys, their needs, and those that stay.
use Rattle.std.proofs.Common.{◌≡◌, inl, inr, refl, sym, ap, ◌∙◌, arith, ℕ, zero, suc, List, [], ◌∷◌, map, slice_get, Contains, Option, Some, None, option_map}
use Rattle.std.specs.FinMap.{FinMap, entries, get}
use Rattle.std.specs.List.{zip}
use Rattle.std.specs.Map.{keys_of}
use Rattle.std.proofs.lemmas.Option.{same_Some, slice_get-map, slice_get_cases, slice_get_past, slice_get_within}
use Rattle.plan_basics.specs.Keys.{occurrence_cmp, operation_cmp-IsAntisymmetric, operation_cmp_total}
use Rattle.plan_basics.specs.declared.keys.OpKey.{OpKey}
use Rattle.plan_records.specs.plan_drafts.proofs.EntryRows.{entry_of, row_in}
use Rattle.plan_model.specs.Contents.{Contents, Operation}
use Rattle.plan_model.specs.declared.Occurrence.{Occurrence}
use Rattle.plan_model.specs.Moves.{IsRemarkedAt}
use Rattle.row_differences.proofs.Merging.{key_within}
use Rattle.plan_rows.specs.Touched.{AreMovedAmong, AreOccurrencesOf, BelongsAt}

-- lists that have the same at each index are the same
pub same_by_index : {X : Type 0} (xs ys : List X) → ((i : ℕ) → slice_get xs i ≡ slice_get ys i) → xs ≡ ys
same_by_index [] [] each = refl
same_by_index [] (y ∷ ys) each = let e = each 0 in absurd (cc)
same_by_index (x ∷ xs) [] each = let e = each 0 in absurd (cc)
same_by_index (x ∷ xs) (y ∷ ys) each =
    let first : x ≡ y = same_Some x y (each 0) in
    let rest = same_by_index xs ys (λ i. each (suc i)) in
    λ t. first t ∷ rest t

-- what is there side by side
abbrev both : {X Y : Type 0} → Option X → Option Y → Option (X × Y)
both None b = None
both (Some x) None = None
both (Some x) (Some y) = Some (x, y)

both_none : {X Y : Type 0} (a : Option X) → None ≡ both {Y = Y} a None
both_none None = refl
both_none (Some x) = refl

zipped : {X Y : Type 0} (xs : List X) (ys : List Y) (i : ℕ) → slice_get (zip xs ys) i ≡ both (slice_get xs i) (slice_get ys i)
zipped [] ys i = refl
zipped (x ∷ xs) [] i = both_none (slice_get (x ∷ xs) i)
zipped (x ∷ xs) (y ∷ ys) zero = refl
zipped (x ∷ xs) (y ∷ ys) (suc i) = zipped xs ys i

pub zipped_alike : {X Y : Type 0} (xs us : List X) (ys vs : List Y) (i : ℕ) → slice_get xs i ≡ slice_get us i → slice_get ys i ≡ slice_get vs i → slice_get (zip xs ys) i ≡ slice_get (zip us vs) i
zipped_alike xs us ys vs i e f = zipped xs ys i ∙ ((λ t. both (e t) (f t)) ∙ sym (zipped us vs i))

pub mapped_alike : {X Y : Type 0} (g : X → Y) (xs us : List X) (i : ℕ) → slice_get xs i ≡ slice_get us i → slice_get (map g xs) i ≡ slice_get (map g us) i
mapped_alike g xs us i e = slice_get-map g xs i ∙ (ap (option_map g) e ∙ sym (slice_get-map g us i))

module _ (P Q : Contents) (touched : List ℕ) (h : AreMovedAmong P Q touched) where
  abbrev moved : IsRemarkedAt P Q h.places
  moved = h.moved

  -- the keys stay
  pub same_keys : keys_of (entries Q.operations) ≡ keys_of (entries P.operations)
  same_keys = same_by_index (keys_of (entries Q.operations)) (keys_of (entries P.operations)) each
    where
      each : (i : ℕ) → slice_get (keys_of (entries Q.operations)) i ≡ slice_get (keys_of (entries P.operations)) i
      each i = elim (slice_get_cases (entries Q.operations) i).1 [
        | inl (z, lt, at, is) ↦
            let was = (moved.rows i z.0 z.1 at).was in
            slice_get-map (λ (x : OpKey × Operation). x.0) (entries Q.operations) i ∙ (ap (option_map (λ (x : OpKey × Operation). x.0)) at
            ∙ sym (slice_get-map (λ (x : OpKey × Operation). x.0) (entries P.operations) i ∙ ap (option_map (λ (x : OpKey × Operation). x.0)) was))
        | inr (past, none) ↦
            let size = moved.size in
            mapped_alike (λ (x : OpKey × Operation). x.0) (entries Q.operations) (entries P.operations) i (none ∙ sym (slice_get_past (entries P.operations) i (omega (arith, past, size))))
      ]

  -- an operation that isn't touched stays
  pub same_elsewhere : (i : ℕ) → ¬ Contains touched i → slice_get (entries Q.operations) i ≡ slice_get (entries P.operations) i
  same_elsewhere i not = elim (slice_get_cases (entries Q.operations) i).1 [
    | inl (z, lt, at, is) ↦
        let row = moved.rows i z.0 z.1 at in
        let same = row.elsewhere (λ has. not (h.among i has)) in
        at ∙ ((λ t. Some (z.0, same t)) ∙ sym row.was)
    | inr (past, none) ↦ let size = moved.size in none ∙ sym (slice_get_past (entries P.operations) i (omega (arith, past, size)))
  ]

  -- and no operation's needs differ
  pub needs_were : (o : OpKey) (op : Operation) → get Q.operations o ≡ Some op → (was : Operation) × (get P.operations o ≡ Some was) × (op.needs ≡ was.needs)
  needs_were o op is =
      let (i, at) = entry_of operation_cmp_total operation_cmp-IsAntisymmetric Q.operations o op is in
      let row = moved.rows i o op at in
      (row.before, row_in operation_cmp_total operation_cmp-IsAntisymmetric P.operations i o row.before row.was, ap (λ (x : Operation). x.needs) row.remarked.rest)

  pub needs_are : (o : OpKey) (op : Operation) → get P.operations o ≡ Some op → (now : Operation) × (get Q.operations o ≡ Some now) × (now.needs ≡ op.needs)
  needs_are o op was =
      let (i, at) = entry_of operation_cmp_total operation_cmp-IsAntisymmetric P.operations o op was in
      let size = moved.size in
      let lt = slice_get_within (entries P.operations) i (o, op) at in
      let (z, there) = key_within (entries Q.operations) i (omega (arith, lt, size)) in
      let row = moved.rows i z.0 z.1 there in
      let same : ◌≡◌ {A = OpKey × Operation} (z.0, row.before) (o, op) = same_Some (z.0, row.before) (o, op) (sym row.was ∙ at) in (
        z.1,
        row_in operation_cmp_total operation_cmp-IsAntisymmetric Q.operations i o z.1 (there ∙ (λ t. Some ((same t).0, z.1))),
        ap (λ (x : Operation). x.needs) row.remarked.rest ∙ (λ t. (same t).1.needs),
      )

-- where operations belong stays
module _ (P Q : Contents) (touched : List ℕ) (h : AreMovedAmong P Q touched) (i p : ℕ) where
  belonged : BelongsAt Q i p → BelongsAt P i p
  belonged b = let row = h.moved.rows i b.o b.op b.operation in record {
    o = b.o;
    op = row.before;
    terms = b.terms;
    operation = row.was;
    occurrence = ap (λ (kept : FinMap occurrence_cmp Occurrence). slice_get (entries kept) p) (sym h.moved.occurrences) ∙ b.occurrence;
  }

  belongs : BelongsAt P i p → BelongsAt Q i p
  belongs b =
      let size = h.moved.size in
      let lt = slice_get_within (entries P.operations) i (b.o, b.op) b.operation in
      let (z, there) = key_within (entries Q.operations) i (omega (arith, lt, size)) in
      let row = h.moved.rows i z.0 z.1 there in
      let same : ◌≡◌ {A = OpKey × Operation} (z.0, row.before) (b.o, b.op) = same_Some (z.0, row.before) (b.o, b.op) (sym row.was ∙ b.operation) in
      record {
        o = b.o;
        op = z.1;
        terms = b.terms;
        operation = there ∙ (λ t. Some ((same t).0, z.1));
        occurrence = ap (λ (kept : FinMap occurrence_cmp Occurrence). slice_get (entries kept) p) h.moved.occurrences ∙ b.occurrence;
      }

-- so operations have the same occurrences
pub same_occurrences : (P Q : Contents) (touched places : List ℕ) → AreMovedAmong P Q touched → AreOccurrencesOf Q touched places → AreOccurrencesOf P touched places
same_occurrences P Q touched places h are = record {
  ascend = are.ascend;
  all = λ p. (
    λ has. let (i, among, b) = (are.all p).0 has in (i, among, belonged P Q touched h i p b),
    λ one. let (i, among, b) = one in (are.all p).1 (i, among, belongs P Q touched h i p b),
  );
}
