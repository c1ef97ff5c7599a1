-- Receipts that are read row by row.
use Rattle.std.proofs.Common.{◌≡◌, ◌≢◌, ◌↔◌, inl, inr, refl, sym, ap, subst, ◌∙◌, true≢false, arith, ℕ, pos, ◌+◌, ◌<◌, ◌≤◌, Bool, true, false, cond, List, [], ◌∷◌, ◌++◌, map, length, take, get_or, Contains, Option, Some, None, IsSome, IfSome, length-take-le}
use Rattle.std.specs.Prelude.{MatchOption}
use Rattle.std.specs.FinMap.{get, get-empty, get-insert, insert, len}
use Rattle.std.specs.FinMap as finite
use Rattle.std.specs.Ordering.{eq_by_cmp}
use Rattle.std.proofs.lemmas.Bool.{cases_lt}
use Rattle.std.proofs.lemmas.List.{get_or-take, take_more}
use Rattle.std.proofs.lemmas.List.Elements.{at_read, Contains-append_cases, Contains-append_left, Contains-append_right}
use Rattle.std.proofs.lemmas.List.Sorted.{IsPermutation-push_more, IsPermutation-refl, IsPermutation-sym}
use Rattle.std.proofs.lemmas.Option.{none-some, same_Some}
use Rattle.plan_basics.proofs.Members.{tied_is}
use Rattle.plan_basics.specs.Keys.{Name, name_cmp, name_cmp_total, name_cmp-IsAntisymmetric}
use Rattle.plan_basics.specs.Names.{IsName}
use Rattle.plan_basics.specs.declared.keys.OpKey.{OpKey}
use Rattle.plan_basics.specs.declared.limits.TheConstants.{GREATEST_REQUEST_NUMBER, LONGEST_REQUEST_TEXT, MOST_TRACKERS}
use Rattle.plan_laws.specs.plan_drafts.proofs.Lists.{all_by_members, contains_cases, contains_head, contains_none, differ_from_pairs, differ_map, from_map, in_map, length_map, pairs_from_differ}
use Rattle.plan_laws.specs.plan_drafts.proofs.Orders.{differ_permuted}
use Rattle.plan_laws.specs.plan_drafts.proofs.Tables.{is_found, itself, map_count, other_key, some_is}
use Rattle.plan_laws.specs.plan_records.specs.Receipts.{AreReceipts, IsReceipt, IsReceiptRow}
use Rattle.plan_laws.specs.plan_records.specs.Step.{Receipt, Receipts}
use Rattle.tracker_receipts.specs.Replies.{Joins}
use Rattle.tracker_receipts.specs.Stored.{AreRowsOf, Columns, IsRowOf, columns_of}

-- ---- one row

-- what a name's reader answers of the tracker
pub tracker_told : (found : Option Name) (text stored : Name) → text ≡ stored → IsSome found ↔ IsName 8 text → IfSome found (λ name. name ≡ text) → MatchOption found (¬ IsName 8 stored) (λ name. IsName 8 name × (name ≡ stored))
tracker_told None text stored same some value = λ legal. true≢false (sym (some.1 (subst (IsName 8) (sym same) legal)))
tracker_told (Some name) text stored same some value = (subst (IsName 8) (sym value) (some.0 refl), value ∙ same)

module _ (row : Columns) where
  pub no_number : ((n : ℕ) → ¬ ((0 < n) × (n ≤ GREATEST_REQUEST_NUMBER) × (row.number ≡ pos n))) → (receipt : Receipt) → ¬ IsRowOf row receipt
  no_number none receipt (legal, e) = none receipt.number (legal.number.0, legal.number.1, ap (λ c. c.number) e)

  pub long_text : LONGEST_REQUEST_TEXT < length row.text → (receipt : Receipt) → ¬ IsRowOf row receipt
  long_text long receipt (legal, e) = let short = legal.text.0 in let same : length row.text ≡ length receipt.text = ap (λ c. length c.text) e in omega (arith, long, short, same)

  pub no_keys : ((keys : List OpKey) → ¬ Joins row.reply keys) → (receipt : Receipt) → ¬ IsRowOf row receipt
  no_keys none receipt (legal, e) = none receipt.named (legal.named, ap (λ c. c.reply) e)

  pub columns_are : (receipt : Receipt) → row.number ≡ pos receipt.number → row.text ≡ receipt.text → Joins row.reply receipt.named → row ≡ columns_of row.tracker receipt
  columns_are receipt number text reply = λ i. record { tracker = row.tracker; number = number i; text = text i; reply = reply.1 i }

-- ---- all rows

-- the receipt of a row
abbrev HasRow : Receipts → Columns → Type 0
HasRow T row = (tracker : Name) × (receipt : Receipt) × IsReceiptRow T tracker receipt × (row ≡ columns_of tracker receipt)

-- no rows
pub no_rows : AreRowsOf finite.empty []
no_rows = record {
  each = λ row. (λ has. absurd (contains_none row has), λ h. absurd (none-some h.1 (sym (get-empty name_cmp h.0) ∙ h.2)));
  once = pairs_from_differ (λ a b. a.tracker ≢ b.tracker) [] tt;
}

-- as many rows as receipts
as_many : (T : Receipts) (rows : List Columns) → AreRowsOf T rows → length rows ≡ len T
as_many T rows are =
    sym (length_map (λ (row : Columns). row.tracker) rows)
    ∙ map_count name_cmp_total name_cmp-IsAntisymmetric (map (λ (row : Columns). row.tracker) rows) T
    (differ_map (λ (row : Columns). row.tracker) (λ a b. a ≢ b) rows (differ_from_pairs (λ (a b : Columns). a.tracker ≢ b.tracker) rows are.once))
    (λ k has. let r = from_map (λ (row : Columns). row.tracker) rows k has in let known = (are.each r.0).0 r.1 in some_is (get T k) known.1 (ap (get T) (sym r.2 ∙ ap (λ c. c.tracker) known.3) ∙ known.2))
    (λ k e. let found = is_found (get T k) e in in_map (λ (row : Columns). row.tracker) rows (columns_of k found.0) ((are.each (columns_of k found.0)).1 (k, found.0, found.1, refl)))

module _ (T : Receipts) (rows : List Columns) (were : AreRowsOf T rows) (x : Columns) (k : Name) (r : Receipt) (is : x ≡ columns_of k r) (new : get T k ≡ None) where
  other : (row : Columns) → Contains rows row → row.tracker ≢ k
  other row has same = let known = (were.each row).0 has in none-some known.1 (sym new ∙ ap (get T) (sym same ∙ ap (λ c. c.tracker) known.3) ∙ known.2)

  old_row : (row : Columns) → Contains rows row → HasRow (insert T k r) row
  old_row row has =
      let known = (were.each row).0 has in
      let apart : known.0 ≢ k = λ same. other row has (ap (λ c. c.tracker) known.3 ∙ same) in (
        known.0,
        known.1,
        get-insert name_cmp_total T k r known.0 ∙ ap (λ b. cond b (Some r) (get T known.0)) (other_key name_cmp_total name_cmp-IsAntisymmetric known.0 k apart) ∙ known.2,
        known.3,
      )

  new_row : HasRow (insert T k r) x
  new_row = (k, r, get-insert name_cmp_total T k r k ∙ ap (λ b. cond b (Some r) (get T k)) (itself name_cmp_total name_cmp-IsAntisymmetric k), is)

  row_there : (row : Columns) (tracker : Name) (receipt : Receipt) (b : Bool) → eq_by_cmp name_cmp tracker k ≡ b → cond b (Some r) (get T tracker) ≡ Some receipt → row ≡ columns_of tracker receipt → Contains (rows ++ x ∷ []) row
  row_there row tracker receipt true tied e of =
      let named : columns_of tracker receipt ≡ columns_of k r = λ i. columns_of (tied_is name_cmp-IsAntisymmetric tracker k tied i) (sym (same_Some r receipt e) i) in
      subst (Contains (rows ++ x ∷ [])) (is ∙ sym named ∙ sym of) (Contains-append_right rows (x ∷ []) x (contains_head x []))
  row_there row tracker receipt false tied e of = Contains-append_left rows (x ∷ []) row ((were.each row).1 (tracker, receipt, e, of))

  -- one row more, of a tracker that has no receipt yet
  pub row_added : AreRowsOf (insert T k r) (rows ++ x ∷ [])
  row_added = record {
    each = λ row. (
      λ has. elim (Contains-append_cases rows (x ∷ []) row has) [
        | inl old ↦ old_row row old
        | inr last ↦ elim (contains_cases x [] row last) [ inl same ↦ subst (HasRow (insert T k r)) same new_row | inr none ↦ absurd (contains_none row none) ]
      ],
      λ h. row_there row h.0 h.1 (eq_by_cmp name_cmp h.0 k) refl (sym (get-insert name_cmp_total T k r h.0) ∙ h.2) h.3,
    );
    once = pairs_from_differ (λ a b. a.tracker ≢ b.tracker) (rows ++ x ∷ [])
        (differ_permuted name_cmp_total name_cmp-IsAntisymmetric (λ (row : Columns). row.tracker) (x ∷ rows) (rows ++ x ∷ [])
        (IsPermutation-sym (rows ++ x ∷ []) (x ∷ rows) (IsPermutation-push_more rows rows (x ∷ rows) x (IsPermutation-refl rows) (IsPermutation-refl (x ∷ rows))))
        (all_by_members (λ b. x.tracker ≢ b.tracker) rows (λ b has same. other b has (sym same ∙ ap (λ c. c.tracker) is)), differ_from_pairs (λ a b. a.tracker ≢ b.tracker) rows were.once));
  }

-- ---- along a list of rows, of which some are read

module _ (rows : List Columns) (i : ℕ) (row : Columns) (lt : i < length rows) (at : row ≡ get_or rows i row) where
  pub row_taken : (T : Receipts) (k : Name) (r : Receipt) → AreRowsOf T (take i rows) → row ≡ columns_of k r → get T k ≡ None → AreRowsOf (insert T k r) (take (i + 1) rows)
  row_taken T k r were is new = subst (AreRowsOf (insert T k r)) (sym (take_more rows i row lt ∙ ap (λ y. take i rows ++ y ∷ []) (sym at))) (row_added T (take i rows) were row k r is new)

  -- a row that no receipt has
  known_row : (T : Receipts) → AreReceipts true T → AreRowsOf T rows → (receipt : Receipt) × IsRowOf row receipt
  known_row T legal are =
      let known = (are.each row).0 (i, lt, sym at) in
      let named : row.tracker ≡ known.0 = ap (λ c. c.tracker) known.3 in
      (known.1, (subst (λ z. IsReceipt z known.1) (sym named) (legal.each known.0 known.1 known.2), known.3 ∙ ap (λ z. columns_of z known.1) (sym named)))

  pub no_tracker : ¬ IsName 8 row.tracker → (T : Receipts) → AreReceipts true T → ¬ AreRowsOf T rows
  no_tracker none T legal are = none (known_row T legal are).1.0.tracker_name

  pub no_receipt : ((receipt : Receipt) → ¬ IsRowOf row receipt) → (T : Receipts) → AreReceipts true T → ¬ AreRowsOf T rows
  no_receipt none T legal are = let known = known_row T legal are in none known.0 known.1

  module _ (V : Receipts) (were : AreRowsOf V (take i rows)) where
    long : length (take i rows) ≡ i
    long = length-take-le i rows (omega (arith, lt))

    -- a row of a tracker that has one
    twice : (s : Receipt) → get V row.tracker ≡ Some s → (T : Receipts) → AreReceipts true T → ¬ AreRowsOf T rows
    twice s known T legal are =
        let first : Columns = columns_of row.tracker s in
        let has = (were.each first).1 (row.tracker, s, known, refl) in
        let j = has.0 in
        let before : j < i = omega (arith, has.1, long) in
        let earlier : get_or rows j first ≡ first = sym (get_or-take i rows j first before) ∙ has.2 in
        let here : get_or rows i first ≡ row = at_read rows (λ y. y ≡ row) i row lt at refl first in
        are.once j i first before lt (ap (λ c. c.tracker) earlier ∙ sym (ap (λ c. c.tracker) here))

    -- a row more than there may be receipts
    too_many : MOST_TRACKERS ≤ len V → (T : Receipts) → AreReceipts true T → ¬ AreRowsOf T rows
    too_many full T legal are = let few = legal.few in omega (arith, as_many V (take i rows) were, long, full, as_many T rows are, few, lt)

    -- a row of a tracker that has one, or a row more than there may be receipts
    pub closed : (k : Name) → k ≡ row.tracker → ¬ ((get V k ≡ None) × (len V < MOST_TRACKERS)) → (T : Receipts) → AreReceipts true T → ¬ AreRowsOf T rows
    closed k same shut = elim (cases_lt (len V) MOST_TRACKERS) [ inl less ↦ known (get V k) refl less | inr full ↦ too_many full ]
      where
        known : (last : Option Receipt) → get V k ≡ last → len V < MOST_TRACKERS → (T : Receipts) → AreReceipts true T → ¬ AreRowsOf T rows
        known None e less = absurd (shut (e, less))
        known (Some s) e less = twice s (ap (get V) (sym same) ∙ e)
