-- Each text that reads a table is a query, whatever the schema: it changes nothing.
use Rattle.std.proofs.Common.{◌≡◌, ℕ, ◌+◌, Bool, true, false, List, Option, None, Ok, Err, refl, ap, sym, ◌∙◌, if◌then◌else◌}
use Rattle.std.proofs.lemmas.Bool.{true≢false}
use Rattle.sqlite.specs.Listing.{understood, reads_listing, listing_schema, if_select, is_select}
use Rattle.sqlite_ast.specs.declared.Statement.{Statement}
use Rattle.sqlite_ast.specs.declared.Statement.TheVariants as written
use Rattle.sqlite_ast.specs.declared.Select.{Select}
use Rattle.sqlite_resolve.specs.Compile.{first, compiled, planned, meaning, command, returning, returning_by, timed, with_command, small}
use Rattle.sqlite_resolve.specs.Lowering.{Checked, and_then}
use Rattle.sqlite_resolve.specs.declared.compiled.Compiled.{Compiled}
use Rattle.sqlite_resolve.specs.declared.error.CompileError.TheVariants.{NoSuchTable}
use Rattle.sqlite_schema.specs.declared.command.Command.{Command}
use Rattle.sqlite_schema.specs.declared.command.Returning.{Returning}
use Rattle.sqlite_schema.specs.declared.schema.Schema.{Schema}
use Rattle.sqlite_syntax.specs.declared.statement.Parsed.{Parsed}
use Rattle.sqlite_tied.specs.Compute.{everything}
use Rattle.store_schema.specs.declared.texts.TheConstants.{READ_RECEIPT}
use Rattle.store_reads.specs.Tables.{text_for}
use Rattle.store_reads.specs.declared.decoding.Table.{Table}
use Rattle.store_reads.specs.declared.decoding.Table.TheVariants as table

-- a text is read as a query
abbrev is_query : Statement → Bool
is_query (written.Select s) = true
is_query _ = false

abbrev says_query : Checked Parsed → Bool
says_query (Ok p) = is_query p.statement
says_query (Err e) = false

abbrev pub IsQuery : List ℕ → Type 0
IsQuery text = says_query (first text) ≡ true

-- ---- each text

pub receipt_is_query : IsQuery READ_RECEIPT.now
unfolding everything
receipt_is_query = refl

pub each_is_query : (t : Table) → IsQuery (text_for t)
unfolding everything
each_is_query table.Meta = refl
each_is_query _ = refl

-- ---- a query has no RETURNING

query_is : (s : Statement) → is_query s ≡ true → (q : Select) × (s ≡ written.Select q)
query_is (written.Select q) h = (q, refl)
query_is _ h = absurd (true≢false (sym h))

-- what is found for a statement that shows nothing
shown_of : (shown : Checked (Option Returning)) (k : Checked Command) (found : Command × Option Returning) → shown ≡ Ok None → and_then shown (λ s. and_then k (λ c. Ok (c, s))) ≡ Ok found → found.1 ≡ None
shown_of (Ok s) (Ok c) found none is = let a : s ≡ None = cc in let b : found ≡ (c, s) = cc in ap (λ (p : Command × Option Returning). p.1) b ∙ a
shown_of (Ok s) (Err e) found none is = absurd cc
shown_of (Err e) k found none is = absurd cc

meaning_of : (schema : Schema) (p : Parsed) (base : ℕ) (found : Command × Option Returning) → is_query p.statement ≡ true → meaning schema p base ≡ Ok found → found.1 ≡ None
unfolding meaning returning
meaning_of schema p base found query is =
    let s = query_is p.statement query in
    shown_of (returning schema base p.statement) (command schema p.formats base p.statement) found (ap (returning_by schema base) s.1) is

compiled_of : (schema : Schema) (r : Checked Parsed) (c : Compiled) → says_query r ≡ true → and_then r (λ p. and_then (planned schema p) (λ plan. Ok (with_command p plan))) ≡ Ok c → c.returning ≡ None
unfolding planned
compiled_of schema (Err e) c query is = absurd cc
compiled_of schema (Ok p) c query is =
    let formats = timed schema p.formats p.statement in
    of_meaning p formats (meaning schema p (small p.names + small formats)) (λ found. meaning_of schema p (small p.names + small formats) found query) is
  where
    of_meaning : (p : Parsed) (formats : List (List ℕ)) (m : Checked (Command × Option Returning)) → ((found : Command × Option Returning) → m ≡ Ok found → found.1 ≡ None)
        → and_then (and_then m (λ found. Ok (formats, found))) (λ plan. Ok (with_command p plan)) ≡ Ok c → c.returning ≡ None
    of_meaning p formats (Ok found) none is = let e : c ≡ with_command p (formats, found) = cc in ap (λ (k : Compiled). k.returning) e ∙ none found refl
    of_meaning p formats (Err e) none is = absurd cc

schema_query : (schema : Schema) (sql : List ℕ) (c : Compiled) → says_query (first sql) ≡ true → compiled schema sql ≡ Ok c → c.returning ≡ None
unfolding compiled
schema_query schema sql c query is = compiled_of schema (first sql) c query is

kept_by : (k : Compiled) (c : Compiled) (b : Bool) → ◌≡◌ {A = Checked Compiled} (if b then Ok k else Err NoSuchTable) (Ok c) → ◌≡◌ {A = Checked Compiled} (Ok k) (Ok c)
kept_by k c true e = e
kept_by k c false e = absurd cc

selected : (r : Checked Compiled) (c : Compiled) → if_select r ≡ Ok c → r ≡ Ok c
selected (Ok k) c is = kept_by k c (is_select k.command) is
selected (Err e) c is = absurd cc

-- in no schema has such a text a RETURNING
pub shows_alone : (text : List ℕ) → IsQuery text → (schema : Schema) (c : Compiled) → understood schema text ≡ Ok c → c.returning ≡ None
unfolding understood
shows_alone text query schema c is = by_listing (reads_listing schema text) is
  where
    by_listing : (b : Bool) → (if b then if_select (compiled listing_schema text) else compiled schema text) ≡ Ok c → c.returning ≡ None
    by_listing true e = schema_query listing_schema text c query (selected (compiled listing_schema text) c e)
    by_listing false e = schema_query schema text c query e
