-- What the texts on a table mean: the command that each is to come to.
use Rattle.std.specs.Prelude.{ℕ, zero, suc, ◌+◌, ◌-◌, negsuc, pos, false, None, Some, List, [], ◌∷◌, ◌++◌, length, map}
use Rattle.std.specs.List.{range_with_len}
use Rattle.sqlite.specs.Collation.TheVariants.{Binary}
use Rattle.sqlite.specs.Command.{Command}
use Rattle.sqlite.specs.Command.TheVariants.{Delete, InsertOr, Select}
use Rattle.sqlite.specs.Query.{Query, inner, end}
use Rattle.sqlite.specs.Source.TheVariants.{Values}
use Rattle.sqlite.specs.Term.{Term, lit, col, op2}
use Rattle.sqlite.specs.declared.types.Value.TheVariants.{Null, Int}
use Rattle.sqlite_schema.specs.declared.command.Conflict.TheVariants.{Abort}
use Rattle.sqlite_schema.specs.declared.command.Upsert.{Upsert}
use Rattle.sqlite_schema.specs.declared.program.Program.{Program}
use Rattle.sqlite_sql.specs.declared.ops.BinaryOp.TheVariants.{Compare}
use Rattle.sqlite_sql.specs.declared.ops.CompareOp.TheVariants.{Eq}
use Rattle.sqlite_value.specs.Keys.{ascending}
use Rattle.sqlite_value.specs.declared.keys.Key.{Key}

-- a query over one table: the rows that pass the filter, each shown as the terms say, in this order
abbrev pub ordered : ℕ → List Term → List Term → List (Term × Key) → Query
ordered tree filter project order = record {
  from = inner tree end;
  filter = filter;
  group = None;
  project = project;
  distinct = false;
  collations = [];
  order = order;
  limit = lit (Int (negsuc 0));
  offset = lit (Int (pos 0));
}

-- the same in no order
abbrev pub simple : ℕ → List Term → List Term → Query
simple tree filter project = ordered tree filter project []

-- a query with no part that is named beforehand
abbrev pub program : Query → Program
program query = record { lets = []; body = query }

-- the column equals the parameter
abbrev pub equal_at : ℕ → ℕ → Term
equal_at place parameter = op2 (Compare Eq Binary) (col 1 place) (col 0 parameter)

-- ---- INSERT

-- the new row, whose values are the parameters
abbrev pub row_terms : ℕ → List Term
row_terms width = lit Null ∷ map (col 0) (range_with_len 0 width)

-- the old rowid, and then the old row with each column after the key as it would have been inserted
abbrev pub update_terms : ℕ → ℕ → List Term
update_terms width key = col 1 0 ∷ map (col 1) (range_with_len 0 (key + 1)) ++ map (col 0) (range_with_len (width + 2 + key) (width - key))

-- where a row has the key of the new one, it takes the new one's other columns
abbrev pub upsert_clauses : ℕ → ℕ → ℕ → List Upsert
upsert_clauses tree width key = record { target = Some (range_with_len 1 key); update = Some (program (simple tree (equal_at 0 width ∷ []) (update_terms width key))) } ∷ []

-- where a row has the key of the new one, nothing is done
abbrev pub pass_clauses : ℕ → List Upsert
pass_clauses key = record { target = Some (range_with_len 1 key); update = None } ∷ []

-- INSERT of one row, with ON CONFLICT on the key DO UPDATE: by the table's place in the schema, its tree, its width and its key
abbrev pub upsert : ℕ → ℕ → ℕ → ℕ → Command
upsert at tree width key = InsertOr at Abort (Values (row_terms width) (width + 1)) (upsert_clauses tree width key)

-- INSERT of one row, with ON CONFLICT on the key DO NOTHING
abbrev pub insert_or_pass : ℕ → ℕ → ℕ → Command
insert_or_pass at width key = InsertOr at Abort (Values (row_terms width) (width + 1)) (pass_clauses key)

-- INSERT of one row whose first value is its rowid, with ON CONFLICT on it DO UPDATE: NULL stands in the first column
abbrev pub row_terms_by_rowid : ℕ → List Term
row_terms_by_rowid width = col 0 0 ∷ lit Null ∷ map (col 0) (range_with_len 1 (width - 1))

-- the old rowid, and then each column behind the first as it would have been inserted
abbrev pub update_terms_by_rowid : ℕ → List Term
update_terms_by_rowid width = col 1 0 ∷ col 1 0 ∷ lit Null ∷ map (col 0) (range_with_len (width + 3) (width - 1))

-- where a row has the rowid of the new one, it takes the new one's columns
abbrev pub clauses_by_rowid : ℕ → ℕ → List Upsert
clauses_by_rowid tree width = record { target = Some (0 ∷ []); update = Some (program (simple tree (equal_at 0 width ∷ []) (update_terms_by_rowid width))) } ∷ []

-- the insertion of a row by its rowid, or where one has that the update of its columns
abbrev pub upsert_by_rowid : ℕ → ℕ → ℕ → Command
upsert_by_rowid at tree width = InsertOr at Abort (Values (row_terms_by_rowid width) (width + 1)) (clauses_by_rowid tree width)

-- ---- DELETE

-- the columns of the key, from one on, equal the parameters
abbrev pub key_terms : ℕ → ℕ → List Term
key_terms from zero = []
key_terms from (suc key) = equal_at (from + 1) from ∷ key_terms (from + 1) key

-- DELETE of the row whose key is the parameters
abbrev pub delete : ℕ → ℕ → ℕ → Command
delete at tree key = Delete at (program (simple tree (key_terms 0 key) (col 1 0 ∷ [])))

-- ---- SELECT

-- the rowid, rising
abbrev pub by_rowid : List (Term × Key)
by_rowid = (col 1 0, ascending Binary) ∷ []

-- SELECT of all rows, each with its rowid first, in the order of the rowids
abbrev pub select : ℕ → List (List ℕ) → Command
select tree names = Select (program (ordered tree [] (map (col 1) (range_with_len 0 (length names))) by_rowid)) names

-- the same where the first column is the rowid
abbrev pub select_by_rowid : ℕ → List (List ℕ) → Command
select_by_rowid tree names = Select (program (ordered tree [] (col 1 0 ∷ col 1 0 ∷ map (col 1) (range_with_len 2 (length names - 2))) by_rowid)) names
