-- Tables as a schema has them: columns that may not be NULL, and a key of the first of them.
use Rattle.std.specs.Prelude.{ℕ, true, false, Option, None, Some, List, [], ◌∷◌}
use Rattle.std.specs.List.{range_with_len}
use Rattle.sqlite.specs.Collation.TheVariants.{Binary}
use Rattle.sqlite.specs.Kind.{Kind}
use Rattle.sqlite.specs.Schema.{Schema}
use Rattle.sqlite.specs.Table.{Table}
use Rattle.sqlite.specs.declared.types.Value.TheVariants.{Null}
use Rattle.sqlite_schema.specs.declared.schema.Column.{Column}
use Rattle.sqlite_value.specs.Keys.{plain}
use Rattle.sqlite_value.specs.declared.keys.Order.{Order}

-- a column of a STRICT table that is NOT NULL, with no default of its own
abbrev pub field : List ℕ → Kind → Column
field name kind = record { name = name; kind = kind; is_strict = true; not_null = true; default = Null; collation = Binary }

-- the schema of a database in which nothing was made yet
abbrev pub no_schema : Schema
no_schema = record { tables = []; indexes = []; views = [] }

-- a table in this tree with no rule but its key: the column that stands for the rowid, if one does, and else the places of the key, which an index of its own has
abbrev pub bare_table : List ℕ → List Column → Option ℕ → List ℕ → List (List ℕ) → List Order → ℕ → Table
bare_table name columns rowid_column primary uniques orders tree = record {
  name = name;
  tree = tree;
  columns = columns;
  key = rowid_column;
  primary = primary;
  uniques = uniques;
  orders = orders;
  checks = [];
  references = [];
  computed = [];
  stamps = record { places = []; terms = []; formats = [] };
  is_counted = false;
}

-- a table whose key is so many of its first columns, with its rows in this tree
abbrev pub placed : List ℕ → List Column → ℕ → ℕ → Table
placed name columns key tree = bare_table name columns None (range_with_len 1 key) (range_with_len 1 key ∷ []) (plain ∷ []) tree

-- the same before it is in a schema
abbrev pub table : List ℕ → List Column → ℕ → Table
table name columns key = placed name columns key 0

-- a table whose key is its first column, an integer, and so the rowid
-- (so it is with `meta` alone, which has lemmas of its own; those of the other tables speak of any key of the first columns)
abbrev pub placed_by_rowid : List ℕ → List Column → ℕ → Table
placed_by_rowid name columns tree = bare_table name columns (Some 0) (0 ∷ []) [] [] tree
