-- The eleven tables, and the schemas that making them one after another makes.
use Rattle.std.specs.Prelude.{[], ◌∷◌, codes}
use Rattle.sqlite.specs.Kind.TheVariants.{Integer, Text, Blob}
use Rattle.sqlite.specs.Schema.{Schema}
use Rattle.sqlite.specs.Table.{Table}
use Rattle.sqlite_catalog.specs.Change.{created}
use Rattle.store_schema.specs.Tables.{field, table, placed_by_rowid, no_schema}
use Rattle.store_schema.specs.declared.texts.Version.{Version}
use Rattle.store_schema.specs.declared.texts.Version.TheVariants.{First, Second}

-- whether a plan is loaded, and the clock; the key is the rowid
abbrev pub meta : Table
meta = placed_by_rowid (codes "meta") (field (codes "id") Integer ∷ field (codes "version") Integer ∷ field (codes "loaded") Integer ∷ field (codes "clock") Integer ∷ []) 0

-- workstations, each with its reporting attribute
abbrev pub workstation : Table
workstation = table (codes "workstation") (field (codes "name") Text ∷ field (codes "attr") Text ∷ []) 1

-- open intervals of workstations
abbrev pub interval : Table
interval = table (codes "interval") (field (codes "ws") Text ∷ field (codes "start") Integer ∷ field (codes "stop") Integer ∷ field (codes "servers") Integer ∷ field (codes "r1") Integer ∷ field (codes "r2") Integer ∷ []) 2

-- special resources, and whether each is available
abbrev pub resource : Table
resource = table (codes "resource") (field (codes "name") Text ∷ field (codes "available") Integer ∷ []) 1

-- occurrences of applications, each with its status
abbrev pub occurrence : Table
occurrence = table (codes "occurrence") (field (codes "app") Text ∷ field (codes "ia") Integer ∷ field (codes "priority") Integer ∷ field (codes "deadline") Integer ∷ field (codes "status") Text ∷ []) 2

-- operations, each with its mark, its status and what is read off the plan for it
abbrev pub operation : Table
operation = table (codes "operation") (field (codes "app") Text ∷ field (codes "ia") Integer ∷ field (codes "num") Integer ∷ field (codes "ws") Text ∷ field (codes "duration") Integer ∷ field (codes "r1") Integer ∷ field (codes "r2") Integer ∷ field (codes "not_before") Integer ∷ field (codes "deadline") Integer ∷ field (codes "mark") Text ∷ field (codes "code") Text ∷ field (codes "held") Integer ∷ field (codes "nop") Integer ∷ field (codes "status") Text ∷ field (codes "latest") Integer ∷ field (codes "waiting") Integer ∷ []) 3

-- pairs of operations of which the first precedes the second
abbrev pub dependency : Table
dependency = table (codes "dependency") (field (codes "papp") Text ∷ field (codes "pia") Integer ∷ field (codes "pnum") Integer ∷ field (codes "sapp") Text ∷ field (codes "sia") Integer ∷ field (codes "snum") Integer ∷ []) 6

-- special resources that operations need
abbrev pub need : Table
need = table (codes "need") (field (codes "app") Text ∷ field (codes "ia") Integer ∷ field (codes "num") Integer ∷ field (codes "resource") Text ∷ field (codes "mode") Text ∷ field (codes "keep") Text ∷ []) 4

-- the last request of each tracker that was accepted, and its reply
abbrev pub receipt : Table
receipt = table (codes "receipt") (field (codes "tracker") Text ∷ field (codes "number") Integer ∷ field (codes "request") Blob ∷ field (codes "reply") Text ∷ []) 1

-- how much there is of special resources of which there isn't as much as can be
abbrev pub quantity : Table
quantity = table (codes "quantity") (field (codes "resource") Text ∷ field (codes "quantity") Integer ∷ []) 1

-- how much operations need of special resources that they share, where it isn't 1
abbrev pub amount : Table
amount = table (codes "amount") (field (codes "app") Text ∷ field (codes "ia") Integer ∷ field (codes "num") Integer ∷ field (codes "resource") Text ∷ field (codes "amount") Integer ∷ []) 4

-- ---- the schema after each

-- the table `meta` alone
abbrev pub schema_1 : Schema
schema_1 = created no_schema meta

-- with `workstation` besides
abbrev pub schema_2 : Schema
schema_2 = created schema_1 workstation

-- with `interval` besides
abbrev pub schema_3 : Schema
schema_3 = created schema_2 interval

-- with `resource` besides
abbrev pub schema_4 : Schema
schema_4 = created schema_3 resource

-- with `occurrence` besides
abbrev pub schema_5 : Schema
schema_5 = created schema_4 occurrence

-- with `operation` besides
abbrev pub schema_6 : Schema
schema_6 = created schema_5 operation

-- with `dependency` besides
abbrev pub schema_7 : Schema
schema_7 = created schema_6 dependency

-- with `need` besides
abbrev pub schema_8 : Schema
schema_8 = created schema_7 need

-- the nine tables of the first version
abbrev pub first_schema : Schema
first_schema = created schema_8 receipt

-- with `quantity` besides
abbrev pub schema_10 : Schema
schema_10 = created first_schema quantity

-- all eleven tables
abbrev pub desk_schema : Schema
desk_schema = created schema_10 amount

-- the tables of a version
abbrev pub schema_of : Version → Schema
schema_of First = first_schema
schema_of Second = desk_schema
