-- What the tables hold: a record for each row, with a field for each column.
use Rattle.std.specs.Prelude.{◌≡◌, ℕ, ℤ, List, [], ◌∷◌}
use Rattle.sqlite.specs.Effect.{Database, IsDatabase}
use Rattle.sqlite.specs.Order.{Row}
use Rattle.sqlite.specs.declared.types.Value.TheVariants.{Null, Int, Text, Blob}
use Rattle.store_schema.specs.Stored.{Holds, HoldsByRowid, with_value, without_key, with_value_at}
use Rattle.store_schema.specs.Schema.{schema_of}
use Rattle.store_schema.specs.declared.texts.Version.{Version}
use Rattle.store_schema.specs.declared.texts.Version.TheVariants.{First, Second}

-- whether a plan is loaded, and the clock
pub record StoredMeta : Type 0 where
  pub id : ℤ
  pub version : ℤ
  pub loaded : ℤ
  pub clock : ℤ

-- workstations, each with its reporting attribute
pub record StoredWorkstation : Type 0 where
  pub name : List ℕ
  pub attr : List ℕ

-- open intervals of workstations
pub record StoredInterval : Type 0 where
  pub ws : List ℕ
  pub start : ℤ
  pub stop : ℤ
  pub servers : ℤ
  pub r1 : ℤ
  pub r2 : ℤ

-- special resources, and whether each is available
pub record StoredResource : Type 0 where
  pub name : List ℕ
  pub available : ℤ

-- occurrences of applications, each with its status
pub record StoredOccurrence : Type 0 where
  pub app : List ℕ
  pub ia : ℤ
  pub priority : ℤ
  pub deadline : ℤ
  pub status : List ℕ

-- operations, each with its mark, its status and what is read off the plan for it
pub record StoredOperation : Type 0 where
  pub app : List ℕ
  pub ia : ℤ
  pub num : ℤ
  pub ws : List ℕ
  pub duration : ℤ
  pub r1 : ℤ
  pub r2 : ℤ
  pub not_before : ℤ
  pub deadline : ℤ
  pub mark : List ℕ
  pub code : List ℕ
  pub held : ℤ
  pub nop : ℤ
  pub status : List ℕ
  pub latest : ℤ
  pub waiting : ℤ

-- pairs of operations of which the first precedes the second
pub record StoredDependency : Type 0 where
  pub papp : List ℕ
  pub pia : ℤ
  pub pnum : ℤ
  pub sapp : List ℕ
  pub sia : ℤ
  pub snum : ℤ

-- special resources that operations need
pub record StoredNeed : Type 0 where
  pub app : List ℕ
  pub ia : ℤ
  pub num : ℤ
  pub resource : List ℕ
  pub mode : List ℕ
  pub keep : List ℕ

-- the last request of each tracker that was accepted, and its reply
pub record StoredReceipt : Type 0 where
  pub tracker : List ℕ
  pub number : ℤ
  pub request : List ℕ
  pub reply : List ℕ

-- how much there is of a special resource
pub record StoredQuantity : Type 0 where
  pub resource : List ℕ
  pub quantity : ℤ

-- how much an operation needs of a special resource that it shares
pub record StoredAmount : Type 0 where
  pub app : List ℕ
  pub ia : ℤ
  pub num : ℤ
  pub resource : List ℕ
  pub amount : ℤ

-- ---- their rows

-- as parameters
abbrev pub meta_values : StoredMeta → Row
meta_values x = Int x.id ∷ Int x.version ∷ Int x.loaded ∷ Int x.clock ∷ []

-- as a row: the key stands as the rowid, and NULL in its place
abbrev pub meta_row : StoredMeta → Row
meta_row x = Int x.id ∷ Null ∷ Int x.version ∷ Int x.loaded ∷ Int x.clock ∷ []

-- the columns of `workstation`, in their order
abbrev pub workstation_row : StoredWorkstation → Row
workstation_row x = Text x.name ∷ Text x.attr ∷ []

-- the columns of `interval`, in their order
abbrev pub interval_row : StoredInterval → Row
interval_row x = Text x.ws ∷ Int x.start ∷ Int x.stop ∷ Int x.servers ∷ Int x.r1 ∷ Int x.r2 ∷ []

-- the columns of `resource`, in their order
abbrev pub resource_row : StoredResource → Row
resource_row x = Text x.name ∷ Int x.available ∷ []

-- the columns of `occurrence`, in their order
abbrev pub occurrence_row : StoredOccurrence → Row
occurrence_row x = Text x.app ∷ Int x.ia ∷ Int x.priority ∷ Int x.deadline ∷ Text x.status ∷ []

-- the columns of `operation`, in their order
abbrev pub operation_row : StoredOperation → Row
operation_row x = Text x.app ∷ Int x.ia ∷ Int x.num ∷ Text x.ws ∷ Int x.duration ∷ Int x.r1 ∷ Int x.r2 ∷ Int x.not_before ∷ Int x.deadline ∷ Text x.mark ∷ Text x.code ∷ Int x.held ∷ Int x.nop ∷ Text x.status ∷ Int x.latest ∷ Int x.waiting ∷ []

-- the columns of `dependency`, in their order
abbrev pub dependency_row : StoredDependency → Row
dependency_row x = Text x.papp ∷ Int x.pia ∷ Int x.pnum ∷ Text x.sapp ∷ Int x.sia ∷ Int x.snum ∷ []

-- the columns of `need`, in their order
abbrev pub need_row : StoredNeed → Row
need_row x = Text x.app ∷ Int x.ia ∷ Int x.num ∷ Text x.resource ∷ Text x.mode ∷ Text x.keep ∷ []

-- the columns of `receipt`, in their order
abbrev pub receipt_row : StoredReceipt → Row
receipt_row x = Text x.tracker ∷ Int x.number ∷ Blob x.request ∷ Text x.reply ∷ []

-- the columns of `quantity`, in their order
abbrev pub quantity_row : StoredQuantity → Row
quantity_row x = Text x.resource ∷ Int x.quantity ∷ []

-- the columns of `amount`, in their order
abbrev pub amount_row : StoredAmount → Row
amount_row x = Text x.app ∷ Int x.ia ∷ Int x.num ∷ Text x.resource ∷ Int x.amount ∷ []

-- ---- all of them

-- the values of all tables
pub record Held : Type 0 where
  pub metas : List StoredMeta
  pub workstations : List StoredWorkstation
  pub intervals : List StoredInterval
  pub resources : List StoredResource
  pub occurrences : List StoredOccurrence
  pub operations : List StoredOperation
  pub dependencies : List StoredDependency
  pub needs : List StoredNeed
  pub receipts : List StoredReceipt
  pub quantities : List StoredQuantity
  pub amounts : List StoredAmount

-- no value in any table
abbrev pub none_held : Held
none_held = record { metas = []; workstations = []; intervals = []; resources = []; occurrences = []; operations = []; dependencies = []; needs = []; receipts = []; quantities = []; amounts = [] }

-- a table that the second version alone has holds these values and no others; in the first there are none
abbrev pub HoldsIn : {X : Type 0} → Version → (X → Row) → List Row → List X → Type 0
HoldsIn First row rows xs = xs ≡ []
HoldsIn Second row rows xs = Holds row rows xs

-- the database is sound and has the tables of this version, and they hold these values and no others
pub record StoresIn (version : Version) (db : Database) (held : Held) : Type 0 where
  pub sound : IsDatabase db
  pub schema_is : db.schema ≡ schema_of version
  pub metas : HoldsByRowid meta_row (db.trees 0) held.metas
  pub workstations : Holds workstation_row (db.trees 1) held.workstations
  pub intervals : Holds interval_row (db.trees 3) held.intervals
  pub resources : Holds resource_row (db.trees 5) held.resources
  pub occurrences : Holds occurrence_row (db.trees 7) held.occurrences
  pub operations : Holds operation_row (db.trees 9) held.operations
  pub dependencies : Holds dependency_row (db.trees 11) held.dependencies
  pub needs : Holds need_row (db.trees 13) held.needs
  pub receipts : Holds receipt_row (db.trees 15) held.receipts
  pub quantities : HoldsIn version quantity_row (db.trees 17) held.quantities
  pub amounts : HoldsIn version amount_row (db.trees 19) held.amounts

-- so it is of the tables of a desk
abbrev pub Stores : Database → Held → Type 0
Stores = StoresIn Second

-- and of those of the first version
abbrev pub StoresFirst : Database → Held → Type 0
StoresFirst = StoresIn First

-- whatever values the tables of the one database hold, those of the other hold what the change makes of them
abbrev pub Turns : (Held → Held) → Database → Database → Type 0
Turns change before after = (held : Held) → Stores before held → Stores after (change held)

-- ---- what each text changes

-- this row is in, in place of the one that has its key
abbrev pub with_meta : StoredMeta → Held → Held
with_meta x held = record held { metas = with_value_at (λ y. y.id) meta_row x held.metas }

-- this row is in, in place of the one that has its key
abbrev pub with_workstation : StoredWorkstation → Held → Held
with_workstation x held = record held { workstations = with_value 1 workstation_row x held.workstations }

-- this row is in, in place of the one that has its key
abbrev pub with_interval : StoredInterval → Held → Held
with_interval x held = record held { intervals = with_value 2 interval_row x held.intervals }

-- this row is in, in place of the one that has its key
abbrev pub with_resource : StoredResource → Held → Held
with_resource x held = record held { resources = with_value 1 resource_row x held.resources }

-- this row is in, in place of the one that has its key
abbrev pub with_occurrence : StoredOccurrence → Held → Held
with_occurrence x held = record held { occurrences = with_value 2 occurrence_row x held.occurrences }

-- this row is in, in place of the one that has its key
abbrev pub with_operation : StoredOperation → Held → Held
with_operation x held = record held { operations = with_value 3 operation_row x held.operations }

-- this row is in, in place of the one that has its key
abbrev pub with_dependency : StoredDependency → Held → Held
with_dependency x held = record held { dependencies = with_value 6 dependency_row x held.dependencies }

-- this row is in, in place of the one that has its key
abbrev pub with_need : StoredNeed → Held → Held
with_need x held = record held { needs = with_value 4 need_row x held.needs }

-- this row is in, in place of the one that has its key
abbrev pub with_receipt : StoredReceipt → Held → Held
with_receipt x held = record held { receipts = with_value 1 receipt_row x held.receipts }

-- this row is in, in place of the one that has its key
abbrev pub with_quantity : StoredQuantity → Held → Held
with_quantity x held = record held { quantities = with_value 1 quantity_row x held.quantities }

-- this row is in, in place of the one that has its key
abbrev pub with_amount : StoredAmount → Held → Held
with_amount x held = record held { amounts = with_value 4 amount_row x held.amounts }

-- the interval of this workstation and first minute is gone
abbrev pub without_interval : List ℕ → ℤ → Held → Held
without_interval ws start held = record held { intervals = without_key 2 interval_row (Text ws ∷ Int start ∷ []) held.intervals }

-- the occurrence of this application and input arrival is gone
abbrev pub without_occurrence : List ℕ → ℤ → Held → Held
without_occurrence app ia held = record held { occurrences = without_key 2 occurrence_row (Text app ∷ Int ia ∷ []) held.occurrences }

-- the operation of this occurrence and number is gone
abbrev pub without_operation : List ℕ → ℤ → ℤ → Held → Held
without_operation app ia num held = record held { operations = without_key 3 operation_row (Text app ∷ Int ia ∷ Int num ∷ []) held.operations }

-- the pair of these operations is gone
abbrev pub without_dependency : List ℕ → ℤ → ℤ → List ℕ → ℤ → ℤ → Held → Held
without_dependency papp pia pnum sapp sia snum held = record held { dependencies = without_key 6 dependency_row (Text papp ∷ Int pia ∷ Int pnum ∷ Text sapp ∷ Int sia ∷ Int snum ∷ []) held.dependencies }

-- the need of this operation and special resource is gone
abbrev pub without_need : List ℕ → ℤ → ℤ → List ℕ → Held → Held
without_need app ia num resource held = record held { needs = without_key 4 need_row (Text app ∷ Int ia ∷ Int num ∷ Text resource ∷ []) held.needs }

-- the amount of this operation and special resource is gone
abbrev pub without_amount : List ℕ → ℤ → ℤ → List ℕ → Held → Held
without_amount app ia num resource held = record held { amounts = without_key 4 amount_row (Text app ∷ Int ia ∷ Int num ∷ Text resource ∷ []) held.amounts }
