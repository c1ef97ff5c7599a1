-- What CREATE TABLE, INSERT and DELETE make of a schema that isn't known.
use Rattle.std.proofs.Common.{◌≡◌, ℕ, List, [], ◌∷◌, ◌++◌, ◌+◌, not, if◌then◌else◌, is_some, length, ◌==◌, ◌&&◌, Bool, true, false, inl, inr, ◌⊎◌, refl, sym, IsTrue, ap, subst, subst₂, ◌∙◌, slice_get, Option, Some, None, Ok, Err, Result, OnOk}
use Rattle.std.proofs.lemmas.Bool.{cases_Bool, true≢false, false≢true}
use Rattle.std.specs.Option.{option_or}
use Rattle.sqlite_schema.specs.Names.{table_named, index_named, view_named}
use Rattle.store_schema.proofs.Writes.{not_is, same_value, went}
use Rattle.sqlite.specs.Clock.{timed as at_times}
use Rattle.sqlite.specs.Does.{Tally, AtPlace, OnRows, lacks_sequence, MakesSequence}
use Rattle.sqlite.specs.State.{State, HasCleanDisk, Survives, Executes, ExecutesIn, IsStatement, Runs, text_of, shows_rows, mode_of}
use Rattle.sqlite_ast.specs.declared.Rows.{Rows}
use Rattle.sqlite_ast.specs.declared.Upsert.{Upsert}
use Rattle.sqlite_schema.specs.declared.command.Conflict.{Conflict}
use Rattle.sqlite_schema.specs.declared.command.Conflict.TheVariants as how
use Rattle.sqlite_resolve.specs.Define as define
use Rattle.plan_writes.specs.Within.{Grows, IsRun, Rewrites, RunsWithin}
use Rattle.plan_writes.proofs.Within.{executed}
use Rattle.sqlite.proofs.Callers.{IsPlain, command_of, statement_of}
use Rattle.sqlite.specs.Compile.{table_defined_by}
use Rattle.store_schema.proofs.Creation.{created_empty}
use Rattle.store_schema.specs.StoredPlans.{Held, Turns}
use Rattle.sqlite_ast.specs.declared.Expr.{Expr}
use Rattle.sqlite_resolve.specs.Write.{deleted}
use Rattle.sqlite_resolve.specs.Program.{program}
use Rattle.sqlite.specs.Effect.{IsDatabase}
use Rattle.sqlite.specs.State.{ExecutesInside}
use Rattle.sqlite.specs.declared.error.Error.{Error}
use Rattle.sqlite_resolve.specs.Body.{table_at}
use Rattle.sqlite_resolve.specs.Given.{upserts}
use Rattle.sqlite_resolve.specs.declared.error.CompileError.TheVariants.{Exists, Unsupported}
use Rattle.std.proofs.lemmas.List.{append_cancel_right}
use Rattle.sqlite.specs.Change.{created, next_tree}
use Rattle.sqlite_catalog.specs.Change.{automatics}
use Rattle.sqlite.specs.Command.{Command}
use Rattle.sqlite.specs.Command.TheVariants.{CreateTable, Insert, InsertOr, Delete}
use Rattle.sqlite.specs.Effect.{Database}
use Rattle.sqlite.specs.Listing.{understood, reads_listing, listing_schema, if_select, is_select}
use Rattle.sqlite.specs.Order.{Row}
use Rattle.sqlite.specs.Schema.{Schema}
use Rattle.sqlite.specs.Table.{Table}
use Rattle.sqlite_ast.specs.declared.Statement.{Statement}
use Rattle.sqlite_ast.specs.declared.Statement.TheVariants as written
use Rattle.sqlite_ast.specs.declared.Conflict.TheVariants as conflict
use Rattle.sqlite_syntax.specs.declared.statement.Parsed.{Parsed}
use Rattle.sqlite_schema.specs.declared.command.Returning.{Returning}
use Rattle.sqlite_resolve.specs.Compile.{target, new_rows, compiled, first, planned, meaning, command, returning, delete, insert, insert_or, insert_or_abort, create_table, creates, is_attached, is_reserved, with_command, small, timed}
use Rattle.sqlite_resolve.specs.Lowering.{Checked, and_then}
use Rattle.sqlite_resolve.specs.declared.compiled.Compiled.{Compiled}
use Rattle.sqlite_resolve.specs.declared.error.CompileError.{CompileError}

-- ---- the schema before, by the one after

last_is : (xs ys : List Table) (x y : Table) → xs ++ x ∷ [] ≡ ys ++ y ∷ [] → (xs ≡ ys) × (x ≡ y)
last_is [] [] x y e = (refl, cc)
last_is [] (b ∷ []) x y e = absurd cc
last_is [] (b ∷ c ∷ ys) x y e = absurd cc
last_is (a ∷ []) [] x y e = absurd cc
last_is (a ∷ b ∷ xs) [] x y e = absurd cc
last_is (a ∷ xs) (b ∷ ys) x y e =
    let first : a ≡ b = cc in
    let rest : xs ++ x ∷ [] ≡ ys ++ y ∷ [] = cc in
    let it = last_is xs ys x y rest in
    ((λ i. first i ∷ it.0 i), it.1)

-- one table more is made of the schema without it
pub made_of : (a b : Schema) (s t : Table) → created a s ≡ created b t → a ≡ b
made_of a b s t e =
    let tables = last_is a.tables b.tables (record s { tree = next_tree a }) (record t { tree = next_tree b }) (ap (λ (x : Schema). x.tables) e) in
    let keys = λ (x : Table). automatics x 0 (x.tree + 1) x.uniques in
    let indexes = ap (λ (x : Schema). x.indexes) e in
    let same = append_cancel_right a.indexes b.indexes (keys (record t { tree = next_tree b })) (subst (λ l. a.indexes ++ l ≡ b.indexes ++ keys (record t { tree = next_tree b })) (ap keys tables.1) indexes) in
    let views = ap (λ (x : Schema). x.views) e in
    λ i. record { tables = tables.0 i; indexes = same i; views = views i }

-- ---- what a text is understood as

and_then_parts : {A B : Type 0} (r : Checked A) (f : A → Checked B) (b : B) → and_then r f ≡ Ok b → (a : A) × (r ≡ Ok a) × (f a ≡ Ok b)
and_then_parts (Ok a) f b e = (a, refl, e)
and_then_parts (Err x) f b e = absurd cc

selected : (r : Result Compiled CompileError) (c : Compiled) → if_select r ≡ Ok c → r ≡ Ok c
selected (Ok d) c e = elim (cases_Bool (is_select d.command)) [ inl is ↦ rw is at e | inr isnt ↦ absurd (let f = rw isnt at e in cc) ]
selected (Err x) c e = absurd cc

-- what holds of a text's meaning in each schema holds of what it is understood as
understood_each : (sql : List ℕ) (K : Compiled → Type 0) → ((s : Schema) (c : Compiled) → compiled s sql ≡ Ok c → K c) → (s : Schema) (c : Compiled) → understood s sql ≡ Ok c → K c
unfolding understood
understood_each sql K each s c e = elim (cases_Bool (reads_listing s sql)) [
  | inl lists ↦ each listing_schema c (selected (compiled listing_schema sql) c (rw lists at e))
  | inr unlisted ↦ each s c (rw unlisted at e)
]

-- the text is CREATE TABLE, without IF NOT EXISTS
abbrev pub makes_table : Statement → Bool
makes_table (written.CreateTable def) = not def.if_missing
makes_table _ = false

-- the text is INSERT or DELETE
abbrev pub writes_rows : Statement → Bool
writes_rows (written.Insert how name columns rows clauses shown) = true
writes_rows (written.Delete name test shown) = true
writes_rows _ = false

abbrev pub reads_as : (Statement → Bool) → Checked Parsed → Bool
reads_as is (Ok p) = is p.statement
reads_as is (Err e) = false

-- the command changes rows
abbrev pub is_on_rows : Command → Bool
is_on_rows (Insert at from) = true
is_on_rows (InsertOr at way from clauses) = true
is_on_rows (Delete at q) = true
is_on_rows _ = false

abbrev IsPlainCommand : Command → Option Returning → Command → Type 0
IsPlainCommand command shown wanted = (command ≡ wanted) × (shown ≡ None)

-- what is found in the parts of a text
planned_parts : (s : Schema) (p : Parsed) (c : Compiled) → and_then (planned s p) (λ plan. Ok (with_command p plan)) ≡ Ok c → (base : ℕ) × (command s p.formats base p.statement ≡ Ok c.command) × (returning s base p.statement ≡ Ok c.returning)
unfolding planned meaning
planned_parts s p c e =
    let base = small p.names + small (timed s p.formats p.statement) in
    let one = and_then_parts (planned s p) (λ plan. Ok (with_command p plan)) c e in
    let plan = one.0 in
    let two = and_then_parts (meaning s p base) (λ found. Ok (timed s p.formats p.statement, found)) plan one.1 in
    let three = and_then_parts (returning s base p.statement) (λ shown. and_then (command s p.formats base p.statement) (λ k. Ok (k, shown))) two.0 two.1 in
    let four = and_then_parts (command s p.formats base p.statement) (λ k. Ok (k, three.0)) two.0 three.2 in
    let is : with_command p plan ≡ c = cc in
    let found : two.0 ≡ plan.1 = cc in
    let both : (four.0, three.0) ≡ two.0 = cc in
    (base, four.1 ∙ ap Ok (ap (λ (x : Command × Option Returning). x.0) (both ∙ found) ∙ ap (λ (x : Compiled). x.command) is), three.1 ∙ ap Ok (ap (λ (x : Command × Option Returning). x.1) (both ∙ found) ∙ ap (λ (x : Compiled). x.returning) is))

-- what holds of the command of a statement holds of that of a text that reads as one
text_each : (is : Statement → Bool) (K : Command → Option Returning → Type 0)
    → ((s : Schema) (formats : List (List ℕ)) (base : ℕ) (q : Statement) (k : Command) (shown : Option Returning) → is q ≡ true → command s formats base q ≡ Ok k → returning s base q ≡ Ok shown → K k shown)
    → (sql : List ℕ) → reads_as is (first sql) ≡ true → (s : Schema) (c : Compiled) → understood s sql ≡ Ok c → K c.command c.returning
unfolding compiled
text_each is K each sql reads = understood_each sql (λ c. K c.command c.returning) (λ s c e. in_schema s c e)
  where
    in_schema : (s : Schema) (c : Compiled) → compiled s sql ≡ Ok c → K c.command c.returning
    in_schema s c e =
        let one = and_then_parts (first sql) (λ p. and_then (planned s p) (λ plan. Ok (with_command p plan))) c e in
        let two = planned_parts s one.0 c one.2 in
        each s one.0.formats two.0 one.0.statement c.command c.returning (rw one.1 at reads) two.1 two.2

-- a choice that gave a value gave it by one of its two ways
chosen : {A : Type 0} (b : Bool) (x y : Checked A) (v : A) → (if b then x else y) ≡ Ok v → ((b ≡ true) × (x ≡ Ok v)) ⊎ ((b ≡ false) × (y ≡ Ok v))
chosen true x y v e = inl (refl, e)
chosen false x y v e = inr (refl, e)

-- a choice of which the first way is refused
other : {A : Type 0} (b : Bool) (x : CompileError) (y : Checked A) (v : A) → (if b then Err x else y) ≡ Ok v → y ≡ Ok v
other true x y v e = absurd cc
other false x y v e = e

-- a choice of which the second way is refused
one : {A : Type 0} (b : Bool) (x : CompileError) (y : Checked A) (v : A) → (if b then y else Err x) ≡ Ok v → y ≡ Ok v
one true x y v e = e
one false x y v e = absurd cc

-- without IF NOT EXISTS what is created is new
is_new : (name : List ℕ) (same found : Option ℕ) (b : Bool) → creates false name same found ≡ Ok b → b ≡ true
unfolding creates
is_new name same found b e =
    let two = other (is_some found) _ _ b (other (is_reserved name) _ _ b e) in
    sym (same_value (other (is_some same) Exists (Ok true) b two))
  where
    same_value : {x y : Bool} → ◌≡◌ {A = Checked Bool} (Ok x) (Ok y) → x ≡ y
    same_value f = cc

-- a CREATE TABLE is one, whatever the schema
table_command : (s : Schema) (formats : List (List ℕ)) (base : ℕ) (q : Statement) (k : Command) (shown : Option Returning) → makes_table q ≡ true → command s formats base q ≡ Ok k → returning s base q ≡ Ok shown → IsPlainCommand k shown CreateTable
unfolding command returning create_table
table_command s formats base (written.CreateTable def) k shown is e f =
    let missing : def.if_missing ≡ false = not_is def.if_missing is in
    let rest = other (is_attached s def.name) Unsupported _ k e in
    let made = and_then_parts (creates def.if_missing def.name (option_or (table_named s def.name) (view_named s def.name)) (index_named s def.name)) _ k rest in
    let new : made.0 ≡ true = is_new def.name _ _ made.0 (subst (λ b. creates b def.name (option_or (table_named s def.name) (view_named s def.name)) (index_named s def.name) ≡ Ok made.0) missing made.1) in
    let defined = and_then_parts (define.table formats def) _ k (rw new at made.2) in
    let last = one (length defined.0.computed == length defined.0.stamps.places && not def.resolves) Unsupported (Ok CreateTable) k defined.2 in
    (cc, cc)
table_command s formats base _ k shown is e f = absurd (false≢true is)

abbrev IsOnRows : Checked Command → Type 0
IsOnRows r = (k : Command) → r ≡ Ok k → is_on_rows k ≡ true

-- what ends in such a command is one
ends : {A : Type 0} (r : Checked A) (f : A → Checked Command) → ((a : A) → IsOnRows (f a)) → IsOnRows (and_then r f)
ends r f each k e = let it = and_then_parts r f k e in each it.0 k it.2

is_one : (c : Command) → is_on_rows c ≡ true → IsOnRows (Ok c)
is_one c is k e = let same : c ≡ k = cc in subst (λ x. is_on_rows x ≡ true) same is

insert_is : (s : Schema) (base : ℕ) (name : List ℕ) (columns : List (List ℕ)) (rows : Rows) → IsOnRows (insert s base name columns rows)
unfolding insert
insert_is s base name columns rows = ends (target s name) _ (λ at. ends (table_at s at) _ (λ table. ends (new_rows s table base columns rows) _ (λ from. is_one (Insert at from) refl)))

insert_or_is : (s : Schema) (base : ℕ) (way : Conflict) (name : List ℕ) (columns : List (List ℕ)) (rows : Rows) (clauses : List Upsert) → IsOnRows (insert_or s base way name columns rows clauses)
unfolding insert_or
insert_or_is s base way name columns rows clauses = ends (target s name) _ (λ at. ends (table_at s at) _ (λ table. ends (new_rows s table base columns rows) _ (λ from. ends (upserts s at table base clauses) _ (λ found. is_one (InsertOr at way from found) refl))))

delete_is : (s : Schema) (name : List ℕ) (test : Option Expr) → IsOnRows (delete s name test)
unfolding delete
delete_is s name test = ends (target s name) _ (λ at. ends (table_at s at) _ (λ table. ends (deleted s at table test) _ (λ d. ends (program s [] d) _ (λ p. is_one (Delete at p) refl))))

insert_or_abort_is : (s : Schema) (base : ℕ) (name : List ℕ) (columns : List (List ℕ)) (rows : Rows) (clauses : List Upsert) → IsOnRows (insert_or_abort s base name columns rows clauses)
unfolding insert_or_abort
insert_or_abort_is s base name columns rows clauses k e = elim (chosen (length clauses == 0) _ _ k e) [
  | inl way ↦ insert_is s base name columns rows k way.1
  | inr way ↦ insert_or_is s base how.Abort name columns rows clauses k way.1
]

-- an INSERT or a DELETE is one, whatever the schema
rows_command : (s : Schema) (formats : List (List ℕ)) (base : ℕ) (q : Statement) (k : Command) (shown : Option Returning) → writes_rows q ≡ true → command s formats base q ≡ Ok k → returning s base q ≡ Ok shown → is_on_rows k ≡ true
unfolding command returning
rows_command s formats base (written.Insert conflict.Abort name columns rows clauses shows) k shown is e f = insert_or_abort_is s base name columns rows clauses k e
rows_command s formats base (written.Insert conflict.Ignore name columns rows clauses shows) k shown is e f = insert_or_is s base how.Ignore name columns rows clauses k e
rows_command s formats base (written.Insert conflict.Replace name columns rows clauses shows) k shown is e f = insert_or_is s base how.Replace name columns rows clauses k e
rows_command s formats base (written.Delete name test shows) k shown is e f = delete_is s name test k e
rows_command s formats base _ k shown is e f = absurd (false≢true is)

-- ---- what such a text makes of a schema

-- a command that was carried out
ran : (sql : List ℕ) (params : Row) (old new : State) (count : ℕ) → Executes sql params old new (Ok count) → (c : Compiled) × (it : IsStatement old sql params c) × Runs old new c.returning c.command (text_of sql c) (at_times params c.formats it.now) count
unfolding ExecutesIn
ran sql params old new count h = (
  h.0,
  h.1,
  elim (cases_Bool (shows_rows false h.0)) [
    | inl shows ↦ absurd (let e = (rw shows at h.2).0 in cc)
    | inr runs ↦ rw runs at h.2
  ],
)

-- the table is in, and perhaps one for counters besides
pub record HasGrown (from to : Schema) : Type 0 where
  pub table : Table
  pub grown : (to ≡ created from table) ⊎ ((lacks_sequence (created from table) ≡ true) × (t : Table) × (to ≡ created (created from table) t))

sequenced : (db new : Database) (b : Bool) → lacks_sequence db.schema ≡ b → MakesSequence db (Ok new) → (new.schema ≡ db.schema) ⊎ ((lacks_sequence db.schema ≡ true) × (t : Table) × (new.schema ≡ created db.schema t))
sequenced db new true is h = let made = rw is at h in inr (is, made.table, made.is)
sequenced db new false is h = let same = same_value (rw is at h) in inl (ap (λ (d : Database). d.schema) same)

-- a text that is CREATE TABLE puts its table behind those that there are
pub grows : (sql : List ℕ) → reads_as makes_table (first sql) ≡ true → (params : Row) (old new : State) (count : ℕ) → Executes sql params old new (Ok count) → HasGrown old.now.schema new.now.schema × IsDatabase new.now
grows sql is params old new count h =
    let it = ran sql params old new count h in
    let c = it.0 in
    let plain = text_each makes_table (λ k shown. IsPlainCommand k shown CreateTable) table_command sql is old.now.schema c it.1.is in
    let w = subst₂ (λ k shown. Runs old new shown k (text_of sql c) (at_times params c.formats it.1.now) count) plain.0 plain.1 it.2 in
    let all = went w.changed in
    let first_ = went all.1 in
    let made = first_.1 in
    let now : new.now ≡ all.0 = ap (λ (p : Tally × Database). p.1) (same_value all.2) in
    let after = sequenced first_.0 all.0 (lacks_sequence first_.0.schema) refl first_.2 in (
      record {
        table = made.table;
        grown = elim after [
          | inl same ↦ inl (ap (λ (d : Database). d.schema) now ∙ same ∙ made.is)
          | inr more ↦ inr (sym (ap lacks_sequence made.is) ∙ more.0, more.1, ap (λ (d : Database). d.schema) now ∙ more.2 ∙ ap (λ s. created s more.1) made.is)
        ];
      },
      w.sound,
    )

-- what writes rows leaves the schema
ended : (old new : State) (shown : Option Returning) (k : Command) (params : Row) (tally : Tally) (found : Option Table) → AtPlace (λ table. OnRows (record { limit = old.step_limit; keys = (mode_of old).keys; schema = old.now.schema; table = table; params = params }) (mode_of old) shown k old.now.trees) found (Ok (tally, new.now)) → new.now.schema ≡ old.now.schema
ended old new shown k params tally None h = absurd cc
ended old new shown k params tally (Some table) h =
    let all = went h in
    let two = went all.2 in
    let three = went two.2 in
    let same : (tally, new.now) ≡ (record { rows = Some (length all.0.rows); last = all.0.last; shown = three.0; in_doubt = two.0 }, record { schema = old.now.schema; trees = all.0.trees }) = same_value three.2 in
    ap (λ (p : Tally × Database). p.1.schema) same

on_rows : (k : Command) (returning_ : Option Returning) (text : List ℕ) (params : Row) (old new : State) (count : ℕ) → is_on_rows k ≡ true → Runs old new returning_ k text params count → new.now.schema ≡ old.now.schema
on_rows (Insert at from) shown text params old new count is w = ended old new shown (Insert at from) params w.tally (slice_get old.now.schema.tables at) w.changed
on_rows (InsertOr at way from clauses) shown text params old new count is w = ended old new shown (InsertOr at way from clauses) params w.tally (slice_get old.now.schema.tables at) w.changed
on_rows (Delete at q) shown text params old new count is w = ended old new shown (Delete at q) params w.tally (slice_get old.now.schema.tables at) w.changed
on_rows _ shown text params old new count is w = absurd (false≢true is)

-- a text that changes rows leaves the schema
pub stays : (sql : List ℕ) → reads_as writes_rows (first sql) ≡ true → (params : Row) (old new : State) (count : ℕ) → Executes sql params old new (Ok count) → new.now.schema ≡ old.now.schema
stays sql is params old new count h =
    let it = ran sql params old new count h in
    let kind = text_each writes_rows (λ k shown. is_on_rows k ≡ true) rows_command sql is old.now.schema it.0 it.1.is in
    on_rows it.0.command it.0.returning (text_of sql it.0) (at_times params it.0.formats it.1.now) old new count kind it.2

-- where a schema was made of one that needs no counters, it was made of that one
pub grown_from : (from to : Schema) (table : Table) → lacks_sequence from ≡ false → (a b : Schema) → HasGrown a b → b ≡ created from table → a ≡ from
grown_from from to table bare a b g is = elim g.grown [
  | inl e ↦ made_of a from g.table table (sym e ∙ is)
  | inr e ↦ absurd (let back = made_of (created a g.table) from e.1 table (sym e.2 ∙ is) in true≢false (sym e.0 ∙ ap lacks_sequence back ∙ bare))
]

-- a text that makes a table makes it in a database without rows
pub grows_so : (from : Schema) (table : Table) (sql : List ℕ) → (command_of (understood from sql) ≡ CreateTable) × (statement_of sql (understood from sql) ≡ sql) × (table_defined_by sql ≡ Ok table) → IsPlain (understood from sql) → reads_as makes_table (first sql) ≡ true
    → lacks_sequence from ≡ false → lacks_sequence (created from table) ≡ false → (old new : State) (r : Result (Unit {0}) Error) → IsRun sql [] old new r → OnOk r (Grows from (created from table) old.now new.now)
grows_so from table sql is plain reads bare bare_after old new (Ok x) ran_ = record {
  empty = λ was. (created_empty from sql table old new ran_.0 is plain bare_after was ran_.1.0).0;
  sound = inl (grows sql reads [] old new ran_.0 ran_.1.0).1;
  back = λ e. grown_from from (created from table) table bare old.now.schema new.now.schema (grows sql reads [] old new ran_.0 ran_.1.0).0 e;
}
grows_so from table sql is plain reads bare bare_after old new (Err e) ran_ = tt

-- a text that changes rows, of which it is known what it makes of the tables
pub rewrites_so : (change : Held → Held) (sql : List ℕ) → reads_as writes_rows (first sql) ≡ true → (values : Row) (old new : State) → ((count : Result ℕ Error) → ExecutesInside 0 sql values old new count → OnOk count (Turns change old.now new.now))
    → (r : Result (Unit {0}) Error) → (HasCleanDisk new → IsTrue old.in_transaction → IsRun sql values old new r) → Survives old new (λ _. ⊥) → RunsWithin (Rewrites change) old new r
rewrites_so change sql reads values old new turns r ran_ survives = executed (Rewrites change) sql values old new r (made r) ran_ survives
  where
    made : (r : Result (Unit {0}) Error) → IsRun sql values old new r → OnOk r (Rewrites change old.now new.now)
    made (Ok x) h = record { turns = turns (Ok h.0) h.1; schema_stays = stays sql reads values old new h.0 h.1.0 }
    made (Err e) h = tt
