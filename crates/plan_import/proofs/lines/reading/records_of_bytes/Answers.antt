use Rattle.std.proofs.Common.{Bor, List, ℕ, ◌≡◌, ◌∙◌, ap, sym, refl, inr, true, Some, ◌++◌, ◌∷◌, []}
use Rattle.std.proofs.lemmas.List.{map-append}
use Rattle.csv.specs.Reading.{Reached, ReadRecord, ReadsOn, default_config, strip_bom}
use Rattle.csv.specs.Records.{fields_of as row_fields}
use Rattle.csv.specs.declared.parser.State.TheVariants as st
use Rattle.csv.proofs.ReadFacts.{rows-more}
use Rattle.plan_import.specs.TextRecords.{texts_of}
use Rattle.plan_import.proofs.lines.reading.records_of_bytes.Goals as goal

pub loop-init : goal.loop-init
unfolding Reached
loop-init c =
    let read = c.from_reader-reader.ensures in
    let any = c.flexible.ensures in
    let plain = c.has_headers.ensures in
    rw (c.new-records.ensures.items) (
      rw (any, plain) at read.trim ∙ c.new.ensures.trim,
      inr (inr (rw (any, plain) at read.has_headers, read.headers)),
      rw (any, plain) at read.config ∙ c.new.ensures.config,
      strip_bom c.args.text.now,
      read.source,
      (sym read.state, refl),
    )

pub loop-preserved : goal.loop-preserved
loop-preserved c =
    let rem = λ (s : Bor (List ℕ)). Some s.now in
    let inv = c.loop.invariant in
    let old = c.loop.reader in
    let new = c.read_byte_record.new.self in
    let row = row_fields c.read_byte_record.new.row in
    let read : ReadRecord rem old new true row = rw c.in-Ok-true.field-0-test at (c.in-Ok-true.ensures.reads inv.0 inv.1) in
    let on : ReadsOn old new = c.in-Ok-true.ensures.reads_on c.in-Ok-true.field-0-test in
    let more = rows-more rem old new row default_config st.StartRecord (strip_bom c.args.text.now) inv.3 (texts_of c.loop.records.items) inv.2 inv.4 inv.5 read in
    let items : texts_of c.push.new.self.items ≡ texts_of c.loop.records.items ++ row ∷ [] =
    ap texts_of c.in_ok-push-in-Ok-true.ensures.items ∙ map-append _ c.loop.records.items (c.in_ok-own_fields-in-Ok-true.field-0 ∷ [])
    ∙ ap (λ (f : List (List ℕ)). texts_of c.loop.records.items ++ f ∷ []) c.in_ok-own_fields-in-Ok-true.ensures in
    (read.3 ∙ inv.0, (on.4 inv.1).0, read.2 ∙ inv.2, more.0, more.1, rw items more.2)
