use Rattle.std.proofs.Common.{rules, ◌≡◌, ◌∙◌, refl, true, [], List, Some, ℕ}
use Rattle.csv.specs.Machine.{Read}
use Rattle.csv.specs.Reading.{Reached, ReadRecord, ReadsOn, default_config, source_of}
use Rattle.csv.specs.Records.{fields_of as row_fields}
use Rattle.csv.proofs.ReadFacts.{rows-more}
use Rattle.plan_import.proofs.Rows.{single}
use Rattle.plan_import.specs.Records.{IsTen, next_of}
use Rattle.plan_import.proofs.next_said.Goals as goal

pub returns-in-Some-clause-said : goal.returns-in-Some-clause-said
unfolding Reached
returns-in-Some-clause-said g c =
    let rem = g.R.Read.remaining in
    let old = c.args.text.now in
    let new = c.read_byte_record.new.self in
    let row = row_fields c.read_byte_record.new.row in
    let plain = c.requires.plain in
    let said = rw c.in-Some.is at c.in_ok-item-in-Ok-true.ensures.said in
    let read : ReadRecord rem old new true row = rw c.in-Ok-true.field-0-test at (c.in-Ok-true.ensures.reads plain.trim plain.ready) in
    let on : ReadsOn old new = c.in-Ok-true.ensures.reads_on c.in-Ok-true.field-0-test in (
      record {
        trim = read.3 ∙ plain.trim;
        ready = (on.4 plain.ready).0;
        config = read.2 ∙ plain.config;
        flexible = on.2 ∙ plain.flexible;
        length = rw ((read.5 refl plain.flexible).1) said.0;
      },
      row,
      said.0,
      said.1,
      λ bytes e.
          let m = rows-more rem old new row default_config old.state bytes bytes [] plain.config e (refl, refl) read in
          (m.0, m.1, single default_config old.state new.state bytes m.0 row m.2),
    )

pub returns-in-Ok-true-clause-said : goal.returns-in-Ok-true-clause-said
unfolding Reached
returns-in-Ok-true-clause-said g c = λ bytes e.
    let rem = g.R.Read.remaining in
    let old = c.args.text.now in
    let new = c.read_byte_record.new.self in
    let row = row_fields c.read_byte_record.new.row in
    let plain = c.requires.plain in
    let none = rw c.in-None.is at c.in_ok-item-in-Ok-true.ensures.said in
    let read : ReadRecord rem old new true row = rw c.in-Ok-true.field-0-test at (c.in-Ok-true.ensures.reads plain.trim plain.ready) in
    let m = rows-more rem old new row default_config old.state bytes bytes [] plain.config e (refl, refl) read in
    ((row, new.state, m.0), single default_config old.state new.state bytes m.0 row m.2, none)

pub returns-clause-said : goal.returns-clause-said
returns-clause-said g c =
    let old = c.args.text.now in
    let turn : (bytes : List ℕ) → source_of g.R.Read.remaining old ≡ Some bytes → (p : Read) × (next_of old bytes ≡ Some p) × ¬ IsTen p.0 = search rules in
    λ bytes e. let t = turn bytes e in (t.0, t.1, λ says. t.2 says.0)
