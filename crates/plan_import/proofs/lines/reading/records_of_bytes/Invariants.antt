use Rattle.std.proofs.Common.{◌≡◌, ℕ, List, Some}
use Rattle.csv.specs.Reading.{Reached, Ready, default_config, source_of, strip_bom}
use Rattle.csv.specs.declared.parser.State.TheVariants as st
use Rattle.csv.specs.declared.reader.Trim.TheVariants as trim
use Rattle.plan_import.specs.TextRecords.{texts_of}
use Rattle.plan_import.proofs.lines.reading.records_of_bytes.Given as goal

abbrev pub invariant-loop : goal.invariant-loop
invariant-loop l = (l.reader.trim ≡ trim.None) × Ready l.reader × (l.reader.config ≡ default_config)
    × (y : List ℕ) × (source_of (λ s. Some s.now) l.reader ≡ Some y)
    × Reached default_config st.StartRecord (strip_bom l.fn.text) (texts_of l.records.items) l.reader.state y
