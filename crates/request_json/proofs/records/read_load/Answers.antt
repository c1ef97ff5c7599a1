use Rattle.std.proofs.Common.{◌≡◌, ◌∷◌, [], codes, refl}
use Rattle.serde_json.specs.Data.{string}
use Rattle.serde_json.specs.Find.{get}
use Rattle.serde_json.specs.View.{view}
use Rattle.plan_basics.specs.Watched.{inner_of}
use Rattle.request_json.proofs.Texts.{text_there}
use Rattle.request_json.proofs.records.read_load.Goals as goal

pub returns-in-Ok : goal.returns-in-Ok
returns-in-Ok c =
    let there = text_there (get (codes "records") (view c.args.value.now)) c.in-Some.records.now c.in-Some.ensures in
    let inner : (inner_of c.new-reader.result).now ≡ c.in-Some.records.now = cc (c.new-reader.ensures.inner, c.as_bytes.ensures.value) in
    ((codes "records", string c.in-Some.records.now) ∷ [], (refl, c.in-Some.records.now, refl, rw inner at c.in-Ok.ensures.plan), c.if-count-ne3.false, (there, tt))
