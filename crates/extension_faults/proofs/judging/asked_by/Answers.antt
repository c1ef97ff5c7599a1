use Rattle.std.proofs.Common.{◌≡◌, ap, refl}
use Rattle.plan_basics.specs.Watched.{inner_of}
use Rattle.extension_faults.proofs.judging.asked_by.Goals as goal

pub returns-in-Ok : goal.returns-in-Ok
returns-in-Ok c =
    let inner : (inner_of c.new-reader.result).now ≡ c.args.text.now = cc (c.new-reader.ensures.inner) in
    rw c.in-Addition.is (c.in-Ok.addition, rw inner at c.in-Ok.ensures.addition, refl)

pub returns-in-Ok-read_extension : goal.returns-in-Ok-read_extension
returns-in-Ok-read_extension c =
    let inner : (inner_of c.new-reader.result).now ≡ c.args.text.now = cc (c.new-reader.ensures.inner) in
    rw c.in-Extension.is (c.in-Ok-read_extension.extension, rw inner at c.in-Ok-read_extension.ensures.extension, refl)
