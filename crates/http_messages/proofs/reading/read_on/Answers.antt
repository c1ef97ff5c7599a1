use Rattle.std.proofs.Common.{rules, ◌≡◌, ◌∙◌, sym, ap, subst, ◌+◌, ◌-◌, ◌≤◌, ◌++◌, take, length, le_refl}
use Rattle.std.proofs.lemmas.List.{length-take-le, take-append-le}
use Rattle.std.proofs.lemmas.Slice.{take-put_mid_below}
use Rattle.std.proofs.Math.Seq.{take-append-add}
use Rattle.std.proofs.KnownBytes.{Consumes-trans}
use Rattle.std.specs.Io.KnownBytes.{Consumes}
use borrow.Rule.Slice.PartMut.{put_mid, post_of}
use Rattle.http_messages.proofs.reading.read_on.Goals as goal

pub returns-in-Ok-clause-taken : goal.returns-in-Ok-clause-taken
returns-in-Ok-clause-taken g c = λ input consumed.
    let a = c.args.filled in
    let n = c.in-Ok.n in
    let buf = c.args.buffer.now in
    let sub = c.read.new.buf in
    let fits : n ≤ length sub = search rules in
    let front : length (take a buf) ≡ a = length-take-le a buf c.requires.within in
    let joined : take (a + n) (put_mid a (length buf - a) buf sub) ≡ take a buf ++ take n sub =
    ap (λ m. take (m + n) (put_mid a (length buf - a) buf sub)) (sym front)
    ∙ take-append-add (take a buf) (sub ++ post_of a (length buf - a) buf) n
    ∙ ap (λ l. take a buf ++ l) (take-append-le n sub (post_of a (length buf - a) buf) fits) in
    subst (Consumes _ _) (sym joined) (Consumes-trans _ _ _ _ _ consumed c.in-Ok.ensures.bytes.0)

pub returns-in-Ok-clause-kept : goal.returns-in-Ok-clause-kept
returns-in-Ok-clause-kept g c = take-put_mid_below _ _ _ _ _ (le_refl _) c.requires.within
