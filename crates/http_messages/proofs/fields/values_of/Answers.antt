use Rattle.std.proofs.Common.{◌<◌, ◌∙◌, sym, subst, arith, ℕ, List, length}
use Rattle.httparse.specs.Spans.{header_bytes}
use Rattle.http_messages.specs.Heads.{AreValues}
use Rattle.http_messages.proofs.Texts.{values-more, values-same}
use Rattle.http_messages.proofs.fields.values_of.Goals.{then-is_named, else-is_named}
use Rattle.http_messages.proofs.fields.values_of.Goals as goal

pub loop-header-preserved : goal.loop-header-preserved
loop-header-preserved c =
    let at = c.loop-header.header-index in
    let in_range : at < length c.args.headers.now = omega arith in
    elim c.if-is_named.branch [
      | then-is_named w ↦
          rw w.values-is
          (subst (λ (v : List (List ℕ)). AreValues v w.with-values.result)
          (sym (values-more (header_bytes c.args.bytes.now) c.args.name.now c.args.headers.now at _ in_range (sym c.is_named.ensures ∙ w.if-is_named.true)))
          (rw w.of.ensures at (w.with-values.ensures _ c.loop-header.invariant)))
      | else-is_named w ↦
          rw w.values-is
          (subst (λ (v : List (List ℕ)). AreValues v c.loop-header.values)
          (sym (values-same (header_bytes c.args.bytes.now) c.args.name.now c.args.headers.now at _ in_range (sym c.is_named.ensures ∙ w.if-is_named.false)))
          c.loop-header.invariant)
    ]
