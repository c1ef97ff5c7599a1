use Rattle.std.proofs.lemmas.Bool.{false≢true}
use Rattle.http_messages.proofs.Guarded.{foreign_by_site, foreign_looks, no}
use Rattle.http_messages.proofs.fields.Head.is_foreign.Goals as goal

pub returns : goal.returns
returns c = λ request m f. (
  λ wrong. absurd (false≢true wrong),
  λ foreign. absurd (foreign_looks request _ _ m f (no c.are_foreign.result (c.are_foreign.ensures _ c.values.ensures) c.if-are_foreign.false)
      (no c.is_post.result c.is_post.ensures c.if-is_post.false) foreign),
)

pub returns-else-has : goal.returns-else-has
returns-else-has c = λ request m f.
    foreign_by_site request _ _ m f (no c.are_foreign.result (c.are_foreign.ensures _ c.values.ensures) c.if-are_foreign.false)
    (c.is_post.ensures.0 c.if-is_post.true) (no c.has.result c.has.ensures c.if-has.false) c.has-else-has.result c.has-else-has.ensures
