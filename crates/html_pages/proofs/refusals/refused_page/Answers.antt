use Rattle.std.proofs.Common.{◌∙◌, ◌++◌, List, ℕ, ap₂}
use Rattle.html_pages.specs.Pieces.{bytes}
use Rattle.html_pages.specs.Refusals.{refused_parts}
use Rattle.html_pages.proofs.refusals.refused_page.Goals as goal

pub returns : goal.returns
returns c = c.in_ok-put_refused.ensures ∙ ap₂ (λ (page name : List ℕ). page ++ bytes (refused_parts c.args.is_still name)) c.new-page.ensures.items (c.as_bytes.ensures.value ∙ c.name.ensures)
