use Rattle.html_pages.proofs.Bytes.{markup_stands, names_stand}
use Rattle.html_pages.proofs.laws.names_cannot_break.Goals as goal

pub returns-clause-markup : goal.returns-clause-markup
returns-clause-markup c = markup_stands

pub returns-clause-names : goal.returns-clause-names
returns-clause-names c = names_stand
