use Rattle.board_pages.proofs.pages.put_stood.Goals as goal

pub returns : goal.returns
returns c = rw c.in-Some.is (rw c.stood_template-template.ensures at c.put.ensures)
