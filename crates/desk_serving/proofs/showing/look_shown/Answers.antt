use Rattle.desk_serving.proofs.showing.look_shown.Goals as goal

pub returns-in-Page : goal.returns-in-Page
returns-in-Page g c = rw c.in-Page.is c.page_shown.ensures

pub returns-in-Board : goal.returns-in-Board
returns-in-Board g c = rw c.in-Board.is c.board_shown.ensures

pub returns-in-Detail : goal.returns-in-Detail
returns-in-Detail g c = rw c.in-Detail.is (rw c.deref.ensures.value at c.detail_shown.ensures)

pub returns-in-Judged : goal.returns-in-Judged
returns-in-Judged g c = rw c.in-Judged.is (rw c.deref-in-Judged.ensures.value at c.judged_shown.ensures)
