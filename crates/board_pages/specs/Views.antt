-- What a desk that is served knows of who asks for workstations.
use Rattle.std.specs.Prelude.{ℕ, find, Option, Some, None, option_map, unwrap_or}
use Rattle.std.specs.Ordering.{eq_by_cmp}
use Rattle.plan_basics.specs.Keys.{Name, name_cmp}
use Rattle.board_pages.specs.declared.views.Asked.{Asked}
use Rattle.board_pages.specs.declared.views.Watch.{Watch}

-- for how many minutes nobody has asked for a workstation; as long as the desk has been served, where nobody did
abbrev pub unasked_by : Watch → Name → ℕ
unasked_by t w = unwrap_or (option_map (λ (a : Asked). a.minutes) (find (λ (a : Asked). eq_by_cmp name_cmp a.workstation w) t.asked.items)) t.served

-- where a desk is served
abbrev pub unasked : Option Watch → Name → Option ℕ
unasked (Some t) w = Some (unasked_by t w)
unasked None w = None
