use Rattle.plan_reasons.specs.plan_drafts.proofs.Tables.{is_found}
use Rattle.plan_shows.proofs.shows.reach_shown.Goals as goal

pub reached_views-requires : goal.reached_views-requires
reached_views-requires c = let found = is_found _ c.requires in (found.0, found.1, tt)
