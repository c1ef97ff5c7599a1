-- How the desk is has no float.
use Rattle.std.proofs.Common.{◌≡◌, refl, ℕ, Bool, true, false, List}
use Rattle.std.specs.Prelude.{if◌then◌else◌, codes}
use Rattle.plan_basics.specs.MomentTexts.{moment_text}
use Rattle.plan_model.specs.Plan.{Plan}
use Rattle.request_json.specs.Intervals.{whole}
use Rattle.serde_json.specs.Data.{boolean, member, no_members, null, object, string}
use Rattle.serde_json.specs.Written.{has_float}
use Rattle.plan_shows.specs.Values.{health_data}

by_case : (stood : ℕ) (loaded : Bool) (clock : List ℕ)
    → has_float (object (member (codes "clock") (if loaded then string clock else null) (member (codes "loaded") (boolean loaded) (member (codes "stood") (whole stood) no_members)))) ≡ false
by_case stood true clock = refl
by_case stood false clock = refl

pub health_written : (stood : ℕ) (P : Plan) → has_float (health_data stood P) ≡ false
health_written stood P = by_case stood P.loaded (moment_text P.clock)
