-- What stands in the way of a load.
use Rattle.std.specs.Prelude.{◌≡◌, Bool, false, Option}
use Rattle.std.specs.Option.{is_some}
use Rattle.plan_basics.specs.declared.Refusal.{Refusal}
use Rattle.plan_basics.specs.declared.Refusal.TheVariants as refusal
use Rattle.plan_model.specs.Contents.{Contents}
use Rattle.plan_records.specs.Acceptance.{MayBeLoaded}

-- a text may be loaded: no plan is loaded, and it denotes one
abbrev pub MayBeLoadedWhere : Bool → Option Contents → Refusal → Type 0
MayBeLoadedWhere loaded draft refusal.Loaded = loaded ≡ false
MayBeLoadedWhere loaded draft r = MayBeLoaded (is_some draft) r
