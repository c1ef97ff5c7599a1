-- What is known of a plan without a look at a record.
use Rattle.derived_figures.specs.DerivedRefs.{AreDerivedOf}
use Rattle.derived_figures.specs.declared.outlines.Outline.TheInside.{Inside}

-- what is kept is of the plan beside whose records the rest stands
abbrev pub IsOutline : Inside → Type 0
IsOutline p = AreDerivedOf p.uncounted.contents.now p.derived
