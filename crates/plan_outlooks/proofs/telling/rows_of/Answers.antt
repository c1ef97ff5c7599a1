use Rattle.std.proofs.Common.{sym, subst}
use Rattle.plan_outlooks.specs.Longest.{AreNamed, AreOver}
use Rattle.plan_outlooks.specs.Occurrences.{AreOccurrenceOutlooks}
use Rattle.plan_outlooks.specs.Paths.{AreLatePaths}
use Rattle.plan_outlooks.proofs.telling.rows_of.Goals as goal

pub late_paths-requires : goal.late_paths-requires
late_paths-requires c =
    let (F, lent) = c.requires in
    (F, lent, subst (AreOccurrenceOutlooks F) (sym c.deref.ensures.value) (c.in_ok-occurrences.ensures F lent))

pub returns-clause-rows : goal.returns-clause-rows
returns-clause-rows c = λ F lent cut. record {
  from = lent.from;
  to = lent.to;
  cut = cut;
  occurrences = c.in_ok-occurrences.ensures F lent;
  operations = c.in_ok-operations.ensures F lent;
  named = subst (λ rows. AreNamed rows c.in_ok-named.named.items) c.deref-2.ensures.value c.in_ok-named.ensures;
  over = subst (λ rows. AreOver rows c.in_ok-over.over.items) c.deref-3.ensures.value c.in_ok-over.ensures;
  paths = subst (λ rows. AreLatePaths F rows c.in_ok-paths.paths.items) c.deref.ensures.value (c.in_ok-paths.ensures F lent (subst (AreOccurrenceOutlooks F) (sym c.deref.ensures.value) (c.in_ok-occurrences.ensures F lent)));
  standstills = c.in_ok-never.ensures.rows F lent;
}
