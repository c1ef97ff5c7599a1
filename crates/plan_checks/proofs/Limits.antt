-- How many of each a plan has.
use Rattle.std.proofs.Common.{◌≡◌, sym, ap, ◌∙◌, length, List}
use Rattle.std.specs.FinMap.{FinMap, entries, len, len-entries}
use Rattle.std.specs.FinSet as set
use Rattle.std.specs.List.Sorted.{IsStrictlySortedBy}
use Rattle.std.specs.declared.cmp.Ordering.{Ordering}
use Rattle.plan_basics.specs.declared.keys.OpKey.{OpKey}
use Rattle.plan_drafts.proofs.Tables.{len_set, sorted_apart}
use Rattle.derived_figures.specs.plan_laws.proofs.Pairs.{pair_cmp_total, pair_cmp-IsAntisymmetric}
use Rattle.plan_model.specs.Contents.{Pairs, pair_cmp}

-- as many as it has rows
pub counted : {K X : Type 0} {R : K → K → Ordering} (m : FinMap R X) (rows : List (K × X)) → rows ≡ entries m → len m ≡ length rows
counted m rows same = len-entries m ∙ ap length (sym same)

pub pairs_counted : (pairs : Pairs) (listed : List (OpKey × OpKey)) → set.from_list listed ≡ pairs → IsStrictlySortedBy pair_cmp listed → set.len pairs ≡ length listed
pairs_counted pairs listed same up = ap set.len (sym same) ∙ len_set pair_cmp_total pair_cmp-IsAntisymmetric listed (sorted_apart pair_cmp_total pair_cmp-IsAntisymmetric listed up)
