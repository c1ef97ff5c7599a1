-- What is known of a list of records before faults are sought.
use Rattle.std.specs.Prelude.{◌≡◌, List, length}
use Rattle.plan_items.specs.Items.{Fields}
use Rattle.record_faults.specs.Sayings.{AreSayings, given, owned, IsIndex}
use Rattle.record_faults.specs.Groups.{grouped, AreCounts, AreEarlier}
use Rattle.record_faults.specs.declared.readings.Reading.{Reading}

-- what the records say, their keys and the first places of these, their groups with the counts of these and the places before
pub record IsReadingOf (records : List Fields) (r : Reading) : Type 0 where
  pub said : AreSayings records r.said.items
  pub keys : r.keys.items ≡ given r.said.items
  pub index : IsIndex (given r.said.items) r.index
  pub owners : IsIndex (owned r.said.items) r.owners
  pub groups : r.groups.items ≡ grouped r.said.items
  pub counts : AreCounts (grouped r.said.items) r.counts
  pub size : length r.earlier.items ≡ length r.said.items
  pub earlier : AreEarlier (grouped r.said.items) r.earlier.items
