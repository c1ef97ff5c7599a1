pub mod SideBySide
mod OneMore
mod KeptRows
mod TableRows
pub mod SourceRows
mod KeyedRows
pub mod NoRows
mod BothKeys
mod WithinRows
mod MadeOfEach
mod MetaRow
mod AllTables
mod DifferentRows
mod MovedRows
mod OccurrencesOf
mod TouchedTables
mod TouchedRows
mod PairedLists
mod NotedTables
pub mod Counted
mod FewPlaces
mod AddedRows
pub mod Sources
mod KeptOperations
mod NewPlaces
mod NewNeeds
mod NeedRows
mod QuantityRows
mod Availability
mod WrittenOfEach
