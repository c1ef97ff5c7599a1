mod Appended
pub mod Decoded
mod OperationLaws
mod RecordLaws
mod QueryTexts
mod Queried
mod Faults
mod RowidOrder
mod TableHeld
mod MetaShown
mod PlanTables
mod TablesIn
pub mod ReceiptsStored
pub mod RowsStored
mod EachOnce
mod Reading
pub mod TableQuantity
pub mod Turned
