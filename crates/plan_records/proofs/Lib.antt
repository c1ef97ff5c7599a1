pub mod RowEquality
