pub mod NumeralLaws
pub mod EmptyFields
pub mod PartLaws
pub mod KindLaws
pub mod ItemLaws
