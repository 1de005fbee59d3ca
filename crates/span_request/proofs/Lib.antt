mod ColumnNames
mod ConditionParts
mod NumberNames
mod PlainWords
pub mod ShownNumbers
mod Suited
mod Unsound
