pub mod RowTables
pub mod RowsOfForms
pub mod RowsOfLoops
pub mod RowsOfNames
pub mod RowsOfPrograms
pub mod RowsOfRules
