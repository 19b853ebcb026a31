-- A column gathered from the table is the mixed column.
pub mod Laws
pub mod Laid
