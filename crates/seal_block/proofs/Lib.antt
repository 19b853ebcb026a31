-- Laws of sealing all blocks of a cell.
pub mod Laws
