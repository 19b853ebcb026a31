-- Laws of the last step.
pub mod Laws
