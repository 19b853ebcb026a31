-- Laws of handing out.
pub mod Giving
