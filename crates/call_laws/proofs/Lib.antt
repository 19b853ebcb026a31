-- What past its checks a cipher call meets.
pub mod Keys
pub mod Same
pub mod Facts
