-- What every layer's definitions are written with.
pub mod Choice
pub mod Places
pub mod Answer
