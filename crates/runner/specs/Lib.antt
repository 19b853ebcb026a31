-- What a run stands on past its checks.
pub mod Sound
