pub mod FirstRun
