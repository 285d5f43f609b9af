pub mod TwoRun
