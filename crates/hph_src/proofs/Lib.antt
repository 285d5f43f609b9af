pub mod FaultLaws
pub mod FileLemmas
pub mod ReadLaws
pub mod SinkLaws
pub mod WriteLaws
