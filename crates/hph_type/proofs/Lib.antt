pub mod ClassLaws
pub mod KindLaws
pub mod OrderLaws
pub mod RankLaws
pub mod CodeLaws
pub mod MembershipLaws
mod Examples
