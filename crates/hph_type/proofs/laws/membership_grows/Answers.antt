use Rattle.hph_type.proofs.MembershipLaws.{membership_grows}
use Rattle.hph_type.proofs.laws.membership_grows.Goals as goal

pub returns : goal.returns
returns c = membership_grows
