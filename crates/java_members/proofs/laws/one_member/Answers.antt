use Rattle.java_members.proofs.Members.{one_member}
use Rattle.java_members.proofs.laws.one_member.Goals as goal

pub returns : goal.returns
returns c = one_member c.one_part.ensures.heading c.one_block.ensures
