use Rattle.java_heads.proofs.HeadingLaws.{found_heading, only_heading}
use Rattle.java_heads.proofs.heading.read_heading.Goals as goal

pub returns-clause-found : goal.returns-clause-found
returns-clause-found c = found_heading c.args.class_name.now c.args.tokens.now c.member_heading.new.tokens c.member_heading.result c.member_heading.ensures

pub returns-clause-only : goal.returns-clause-only
returns-clause-only c = only_heading c.args.class_name.now c.args.tokens.now c.member_heading.new.tokens c.member_heading.result c.member_heading.ensures
