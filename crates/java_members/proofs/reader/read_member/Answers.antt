use Rattle.java_phrases.specs.Common.{ahead}
use Rattle.java_members.proofs.Members.{found_member, only_member}
use Rattle.java_members.proofs.reader.read_member.Goals as goal

pub returns-clause-found : goal.returns-clause-found
returns-clause-found c = found_member c.args.class_name.now (ahead c.args.tokens.now) (ahead c.kept_member.new.tokens) c.kept_member.result c.kept_member.ensures.reads

pub returns-clause-only : goal.returns-clause-only
returns-clause-only c = only_member c.args.class_name.now (ahead c.args.tokens.now) (ahead c.kept_member.new.tokens) c.kept_member.result c.kept_member.ensures.reads
