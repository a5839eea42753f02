use Rattle.java_members.proofs.Members.{takes-member}
use Rattle.java_members.proofs.reader.kept_member.Goals as goal

pub returns-clause-reads : goal.returns-clause-reads
returns-clause-reads c =
    takes-member c.args.class_name.now c.args.tokens.now c.keep-before.new.self c.whole.new.tokens c.keep.new.self c.in_ok-member.member c.with_tokens.result c.keep.result c.keep-before.ensures.stack c.keep-before.ensures.taken c.in_ok-member.ensures.reads.0 c.in_ok-member.ensures.reads.1
    c.in_ok-member.ensures.kept c.keep.ensures.stack c.keep.ensures.kept c.with_tokens.ensures
