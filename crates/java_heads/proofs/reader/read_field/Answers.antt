use Rattle.java_phrases.specs.Common.{ahead}
use Rattle.java_heads.specs.Spelling.{FieldParts}
use Rattle.java_heads.specs.Reading.{field}
use Rattle.java_heads.specs.Answers.{field_with}
use Rattle.java_heads.proofs.Parts.{takes-found, takes-only}
use Rattle.java_heads.proofs.ReaderLemmas.{field_tokens, field-part}
use Rattle.java_heads.proofs.reader.read_field.Goals as goal

pub returns-clause-found : goal.returns-clause-found
returns-clause-found c = takes-found FieldParts field field_tokens field_with field-part (ahead c.args.tokens.now) (ahead c.kept_field.new.tokens) c.kept_field.result c.kept_field.ensures.reads

pub returns-clause-only : goal.returns-clause-only
returns-clause-only c = takes-only FieldParts field field_tokens field_with field-part (ahead c.args.tokens.now) (ahead c.kept_field.new.tokens) c.kept_field.result c.kept_field.ensures.reads
