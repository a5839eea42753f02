use Rattle.java_phrases.specs.Common.{ahead}
use Rattle.java_phrases.proofs.Answered.{gives, steps-found}
use Rattle.java_heads.specs.Spelling.{ImportSpells}
use Rattle.java_heads.specs.Reading.{import_line}
use Rattle.java_heads.proofs.LineLaws.{import-sound, import-complete}
use Rattle.java_heads.proofs.reader.read_import.Goals as goal

pub returns-clause-found : goal.returns-clause-found
returns-clause-found c = steps-found ImportSpells import_line import-sound c.args.tokens.now c.import_line.new.tokens c.import_line.result c.import_line.ensures

pub returns-clause-only : goal.returns-clause-only
returns-clause-only c = λ y rest s. gives import_line c.args.tokens.now c.import_line.new.tokens c.import_line.result c.import_line.ensures y rest (import-complete y (ahead c.args.tokens.now) rest s)
