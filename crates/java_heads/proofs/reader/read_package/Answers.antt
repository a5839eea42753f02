use Rattle.java_phrases.specs.Common.{ahead}
use Rattle.java_phrases.proofs.Answered.{gives, steps-found}
use Rattle.java_heads.specs.Spelling.{PackageSpells}
use Rattle.java_heads.specs.Reading.{package_line}
use Rattle.java_heads.proofs.LineLaws.{package-sound, package-complete}
use Rattle.java_heads.proofs.reader.read_package.Goals as goal

pub returns-clause-found : goal.returns-clause-found
returns-clause-found c = steps-found PackageSpells package_line package-sound c.args.tokens.now c.package_line.new.tokens c.package_line.result c.package_line.ensures

pub returns-clause-only : goal.returns-clause-only
returns-clause-only c = λ y rest s. gives package_line c.args.tokens.now c.package_line.new.tokens c.package_line.result c.package_line.ensures y rest (package-complete y (ahead c.args.tokens.now) rest s)
