use Rattle.java_phrases.proofs.Answered.{one-found}
use Rattle.java_heads.specs.Spelling.{PackageSpells, ImportSpells, FieldParts, SigParts}
use Rattle.java_heads.specs.Reading.{package_line, import_line, field, signature}
use Rattle.java_heads.specs.Answers.{field_with, sig_with}
use Rattle.java_heads.proofs.LineLaws.{package-complete, import-complete}
use Rattle.java_heads.proofs.HeadingLaws.{one_heading}
use Rattle.java_heads.proofs.Parts.{one-kept}
use Rattle.java_heads.proofs.ReaderLemmas.{field_tokens, field-part, sig_tokens, sig-part, one_header}
use Rattle.java_heads.proofs.laws.one_part.Goals as goal

pub returns-clause-package_line : goal.returns-clause-package_line
returns-clause-package_line c = one-found PackageSpells package_line package-complete

pub returns-clause-import_line : goal.returns-clause-import_line
returns-clause-import_line c = one-found ImportSpells import_line import-complete

pub returns-clause-header : goal.returns-clause-header
returns-clause-header c = one_header

pub returns-clause-field : goal.returns-clause-field
returns-clause-field c = one-kept FieldParts field field_tokens field_with field-part

pub returns-clause-signature : goal.returns-clause-signature
returns-clause-signature c = one-kept SigParts signature sig_tokens sig_with sig-part

pub returns-clause-heading : goal.returns-clause-heading
returns-clause-heading c = one_heading
