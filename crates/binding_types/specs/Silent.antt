-- What is told without a finding.
use Rattle.std.specs.Prelude.{List, [], ◌∷◌}
use Rattle.name_rules.specs.declared.note.Note.{Note}
use Rattle.name_rules.specs.declared.note.Note.TheVariants.{Finding, Names, Calls}

-- none of the notes is a finding
abbrev pub Silent : List Note → Type 0
Silent [] = Unit {0}
Silent (Finding c at ∷ notes) = ⊥
Silent (Names n ∷ notes) = Silent notes
Silent (Calls c name count ∷ notes) = Silent notes
