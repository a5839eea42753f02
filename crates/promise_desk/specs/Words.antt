-- The words after the program's name.
use Rattle.std.specs.Global.{Vec}
use Rattle.std.specs.Prelude.{◌≡◌, [], ◌∷◌, map, codes, string_bytes, String}
use Rattle.std.specs.declared.alloc.Global.{Global}

-- the one word `check`
abbrev pub IsCheck : Vec (String Global) → Type 0
IsCheck words = map string_bytes words.items ≡ codes "check" ∷ []
