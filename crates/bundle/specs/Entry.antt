-- What a bundle is: entries, each a file's path and text, and then a last line.
use Rattle.std.specs.Prelude.{ℕ, ◌<◌, ◌++◌, IsTrue, List, [], ◌∷◌, length, codes}
use Rattle.std.specs.Fmt.{decimal}
use Rattle.bundle.specs.Path.{is_good_path}

-- a file: its path and its text
pub record Entry : Type 0 where
  pub path : List ℕ
  pub text : List ℕ

-- how an entry is written: a line with the path and the text's length, the text, and a line feed
abbrev pub entry_bytes : Entry → List ℕ
entry_bytes e = codes "file " ++ (e.path ++ (codes " " ++ (decimal (length e.text) ++ (10 ∷ (e.text ++ (10 ∷ []))))))

-- an entry that may stand in a bundle: its path is good, and its length has at most nine digits
pub record IsEntry (e : Entry) : Type 0 where
  pub path : IsTrue (is_good_path e.path)
  pub short : length e.text < 1000000000
