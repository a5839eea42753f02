-- What a bundle is, and where bytes stop being one.
use Rattle.std.specs.Prelude.{◌≡◌, ◌≢◌, ℕ, ◌+◌, ◌++◌, ◌⊎◌, List, [], ◌∷◌, length, map, codes, All, AllPairs}
use Rattle.std.specs.List.{flat_map}
use Rattle.bundle.specs.Entry.{Entry, IsEntry, entry_bytes}

-- entries that may stand together: each may stand in a bundle, and no two have one path
pub record AreFiles (files : List Entry) : Type 0 where
  pub each : All IsEntry files
  pub distinct : AllPairs (λ p q. p ≢ q) (map (λ e. e.path) files)

-- the last line of a bundle
abbrev pub end_line : List ℕ
end_line = codes "end" ++ (10 ∷ [])

-- the entries' bytes, one after another
abbrev pub entries_bytes : List Entry → List ℕ
entries_bytes files = flat_map entry_bytes files

-- the bytes are the bundle of these files, in this order
pub record IsBundle (files : List Entry) (bytes : List ℕ) : Type 0 where
  pub good : AreFiles files
  pub whole : bytes ≡ entries_bytes files ++ end_line

-- no entry with a path that the files don't have begins the bytes
abbrev pub NoNewEntry : List Entry → List ℕ → Type 0
NoNewEntry files bytes = (e : Entry) (rest : List ℕ) → bytes ≡ entry_bytes e ++ rest → AreFiles (files ++ (e ∷ [])) → ⊥

-- the last line doesn't begin the bytes
abbrev pub NoEnd : List ℕ → Type 0
NoEnd bytes = (rest : List ℕ) → bytes ≡ end_line ++ rest → ⊥

-- entries with paths of their own begin the bytes, then comes the rest, which no further one begins
pub record Stops (bytes rest : List ℕ) : Type 0 where
  pub files : List Entry
  pub good : AreFiles files
  pub split : bytes ≡ entries_bytes files ++ rest
  pub last : NoNewEntry files rest

-- The bytes are no bundle, and this is the first place at fault: where, after the entries that begin
-- them, neither an entry with a new path nor the last line comes, or where something comes after the
-- last line.
pub record BadAt (bytes : List ℕ) (at : ℕ) : Type 0 where
  pub files : List Entry
  pub rest : List ℕ
  pub good : AreFiles files
  pub split : bytes ≡ entries_bytes files ++ rest
  pub fault : (NoNewEntry files rest × NoEnd rest × (at ≡ length (entries_bytes files)))
      ⊎ ((more : List ℕ) × (more ≢ []) × (rest ≡ end_line ++ more) × (at ≡ length (entries_bytes files) + length end_line))
