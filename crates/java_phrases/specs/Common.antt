-- The names that readers cite most, of phrases, parsers and the cursor, passed on from one place.
unfoldable pub use Rattle.java_phrases.specs.Phrase.{Phrase, Nothing, ◌⨾◌, Mark, Sign, word_of, Spelled, Named, Optional, Each, ◌⊢◌, ◌∣◌, Never, Separated}
pub use Rattle.java_phrases.specs.Parser.{Outcome, Found, Lost}
unfoldable pub use Rattle.java_phrases.specs.Parser.{Parser, and_then, ◌>>=◌, ◌>>◌, pure, fail, same_kind, next_kind, next_start, peek, sees, sees_text, kind_at, text_at, look, sign, word, turns_from, turns}
unfoldable pub use Rattle.java_phrases.specs.Types.{TySpells, ty}
unfoldable pub use Rattle.java_phrases.specs.Texts.{smallest_digits, thread_name}
unfoldable pub use Rattle.java_phrases.specs.Cursor.{ahead, from_start, Steps}
unfoldable pub use Rattle.java_phrases.specs.Answers.{Gives, Finds, Takes}
