-- Which words may stand among the modifiers of which declaration (JLS 8, 8.1.1, 8.3.1, 8.4.1, 8.4.3,
-- 8.8.3, 9.1.1, 9.4, as far as the subset goes).
use Rattle.std.specs.Prelude.{◌≤◌, ℕ, Bool, true, false, if◌then◌else◌, List, count_by}
use denote.Enum.Bare.{sameb}
use Rattle.java_tree.specs.contracts.member.ModWord.{the_type}
use Rattle.java_phrases.specs.Tree.{Kind, Kind as k, Mod, Mod as modifier, ModWord, ModWord as w}
use Rattle.java_heads.specs.declared.declaration.Declaration.{Declaration}
use Rattle.java_heads.specs.declared.declaration.Declaration.TheVariants as of

abbrev pub kind_of : ModWord → Kind
kind_of w.Public = k.Public
kind_of w.Protected = k.Protected
kind_of w.Private = k.Private
kind_of w.Static = k.Static
kind_of w.Final = k.Final
kind_of w.Abstract = k.Abstract
kind_of w.Synchronized = k.Synchronized

abbrev pub same_word : ModWord → ModWord → Bool
same_word = sameb the_type

-- whether the word may stand there
abbrev pub may_have : Declaration → ModWord → Bool
may_have of.Class w.Public = true
may_have of.Class w.Final = true
may_have of.Interface w.Public = true
may_have of.Field w.Public = true
may_have of.Field w.Protected = true
may_have of.Field w.Private = true
may_have of.Field w.Static = true
may_have of.Field w.Final = true
may_have of.Method w.Public = true
may_have of.Method w.Protected = true
may_have of.Method w.Private = true
may_have of.Method w.Static = true
may_have of.Method w.Final = true
may_have of.Method w.Synchronized = true
may_have of.Sig w.Public = true
may_have of.Sig w.Abstract = true
may_have of.Ctor w.Public = true
may_have of.Ctor w.Protected = true
may_have of.Ctor w.Private = true
may_have of.Main w.Public = true
may_have of.Main w.Static = true
may_have of.Main w.Final = true
may_have of.Main w.Synchronized = true
may_have of.Param w.Final = true
may_have _ _ = false

-- whether the word has to stand there
abbrev pub must_have : Declaration → ModWord → Bool
must_have of.Main w.Public = true
must_have of.Main w.Static = true
must_have _ _ = false

abbrev pub is_access : ModWord → Bool
is_access w.Public = true
is_access w.Protected = true
is_access w.Private = true
is_access _ = false

-- how many modifiers are words of which the test is true
abbrev pub word_is : (ModWord → Bool) → Mod → Bool
word_is test (modifier.Annot annot) = false
word_is test (modifier.Word word at) = test word

abbrev pub words_that : (ModWord → Bool) → List Mod → ℕ
words_that test mods = count_by (word_is test) mods

-- whether the modifier is `public`, `protected` or `private`
unfoldable pub access_word : Mod → Bool
access_word m = word_is is_access m

abbrev pub most : Declaration → ModWord → ℕ
most declaration word = if may_have declaration word then 1 else 0

abbrev pub least : Declaration → ModWord → ℕ
least declaration word = if must_have declaration word then 1 else 0

-- No word stands there twice, none that may not, each that has to, and at most one of `public`,
-- `protected` and `private`.
pub record FitsAs (declaration : Declaration) (mods : List Mod) : Type 0 where
  pub at_least : (word : ModWord) → least declaration word ≤ words_that (same_word word) mods
  pub at_most : (word : ModWord) → words_that (same_word word) mods ≤ most declaration word
  pub access : words_that is_access mods ≤ 1
