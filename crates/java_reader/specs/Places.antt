-- In which order the tokens stand that a tree keeps.
use Rattle.std.specs.Prelude.{ℕ, ◌≤◌, List, [], ◌∷◌}
use Rattle.java_phrases.specs.Tree.{MemberTree, ClassTree}
use Rattle.java_lexer.specs.Lexing.{Follow}
use Rattle.java_members.specs.Spelling.{tokens_of}

-- The tokens of each member stand in order in the text between the places, and those of the next behind
-- them.
abbrev pub MembersFollow : List ℕ → ℕ → List MemberTree → ℕ → Type 0
MembersFollow text from [] end = from ≤ end
MembersFollow text from (m ∷ ms) end = (mid : ℕ) × Follow text from (tokens_of m) mid × MembersFollow text mid ms end

-- the tokens of the header, and behind them those of the members
abbrev pub TypeFollows : List ℕ → ℕ → ClassTree → ℕ → Type 0
TypeFollows text from c end = (header : ℕ) × (body : ℕ) × Follow text from c.tokens header × (header ≤ body) × MembersFollow text body c.members end

-- the tokens of each type, and behind them those of the next
abbrev pub TypesFollow : List ℕ → ℕ → List ClassTree → ℕ → Type 0
TypesFollow text from [] end = from ≤ end
TypesFollow text from (c ∷ cs) end = (mid : ℕ) × TypeFollows text from c mid × TypesFollow text mid cs end
