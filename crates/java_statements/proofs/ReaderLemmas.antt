-- The two laws of the reader over tokens, as its functions need them.
use Rattle.std.proofs.Common.{◌≡◌, ℕ, List, Result, IfOk}
use Rattle.java_phrases.specs.Tree.{Token, Block}
use Rattle.java_phrases.specs.Common.{Steps, ahead, Found, Gives}
use Rattle.java_phrases.specs.declared.error.SyntaxError.{SyntaxError}
use Rattle.java_phrases.specs.declared.tokens.Tokens.{Tokens}
use Rattle.java_phrases.proofs.Answered.{gives, steps-found, one-found}
use Rattle.java_statements.specs.Spelling.{BlockSpells}
use Rattle.java_statements.specs.Reading.{block}
use Rattle.java_statements.proofs.Sound.{sound}
use Rattle.java_statements.proofs.Complete.{complete}

block-sound : (limit : ℕ) (ts rest : List Token) (b : Block) → block limit ts ≡ Found b rest → BlockSpells limit b ts rest
block-sound limit ts rest b e = ((sound limit).1 ts rest b e).0

pub found_block : (limit : ℕ) (r : Result Block SyntaxError) (old new : Tokens) → Steps (block limit) old r new → IfOk r (λ b. BlockSpells limit b (ahead old) (ahead new))
found_block limit r old new = steps-found (BlockSpells limit) (block limit) (block-sound limit) old new r

pub only_block : (limit : ℕ) (r : Result Block SyntaxError) (old new : Tokens) → Steps (block limit) old r new → (b : Block) (rest : List Token) → BlockSpells limit b (ahead old) rest → Gives r (ahead new) b rest
only_block limit r old new reads b rest s = gives (block limit) old new r reads b rest ((complete limit).1 b (ahead old) rest s)

pub one_block : (limit : ℕ) (ts rest other_rest : List Token) (one other : Block) → BlockSpells limit one ts rest → BlockSpells limit other ts other_rest → (one ≡ other) × (rest ≡ other_rest)
one_block limit ts rest other_rest one other = one-found (BlockSpells limit) (block limit) (complete limit).1 one other ts rest other_rest
