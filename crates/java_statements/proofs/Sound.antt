-- What the readers of statements and blocks find, the tokens spell.
use Rattle.std.proofs.Common.{◌≡◌, ℕ, zero, suc, ◌<◌, ◌≤◌, Bool, true, false, List, [], ◌∷◌, ◌++◌, length, Option, Some, None, refl, sym, subst, arith}
use Rattle.java_phrases.specs.Tree.{Span, Kind, Kind as k, Token, Expr, Stmt, out-Stmt, Block, out-Block, roll-Block, out-roll-Block, BlockItem, out-BlockItem, Stmt-F, BlockItem-F, Block-F}
use Rattle.java_phrases.specs.Common.{Phrase, Sign, Each, Found, Parser, ◌>>=◌, pure, sees, next_kind, sign}
use Rattle.java_tree.specs.declared.stmt.Stmt.TheVariants as tree
use Rattle.java_tree.specs.declared.stmt.Stmt.TheVariants.{outs-Block, outs-Empty, outs-Action, outs-If, outs-While, outs-For, outs-Sync, outs-Return}
use Rattle.java_tree.specs.declared.stmt.BlockItem.TheVariants as item
use Rattle.java_tree.specs.declared.stmt.BlockItem.TheVariants.{outs-Local, outs-Stmt}
use Rattle.java_phrases.proofs.Phrases.{and_then-some, pure-is, sign-sound, mark-sign}
use Rattle.java_expressions.proofs.Sound.{sign-shorter, turns-sound}
use Rattle.java_statements.specs.Spelling.{ItemSpells, BlockBy, StmtBy, StmtSpells, BlockSpells}
use Rattle.java_statements.specs.Reading.{condition, declaration_within, declaration, local, for_head, sync_head, value_if, returned, action_within, action_stmt, empty_stmt, item_by, block_item, goes_on, one_more, items, block_within, other_by, if_stmt, while_stmt, for_stmt, block_stmt, sync_stmt, stmt_by, stmt_within, statement, block, begins_local}
use Rattle.java_statements.proofs.SoundParts.{condition-sound, action_within-sound, local-sound, value_if-sound, for_head-sound, sync_head-sound}

-- A statement stands between ts and rest. Where `else` follows, it ends in no If without one.
pub record IsStmt (limit : ℕ) (ts : List Token) (s : Stmt) (rest : List Token) : Type 0 where
  pub shorter : length rest < length ts
  pub spelled : (closed : Bool) → (closed ≡ true → sees k.Else rest ≡ true) → StmtSpells limit closed s ts rest

-- what a reader of statements is known for
abbrev pub Stmts-sound : ℕ → Parser Stmt → Type 0
Stmts-sound limit p = (ts rest : List Token) (s : Stmt) → p ts ≡ Found s rest → IsStmt limit ts s rest

abbrev pub Blocks-sound : ℕ → Parser Block → Type 0
Blocks-sound limit p = (ts rest : List Token) (b : Block) → p ts ≡ Found b rest → BlockSpells limit b ts rest × (length rest < length ts)

node : (room : ℕ) (f : Stmt-F BlockItem Stmt Block) (s : Stmt) (ts rest : List Token) → out-Stmt s ≡ f → length rest < length ts
    → ((closed : Bool) → (closed ≡ true → sees k.Else rest ≡ true) → StmtBy room (StmtSpells room) (BlockSpells room) closed f ts rest)
    → IsStmt (suc room) ts s rest
unfolding StmtSpells
node room f s ts rest is less layer = record {
  shorter = less;
  spelled = λ closed h. let P : Stmt-F BlockItem Stmt Block → Type 0 = λ g. StmtBy room (StmtSpells room) (BlockSpells room) closed g ts rest in subst P (sym is) (layer closed h);
}

-- ---- statements without statements inside

empty-sound : (room : ℕ) (ts rest : List Token) (s : Stmt) → empty_stmt ts ≡ Found s rest → IsStmt (suc room) ts s rest
unfolding empty_stmt
empty-sound room ts rest s e =
    let (at, t1, is1, e1) = and_then-some (sign k.Semicolon ts) _ s rest e in
    let s1 = sign-sound k.Semicolon ts t1 at is1 in
    let a : length ts ≡ suc (length t1) = sign-shorter k.Semicolon ts t1 at s1 in
    pure-is (λ s r. IsStmt (suc room) ts s r) (tree.Empty at) s t1 rest e1 (node room (Stmt-F.Empty at) (tree.Empty at) ts t1 (outs-Empty at) (omega arith) (λ closed h. s1))

action-sound : (room : ℕ) (ts rest : List Token) (s : Stmt) → action_stmt room ts ≡ Found s rest → IsStmt (suc room) ts s rest
unfolding action_stmt
action-sound room ts rest s e =
    let (does, t1, is1, e1) = and_then-some (action_within room ts) _ s rest e in
    let (at, t2, is2, e2) = and_then-some (sign k.Semicolon t1) _ s rest e1 in
    let (s1, l1) = action_within-sound room ts t1 does is1 in
    let s2 = sign-sound k.Semicolon t1 t2 at is2 in
    let a : length t1 ≡ suc (length t2) = sign-shorter k.Semicolon t1 t2 at s2 in
    pure-is (λ s r. IsStmt (suc room) ts s r) (tree.Action does at) s t2 rest e2
    (node room (Stmt-F.Action does at) (tree.Action does at) ts t2 (outs-Action does at) (omega arith) (λ closed h. (t1, s1, s2)))

returned-sound : (room : ℕ) (ts rest : List Token) (s : Stmt) → returned room ts ≡ Found s rest → IsStmt (suc room) ts s rest
unfolding returned
returned-sound room ts rest s e =
    let (at, t1, is1, e1) = and_then-some (sign k.Return ts) _ s rest e in
    let (v, t2, is2, e2) = and_then-some (value_if room t1) _ s rest e1 in
    let (end, t3, is3, e3) = and_then-some (sign k.Semicolon t2) _ s rest e2 in
    let s1 = sign-sound k.Return ts t1 at is1 in
    let (s2, l2) = value_if-sound room t1 t2 v is2 in
    let s3 = sign-sound k.Semicolon t2 t3 end is3 in
    let a1 : length ts ≡ suc (length t1) = sign-shorter k.Return ts t1 at s1 in
    let a3 : length t2 ≡ suc (length t3) = sign-shorter k.Semicolon t2 t3 end s3 in
    pure-is (λ s r. IsStmt (suc room) ts s r) (tree.Return at v end) s t3 rest e3
    (node room (Stmt-F.Return at v end) (tree.Return at v end) ts t3 (outs-Return at v end) (omega arith) (λ closed h. (t1, s1, (t2, s2, s3))))

-- ---- items and blocks

-- an item that was read where so many nodes are left
abbrev IsItem : ℕ → List Token → BlockItem → List Token → Type 0
IsItem room ts i rest = ItemSpells room (StmtSpells room false) (out-BlockItem i) ts rest × (length rest < length ts)

item_of : (room : ℕ) (i : BlockItem) (f : BlockItem-F BlockItem Stmt Block) (ts rest : List Token) → out-BlockItem i ≡ f → ItemSpells room (StmtSpells room false) f ts rest → length rest < length ts → IsItem room ts i rest
item_of room i f ts rest is s less = let P : BlockItem-F BlockItem Stmt Block → Type 0 = λ g. ItemSpells room (StmtSpells room false) g ts rest in (subst P (sym is) s, less)

declaration-sound : (room : ℕ) (ts rest : List Token) (i : BlockItem) → declaration room ts ≡ Found i rest → IsItem room ts i rest
unfolding declaration declaration_within
declaration-sound zero ts rest i e = cc
declaration-sound (suc room) ts rest i e =
    let (l, t1, is1, e1) = and_then-some (local room ts) _ i rest e in
    let (at, t2, is2, e2) = and_then-some (sign k.Semicolon t1) _ i rest e1 in
    let (s1, l1) = local-sound room ts t1 l is1 in
    let s2 = sign-sound k.Semicolon t1 t2 at is2 in
    let a : length t1 ≡ suc (length t2) = sign-shorter k.Semicolon t1 t2 at s2 in
    pure-is (λ i r. IsItem (suc room) ts i r) (item.Local l at) i t2 rest e2 (item_of (suc room) (item.Local l at) (BlockItem-F.Local l at) ts t2 (outs-Local l at) (t1, s1, s2) (omega arith))

each-snoc : {A : Type 0} (P : A → Phrase) (xs : List A) (y : A) (ts mid rest : List Token) → Each P xs ts mid → P y mid rest → Each P (xs ++ y ∷ []) ts rest
each-snoc P [] y ts mid rest each last = let Q : List Token → Type 0 = λ l. P y l rest in (rest, subst Q (sym each) last, refl)
each-snoc P (x ∷ xs) y ts mid rest (t1, p, each) last = (t1, p, each-snoc P xs y t1 mid rest each last)

-- the items that were read so far
abbrev AreItems : ℕ → List Token → List BlockItem → List Token → Type 0
AreItems room start found ts = Each (λ i. ItemSpells room (StmtSpells room false) (out-BlockItem i)) found start ts × (length ts ≤ length start)

never : (closed b : Bool) → (closed ≡ true → b ≡ true) → b ≡ false → closed ≡ false
never true b h off = let on = h refl in cc
never false b h off = refl

module _ (room : ℕ) (inner : Parser Stmt) (known : Stmts-sound room inner) where
  item_by-sound : (b : Bool) (ts rest : List Token) (i : BlockItem) → item_by room inner b ts ≡ Found i rest → IsItem room ts i rest
  item_by-sound true ts rest i e = declaration-sound room ts rest i e
  item_by-sound false ts rest i e =
      let (s, t1, is1, e1) = and_then-some (inner ts) _ i rest e in
      let found = known ts t1 s is1 in
      pure-is (λ i r. IsItem room ts i r) (item.Stmt s) i t1 rest e1 (item_of room (item.Stmt s) (BlockItem-F.Stmt s) ts t1 (outs-Stmt s) (found.spelled false (λ on. cc)) found.shorter)

  pub block_item-sound : (ts rest : List Token) (i : BlockItem) → block_item room inner ts ≡ Found i rest → ItemSpells room (StmtSpells room false) (out-BlockItem i) ts rest × (length rest < length ts)
  unfolding block_item
  block_item-sound ts rest i e = item_by-sound (begins_local ts) ts rest i e

  one_more-sound : (start ts rest : List Token) (found more : List BlockItem) → AreItems room start found ts → one_more room inner found ts ≡ Found more rest → AreItems room start more rest
  unfolding one_more
  one_more-sound start ts rest found more (each, less) e =
      let (i, t1, is1, e1) = and_then-some (block_item room inner ts) _ more rest e in
      let (s, l1) = block_item-sound ts t1 i is1 in
      pure-is (λ more r. AreItems room start more r) (found ++ i ∷ []) more t1 rest e1 (each-snoc (λ i. ItemSpells room (StmtSpells room false) (out-BlockItem i)) found i start ts t1 each s, omega arith)

  items-sound : (ts rest : List Token) (found : List BlockItem) → items room inner ts ≡ Found found rest → AreItems room ts found rest
  unfolding items
  items-sound ts rest found e =
      (turns-sound (λ found r. AreItems room ts found r) (goes_on room inner) (one_more room inner) [] found ts rest (λ x y us r. one_more-sound ts us r x y) (refl, omega arith) e).0

  pub block_within-sound : (ts rest : List Token) (b : Block) → block_within room inner ts ≡ Found b rest → BlockBy room (StmtSpells room false) (out-Block b) ts rest × (length rest < length ts)
  unfolding block_within
  block_within-sound ts rest b e =
      let (opening, t1, is1, e1) = and_then-some (sign k.LBrace ts) _ b rest e in
      let (found, t2, is2, e2) = and_then-some (items room inner t1) _ b rest e1 in
      let (closing, t3, is3, e3) = and_then-some (sign k.RBrace t2) _ b rest e2 in
      let s1 = sign-sound k.LBrace ts t1 opening is1 in
      let (s2, l2) = items-sound t1 t2 found is2 in
      let s3 = sign-sound k.RBrace t2 t3 closing is3 in
      let a1 : length ts ≡ suc (length t1) = sign-shorter k.LBrace ts t1 opening s1 in
      let a3 : length t2 ≡ suc (length t3) = sign-shorter k.RBrace t2 t3 closing s3 in
      let parts : Block-F BlockItem Stmt Block = record { opening = opening; items = found; closing = closing } in
      let P : Block-F BlockItem Stmt Block → Type 0 = λ p. BlockBy room (StmtSpells room false) p ts t3 in
      pure-is (λ b r. BlockBy room (StmtSpells room false) (out-Block b) ts r × (length r < length ts)) (roll-Block parts) b t3 rest e3
      (subst P (sym (out-roll-Block parts)) (t1, s1, (t2, s2, s3)), omega arith)

  -- ---- statements with statements inside

  block_stmt-sound : (ts rest : List Token) (s : Stmt) → block_stmt room inner ts ≡ Found s rest → IsStmt (suc room) ts s rest
  block_stmt-sound ts rest s e =
      let (b, t1, is1, e1) = and_then-some (block_within room inner ts) _ s rest e in
      let (s1, l1) = block_within-sound ts t1 b is1 in
      pure-is (λ s r. IsStmt (suc room) ts s r) (tree.Block b) s t1 rest e1 (node room (Stmt-F.Block b) (tree.Block b) ts t1 (outs-Block b) l1 (λ closed h. s1))

  while-sound : (ts rest : List Token) (s : Stmt) → while_stmt room inner ts ≡ Found s rest → IsStmt (suc room) ts s rest
  unfolding while_stmt
  while-sound ts rest s e =
      let (at, t1, is1, e1) = and_then-some (sign k.While ts) _ s rest e in
      let (test, t2, is2, e2) = and_then-some (condition room t1) _ s rest e1 in
      let (does, t3, is3, e3) = and_then-some (inner t2) _ s rest e2 in
      let s1 = sign-sound k.While ts t1 at is1 in
      let (s2, l2) = condition-sound room t1 t2 test is2 in
      let body = known t2 t3 does is3 in
      let a1 : length ts ≡ suc (length t1) = sign-shorter k.While ts t1 at s1 in
      let a3 : length t3 < length t2 = body.shorter in
      pure-is (λ s r. IsStmt (suc room) ts s r) (tree.While at test does) s t3 rest e3
      (node room (Stmt-F.While at test does) (tree.While at test does) ts t3 (outs-While at test does) (omega arith) (λ closed h. (t1, s1, (t2, s2, body.spelled closed h))))

  for-sound : (ts rest : List Token) (s : Stmt) → for_stmt room inner ts ≡ Found s rest → IsStmt (suc room) ts s rest
  unfolding for_stmt
  for-sound ts rest s e =
      let (at, t1, is1, e1) = and_then-some (sign k.For ts) _ s rest e in
      let (head, t2, is2, e2) = and_then-some (for_head room t1) _ s rest e1 in
      let (does, t3, is3, e3) = and_then-some (inner t2) _ s rest e2 in
      let s1 = sign-sound k.For ts t1 at is1 in
      let (s2, l2) = for_head-sound room t1 t2 head is2 in
      let body = known t2 t3 does is3 in
      let a1 : length ts ≡ suc (length t1) = sign-shorter k.For ts t1 at s1 in
      let a3 : length t3 < length t2 = body.shorter in
      pure-is (λ s r. IsStmt (suc room) ts s r) (tree.For at head.first head.test head.last does) s t3 rest e3 (
      node room (Stmt-F.For at head.first head.test head.last does) (tree.For at head.first head.test head.last does) ts t3 (outs-For at head.first head.test head.last does) (omega arith)
      (λ closed h. (t1, s1, (t2, s2, body.spelled closed h)))
      )

  if_alone : (at : Span) (test : Expr) (does s : Stmt) (ts t1 t2 t3 rest : List Token) → Sign k.If at ts t1 → condition room t1 ≡ Found test t2 → inner t2 ≡ Found does t3 → sees k.Else t3 ≡ false
      → Found (tree.If at test does None) t3 ≡ Found s rest → IsStmt (suc room) ts s rest
  if_alone at test does s ts t1 t2 t3 rest s1 is2 is3 off e =
      let (s2, l2) = condition-sound room t1 t2 test is2 in
      let body = known t2 t3 does is3 in
      let a1 : length ts ≡ suc (length t1) = sign-shorter k.If ts t1 at s1 in
      let a3 : length t3 < length t2 = body.shorter in
      pure-is (λ s r. IsStmt (suc room) ts s r) (tree.If at test does None) s t3 rest e (
      node room (Stmt-F.If at test does None) (tree.If at test does None) ts t3 (outs-If at test does None) (omega arith)
      (λ closed h. (never closed (sees k.Else t3) h off, (t1, s1, (t2, s2, body.spelled false (λ on. cc)))))
      )

  if_else : (at : Span) (test : Expr) (does other s : Stmt) (ts t1 t2 t3 t4 t5 rest : List Token) (word : Span) → Sign k.If at ts t1 → condition room t1 ≡ Found test t2 → inner t2 ≡ Found does t3 → sees k.Else t3 ≡ true
      → sign k.Else t3 ≡ Found word t4 → inner t4 ≡ Found other t5 → Found (tree.If at test does (Some other)) t5 ≡ Found s rest → IsStmt (suc room) ts s rest
  if_else at test does other s ts t1 t2 t3 t4 t5 rest word s1 is2 is3 on is4 is5 e =
      let (s2, l2) = condition-sound room t1 t2 test is2 in
      let body = known t2 t3 does is3 in
      let s4 = sign-sound k.Else t3 t4 word is4 in
      let last = known t4 t5 other is5 in
      let a1 : length ts ≡ suc (length t1) = sign-shorter k.If ts t1 at s1 in
      let a3 : length t3 < length t2 = body.shorter in
      let a4 : length t3 ≡ suc (length t4) = sign-shorter k.Else t3 t4 word s4 in
      let a5 : length t5 < length t4 = last.shorter in
      pure-is (λ s r. IsStmt (suc room) ts s r) (tree.If at test does (Some other)) s t5 rest e (
      node room (Stmt-F.If at test does (Some other)) (tree.If at test does (Some other)) ts t5 (outs-If at test does (Some other)) (omega arith)
      (λ closed h. (t1, s1, (t2, s2, (t3, body.spelled true (λ _. on), (t4, mark-sign k.Else word t3 t4 s4, last.spelled closed h)))))
      )

  if_by-sound : (b : Bool) (at : Span) (test : Expr) (does s : Stmt) (ts t1 t2 t3 rest : List Token) → Sign k.If at ts t1 → condition room t1 ≡ Found test t2 → inner t2 ≡ Found does t3 → sees k.Else t3 ≡ b
      → (other_by room inner b >>= (λ other. pure (tree.If at test does other))) t3 ≡ Found s rest → IsStmt (suc room) ts s rest
  if_by-sound true at test does s ts t1 t2 t3 rest s1 is2 is3 is e =
      let (other, t5, f5, e5) = and_then-some (other_by room inner true t3) _ s rest e in
      let (word, t4, is4, e4) = and_then-some (sign k.Else t3) _ other t5 f5 in
      let (y, u5, is5, g5) = and_then-some (inner t4) _ other t5 e4 in
      pure-is (λ o r. Found (tree.If at test does o) r ≡ Found s rest → IsStmt (suc room) ts s rest) (Some y) other u5 t5 g5
      (λ f. if_else at test does y s ts t1 t2 t3 t4 u5 rest word s1 is2 is3 is is4 is5 f) e5
  if_by-sound false at test does s ts t1 t2 t3 rest s1 is2 is3 is e = if_alone at test does s ts t1 t2 t3 rest s1 is2 is3 is e

  if-sound : (ts rest : List Token) (s : Stmt) → if_stmt room inner ts ≡ Found s rest → IsStmt (suc room) ts s rest
  unfolding if_stmt
  if-sound ts rest s e =
      let (at, t1, is1, e1) = and_then-some (sign k.If ts) _ s rest e in
      let (test, t2, is2, e2) = and_then-some (condition room t1) _ s rest e1 in
      let (does, t3, is3, e3) = and_then-some (inner t2) _ s rest e2 in
      if_by-sound (sees k.Else t3) at test does s ts t1 t2 t3 rest (sign-sound k.If ts t1 at is1) is2 is3 refl e3

  module _ (inner_block : Parser Block) (known_block : Blocks-sound room inner_block) where
    sync-sound : (ts rest : List Token) (s : Stmt) → sync_stmt room inner inner_block ts ≡ Found s rest → IsStmt (suc room) ts s rest
    unfolding sync_stmt
    sync-sound ts rest s e =
        let (at, t1, is1, e1) = and_then-some (sign k.Synchronized ts) _ s rest e in
        let (held, t2, is2, e2) = and_then-some (sync_head room t1) _ s rest e1 in
        let (b, t3, is3, e3) = and_then-some (inner_block t2) _ s rest e2 in
        let s1 = sign-sound k.Synchronized ts t1 at is1 in
        let (s2, l2) = sync_head-sound room t1 t2 held is2 in
        let (s3, l3) = known_block t2 t3 b is3 in
        let a1 : length ts ≡ suc (length t1) = sign-shorter k.Synchronized ts t1 at s1 in
        pure-is (λ s r. IsStmt (suc room) ts s r) (tree.Sync at held b) s t3 rest e3
        (node room (Stmt-F.Sync at held b) (tree.Sync at held b) ts t3 (outs-Sync at held b) (omega arith) (λ closed h. (t1, s1, (t2, s2, s3))))

    stmt_by-sound : (next : Option Kind) (ts rest : List Token) (s : Stmt) → stmt_by room inner inner_block next ts ≡ Found s rest → IsStmt (suc room) ts s rest
    stmt_by-sound (Some k.LBrace) ts rest s e = block_stmt-sound ts rest s e
    stmt_by-sound (Some k.Semicolon) ts rest s e = empty-sound room ts rest s e
    stmt_by-sound (Some k.If) ts rest s e = if-sound ts rest s e
    stmt_by-sound (Some k.While) ts rest s e = while-sound ts rest s e
    stmt_by-sound (Some k.For) ts rest s e = for-sound ts rest s e
    stmt_by-sound (Some k.Synchronized) ts rest s e = sync-sound ts rest s e
    stmt_by-sound (Some k.Return) ts rest s e = returned-sound room ts rest s e
    stmt_by-sound _ ts rest s e = action-sound room ts rest s e

    pub stmt_within-sound : (ts rest : List Token) (s : Stmt) → stmt_within room inner inner_block ts ≡ Found s rest → IsStmt (suc room) ts s rest
    unfolding stmt_within
    stmt_within-sound ts rest s e = stmt_by-sound (next_kind ts) ts rest s e

pub sound : (limit : ℕ) → Stmts-sound limit (statement limit) × Blocks-sound limit (block limit)
unfolding statement block BlockSpells
sound zero = (λ ts rest s e. cc, λ ts rest b e. cc)
sound (suc room) =
    let (stmts, blocks) = sound room in
    (λ ts rest s e. stmt_within-sound room (statement room) stmts (block room) blocks ts rest s e, λ ts rest b e. block_within-sound room (statement room) stmts ts rest b e)
