-- What tokens spell of statements and blocks, the readers find.
use Rattle.std.proofs.Common.{◌≡◌, ℕ, zero, suc, ◌<◌, not, Bool, true, false, List, [], ◌∷◌, ◌++◌, length, Option, Some, None, refl, ap, ◌∙◌, sym, arith}
use Rattle.std.proofs.Math.Seq.{append_snoc}
use Rattle.std.proofs.lemmas.List.{append-nil}
use Rattle.java_phrases.specs.Tree.{Span, Kind, Kind as k, Token, Expr, Action, ForFirst, Monitor, Stmt, out-Stmt, roll-Stmt, roll-out-Stmt, Block, out-Block, roll-out-Block, BlockItem, out-BlockItem, roll-BlockItem, roll-out-BlockItem, Stmt-F, BlockItem-F}
use Rattle.java_phrases.specs.Common.{Phrase, ◌⨾◌, Mark, Sign, Each, Found, Parser, same_kind, next_kind, sees, turns_from, turns}
use Rattle.java_tree.specs.declared.stmt.Stmt.TheVariants as tree
use Rattle.java_tree.specs.declared.stmt.Stmt.TheVariants.{rolls-Block, rolls-Empty, rolls-Action, rolls-If, rolls-While, rolls-For, rolls-Sync, rolls-Return}
use Rattle.java_tree.specs.declared.stmt.BlockItem.TheVariants.{rolls-Local, rolls-Stmt}
use Rattle.java_phrases.proofs.Phrases.{next-sign, next-mark, sign-complete, sign-mark, mark-sign}
use Rattle.java_phrases.proofs.Loops.{turn_once, turn_ends}
use Rattle.java_expressions.proofs.Complete.{sees-kind}
use Rattle.java_statements.specs.Spelling.{ActionSpells, Condition, ForHeadSpells, MonitorSpells, ItemSpells, BlockBy, StmtBy, StmtSpells, BlockSpells}
use Rattle.java_statements.specs.Reading.{begins_local_by, begins_local, action_stmt, empty_stmt, returned, block_item, goes_on, one_more, items, block_within, if_stmt, while_stmt, for_stmt, block_stmt, sync_stmt, stmt_by, stmt_within, statement, block}
use Rattle.java_statements.proofs.Starts.{begins_action, Begins, action-begins, ended-semicolon}
use Rattle.java_statements.proofs.CompleteParts.{condition-complete, value_if-complete, action_within-complete, declaration-complete, for_head-complete, sync_head-complete}
use Rattle.java_statements.proofs.Sound.{Stmts-sound, block_item-sound, sound}

-- ---- with which tokens a statement begins

-- the kinds of the tokens with which a statement that is no action begins
abbrev begins_head : Kind → Bool
begins_head k.LBrace = true
begins_head k.Semicolon = true
begins_head k.If = true
begins_head k.While = true
begins_head k.For = true
begins_head k.Synchronized = true
begins_head k.Return = true
begins_head _ = false

-- A statement or a local's declaration begins with neither of these.
record Starts (ts : List Token) : Type 0 where
  no_brace : sees k.RBrace ts ≡ false
  no_else : sees k.Else ts ≡ false

head-local : (kind : Kind) (second : Option Kind) → begins_head kind ≡ true → begins_local_by (Some kind) second ≡ false
head-local k.Final second e = cc
head-local k.IntType second e = cc
head-local k.BooleanType second e = cc
head-local k.Name second e = cc
head-local _ second e = refl

head-others : (kind : Kind) → begins_head kind ≡ true → (same_kind kind k.RBrace ≡ false) × (same_kind kind k.Else ≡ false)
head-others k.RBrace e = cc
head-others k.Else e = cc
head-others _ e = (refl, refl)

action-others : (kind : Kind) → begins_action kind ≡ true → (same_kind kind k.RBrace ≡ false) × (same_kind kind k.Else ≡ false)
action-others k.RBrace e = cc
action-others k.Else e = cc
action-others _ e = (refl, refl)

by_head : (kind : Kind) (ts : List Token) → next_kind ts ≡ Some kind → begins_head kind ≡ true → Starts ts × (begins_local ts ≡ false)
unfolding begins_local
by_head kind ts e on =
    let (a, b) = head-others kind on in
    (record { no_brace = sees-kind k.RBrace kind ts e ∙ a; no_else = sees-kind k.Else kind ts e ∙ b }, rw e (head-local kind _ on))

by_action : (ts : List Token) → Begins ts → Starts ts × (begins_local ts ≡ false)
by_action ts o =
    let (a, b) = action-others o.kind o.acts in
    (record { no_brace = sees-kind k.RBrace o.kind ts o.next ∙ a; no_else = sees-kind k.Else o.kind ts o.next ∙ b }, o.no_local)

stmt_by-starts : (room : ℕ) (Inner : Bool → Stmt → Phrase) (InnerBlock : Block → Phrase) (closed : Bool) (f : Stmt-F BlockItem Stmt Block) (ts rest : List Token) → StmtBy room Inner InnerBlock closed f ts rest → Starts ts × (begins_local ts ≡ false)
stmt_by-starts room Inner InnerBlock closed (Stmt-F.Block b) ts rest (t1, s, tail) = by_head k.LBrace ts (next-sign k.LBrace (out-Block b).opening ts t1 s) refl
stmt_by-starts room Inner InnerBlock closed (Stmt-F.Empty at) ts rest s = by_head k.Semicolon ts (next-sign k.Semicolon at ts rest s) refl
stmt_by-starts room Inner InnerBlock closed (Stmt-F.Action does at) ts rest (t1, s, s1) = by_action ts (action-begins (suc room) does ts t1 s (ended-semicolon at t1 rest s1))
stmt_by-starts room Inner InnerBlock closed (Stmt-F.If at test does None) ts rest (is, (t1, s, tail)) = by_head k.If ts (next-sign k.If at ts t1 s) refl
stmt_by-starts room Inner InnerBlock closed (Stmt-F.If at test does (Some other)) ts rest (t1, s, tail) = by_head k.If ts (next-sign k.If at ts t1 s) refl
stmt_by-starts room Inner InnerBlock closed (Stmt-F.While at test does) ts rest (t1, s, tail) = by_head k.While ts (next-sign k.While at ts t1 s) refl
stmt_by-starts room Inner InnerBlock closed (Stmt-F.For at first test last does) ts rest (t1, s, tail) = by_head k.For ts (next-sign k.For at ts t1 s) refl
stmt_by-starts room Inner InnerBlock closed (Stmt-F.Sync at held b) ts rest (t1, s, tail) = by_head k.Synchronized ts (next-sign k.Synchronized at ts t1 s) refl
stmt_by-starts room Inner InnerBlock closed (Stmt-F.Return at value end) ts rest (t1, s, tail) = by_head k.Return ts (next-sign k.Return at ts t1 s) refl

stmt-starts : (limit : ℕ) (closed : Bool) (s : Stmt) (ts rest : List Token) → StmtSpells limit closed s ts rest → Starts ts × (begins_local ts ≡ false)
unfolding StmtSpells
stmt-starts zero closed s ts rest p = absurd p
stmt-starts (suc room) closed s ts rest p = stmt_by-starts room (StmtSpells room) (BlockSpells room) closed (out-Stmt s) ts rest p

item_by-starts : (room : ℕ) (f : BlockItem-F BlockItem Stmt Block) (ts rest : List Token) → ItemSpells room (StmtSpells room false) f ts rest → Starts ts
item_by-starts room (BlockItem-F.Local l at) ts rest s = let (a, b, c, d) = declaration-complete room l at ts rest s in record { no_brace = c; no_else = d }
item_by-starts room (BlockItem-F.Stmt s) ts rest p = (stmt-starts room false s ts rest p).0

-- ---- what the readers inside are known to find

abbrev pub Stmts-complete : ℕ → Parser Stmt → Type 0
Stmts-complete limit p = (closed : Bool) (s : Stmt) (ts rest : List Token) → StmtSpells limit closed s ts rest → (closed ≡ false → sees k.Else rest ≡ false) → p ts ≡ Found s rest

abbrev pub Blocks-complete : ℕ → Parser Block → Type 0
Blocks-complete limit p = (b : Block) (ts rest : List Token) → BlockSpells limit b ts rest → p ts ≡ Found b rest

-- ---- statements without statements inside

empty-complete : (at : Span) (ts rest : List Token) → Sign k.Semicolon at ts rest → empty_stmt ts ≡ Found (tree.Empty at) rest
unfolding empty_stmt
empty-complete at ts rest s = rw (sign-complete k.Semicolon ts rest at s) refl

action-complete : (room : ℕ) (does : Action) (at : Span) (ts t1 rest : List Token) → ActionSpells (suc room) does ts t1 → Sign k.Semicolon at t1 rest → action_stmt room ts ≡ Found (tree.Action does at) rest
unfolding action_stmt
action-complete room does at ts t1 rest s s1 = rw (action_within-complete room does ts t1 s (ended-semicolon at t1 rest s1), sign-complete k.Semicolon t1 rest at s1) refl

returned-complete : (room : ℕ) (at : Span) (value : Option Expr) (end : Span) (ts rest : List Token) → StmtBy room (StmtSpells room) (BlockSpells room) false (Stmt-F.Return at value end) ts rest → returned room ts ≡ Found (tree.Return at value end) rest
unfolding returned
returned-complete room at value end ts rest (t1, s1, (t2, s2, s3)) =
    rw (sign-complete k.Return ts t1 at s1, value_if-complete room value t1 t2 rest s2 (mark-sign k.Semicolon end t2 rest s3), sign-complete k.Semicolon t2 rest end s3) refl

module _ (room : ℕ) (inner : Parser Stmt) (known : Stmts-sound room inner) (complete : Stmts-complete room inner) where
  -- ---- items and blocks

  item_by-complete : (f : BlockItem-F BlockItem Stmt Block) (ts rest : List Token) → ItemSpells room (StmtSpells room false) f ts rest → sees k.Else rest ≡ false → block_item room inner ts ≡ Found (roll-BlockItem f) rest
  unfolding block_item
  item_by-complete (BlockItem-F.Local l at) ts rest s off =
      let (a, b, c, d) = declaration-complete room l at ts rest s in
      rw (b, a) (ap (λ i. Found i rest) (sym (rolls-Local l at)))
  item_by-complete (BlockItem-F.Stmt s) ts rest p off =
      rw ((stmt-starts room false s ts rest p).1, complete false s ts rest p (λ _. off)) (ap (λ i. Found i rest) (sym (rolls-Stmt s)))

  item-complete : (i : BlockItem) (ts rest : List Token) → ItemSpells room (StmtSpells room false) (out-BlockItem i) ts rest → sees k.Else rest ≡ false → block_item room inner ts ≡ Found i rest
  item-complete i ts rest s off = item_by-complete (out-BlockItem i) ts rest s off ∙ ap (λ i. Found i rest) (roll-out-BlockItem i)

  one_more-is : (found : List BlockItem) (i : BlockItem) (ts rest : List Token) → block_item room inner ts ≡ Found i rest → one_more room inner found ts ≡ Found (found ++ i ∷ []) rest
  unfolding one_more
  one_more-is found i ts rest is = rw is refl

  -- behind an item stands another one or the closing brace
  no_else-next : (xs : List BlockItem) (closing : Span) (ts mid rest : List Token) → Each (λ i. ItemSpells room (StmtSpells room false) (out-BlockItem i)) xs ts mid → Sign k.RBrace closing mid rest → sees k.Else ts ≡ false
  no_else-next [] closing ts mid rest each end = ap (sees k.Else) each ∙ sees-kind k.Else k.RBrace mid (next-sign k.RBrace closing mid rest end)
  no_else-next (x ∷ xs) closing ts mid rest (t1, s, each) end = (item_by-starts room (out-BlockItem x) ts t1 s).no_else

  more-complete : (j : ℕ) (found xs : List BlockItem) (closing : Span) (ts mid rest : List Token) → length ts < j → Each (λ i. ItemSpells room (StmtSpells room false) (out-BlockItem i)) xs ts mid → Sign k.RBrace closing mid rest
      → turns_from (goes_on room inner) (one_more room inner) j found ts ≡ Found (found ++ xs) mid
  more-complete j found [] closing ts mid rest enough each end =
      let on : sees k.RBrace ts ≡ true = ap (sees k.RBrace) each ∙ sees-kind k.RBrace k.RBrace mid (next-sign k.RBrace closing mid rest end) in
      turn_ends (goes_on room inner) (one_more room inner) j found ts enough (ap not on) ∙ ap (λ r. Found found r) each ∙ ap (λ l. Found l mid) (sym (append-nil found))
  more-complete j found (x ∷ xs) closing ts mid rest enough (t1, s, each) end =
      let is = item-complete x ts t1 s (no_else-next xs closing t1 mid rest each end) in
      let less : length t1 < length ts = (block_item-sound room inner known ts t1 x is).1 in
      let go : not (sees k.RBrace ts) ≡ true = ap not ((item_by-starts room (out-BlockItem x) ts t1 s).no_brace) in
      let (i, enough1, same) = turn_once (goes_on room inner) (one_more room inner) j found (found ++ x ∷ []) ts t1 enough go (one_more-is found x ts t1 is) less in
      same ∙ more-complete i (found ++ x ∷ []) xs closing t1 mid rest enough1 each end ∙ ap (λ l. Found l mid) (append_snoc found x xs)

  items-complete : (xs : List BlockItem) (closing : Span) (ts mid rest : List Token) → Each (λ i. ItemSpells room (StmtSpells room false) (out-BlockItem i)) xs ts mid → Sign k.RBrace closing mid rest → items room inner ts ≡ Found xs mid
  unfolding items turns
  items-complete xs closing ts mid rest each end = more-complete (suc (length ts)) [] xs closing ts mid rest (omega arith) each end

  pub block_within-complete : (b : Block) (ts rest : List Token) → BlockBy room (StmtSpells room false) (out-Block b) ts rest → block_within room inner ts ≡ Found b rest
  unfolding block_within
  block_within-complete b ts rest (t1, s1, (t2, each, s3)) =
      let f = out-Block b in
      rw (sign-complete k.LBrace ts t1 f.opening s1, items-complete f.items f.closing t1 t2 rest each s3, sign-complete k.RBrace t2 rest f.closing s3) (ap (λ x. Found x rest) (roll-out-Block b))

  -- ---- statements with statements inside

  block_stmt-complete : (b : Block) (ts rest : List Token) → BlockBy room (StmtSpells room false) (out-Block b) ts rest → block_stmt room inner ts ≡ Found (tree.Block b) rest
  block_stmt-complete b ts rest s = rw (block_within-complete b ts rest s) refl

  if_alone-complete : (at : Span) (test : Expr) (does : Stmt) (ts t1 t2 rest : List Token) → Sign k.If at ts t1 → Condition room test t1 t2 → StmtSpells room false does t2 rest → sees k.Else rest ≡ false
      → if_stmt room inner ts ≡ Found (tree.If at test does None) rest
  unfolding if_stmt
  if_alone-complete at test does ts t1 t2 rest s1 s2 s3 off =
      rw (sign-complete k.If ts t1 at s1, condition-complete room test t1 t2 s2, complete false does t2 rest s3 (λ _. off), off) refl

  if_else-complete : (at : Span) (test : Expr) (does other : Stmt) (closed : Bool) (ts t1 t2 t3 t4 rest : List Token) → Sign k.If at ts t1 → Condition room test t1 t2 → StmtSpells room true does t2 t3 → Mark k.Else t3 t4 → StmtSpells room closed other t4 rest
      → (closed ≡ false → sees k.Else rest ≡ false) → if_stmt room inner ts ≡ Found (tree.If at test does (Some other)) rest
  unfolding if_stmt
  if_else-complete at test does other closed ts t1 t2 t3 t4 rest s1 s2 s3 m s4 h =
      let (word, s5) = sign-mark k.Else t3 t4 m in
      rw (sign-complete k.If ts t1 at s1, condition-complete room test t1 t2 s2, complete true does t2 t3 s3 (λ e. cc), sees-kind k.Else k.Else t3 (next-mark k.Else t3 t4 m), sign-complete k.Else t3 t4 word s5, complete closed other t4 rest s4 h) refl

  while-complete : (at : Span) (test : Expr) (does : Stmt) (closed : Bool) (ts t1 t2 rest : List Token) → Sign k.While at ts t1 → Condition room test t1 t2 → StmtSpells room closed does t2 rest → (closed ≡ false → sees k.Else rest ≡ false)
      → while_stmt room inner ts ≡ Found (tree.While at test does) rest
  unfolding while_stmt
  while-complete at test does closed ts t1 t2 rest s1 s2 s3 h =
      rw (sign-complete k.While ts t1 at s1, condition-complete room test t1 t2 s2, complete closed does t2 rest s3 h) refl

  for-complete : (at : Span) (first : ForFirst) (test : Option Expr) (last : Option Action) (does : Stmt) (closed : Bool) (ts t1 t2 rest : List Token) → Sign k.For at ts t1 → ForHeadSpells room first test last t1 t2 → StmtSpells room closed does t2 rest
      → (closed ≡ false → sees k.Else rest ≡ false) → for_stmt room inner ts ≡ Found (tree.For at first test last does) rest
  unfolding for_stmt
  for-complete at first test last does closed ts t1 t2 rest s1 s2 s3 h =
      rw (sign-complete k.For ts t1 at s1, for_head-complete room first test last t1 t2 s2, complete closed does t2 rest s3 h) refl

  module _ (inner_block : Parser Block) (complete_block : Blocks-complete room inner_block) where
    sync-complete : (at : Span) (held : Monitor) (b : Block) (ts t1 t2 rest : List Token) → Sign k.Synchronized at ts t1 → (Mark k.LParen ⨾ MonitorSpells room held ⨾ Mark k.RParen) t1 t2 → BlockSpells room b t2 rest
        → sync_stmt room inner inner_block ts ≡ Found (tree.Sync at held b) rest
    unfolding sync_stmt
    sync-complete at held b ts t1 t2 rest s1 s2 s3 = rw (sign-complete k.Synchronized ts t1 at s1, sync_head-complete room held t1 t2 s2, complete_block b t2 rest s3) refl

    plain : (kind : Kind) (ts : List Token) → begins_action kind ≡ true → stmt_by room inner inner_block (Some kind) ts ≡ action_stmt room ts
    plain k.LBrace ts e = cc
    plain k.Semicolon ts e = cc
    plain k.If ts e = cc
    plain k.While ts e = cc
    plain k.For ts e = cc
    plain k.Synchronized ts e = cc
    plain k.Return ts e = cc
    plain _ ts e = refl

    pub stmt_within-complete : (closed : Bool) (f : Stmt-F BlockItem Stmt Block) (ts rest : List Token) → StmtBy room (StmtSpells room) (BlockSpells room) closed f ts rest → (closed ≡ false → sees k.Else rest ≡ false)
        → stmt_within room inner inner_block ts ≡ Found (roll-Stmt f) rest
    unfolding stmt_within
    stmt_within-complete closed (Stmt-F.Block b) ts rest (t1, s1, tail) h =
        rw (next-sign k.LBrace (out-Block b).opening ts t1 s1) (block_stmt-complete b ts rest (t1, s1, tail) ∙ ap (λ s. Found s rest) (sym (rolls-Block b)))
    stmt_within-complete closed (Stmt-F.Empty at) ts rest s h = rw (next-sign k.Semicolon at ts rest s) (empty-complete at ts rest s ∙ ap (λ s. Found s rest) (sym (rolls-Empty at)))
    stmt_within-complete closed (Stmt-F.Action does at) ts rest (t1, s, s1) h =
        let o = action-begins (suc room) does ts t1 s (ended-semicolon at t1 rest s1) in
        rw (o.next) (plain o.kind ts o.acts ∙ action-complete room does at ts t1 rest s s1 ∙ ap (λ s. Found s rest) (sym (rolls-Action does at)))
    stmt_within-complete closed (Stmt-F.If at test does None) ts rest (is, (t1, s1, (t2, s2, s3))) h =
        rw (next-sign k.If at ts t1 s1) (if_alone-complete at test does ts t1 t2 rest s1 s2 s3 (h is) ∙ ap (λ s. Found s rest) (sym (rolls-If at test does None)))
    stmt_within-complete closed (Stmt-F.If at test does (Some other)) ts rest (t1, s1, (t2, s2, (t3, s3, (t4, m, s4)))) h =
        rw (next-sign k.If at ts t1 s1) (if_else-complete at test does other closed ts t1 t2 t3 t4 rest s1 s2 s3 m s4 h ∙ ap (λ s. Found s rest) (sym (rolls-If at test does (Some other))))
    stmt_within-complete closed (Stmt-F.While at test does) ts rest (t1, s1, (t2, s2, s3)) h =
        rw (next-sign k.While at ts t1 s1) (while-complete at test does closed ts t1 t2 rest s1 s2 s3 h ∙ ap (λ s. Found s rest) (sym (rolls-While at test does)))
    stmt_within-complete closed (Stmt-F.For at first test last does) ts rest (t1, s1, (t2, s2, s3)) h =
        rw (next-sign k.For at ts t1 s1) (for-complete at first test last does closed ts t1 t2 rest s1 s2 s3 h ∙ ap (λ s. Found s rest) (sym (rolls-For at first test last does)))
    stmt_within-complete closed (Stmt-F.Sync at held b) ts rest (t1, s1, (t2, s2, s3)) h =
        rw (next-sign k.Synchronized at ts t1 s1) (sync-complete at held b ts t1 t2 rest s1 s2 s3 ∙ ap (λ s. Found s rest) (sym (rolls-Sync at held b)))
    stmt_within-complete closed (Stmt-F.Return at value end) ts rest (t1, s1, tail) h =
        rw (next-sign k.Return at ts t1 s1) (returned-complete room at value end ts rest (t1, s1, tail) ∙ ap (λ s. Found s rest) (sym (rolls-Return at value end)))

unrolled : (s : Stmt) (rest : List Token) → Found (roll-Stmt (out-Stmt s)) rest ≡ Found s rest
unrolled s rest = ap (λ s. Found s rest) (roll-out-Stmt s)

pub complete : (limit : ℕ) → Stmts-complete limit (statement limit) × Blocks-complete limit (block limit)
unfolding statement block StmtSpells BlockSpells
complete zero = (λ closed s ts rest p h. absurd p, λ b ts rest p. absurd p)
complete (suc room) =
    let (stmts, blocks) = complete room in (
      λ closed s ts rest p h. stmt_within-complete room (statement room) (sound room).0 stmts (block room) blocks closed (out-Stmt s) ts rest p h ∙ unrolled s rest,
      λ b ts rest p. block_within-complete room (statement room) (sound room).0 stmts b ts rest p,
    )
