-- What tokens spell as a member or a header, moved tokens spell as the moved one.
use Rattle.std.proofs.Common.{◌≡◌, ◌+◌, cond, ℕ, List, [], ◌∷◌, ◌++◌, Bool, Option, Some, None, refl, ap, ◌∙◌, sym, subst}
use Rattle.std.specs.List.{fold}
use Rattle.std.specs.Option.{option_map}
use Rattle.std.proofs.lemmas.List.{append_cancel_right, length-map}
use Rattle.desk_base.specs.declared.span.Span.{Span}
use Rattle.java_tree.specs.declared.kind.Kind.TheVariants as k
use Rattle.java_tree.specs.declared.token.Token.{Token}
use Rattle.java_tree.specs.declared.token.Lexeme.{Lexeme}
use Rattle.java_tree.specs.declared.member.Ty.{Ty}
use Rattle.java_tree.specs.declared.member.Mod.{Mod}
use Rattle.java_tree.specs.declared.member.Mod.TheVariants as modifier
use Rattle.java_tree.specs.declared.member.ModWord.{ModWord}
use Rattle.java_tree.specs.declared.member.Param.{Param}
use Rattle.java_tree.specs.declared.member.Init.{Init}
use Rattle.java_tree.specs.declared.member.Init.TheVariants as init
use Rattle.java_tree.specs.declared.member.Sig.{Sig}
use Rattle.java_tree.specs.declared.member.MemberTree.{MemberTree}
use Rattle.java_tree.specs.declared.member.MemberTree.TheVariants as member
use Rattle.java_tree.specs.declared.file.TypeKind.{TypeKind}
use Rattle.java_tree.specs.declared.file.TypeKind.TheVariants as sort
use Rattle.java_phrases.specs.Phrase.{Phrase, Spelled}
use Rattle.java_heads.specs.declared.declaration.Declaration.{Declaration}
use Rattle.java_heads.specs.declared.declaration.Declaration.TheVariants as of
use Rattle.java_heads.specs.declared.header.Header.{Header}
use Rattle.java_heads.specs.Modifiers.{FitsAs, kind_of, word_is, words_that}
use Rattle.java_heads.specs.Annotation.{Qualified}
use Rattle.java_heads.specs.Spelling.{Kept, ModSpells, Mods, ParamSpells, Params, Throws, ResultSpells, InitSpells, InitPart, SigSpells, Implements, type_word, declared_as, HeaderParts, HeaderSpells, object_name, string_name}
use Rattle.java_members.specs.Spelling.{MemberParts, MemberSpells, tokens_of}
use Rattle.tree_places.specs.Moved.{moved_lexeme, moved_lexemes, moved_tokens, moved_ty}
use Rattle.tree_places.specs.MovedMember.{moved_mod, moved_mods, moved_param, moved_params, moved_throws, moved_init, moved_sig, moved_member, moved_header}
use Rattle.tree_places.proofs.Moves.{TakesMoved, Moves, moves-never, moves-nothing, moves-mark, moves-sign, moves-lexeme, moves-ty, ◌then◌, moves-if, moves-when, moves-named, moves-each, moves-separated, moves-optional}
use Rattle.tree_places.proofs.MovedStmt.{moves-block}
use Rattle.tree_places.proofs.MovedAnnot.{moves-joined, moves-qualified, moves-annot}

module _ (place : Span → Span) where
  kept : (tokens ts rest : List Token) {Q : Phrase} → TakesMoved place Q ts rest → ts ≡ tokens ++ rest → TakesMoved place (Kept (moved_tokens place tokens) Q) ts rest
  kept tokens ts rest t is =
      let same : t.own ≡ tokens = append_cancel_right t.own tokens rest (sym t.is ∙ is) in
      record { own = t.own; is = t.is; anywhere = λ other. (t.anywhere other, ap (λ l. moved_tokens place l ++ other) same) }

  moves-kept : (tokens : List Token) {P Q : Phrase} → Moves place P Q → Moves place (Kept tokens P) (Kept (moved_tokens place tokens) Q)
  moves-kept tokens p = record { moves = λ ts rest s. kept tokens ts rest (p.moves ts rest s.0) s.1 }

  -- ---- modifiers

  moves-mod : (m : Mod) → Moves place (ModSpells m) (ModSpells (moved_mod place m))
  moves-mod (modifier.Annot annot) = moves-annot place annot
  moves-mod (modifier.Word word at) = moves-sign (kind_of word) at

  abbrev counted : (ModWord → Bool) → ℕ → List Mod → ℕ
  counted test n mods = fold (λ a m. a + cond (word_is test m) 1 0) n mods

  counted_stays : (test : ModWord → Bool) (n : ℕ) (mods : List Mod) → counted test n (moved_mods place mods) ≡ counted test n mods
  counted_stays test n [] = refl
  counted_stays test n (modifier.Annot annot ∷ mods) = counted_stays test (n + 0) mods
  counted_stays test n (modifier.Word word at ∷ mods) = counted_stays test (n + cond (test word) 1 0) mods

  words_stay : (test : ModWord → Bool) (mods : List Mod) → words_that test (moved_mods place mods) ≡ words_that test mods
  words_stay test mods = counted_stays test 0 mods

  fits_stay : (d : Declaration) (mods : List Mod) → FitsAs d mods → FitsAs d (moved_mods place mods)
  fits_stay d mods fits = record {
    at_least = λ word. rw words_stay (fits.at_least word);
    at_most = λ word. rw words_stay (fits.at_most word);
    access = rw words_stay fits.access;
  }

  moves-mods : (d : Declaration) (mods : List Mod) → Moves place (Mods d mods) (Mods d (moved_mods place mods))
  moves-mods d mods = moves-when (fits_stay d mods) (moves-each (moved_mod place) ModSpells ModSpells moves-mod mods)

  -- ---- parts of members

  moves-param : (p : Param) → Moves place (ParamSpells p) (ParamSpells (moved_param place p))
  moves-param p = moves-mods of.Param p.mods then moves-ty p.ty then moves-lexeme k.Name p.name

  moves-params : (ps : List Param) → Moves place (Params ps) (Params (moved_params place ps))
  moves-params ps = moves-when (λ few. rw length-map few) (moves-mark k.LParen then moves-separated (moved_param place) ParamSpells ParamSpells moves-param ps then moves-mark k.RParen)

  moves-throws : (names : List (List Lexeme)) → Moves place (Throws names) (Throws (moved_throws place names))
  moves-throws [] = moves-nothing
  moves-throws (name ∷ names) = moves-mark k.Throws then moves-joined place k.Comma (moved_lexemes place) Qualified Qualified (moves-qualified place) (name ∷ names)

  moves-result : (y : Option Ty) → Moves place (ResultSpells y) (ResultSpells (option_map (moved_ty place) y))
  moves-result None = moves-mark k.Void
  moves-result (Some ty) = moves-ty ty

  moves-init : (i : Init) → Moves place (InitSpells i) (InitSpells (moved_init place i))
  moves-init (init.Int w) = moves-if _ (moves-lexeme k.IntLiteral w)
  moves-init (init.MinusInt at w) = moves-sign k.Minus at then moves-lexeme k.IntLiteral w
  moves-init (init.True at) = moves-sign k.True at
  moves-init (init.False at) = moves-sign k.False at
  moves-init (init.Null at) = moves-sign k.Null at
  moves-init (init.Str w) = moves-lexeme k.StrLiteral w
  moves-init (init.NewObject at) = moves-sign k.New at then moves-named object_name then moves-mark k.LParen then moves-mark k.RParen

  moves-init_part : (i : Option Init) → Moves place (InitPart i) (InitPart (option_map (moved_init place) i))
  moves-init_part None = moves-nothing
  moves-init_part (Some i) = moves-mark k.Assign then moves-init i

  -- ---- members and headers

  pub moves-sig : (s : Sig) → Moves place (SigSpells s) (SigSpells (moved_sig place s))
  moves-sig s = moves-kept s.tokens (moves-mods of.Sig s.mods then moves-result s.result then moves-lexeme k.Name s.name then moves-params s.params then moves-throws s.throws then moves-mark k.Semicolon)

  parts : (class : List ℕ) (m : MemberTree) → Moves place (MemberParts class m) (MemberParts class (moved_member place m))
  parts class (member.Field f) = moves-mods of.Field f.mods then moves-ty f.ty then moves-lexeme k.Name f.name then moves-init_part f.init then moves-mark k.Semicolon
  parts class (member.Method m) =
      moves-mods of.Method m.mods then moves-result m.result then moves-lexeme k.Name m.name then moves-params m.params then moves-throws m.throws then moves-block place 64 m.body
  parts class (member.Ctor c) = moves-mods of.Ctor c.mods then moves-if _ (moves-lexeme k.Name c.name then moves-params c.params then moves-throws c.throws then moves-block place 64 c.body)
  parts class (member.Main m) =
      moves-mods of.Main m.mods then moves-mark k.Void
      then moves-if _ (moves-lexeme k.Name m.name then moves-mark k.LParen then moves-optional place _ _ (moves-sign k.Final) m.final_word then moves-named string_name then moves-mark k.LBracket then moves-mark k.RBracket
      then moves-lexeme k.Name m.param then moves-mark k.RParen then moves-throws m.throws then moves-block place 64 m.body)
  parts class (member.Sig s) = moves-never _

  pub moved-tokens_of : (m : MemberTree) → tokens_of (moved_member place m) ≡ moved_tokens place (tokens_of m)
  moved-tokens_of (member.Field f) = refl
  moved-tokens_of (member.Method m) = refl
  moved-tokens_of (member.Ctor c) = refl
  moved-tokens_of (member.Main m) = refl
  moved-tokens_of (member.Sig s) = refl

  pub moves-member : (class : List ℕ) (m : MemberTree) → Moves place (MemberSpells class m) (MemberSpells class (moved_member place m))
  moves-member class m =
      subst (λ l. Moves place (MemberSpells class m) (Kept l (MemberParts class (moved_member place m)))) (sym (moved-tokens_of m)) (moves-kept (tokens_of m) (parts class m))

  moves-implements : (kind : TypeKind) (names : List Lexeme) → Moves place (Implements kind names) (Implements kind (moved_lexemes place names))
  moves-implements kind [] = moves-nothing
  moves-implements sort.Class (name ∷ names) = moves-mark k.Implements then moves-joined place k.Comma (moved_lexeme place) (Spelled k.Name) (Spelled k.Name) (moves-lexeme k.Name) (name ∷ names)
  moves-implements sort.Interface (name ∷ names) = moves-never _

  pub moves-header_kept : (h : Header) → Moves place (Kept h.tokens (HeaderParts h)) (Kept (moved_tokens place h.tokens) (HeaderParts (moved_header place h)))
  moves-header_kept h =
      moves-kept h.tokens (moves-mods (declared_as h.kind) h.mods then moves-mark (type_word h.kind) then moves-if _ (moves-lexeme k.Name h.name then moves-implements h.kind h.implements))

  pub moves-header : (h : Header) → Moves place (HeaderSpells h) (HeaderSpells (moved_header place h))
  moves-header h = moves-header_kept h then moves-mark k.LBrace
