-- Layers: what is taken off a content stands round the text that is left, and what stands round it is taken off.
use Rattle.std.proofs.Common.{◌≡◌, ◌⊎◌, inl, inr, ℕ, ◌<◌, Bool, true, false, not, cond, ◌&&◌, ◌||◌, eqb, List, [], ◌∷◌, ◌++◌, length, Option, Some, None, codes, refl, sym, ap, ◌∙◌, subst, append_assoc, append-nil, length-append, arith}
use Rattle.std.specs.List.{list_all}
use Rattle.std.specs.Str.{bytes_eq}
use Rattle.promise_grammar.specs.declared.kind.PromiseKind.{PromiseKind}
use Rattle.promise_grammar.specs.declared.kind.PromiseKind.TheVariants as kind
use Rattle.promise_grammar.specs.declared.layer.Layer.{Layer}
use Rattle.promise_grammar.specs.declared.layer.Layer.TheVariants as lay
use Rattle.promise_grammar.specs.declared.scope.ScopeContent.{ScopeContent}
use Rattle.promise_grammar.specs.declared.scope.ScopeContent.TheVariants as scp
use Rattle.promise_grammar.specs.Word.{is_blank, is_word_byte}
use Rattle.promise_grammar.specs.Kind.{kind_text, kind_named}
use Rattle.promise_grammar.specs.Piece.{Piece, Word, Sign, begins_word, lengthened, joined, cut}
use Rattle.promise_grammar.specs.Split.{first_split, closing_split, later_or}
use Rattle.promise_grammar.specs.Count.{IsCount}
use Rattle.promise_grammar.specs.Outcome.{Found, settled, word, is_over}
use Rattle.promise_grammar.specs.Form.{scope_words, IsScope, member_words, IsMember}
use Rattle.promise_grammar.specs.Reading.{scope, member, annotation, tail, whole, bare, closed_by, named_by, enclosing, opened_by, opened, Opened}
use Rattle.promise_grammar.specs.Promise.{Holds}
use Rattle.promise_grammar.specs.Peeling.{nests}
use Rattle.promise_grammar.proofs.Steps.{then_found, pure_is, bytes_same, expected_word, expected_sign}
use Rattle.promise_grammar.proofs.Cutting.{cut-blank, cut-sign, cut-word}
use Rattle.promise_grammar.proofs.Splitting.{closing_at}
use Rattle.promise_grammar.proofs.ScopeLaws.{both_true, word_found, first_split_is, first_split_here, scope_found, scope_finds}
use Rattle.promise_grammar.proofs.MemberLaws.{member_found, member_finds}
use Rattle.promise_grammar.proofs.PlainLaws.{whole_is, mapped_found}

-- ---- a sign cuts

begins_word-append : (a b : List ℕ) (s : ℕ) → is_word_byte s ≡ false → begins_word (a ++ (s ∷ b)) ≡ begins_word a
begins_word-append [] b s none = none
begins_word-append (x ∷ a) b s none = refl

lengthened-append : (x : ℕ) (ps : List Piece) (s : ℕ) (qs : List Piece) → lengthened x (ps ++ (Sign s ∷ qs)) ≡ lengthened x ps ++ (Sign s ∷ qs)
lengthened-append x [] s qs = refl
lengthened-append x (Word w ∷ ps) s qs = refl
lengthened-append x (Sign t ∷ ps) s qs = refl

joined-append : (t : Bool) (x : ℕ) (ps : List Piece) (s : ℕ) (qs : List Piece) → joined t x (ps ++ (Sign s ∷ qs)) ≡ joined t x ps ++ (Sign s ∷ qs)
joined-append true x ps s qs = lengthened-append x ps s qs
joined-append false x ps s qs = refl

cut_around_by : (x : ℕ) (a b : List ℕ) (s : ℕ) (w k : Bool) → is_word_byte x ≡ w → is_blank x ≡ k → is_word_byte s ≡ false
    → cut (a ++ (s ∷ b)) ≡ cut a ++ (Sign s ∷ cut b) → cut (x ∷ (a ++ (s ∷ b))) ≡ cut (x ∷ a) ++ (Sign s ∷ cut b)
cut_around_by x a b s true k is blank none later =
    cut-word x (a ++ (s ∷ b)) is ∙ rw (begins_word-append a b s none, later) (joined-append (begins_word a) x (cut a) s (cut b))
    ∙ ap (λ (ps : List Piece). ps ++ (Sign s ∷ cut b)) (sym (cut-word x a is))
cut_around_by x a b s false true is blank none later =
    cut-blank x (a ++ (s ∷ b)) blank ∙ later ∙ ap (λ (ps : List Piece). ps ++ (Sign s ∷ cut b)) (sym (cut-blank x a blank))
cut_around_by x a b s false false is blank none later =
    cut-sign x (a ++ (s ∷ b)) blank is ∙ ap (λ (ps : List Piece). Sign x ∷ ps) later ∙ ap (λ (ps : List Piece). ps ++ (Sign s ∷ cut b)) (sym (cut-sign x a blank is))

nothing_cut : cut [] ≡ []
unfolding cut
nothing_cut = refl

pub cut_around : (a b : List ℕ) (s : ℕ) → is_blank s ≡ false → is_word_byte s ≡ false → cut (a ++ (s ∷ b)) ≡ cut a ++ (Sign s ∷ cut b)
cut_around [] b s blank none = cut-sign s b blank none ∙ ap (λ (ps : List Piece). ps ++ (Sign s ∷ cut b)) (sym nothing_cut)
cut_around (x ∷ a) b s blank none = cut_around_by x a b s (is_word_byte x) (is_blank x) refl refl none (cut_around a b s blank none)

-- ---- signs among pieces

-- the sign is there
abbrev has_sign : ℕ → List Piece → Bool
has_sign s [] = false
has_sign s (Word w ∷ ps) = has_sign s ps
has_sign s (Sign t ∷ ps) = eqb t s || has_sign s ps

-- a `)` is there that a piece follows
abbrev has_inner : List Piece → Bool
has_inner [] = false
has_inner (Word w ∷ ps) = has_inner ps
has_inner (Sign t ∷ ps) = (eqb t 41 && not (is_over ps)) || has_inner ps

or_true : (a b : Bool) → b ≡ true → (a || b) ≡ true
or_true true b e = refl
or_true false b e = e

has_sign-append : (ps : List Piece) (s : ℕ) (qs : List Piece) → has_sign s (ps ++ (Sign s ∷ qs)) ≡ true
has_sign-append [] s qs = let same : eqb s s ≡ true = grind arith in rw same refl
has_sign-append (Word w ∷ ps) s qs = has_sign-append ps s qs
has_sign-append (Sign t ∷ ps) s qs = or_true _ _ (has_sign-append ps s qs)

has_inner-append : (ps : List Piece) (qs : List Piece) → is_over qs ≡ false → has_inner (ps ++ (Sign 41 ∷ qs)) ≡ true
has_inner-append [] qs more = rw more refl
has_inner-append (Word w ∷ ps) qs more = has_inner-append ps qs more
has_inner-append (Sign t ∷ ps) qs more = or_true _ _ (has_inner-append ps qs more)

-- ---- the bytes of the split

closing_is_by : (b : ℕ) (bs : List ℕ) (p : List ℕ × List ℕ) (o : Option (List ℕ × List ℕ)) → closing_split bs ≡ o
    → ((q : List ℕ × List ℕ) → closing_split bs ≡ Some q → (bs ≡ q.0 ++ (41 ∷ q.1)) × (list_all is_blank q.1 ≡ false))
    → later_or b bs o ≡ Some p → (b ∷ bs ≡ p.0 ++ (41 ∷ p.1)) × (list_all is_blank p.1 ≡ false)
closing_is_by b bs p None none later e = by (eqb b 41 && not (list_all is_blank bs)) refl e
  where
    denied : (t : Bool) → not t ≡ true → t ≡ false
    denied true f = cc
    denied false f = refl

    by : (t : Bool) → (eqb b 41 && not (list_all is_blank bs)) ≡ t → cond t (Some ([], bs)) None ≡ Some p → (b ∷ bs ≡ p.0 ++ (41 ∷ p.1)) × (list_all is_blank p.1 ≡ false)
    by true both f =
        let each = both_true (eqb b 41) (not (list_all is_blank bs)) both in
        let closes : eqb b 41 ≡ true = each.0 in
        let here : b ≡ 41 = grind arith in
        let more : list_all is_blank bs ≡ false = denied (list_all is_blank bs) each.1 in
        let is : ([], bs) ≡ p = cc in
        subst (λ (q : List ℕ × List ℕ). (b ∷ bs ≡ q.0 ++ (41 ∷ q.1)) × (list_all is_blank q.1 ≡ false)) is (ap (λ (c : ℕ). c ∷ bs) here, more)
    by false both f = cc
closing_is_by b bs p (Some q) some later e =
    let is : (b ∷ q.0, q.1) ≡ p = cc in
    let there = later q some in
    subst (λ (r : List ℕ × List ℕ). (b ∷ bs ≡ r.0 ++ (41 ∷ r.1)) × (list_all is_blank r.1 ≡ false)) is (ap (λ (r : List ℕ). b ∷ r) there.0, there.1)

closing_is : (bs : List ℕ) (p : List ℕ × List ℕ) → closing_split bs ≡ Some p → (bs ≡ p.0 ++ (41 ∷ p.1)) × (list_all is_blank p.1 ≡ false)
closing_is [] p e = cc
closing_is (b ∷ bs) p e = closing_is_by b bs p (closing_split bs) refl (closing_is bs) e

-- blanks have no pieces, and only they have none
more_by : (b : ℕ) (bs : List ℕ) (w k : Bool) → is_word_byte b ≡ w → is_blank b ≡ k → (list_all is_blank bs ≡ false → is_over (cut bs) ≡ false)
    → (k && list_all is_blank bs) ≡ false → is_over (cut (b ∷ bs)) ≡ false
more_by b bs true k is blank later e = rw (cut-word b bs is) (long (begins_word bs) b (cut bs))
  where
    long : (t : Bool) (x : ℕ) (ps : List Piece) → is_over (joined t x ps) ≡ false
    long false x ps = refl
    long true x [] = refl
    long true x (Word w ∷ ps) = refl
    long true x (Sign s ∷ ps) = refl
more_by b bs false true is blank later e = rw (cut-blank b bs blank) (later e)
more_by b bs false false is blank later e = rw (cut-sign b bs blank is) refl

more_pieces : (bs : List ℕ) → list_all is_blank bs ≡ false → is_over (cut bs) ≡ false
more_pieces [] e = cc
more_pieces (b ∷ bs) e = more_by b bs (is_word_byte b) (is_blank b) refl refl (more_pieces bs) e

blank_by : (b : ℕ) (bs : List ℕ) (k : Bool) → is_blank b ≡ k → (list_all is_blank bs ≡ true → is_over (cut bs) ≡ true) → (k && list_all is_blank bs) ≡ true → is_over (cut (b ∷ bs)) ≡ true
blank_by b bs true blank later e = rw (cut-blank b bs blank) (later e)
blank_by b bs false blank later e = cc

no_pieces : (bs : List ℕ) → list_all is_blank bs ≡ true → is_over (cut bs) ≡ true
no_pieces [] e = rw nothing_cut refl
no_pieces (b ∷ bs) e = blank_by b bs (is_blank b) refl (no_pieces bs) e

some_there : (bs : List ℕ) → is_over (cut bs) ≡ false → list_all is_blank bs ≡ false
some_there bs some = by (list_all is_blank bs) refl
  where
    by : (t : Bool) → list_all is_blank bs ≡ t → t ≡ false
    by true all = let none = no_pieces bs all in cc
    by false all = refl

no_closing : (bs : List ℕ) → has_inner (cut bs) ≡ false → closing_split bs ≡ None
no_closing bs none = by (closing_split bs) refl
  where
    by : (o : Option (List ℕ × List ℕ)) → closing_split bs ≡ o → o ≡ None
    by None e = refl
    by (Some p) e =
        let there = closing_is bs p e in
        let pieces : cut bs ≡ cut p.0 ++ (Sign 41 ∷ cut p.1) = ap cut there.0 ∙ cut_around p.0 p.1 41 refl refl in
        let inner : has_inner (cut bs) ≡ true = ap has_inner pieces ∙ has_inner-append (cut p.0) (cut p.1) (more_pieces p.1 there.1) in
        cc

no_opening : (bs : List ℕ) → has_sign 40 (cut bs) ≡ false → first_split 40 bs ≡ None
no_opening bs none = by (first_split 40 bs) refl
  where
    by : (o : Option (List ℕ × List ℕ)) → first_split 40 bs ≡ o → o ≡ None
    by None e = refl
    by (Some p) e =
        let there = first_split_is 40 bs p e in
        let pieces : cut bs ≡ cut p.0 ++ (Sign 40 ∷ cut p.1) = ap cut there ∙ cut_around p.0 p.1 40 refl refl in
        let opening : has_sign 40 (cut bs) ≡ true = ap (has_sign 40) pieces ∙ has_sign-append (cut p.0) 40 (cut p.1) in
        cc

-- ---- names of kinds

named_or : (w : List ℕ) (j k : PromiseKind) (o : Option PromiseKind) → cond (bytes_eq w (kind_text j)) (Some j) o ≡ Some k → (w ≡ kind_text k) ⊎ (o ≡ Some k)
named_or w j k o e = by (bytes_eq w (kind_text j)) refl e
  where
    by : (t : Bool) → bytes_eq w (kind_text j) ≡ t → cond t (Some j) o ≡ Some k → (w ≡ kind_text k) ⊎ (o ≡ Some k)
    by true same f =
        let is : j ≡ k = cc in
        inl (bytes_same w (kind_text j) same ∙ ap kind_text is)
    by false same f = inr f

pub kind_named_found : (w : List ℕ) (k : PromiseKind) → kind_named w ≡ Some k → w ≡ kind_text k
kind_named_found w k e =
    elim (named_or w kind.Region k _ e) [
      | inl is ↦ is
      | inr r0 ↦
          elim (named_or w kind.InRegion k _ r0) [
            | inl is ↦ is
            | inr r1 ↦
                elim (named_or w kind.RegionLock k _ r1) [
                  | inl is ↦ is
                  | inr r2 ↦
                      elim (named_or w kind.RequiresLock k _ r2) [
                        | inl is ↦ is
                        | inr r3 ↦
                            elim (named_or w kind.Unique k _ r3) [
                              | inl is ↦ is
                              | inr r4 ↦
                                  elim (named_or w kind.Borrowed k _ r4) [
                                    | inl is ↦ is
                                    | inr r5 ↦
                                        elim (named_or w kind.RegionEffects k _ r5) [
                                          | inl is ↦ is
                                          | inr r6 ↦
                                              elim (named_or w kind.Starts k _ r6) [
                                                | inl is ↦ is
                                                | inr r7 ↦
                                                    elim (named_or w kind.Promise k _ r7) [
                                                      | inl is ↦ is
                                                      | inr r8 ↦
                                                          elim (named_or w kind.Assume k _ r8) [
                                                            | inl is ↦ is
                                                            | inr r9 ↦
                                                                elim (named_or w kind.Vouch k _ r9) [
                                                                  | inl is ↦ is
                                                                  | inr r10 ↦
                                                                      cc
                                                                ]
                                                          ]
                                                    ]
                                              ]
                                        ]
                                  ]
                            ]
                      ]
                ]
          ]
    ]

pub kind_named_finds : (k : PromiseKind) → kind_named (kind_text k) ≡ Some k
kind_named_finds kind.Region = refl
kind_named_finds kind.InRegion = refl
kind_named_finds kind.RegionLock = refl
kind_named_finds kind.RequiresLock = refl
kind_named_finds kind.Unique = refl
kind_named_finds kind.Borrowed = refl
kind_named_finds kind.RegionEffects = refl
kind_named_finds kind.Starts = refl
kind_named_finds kind.Promise = refl
kind_named_finds kind.Assume = refl
kind_named_finds kind.Vouch = refl

-- ---- what the last pieces of a layer spell

abbrev pub TailWords : PromiseKind → Layer → List Piece → Type 0
TailWords kind.Promise (lay.Promise s) ws = IsScope s × (ws ≡ Word (codes "for") ∷ scope_words s)
TailWords kind.Assume (lay.Assume m) ws = (digits : List ℕ) × IsCount digits m.count × IsMember m × (ws ≡ Word (codes "for") ∷ member_words m digits)
TailWords _ _ ws = ⊥

tail_found : (k : PromiseKind) (ps : List Piece) (l : Layer) → tail k ps ≡ Found l [] → TailWords k l ps
unfolding tail
tail_found kind.Promise ps l e =
    let a = expected_word (codes "for") _ ps l [] e in
    let m = mapped_found lay.Promise (scope a.0) l a.2 in
    let s = scope_found a.0 m.0 [] m.1 in
    let is : lay.Promise m.0 ≡ l = sym m.2 in
    subst (λ (x : Layer). TailWords kind.Promise x ps) is (s.1, a.1 ∙ ap (λ (r : List Piece). Word (codes "for") ∷ r) (s.0 ∙ append-nil (scope_words m.0)))
tail_found kind.Assume ps l e =
    let a = expected_word (codes "for") _ ps l [] e in
    let m = mapped_found lay.Assume (member a.0) l a.2 in
    let s = member_found a.0 m.0 [] m.1 in
    let is : lay.Assume m.0 ≡ l = sym m.2 in
    subst (λ (x : Layer). TailWords kind.Assume x ps) is (s.0, s.1, s.3, a.1 ∙ ap (λ (r : List Piece). Word (codes "for") ∷ r) (s.2 ∙ append-nil (member_words m.0 s.0)))
tail_found kind.Region ps l e = cc
tail_found kind.InRegion ps l e = cc
tail_found kind.RegionLock ps l e = cc
tail_found kind.RequiresLock ps l e = cc
tail_found kind.Unique ps l e = cc
tail_found kind.Borrowed ps l e = cc
tail_found kind.RegionEffects ps l e = cc
tail_found kind.Starts ps l e = cc
tail_found kind.Vouch ps l e = cc

-- other kinds have no last pieces
none_spelled : {A : Type 0} (k : PromiseKind) (l : Layer) (ws : List Piece) → nests k ≡ false → TailWords k l ws → A
none_spelled kind.Promise (lay.Promise s) ws other p = cc
none_spelled kind.Promise (lay.Assume s) ws other p = cc
none_spelled kind.Assume (lay.Promise s) ws other p = cc
none_spelled kind.Assume (lay.Assume s) ws other p = cc
none_spelled kind.Region (lay.Promise s) ws other p = absurd p
none_spelled kind.Region (lay.Assume s) ws other p = absurd p
none_spelled kind.InRegion (lay.Promise s) ws other p = absurd p
none_spelled kind.InRegion (lay.Assume s) ws other p = absurd p
none_spelled kind.RegionLock (lay.Promise s) ws other p = absurd p
none_spelled kind.RegionLock (lay.Assume s) ws other p = absurd p
none_spelled kind.RequiresLock (lay.Promise s) ws other p = absurd p
none_spelled kind.RequiresLock (lay.Assume s) ws other p = absurd p
none_spelled kind.Unique (lay.Promise s) ws other p = absurd p
none_spelled kind.Unique (lay.Assume s) ws other p = absurd p
none_spelled kind.Borrowed (lay.Promise s) ws other p = absurd p
none_spelled kind.Borrowed (lay.Assume s) ws other p = absurd p
none_spelled kind.RegionEffects (lay.Promise s) ws other p = absurd p
none_spelled kind.RegionEffects (lay.Assume s) ws other p = absurd p
none_spelled kind.Starts (lay.Promise s) ws other p = absurd p
none_spelled kind.Starts (lay.Assume s) ws other p = absurd p
none_spelled kind.Vouch (lay.Promise s) ws other p = absurd p
none_spelled kind.Vouch (lay.Assume s) ws other p = absurd p

tail_finds : (k : PromiseKind) (l : Layer) (ws : List Piece) → TailWords k l ws → tail k ws ≡ Found l []
unfolding tail
tail_finds kind.Promise (lay.Promise s) ws p = rw (p.1, scope_finds s p.0) refl
tail_finds kind.Assume (lay.Assume m) ws p = rw (p.3, member_finds m p.0 p.2 p.1) refl
tail_finds kind.Promise (lay.Assume m) ws p = absurd p
tail_finds kind.Assume (lay.Promise s) ws p = absurd p
tail_finds kind.Region l ws p = none_spelled kind.Region l ws refl p
tail_finds kind.InRegion l ws p = none_spelled kind.InRegion l ws refl p
tail_finds kind.RegionLock l ws p = none_spelled kind.RegionLock l ws refl p
tail_finds kind.RequiresLock l ws p = none_spelled kind.RequiresLock l ws refl p
tail_finds kind.Unique l ws p = none_spelled kind.Unique l ws refl p
tail_finds kind.Borrowed l ws p = none_spelled kind.Borrowed l ws refl p
tail_finds kind.RegionEffects l ws p = none_spelled kind.RegionEffects l ws refl p
tail_finds kind.Starts l ws p = none_spelled kind.Starts l ws refl p
tail_finds kind.Vouch l ws p = none_spelled kind.Vouch l ws refl p

-- they begin with a word, and no piece follows a `)` among them
no_inner_scope : (s : ScopeContent) → has_inner (scope_words s) ≡ false
no_inner_scope (scp.Fields w) = refl
no_inner_scope (scp.Methods w) = refl
no_inner_scope (scp.PlainMethods w) = refl
no_inner_scope scp.Constructors = refl

tail_shape : (k : PromiseKind) (l : Layer) (ws : List Piece) → TailWords k l ws → (has_inner ws ≡ false) × (is_over ws ≡ false)
tail_shape kind.Promise (lay.Promise s) ws p = (rw p.1 (no_inner_scope s), rw p.1 refl)
tail_shape kind.Assume (lay.Assume m) ws p = (rw p.3 refl, rw p.3 refl)
tail_shape kind.Promise (lay.Assume m) ws p = absurd p
tail_shape kind.Assume (lay.Promise s) ws p = absurd p
tail_shape kind.Region l ws p = none_spelled kind.Region l ws refl p
tail_shape kind.InRegion l ws p = none_spelled kind.InRegion l ws refl p
tail_shape kind.RegionLock l ws p = none_spelled kind.RegionLock l ws refl p
tail_shape kind.RequiresLock l ws p = none_spelled kind.RequiresLock l ws refl p
tail_shape kind.Unique l ws p = none_spelled kind.Unique l ws refl p
tail_shape kind.Borrowed l ws p = none_spelled kind.Borrowed l ws refl p
tail_shape kind.RegionEffects l ws p = none_spelled kind.RegionEffects l ws refl p
tail_shape kind.Starts l ws p = none_spelled kind.Starts l ws refl p
tail_shape kind.Vouch l ws p = none_spelled kind.Vouch l ws refl p

-- ---- `@` and a kind

annotation_found : (ps : List Piece) (k : PromiseKind) (rest : List Piece) → annotation ps ≡ Found k rest → ps ≡ Sign 64 ∷ Word (kind_text k) ∷ rest
unfolding annotation
annotation_found ps k rest e =
    let a = expected_sign 64 _ ps k rest e in
    let w = then_found (word a.0) _ k rest a.2 in
    by w.0 w.1 (a.1 ∙ ap (λ (r : List Piece). Sign 64 ∷ r) (word_found a.0 w.0 w.1 w.2)) (kind_named w.0) refl w.3
  where
    by : (w : List ℕ) (mid : List Piece) → ps ≡ Sign 64 ∷ Word w ∷ mid → (o : Option PromiseKind) → kind_named w ≡ o → settled o mid ≡ Found k rest → ps ≡ Sign 64 ∷ Word (kind_text k) ∷ rest
    by w mid is None none f = cc
    by w mid is (Some j) some f =
        pure_is (λ (i : PromiseKind) (r : List Piece). ps ≡ Sign 64 ∷ Word (kind_text i) ∷ r) j k mid rest f
        (is ∙ ap (λ (v : List ℕ). Sign 64 ∷ Word v ∷ mid) (kind_named_found w j some))

annotation_finds : (k : PromiseKind) (rest : List Piece) → annotation (Sign 64 ∷ Word (kind_text k) ∷ rest) ≡ Found k rest
unfolding annotation
annotation_finds k rest = rw (kind_named_finds k) refl

-- ---- layers

-- the layer stands round the text in the content
abbrev pub Opens : PromiseKind → List ℕ → Layer → PromiseKind → List ℕ → Type 0
Opens k content l inner text = (ws : List Piece) × TailWords k l ws × Holds content inner text ws

abbrev OpensSo : PromiseKind → List ℕ → Opened → Type 0
OpensSo k content y = Opens k content y.0 y.1 y.2

bare_found : (k : PromiseKind) (content : List ℕ) (y : Opened) → whole (bare k) (cut content) ≡ Some y → OpensSo k content y
unfolding bare
bare_found k content y e =
    let found = whole_is (bare k) (cut content) y e in
    let a = then_found (annotation (cut content)) _ y [] found in
    let is_a = annotation_found (cut content) a.0 a.1 a.2 in
    let t = then_found (tail k a.1) _ y [] a.3 in
    let over : t.1 ≡ [] = cc in
    let is : (t.0, a.0, []) ≡ y = cc in
    let found_tail : tail k a.1 ≡ Found t.0 [] = t.2 ∙ ap (λ (r : List Piece). Found t.0 r) over in
    subst (λ (z : Opened). OpensSo k content z) is (a.1, tail_found k a.1 t.0 found_tail, inl (is_a, refl))

closed_found : (k : PromiseKind) (content name text rest : List ℕ) (y : Opened) → content ≡ name ++ (40 ∷ (text ++ (41 ∷ rest)))
    → (a : Option PromiseKind) → whole annotation (cut name) ≡ a → (t : Option Layer) → whole (tail k) (cut rest) ≡ t → closed_by a text t ≡ Some y → OpensSo k content y
closed_found k content name text rest y split None none t is e = cc
closed_found k content name text rest y split (Some i) named None none e = cc
closed_found k content name text rest y split (Some i) named (Some l) last e =
    let is : (l, i, text) ≡ y = cc in
    let found_name = annotation_found (cut name) i [] (whole_is annotation (cut name) i named) in
    let found_tail = tail_found k (cut rest) l (whole_is (tail k) (cut rest) l last) in
    subst (λ (z : Opened). OpensSo k content z) is (cut rest, found_tail, inr (name, rest, split, found_name, refl))

named_found : (k : PromiseKind) (content front rest : List ℕ) (y : Opened) → content ≡ front ++ (41 ∷ rest) → (o : Option (List ℕ × List ℕ)) → first_split 40 front ≡ o → named_by k rest o ≡ Some y → OpensSo k content y
named_found k content front rest y split None none e = cc
named_found k content front rest y split (Some q) some e =
    let opens = first_split_is 40 front q some in
    closed_found k content q.0 q.1 rest y (split ∙ ap (λ (r : List ℕ). r ++ (41 ∷ rest)) opens ∙ append_assoc q.0 (40 ∷ q.1) (41 ∷ rest))
    (whole annotation (cut q.0)) refl (whole (tail k) (cut rest)) refl e

pub opened_found : (k : PromiseKind) (content : List ℕ) (y : Opened) → opened k content ≡ Some y → OpensSo k content y
unfolding opened enclosing
opened_found k content y e = by (closing_split content) refl e
  where
    by : (o : Option (List ℕ × List ℕ)) → closing_split content ≡ o → opened_by k content o ≡ Some y → OpensSo k content y
    by None none f = bare_found k content y f
    by (Some p) some f = named_found k content p.0 p.1 y (closing_is content p some).0 (first_split 40 p.0) refl f

opened_finds_by : (k : PromiseKind) (content : List ℕ) (l : Layer) (inner : PromiseKind) (text : List ℕ) (ws : List Piece) → TailWords k l ws → Holds content inner text ws → opened k content ≡ Some (l, inner, text)
unfolding opened enclosing bare
opened_finds_by k content l inner text ws last (inl without) =
    let shape = tail_shape k l ws last in
    let none : closing_split content ≡ None = no_closing content (rw without.0 shape.0) in
    rw (none, without.0, annotation_finds inner ws, tail_finds k l ws last, without.1) refl
opened_finds_by k content l inner text ws last (inr within) =
    let name = within.0 in
    let rest = within.1 in
    let shape = tail_shape k l ws last in
    let split : content ≡ (name ++ (40 ∷ text)) ++ (41 ∷ rest) = within.2 ∙ sym (append_assoc name (40 ∷ text) (41 ∷ rest)) in
    let none : closing_split rest ≡ None = no_closing rest (rw within.4 shape.0) in
    let more : list_all is_blank rest ≡ false = some_there rest (rw within.4 shape.1) in
    let closing : closing_split content ≡ Some (name ++ (40 ∷ text), rest) = ap closing_split split ∙ closing_at (name ++ (40 ∷ text)) rest none more in
    let opening : first_split 40 (name ++ (40 ∷ text)) ≡ Some (name, text) = first_split_here 40 name text (no_opening name (rw within.3 refl)) in
    rw (closing, opening, within.3, annotation_finds inner [], within.4, tail_finds k l ws last) refl

pub opened_finds : (k : PromiseKind) (content : List ℕ) (l : Layer) (inner : PromiseKind) (text : List ℕ) → Opens k content l inner text → opened k content ≡ Some (l, inner, text)
opened_finds k content l inner text opens = opened_finds_by k content l inner text opens.0 opens.1 opens.2

-- the text is shorter than the content
shorter_by : (content : List ℕ) (inner : PromiseKind) (text : List ℕ) (ws : List Piece) → Holds content inner text ws → length text < length content
shorter_by [] inner text ws (inl without) = let clash : [] ≡ Sign 64 ∷ Word (kind_text inner) ∷ ws = sym nothing_cut ∙ without.0 in cc
shorter_by (b ∷ bs) inner text ws (inl without) = rw without.1 (omega arith)
shorter_by content inner text ws (inr within) =
    let a = length-append within.0 (40 ∷ (text ++ (41 ∷ within.1))) in
    let b = length-append text (41 ∷ within.1) in
    let c = ap length within.2 in
    omega (arith, a, b, c)

pub opened_shorter : (k : PromiseKind) (content : List ℕ) (y : Opened) → opened k content ≡ Some y → length y.2 < length content
opened_shorter k content y e = let o = opened_found k content y e in shorter_by content y.1 y.2 o.0 o.2
