-- Layers round trees: what a content spells with its outermost layer and without it, and that it spells one tree.
use Rattle.std.proofs.Common.{◌≡◌, ℕ, zero, suc, true, false, List, [], ◌∷◌, ◌++◌, Some, None, codes, refl, sym, ap, ◌∙◌, subst}
use Rattle.promise_grammar.specs.declared.kind.PromiseKind.{PromiseKind}
use Rattle.promise_grammar.specs.declared.kind.PromiseKind.TheVariants as kind
use Rattle.promise_grammar.specs.declared.layer.Layer.{Layer}
use Rattle.promise_grammar.specs.declared.layer.Layer.TheVariants as lay
use Rattle.promise_grammar.specs.declared.tree.PromiseTree.{PromiseTree}
use Rattle.promise_grammar.specs.declared.tree.PromiseTree.TheVariants as tree
use Rattle.promise_grammar.specs.Piece.{Piece, Word}
use Rattle.promise_grammar.specs.Form.{scope_words, member_words}
use Rattle.promise_grammar.specs.Reading.{opened}
use Rattle.promise_grammar.specs.Promise.{Plain, Holds, Nested, ReadsPromise}
use Rattle.promise_grammar.specs.Peeling.{nests, around, wrapped, Peeled, SpellsNone}
use Rattle.promise_grammar.proofs.PlainLaws.{plain_finds}
use Rattle.promise_grammar.proofs.LayerLaws.{Opens, opened_found, opened_finds}

-- ---- one layer

-- the content is a layer round a text that spells a tree
abbrev Layered : PromiseKind → List ℕ → PromiseTree → Type 0
Layered k content t = (l : Layer) × (i : PromiseKind) × (text : List ℕ) × (inner : PromiseTree) × Opens k content l i text × ReadsPromise i text inner × (t ≡ around l inner)

nested_layered : (k : PromiseKind) (content : List ℕ) (t : PromiseTree) (n : ℕ) → nests k ≡ true → Nested n k content t → Layered k content t
unfolding ReadsPromise
nested_layered kind.Promise content t zero nest p = absurd p
nested_layered kind.Promise content t (suc n) nest p =
    (lay.Promise p.scope, p.inner_kind, p.text, p.inner, (Word (codes "for") ∷ scope_words p.scope, (p.lawful, refl), p.holds), (n, p.spells), p.is)
nested_layered kind.Assume content t zero nest p = absurd p
nested_layered kind.Assume content t (suc n) nest p =
    (lay.Assume p.member, p.inner_kind, p.text, p.inner, (Word (codes "for") ∷ member_words p.member p.digits, (p.digits, p.counted, p.lawful, refl), p.holds), (n, p.spells), p.is)
nested_layered kind.Region content t n nest p = cc
nested_layered kind.InRegion content t n nest p = cc
nested_layered kind.RegionLock content t n nest p = cc
nested_layered kind.RequiresLock content t n nest p = cc
nested_layered kind.Unique content t n nest p = cc
nested_layered kind.Borrowed content t n nest p = cc
nested_layered kind.RegionEffects content t n nest p = cc
nested_layered kind.Starts content t n nest p = cc
nested_layered kind.Vouch content t n nest p = cc

layered : (k : PromiseKind) (content : List ℕ) (t : PromiseTree) → nests k ≡ true → ReadsPromise k content t → Layered k content t
unfolding ReadsPromise
layered k content t nest r = nested_layered k content t r.0 nest r.1

layered_spells : (k : PromiseKind) (content : List ℕ) (l : Layer) (i : PromiseKind) (text : List ℕ) (inner : PromiseTree) → nests k ≡ true → Opens k content l i text → ReadsPromise i text inner → ReadsPromise k content (around l inner)
unfolding ReadsPromise
layered_spells kind.Promise content (lay.Promise s) i text inner nest o r =
    (suc r.0, record { inner_kind = i; text = text; inner = inner; scope = s; is = refl; lawful = o.1.0; holds = subst (λ (ws : List Piece). Holds content i text ws) o.1.1 o.2; spells = r.1 })
layered_spells kind.Assume content (lay.Assume m) i text inner nest o r =
    (suc r.0, record { inner_kind = i; text = text; inner = inner; member = m; digits = o.1.0; is = refl; lawful = o.1.2; counted = o.1.1; holds = subst (λ (ws : List Piece). Holds content i text ws) o.1.3 o.2; spells = r.1 })
layered_spells kind.Promise content (lay.Assume m) i text inner nest o r = absurd o.1
layered_spells kind.Assume content (lay.Promise s) i text inner nest o r = absurd o.1
layered_spells kind.Region content l i text inner nest o r = cc
layered_spells kind.InRegion content l i text inner nest o r = cc
layered_spells kind.RegionLock content l i text inner nest o r = cc
layered_spells kind.RequiresLock content l i text inner nest o r = cc
layered_spells kind.Unique content l i text inner nest o r = cc
layered_spells kind.Borrowed content l i text inner nest o r = cc
layered_spells kind.RegionEffects content l i text inner nest o r = cc
layered_spells kind.Starts content l i text inner nest o r = cc
layered_spells kind.Vouch content l i text inner nest o r = cc

-- ---- layer after layer

wrapped-push : (ls : List Layer) (l : Layer) (t : PromiseTree) → wrapped (ls ++ l ∷ []) t ≡ wrapped ls (around l t)
wrapped-push [] l t = refl
wrapped-push (x ∷ ls) l t = ap (around x) (wrapped-push ls l t)

pub one_off : (ls more : List Layer) (l : Layer) (old new t : PromiseTree) → ls ≡ more ++ l ∷ [] → new ≡ around l old → wrapped ls old ≡ t → wrapped more new ≡ t
one_off ls more l old new t last made is = ap (wrapped more) made ∙ sym (wrapped-push more l old) ∙ ap (λ (xs : List Layer). wrapped xs old) (sym last) ∙ is

-- what the outermost layer is, is fixed by the content
one_layer : (k : PromiseKind) (content : List ℕ) (l : Layer) (i : PromiseKind) (text : List ℕ) (t : PromiseTree) → nests k ≡ true → opened k content ≡ Some (l, i, text) → ReadsPromise k content t
    → (inner : PromiseTree) × ReadsPromise i text inner × (t ≡ around l inner)
one_layer k content l i text t nest found r =
    let y = layered k content t nest r in
    let again = opened_finds k content y.0 y.1 y.2 y.4 in
    let same : (y.0, y.1, y.2) ≡ (l, i, text) = some_same (y.0, y.1, y.2) (l, i, text) (sym again ∙ found) in
    let is_l : y.0 ≡ l = ap (λ (z : Layer × PromiseKind × List ℕ). z.0) same in
    let is_i : y.1 ≡ i = ap (λ (z : Layer × PromiseKind × List ℕ). z.1) same in
    let is_text : y.2 ≡ text = ap (λ (z : Layer × PromiseKind × List ℕ). z.2) same in
    let with_i : ReadsPromise i y.2 y.3 = subst (λ (j : PromiseKind). ReadsPromise j y.2 y.3) is_i y.5 in
    let with_text : ReadsPromise i text y.3 = subst (λ (bs : List ℕ). ReadsPromise i bs y.3) is_text with_i in
    (y.3, with_text, y.6 ∙ ap (λ (x : Layer). around x y.3) is_l)
  where
    some_same : (a b : Layer × PromiseKind × List ℕ) → Some a ≡ Some b → a ≡ b
    some_same a b e = cc

pub none_off : (k : PromiseKind) (content : List ℕ) → Peeled k content [] k content
none_off k content = record { inward = λ t r. (t, r, refl); outward = λ t r. r }

pub one_more_off : (k0 : PromiseKind) (content0 : List ℕ) (ls more : List Layer) (k : PromiseKind) (content : List ℕ) (l : Layer) (i : PromiseKind) (text : List ℕ)
    → Peeled k0 content0 ls k content → nests k ≡ true → opened k content ≡ Some (l, i, text) → more ≡ ls ++ l ∷ [] → Peeled k0 content0 more i text
one_more_off k0 content0 ls more k content l i text peeled nest found last =
    let opens = opened_found k content (l, i, text) found in
    record {
      inward = λ t r. (let p = peeled.inward t r in
          let q = one_layer k content l i text p.0 nest found p.1 in
          (q.0, q.1, p.2 ∙ ap (wrapped ls) q.2 ∙ sym (wrapped-push ls l q.0) ∙ ap (λ (xs : List Layer). wrapped xs q.0) (sym last)));
      outward = λ t r. (let spelled = peeled.outward (around l t) (layered_spells k content l i text t nest opens r) in
          let same : wrapped ls (around l t) ≡ wrapped more t = sym (wrapped-push ls l t) ∙ ap (λ (xs : List Layer). wrapped xs t) (sym last) in
          subst (λ (u : PromiseTree). ReadsPromise k0 content0 u) same spelled);
    }

pub no_layer : (k0 : PromiseKind) (content0 : List ℕ) (ls : List Layer) (k : PromiseKind) (content : List ℕ) → Peeled k0 content0 ls k content → nests k ≡ true → opened k content ≡ None → SpellsNone k0 content0
no_layer k0 content0 ls k content peeled nest none t r =
    let p = peeled.inward t r in
    let y = layered k content p.0 nest p.1 in
    let again = opened_finds k content y.0 y.1 y.2 y.4 in
    cc

-- ---- the innermost content

plain_of : (n : ℕ) (k : PromiseKind) (content : List ℕ) (t : PromiseTree) → nests k ≡ false → Nested n k content t → Plain k content t
plain_of zero k content t plain p = p
plain_of (suc n) kind.Promise content t plain p = cc
plain_of (suc n) kind.Assume content t plain p = cc
plain_of (suc n) kind.Region content t plain p = absurd p
plain_of (suc n) kind.InRegion content t plain p = absurd p
plain_of (suc n) kind.RegionLock content t plain p = absurd p
plain_of (suc n) kind.RequiresLock content t plain p = absurd p
plain_of (suc n) kind.Unique content t plain p = absurd p
plain_of (suc n) kind.Borrowed content t plain p = absurd p
plain_of (suc n) kind.RegionEffects content t plain p = absurd p
plain_of (suc n) kind.Starts content t plain p = absurd p
plain_of (suc n) kind.Vouch content t plain p = absurd p

pub innermost : (k : PromiseKind) (content : List ℕ) (t : PromiseTree) → nests k ≡ false → ReadsPromise k content t → Plain k content t
unfolding ReadsPromise
innermost k content t plain r = plain_of r.0 k content t plain r.1

pub plain_spells : (k : PromiseKind) (content : List ℕ) (t : PromiseTree) → Plain k content t → ReadsPromise k content t
unfolding ReadsPromise
plain_spells k content t p = (0, p)

-- ---- one tree

plain_same : (k : PromiseKind) (content : List ℕ) (a b : PromiseTree) → Plain k content a → Plain k content b → a ≡ b
plain_same kind.Vouch content a b p q = p.0 ∙ sym q.0
plain_same kind.Promise content a b p q = absurd p
plain_same kind.Assume content a b p q = absurd p
plain_same kind.Region content a b p q = let x = plain_finds kind.Region content a (λ e. cc) p in let y = plain_finds kind.Region content b (λ e. cc) q in cc
plain_same kind.InRegion content a b p q = let x = plain_finds kind.InRegion content a (λ e. cc) p in let y = plain_finds kind.InRegion content b (λ e. cc) q in cc
plain_same kind.RegionLock content a b p q = let x = plain_finds kind.RegionLock content a (λ e. cc) p in let y = plain_finds kind.RegionLock content b (λ e. cc) q in cc
plain_same kind.RequiresLock content a b p q = let x = plain_finds kind.RequiresLock content a (λ e. cc) p in let y = plain_finds kind.RequiresLock content b (λ e. cc) q in cc
plain_same kind.Unique content a b p q = let x = plain_finds kind.Unique content a (λ e. cc) p in let y = plain_finds kind.Unique content b (λ e. cc) q in cc
plain_same kind.Borrowed content a b p q = let x = plain_finds kind.Borrowed content a (λ e. cc) p in let y = plain_finds kind.Borrowed content b (λ e. cc) q in cc
plain_same kind.RegionEffects content a b p q = let x = plain_finds kind.RegionEffects content a (λ e. cc) p in let y = plain_finds kind.RegionEffects content b (λ e. cc) q in cc
plain_same kind.Starts content a b p q = let x = plain_finds kind.Starts content a (λ e. cc) p in let y = plain_finds kind.Starts content b (λ e. cc) q in cc

plain_kind : (k : PromiseKind) (content : List ℕ) (t : PromiseTree) → Plain k content t → nests k ≡ false
plain_kind kind.Promise content t p = absurd p
plain_kind kind.Assume content t p = absurd p
plain_kind kind.Region content t p = refl
plain_kind kind.InRegion content t p = refl
plain_kind kind.RegionLock content t p = refl
plain_kind kind.RequiresLock content t p = refl
plain_kind kind.Unique content t p = refl
plain_kind kind.Borrowed content t p = refl
plain_kind kind.RegionEffects content t p = refl
plain_kind kind.Starts content t p = refl
plain_kind kind.Vouch content t p = refl

nested_same : (n : ℕ) (k : PromiseKind) (content : List ℕ) (a b : PromiseTree) → Nested n k content a → ReadsPromise k content b → a ≡ b
nested_same zero k content a b p r = plain_same k content a b p (innermost k content b (plain_kind k content a p) r)
nested_same (suc n) kind.Promise content a b p r =
    let opens : Opens kind.Promise content (lay.Promise p.scope) p.inner_kind p.text = (Word (codes "for") ∷ scope_words p.scope, (p.lawful, refl), p.holds) in
    let found = opened_finds kind.Promise content (lay.Promise p.scope) p.inner_kind p.text opens in
    let q = one_layer kind.Promise content (lay.Promise p.scope) p.inner_kind p.text b refl found r in
    let same = nested_same n p.inner_kind p.text p.inner q.0 p.spells q.1 in
    p.is ∙ ap (λ (t : PromiseTree). tree.Promise t p.scope) same ∙ sym q.2
nested_same (suc n) kind.Assume content a b p r =
    let opens : Opens kind.Assume content (lay.Assume p.member) p.inner_kind p.text = (Word (codes "for") ∷ member_words p.member p.digits, (p.digits, p.counted, p.lawful, refl), p.holds) in
    let found = opened_finds kind.Assume content (lay.Assume p.member) p.inner_kind p.text opens in
    let q = one_layer kind.Assume content (lay.Assume p.member) p.inner_kind p.text b refl found r in
    let same = nested_same n p.inner_kind p.text p.inner q.0 p.spells q.1 in
    p.is ∙ ap (λ (t : PromiseTree). tree.Assume t p.member) same ∙ sym q.2
nested_same (suc n) kind.Region content a b p r = absurd p
nested_same (suc n) kind.InRegion content a b p r = absurd p
nested_same (suc n) kind.RegionLock content a b p r = absurd p
nested_same (suc n) kind.RequiresLock content a b p r = absurd p
nested_same (suc n) kind.Unique content a b p r = absurd p
nested_same (suc n) kind.Borrowed content a b p r = absurd p
nested_same (suc n) kind.RegionEffects content a b p r = absurd p
nested_same (suc n) kind.Starts content a b p r = absurd p
nested_same (suc n) kind.Vouch content a b p r = absurd p

pub same_tree : (k : PromiseKind) (content : List ℕ) (a b : PromiseTree) → ReadsPromise k content a → ReadsPromise k content b → a ≡ b
unfolding ReadsPromise
same_tree k content a b r s = nested_same r.0 k content a b r.1 s

-- ---- the answer

pub answered : (k : PromiseKind) (content : List ℕ) (ls : List Layer) (i : PromiseKind) (text : List ℕ) (core t : PromiseTree)
    → Peeled k content ls i text → Plain i text core → t ≡ wrapped ls core → ReadsPromise k content t × ((other : PromiseTree) → ReadsPromise k content other → other ≡ t)
answered k content ls i text core t peeled plain is =
    let spelled : ReadsPromise k content t = subst (λ (u : PromiseTree). ReadsPromise k content u) (sym is) (peeled.outward core (plain_spells i text core plain)) in
    (spelled, λ (other : PromiseTree) r. same_tree k content other t r spelled)

pub unanswered : (k : PromiseKind) (content : List ℕ) (ls : List Layer) (i : PromiseKind) (text : List ℕ)
    → Peeled k content ls i text → nests i ≡ false → ((t : PromiseTree) → Plain i text t → ⊥) → SpellsNone k content
unanswered k content ls i text peeled plain none t r =
    let p = peeled.inward t r in
    none p.0 (innermost i text p.0 plain p.1)
