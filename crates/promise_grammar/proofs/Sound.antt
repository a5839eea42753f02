-- What a form's reader finds is spelled so by the pieces in front.
use Rattle.std.proofs.Common.{◌≡◌, inl, inr, ℕ, Bool, true, false, cond, List, [], ◌∷◌, ◌++◌, Option, Some, None, IfSome, codes, refl, sym, ap, ◌∙◌, append_assoc}
use Rattle.std.specs.Str.{bytes_eq}
use Rattle.promise_grammar.specs.declared.region.RegionContent.{RegionContent}
use Rattle.promise_grammar.specs.declared.region.Visibility.{Visibility}
use Rattle.promise_grammar.specs.declared.region.Visibility.TheVariants as visible
use Rattle.promise_grammar.specs.declared.lock.LockHolder.{LockHolder}
use Rattle.promise_grammar.specs.declared.lock.LockHolder.TheVariants as holding
use Rattle.promise_grammar.specs.declared.lock.RegionLockContent.{RegionLockContent}
use Rattle.promise_grammar.specs.declared.lock.LockItem.{LockItem}
use Rattle.promise_grammar.specs.declared.lock.LockItem.TheVariants as lock
use Rattle.promise_grammar.specs.declared.effects.EffectTarget.{EffectTarget}
use Rattle.promise_grammar.specs.declared.effects.EffectTarget.TheVariants as effect
use Rattle.promise_grammar.specs.Piece.{Piece, Word, Sign}
use Rattle.promise_grammar.specs.Outcome.{Found, Lost, Reader, ◌<$>◌, pure, name, sees_word, eaten}
use Rattle.promise_grammar.specs.Form.{IsName, visibility_words, static_words, parent_words, region_words, IsRegion, holder_words, IsHolder, region_lock_words, IsRegionLock, lock_item_words, IsLockItem, target_words, IsTarget}
use Rattle.promise_grammar.specs.Reading.{visibility, parent, region, this_holder, holder, region_lock, lock_item, any_target, named_target, target}
use Rattle.promise_grammar.proofs.Steps.{then_found, pure_is, word_seen, eaten_word, eaten_sign, expected_word, expected_sign, name_found, bytes_same}

-- the pieces begin with the words of x, which is lawful, and the rest follows
abbrev pub Begins : {A : Type 0} → (A → List Piece) → (A → Type 0) → List Piece → A → List Piece → Type 0
Begins words Is ps x rest = (ps ≡ words x ++ rest) × Is x

-- whatever the reader finds, the pieces begin with
abbrev pub Sound : {A : Type 0} → (A → List Piece) → (A → Type 0) → Reader A → Type 0
Sound {A} words Is read = (ps : List Piece) (x : A) (rest : List Piece) → read ps ≡ Found x rest → Begins words Is ps x rest

-- a name in a constructor
named_found : {A : Type 0} (make : List ℕ → A) (P : A → List Piece → Type 0) (ps : List Piece) (x : A) (rest : List Piece)
    → (make <$> name) ps ≡ Found x rest → ((n : List ℕ) (left : List Piece) → ps ≡ Word n ∷ left → IsName n → P (make n) left) → P x rest
named_found make P ps x rest e step =
    let s = then_found (name ps) (λ n. pure (make n)) x rest e in
    let n = name_found ps s.0 s.1 s.2 in
    pure_is P (make s.0) x s.1 rest s.3 (step s.0 s.1 n.0 n.1)

-- ---- Region

abbrev AnyVisibility : Option Visibility → Type 0
AnyVisibility v = Unit {0}

visibility_found : (ps : List Piece) (v : Option Visibility) (rest : List Piece) → visibility ps ≡ Found v rest → ps ≡ visibility_words v ++ rest
unfolding visibility
visibility_found ps v rest e =
    let P : Option Visibility → List Piece → Type 0 = λ w r. ps ≡ visibility_words w ++ r in
    elim (eaten_word (codes "public") _ _ ps v rest e) [
      | inl a ↦ pure_is P (Some visible.Public) v a.0 rest a.2 a.1
      | inr b ↦ elim (eaten_word (codes "protected") _ _ ps v rest b.1) [
        | inl a ↦ pure_is P (Some visible.Protected) v a.0 rest a.2 a.1
        | inr c ↦ elim (eaten_word (codes "private") _ _ ps v rest c.1) [
          | inl a ↦ pure_is P (Some visible.Private) v a.0 rest a.2 a.1
          | inr d ↦ pure_is P None v ps rest d.1 refl
        ]
      ]
    ]

parent_found : (ps : List Piece) (p : Option (List ℕ)) (rest : List Piece) → parent ps ≡ Found p rest → (ps ≡ parent_words p ++ rest) × IfSome p IsName
unfolding parent
parent_found ps p rest e =
    let P : Option (List ℕ) → List Piece → Type 0 = λ q r. (ps ≡ parent_words q ++ r) × IfSome q IsName in
    elim (eaten_word (codes "extends") _ _ ps p rest e) [
      | inl a ↦ named_found Some P a.0 p rest a.2 (λ n left is lawful. (a.1 ∙ ap (λ (r : List Piece). Word (codes "extends") ∷ r) is, lawful))
      | inr b ↦ pure_is P None p ps rest b.1 (refl, tt)
    ]

static_seen : (ps : List Piece) (t : Bool) → sees_word (codes "static") ps ≡ t → ps ≡ static_words t ++ eaten t ps
static_seen ps true e = word_seen (codes "static") ps e
static_seen ps false e = refl

regrouped : (a b : List Piece) (n : Piece) (p rest : List Piece) → a ++ (b ++ (n ∷ (p ++ rest))) ≡ (a ++ (b ++ (n ∷ p))) ++ rest
regrouped a b n p rest = simp append_assoc

pub region_found : Sound region_words IsRegion region
unfolding region
region_found ps x rest e =
    let v = then_found (visibility ps) _ x rest e in
    let is_v = visibility_found ps v.0 v.1 v.2 in
    let t : Bool = sees_word (codes "static") v.1 in
    let is_s = static_seen v.1 t refl in
    let n = then_found (name (eaten t v.1)) _ x rest v.3 in
    let is_n = name_found (eaten t v.1) n.0 n.1 n.2 in
    let p = then_found (parent n.1) _ x rest n.3 in
    let is_p = parent_found n.1 p.0 p.1 p.2 in
    let whole : ps ≡ (visibility_words v.0 ++ (static_words t ++ (Word n.0 ∷ parent_words p.0))) ++ p.1 =
    is_v ∙ ap (λ (r : List Piece). visibility_words v.0 ++ r) (is_s ∙ ap (λ (r : List Piece). static_words t ++ r) (is_n.0 ∙ ap (λ (r : List Piece). Word n.0 ∷ r) is_p.0))
    ∙ regrouped (visibility_words v.0) (static_words t) (Word n.0) (parent_words p.0) p.1 in
    pure_is (λ (y : RegionContent) (r : List Piece). Begins region_words IsRegion ps y r) (record { visibility = v.0; is_static = t; name = n.0; parent = p.0 }) x p.1 rest p.3
    (whole, record { name = is_n.1; parent = is_p.1 })

-- ---- RegionLock

this_holder_found : (ps : List Piece) (h : LockHolder) (rest : List Piece) → this_holder ps ≡ Found h rest → (Word (codes "this") ∷ ps ≡ holder_words h ++ rest) × IsHolder h
unfolding this_holder
this_holder_found ps h rest e =
    let P : LockHolder → List Piece → Type 0 = λ g r. (Word (codes "this") ∷ ps ≡ holder_words g ++ r) × IsHolder g in
    elim (eaten_sign 46 _ _ ps h rest e) [
      | inl a ↦ named_found holding.ThisField P a.0 h rest a.2 (λ n left is lawful. (ap (λ (r : List Piece). Word (codes "this") ∷ r) (a.1 ∙ ap (λ (r : List Piece). Sign 46 ∷ r) is), lawful))
      | inr b ↦ pure_is P holding.This h ps rest b.1 (refl, tt)
    ]

pub holder_found : Sound holder_words IsHolder holder
unfolding holder
holder_found ps h rest e =
    let P : LockHolder → List Piece → Type 0 = λ g r. Begins holder_words IsHolder ps g r in
    elim (eaten_word (codes "class") _ _ ps h rest e) [
      | inl a ↦ pure_is P holding.Class h a.0 rest a.2 (a.1, tt)
      | inr b ↦ elim (eaten_word (codes "this") _ _ ps h rest b.1) [
        | inl a ↦ (let s = this_holder_found a.0 h rest a.2 in (a.1 ∙ s.0, s.1))
        | inr c ↦ named_found holding.Field P ps h rest c.1 (λ n left is lawful. (is, lawful))
      ]
    ]

pub region_lock_found : Sound region_lock_words IsRegionLock region_lock
unfolding region_lock
region_lock_found ps x rest e =
    let n = then_found (name ps) _ x rest e in
    let is_n = name_found ps n.0 n.1 n.2 in
    let i = expected_word (codes "is") _ n.1 x rest n.3 in
    let h = then_found (holder i.0) _ x rest i.2 in
    let is_h = holder_found i.0 h.0 h.1 h.2 in
    let p = expected_word (codes "protects") _ h.1 x rest h.3 in
    let r = then_found (name p.0) _ x rest p.2 in
    let is_r = name_found p.0 r.0 r.1 r.2 in
    let tail : i.0 ≡ (holder_words h.0 ++ (Word (codes "protects") ∷ Word r.0 ∷ [])) ++ r.1 =
    is_h.0 ∙ ap (λ (q : List Piece). holder_words h.0 ++ q) (p.1 ∙ ap (λ (q : List Piece). Word (codes "protects") ∷ q) is_r.0)
    ∙ sym (append_assoc (holder_words h.0) (Word (codes "protects") ∷ Word r.0 ∷ []) r.1) in
    pure_is (λ (y : RegionLockContent) (q : List Piece). Begins region_lock_words IsRegionLock ps y q) (record { name = n.0; holder = h.0; region = r.0 }) x r.1 rest r.3
    (is_n.0 ∙ ap (λ (q : List Piece). Word n.0 ∷ q) (i.1 ∙ ap (λ (q : List Piece). Word (codes "is") ∷ q) tail), record { name = is_n.1; holder = is_h.1; region = is_r.1 })

-- ---- RequiresLock

pub lock_item_found : Sound lock_item_words IsLockItem lock_item
unfolding lock_item
lock_item_found ps x rest e =
    let P : LockItem → List Piece → Type 0 = λ y r. Begins lock_item_words IsLockItem ps y r in
    elim (eaten_word (codes "this") _ _ ps x rest e) [
      | inl a ↦ (let c = expected_sign 58 _ a.0 x rest a.2 in
          named_found lock.This P c.0 x rest c.2 (λ n left is lawful. (a.1 ∙ ap (λ (r : List Piece). Word (codes "this") ∷ r) (c.1 ∙ ap (λ (r : List Piece). Sign 58 ∷ r) is), lawful)))
      | inr b ↦ (let f = then_found (name ps) _ x rest b.1 in
          let is_f = name_found ps f.0 f.1 f.2 in
          elim (eaten_sign 58 _ _ f.1 x rest f.3) [
            | inl a ↦ named_found (lock.Of f.0) P a.0 x rest a.2 (λ n left is lawful. (is_f.0 ∙ ap (λ (r : List Piece). Word f.0 ∷ r) (a.1 ∙ ap (λ (r : List Piece). Sign 58 ∷ r) is), (is_f.1, lawful)))
            | inr d ↦ pure_is P (lock.Bare f.0) x f.1 rest d.1 (is_f.0, is_f.1)
          ])
    ]

-- ---- RegionEffects

any_target_found : (ps : List Piece) (x : EffectTarget) (rest : List Piece) → any_target ps ≡ Found x rest → (Word (codes "any") ∷ Sign 40 ∷ ps ≡ target_words x ++ rest) × IsTarget x
unfolding any_target
any_target_found ps x rest e =
    let P : EffectTarget → List Piece → Type 0 = λ y r. (Word (codes "any") ∷ Sign 40 ∷ ps ≡ target_words y ++ r) × IsTarget y in
    let k = then_found (name ps) _ x rest e in
    let is_k = name_found ps k.0 k.1 k.2 in
    let close = expected_sign 41 _ k.1 x rest k.3 in
    let colon = expected_sign 58 _ close.0 x rest close.2 in
    named_found (effect.Any k.0) P colon.0 x rest colon.2 (λ n left is lawful.
    (ap (λ (r : List Piece). Word (codes "any") ∷ Sign 40 ∷ r) (is_k.0 ∙ ap (λ (r : List Piece). Word k.0 ∷ r) (close.1 ∙ ap (λ (r : List Piece). Sign 41 ∷ r) (colon.1 ∙ ap (λ (r : List Piece). Sign 58 ∷ r) is))), (is_k.1, lawful)))

opened_by : (first : List ℕ) (ps : List Piece) (x : EffectTarget) (rest : List Piece) (t : Bool) → bytes_eq first (codes "any") ≡ t
    → cond {A = Reader EffectTarget} t any_target (λ (qs : List Piece). Lost) ps ≡ Found x rest → (Word first ∷ Sign 40 ∷ ps ≡ target_words x ++ rest) × IsTarget x
opened_by first ps x rest true same e =
    let any : first ≡ codes "any" = bytes_same first (codes "any") same in
    let s = any_target_found ps x rest e in
    (ap (λ (w : List ℕ). Word w ∷ Sign 40 ∷ ps) any ∙ s.0, s.1)
opened_by first ps x rest false same e = cc

named_target_found : (first : List ℕ) → IsName first → (ps : List Piece) (x : EffectTarget) (rest : List Piece) → named_target first ps ≡ Found x rest → (Word first ∷ ps ≡ target_words x ++ rest) × IsTarget x
unfolding named_target
named_target_found first is_first ps x rest e =
    let P : EffectTarget → List Piece → Type 0 = λ y r. (Word first ∷ ps ≡ target_words y ++ r) × IsTarget y in
    elim (eaten_sign 40 _ _ ps x rest e) [
      | inl a ↦ (let s = opened_by first a.0 x rest (bytes_eq first (codes "any")) refl a.2 in (ap (λ (r : List Piece). Word first ∷ r) a.1 ∙ s.0, s.1))
      | inr b ↦ elim (eaten_sign 58 _ _ ps x rest b.1) [
        | inl a ↦ named_found (effect.Of first) P a.0 x rest a.2 (λ n left is lawful. (ap (λ (r : List Piece). Word first ∷ r) (a.1 ∙ ap (λ (r : List Piece). Sign 58 ∷ r) is), (is_first, lawful)))
        | inr d ↦ pure_is P (effect.Bare first) x ps rest d.1 (refl, is_first)
      ]
    ]

pub target_found : Sound target_words IsTarget target
unfolding target
target_found ps x rest e =
    let P : EffectTarget → List Piece → Type 0 = λ y r. Begins target_words IsTarget ps y r in
    elim (eaten_word (codes "this") _ _ ps x rest e) [
      | inl a ↦ (let c = expected_sign 58 _ a.0 x rest a.2 in
          named_found effect.This P c.0 x rest c.2 (λ n left is lawful. (a.1 ∙ ap (λ (r : List Piece). Word (codes "this") ∷ r) (c.1 ∙ ap (λ (r : List Piece). Sign 58 ∷ r) is), lawful)))
      | inr b ↦ (let f = then_found (name ps) named_target x rest b.1 in
          let is_f = name_found ps f.0 f.1 f.2 in
          let s = named_target_found f.0 is_f.1 f.1 x rest f.3 in
          (is_f.0 ∙ s.0, s.1))
    ]
