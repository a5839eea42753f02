-- Code as it goes on: what it needs, reads and ends by.
use Rattle.std.proofs.Common.{◌≡◌, refl, ℕ, ◌||◌, ◌&&◌, not, Bool, true, false, List, ◌∷◌, if◌then◌else◌, sym, ap, ◌∙◌}
use Rattle.core_model.specs.Code.{Code, Done, Do, If, While, Enter, EnterClass, Exit, ◌⧺◌}
use Rattle.core_model.specs.declared.instr.Note.{Note}
use Rattle.core_model.specs.declared.instr.Plain.{Plain}
use Rattle.core_model.specs.declared.instr.Plain.TheVariants as plain
use Rattle.core_model.specs.declared.program.Program.{Program}
use Rattle.core_laws.specs.Places.{again}
use Rattle.core_types.specs.Types.{Ty, Types, UnitTypes}
use Rattle.core_types.specs.Belonging.{Suits}
use Rattle.core_types.specs.Slots.{Uses, need_by, FitsBy}
use Rattle.core_types.specs.Need.{need, need_of, by_type, Fits}
use Rattle.core_types.specs.Paths.{reads, reads_by, ends, ends_by, pushes_true, is_done, is_always_true}

-- ---- temporaries

module _ {S : Type 0} (Suits : S → S → Type 0) (u : Uses S) where
  pub need_by-append : (a k : Code) (l : List S) → need_by u (a ⧺ k) l ≡ need_by u a (need_by u k l)
  need_by-append Done k l = refl
  need_by-append (Do n i s) k l = ap (need_of (u.use_by n i)) (need_by-append s k l)
  need_by-append (If n a b s) k l = ap (λ m. u.flag ∷ need_by u a m) (need_by-append s k l)
  need_by-append (While n c b s) k l = need_by-append s k l
  need_by-append (Enter n b s) k l = ap (λ m. u.monitor n ∷ need_by u b m) (need_by-append s k l)
  need_by-append (EnterClass n c b s) k l = ap (λ m. need_by u b m) (need_by-append s k l)
  need_by-append (Exit n r s) k l = need_by-append s k l

  pub fits_by-append : (a k : Code) (l : List S) → FitsBy Suits u a (need_by u k l) → FitsBy Suits u k l → FitsBy Suits u (a ⧺ k) l
  fits_by-append Done k l h g = g
  fits_by-append (Do n i s) k l h g = (rw (need_by-append s k l) h.0, fits_by-append s k l h.1 g)
  fits_by-append (If n a b s) k l h g =
      (rw (need_by-append s k l) h.0, rw (need_by-append s k l) h.1, rw (need_by-append s k l) h.2, fits_by-append s k l h.3 g)
  fits_by-append (While n c b s) k l h g =
      (rw (need_by-append s k l) h.0, rw (need_by-append s k l) h.1, rw (need_by-append s k l) h.2, rw (need_by-append s k l) h.3, fits_by-append s k l h.4 g)
  fits_by-append (Enter n b s) k l h g = (rw (need_by-append s k l) h.0, fits_by-append s k l h.1 g)
  fits_by-append (EnterClass n c b s) k l h g = (h.0, rw (need_by-append s k l) h.1, fits_by-append s k l h.2 g)
  fits_by-append (Exit n r s) k l h g = fits_by-append s k l h g

  pub need_by-turn : (n : Note) (c b k : Code) (l : List S) → FitsBy Suits u (While n c b k) l
      → need_by u (c ⧺ again n c b k) l ≡ need_by u k l
  need_by-turn n c b k l h =
      need_by-append c (again n c b k) l
      ∙ ap (λ m. need_by u c (u.flag ∷ m)) (need_by-append b (While n c b Done) (need_by u k l) ∙ h.1) ∙ h.0

  pub fits_by-turn : (n : Note) (c b k : Code) (l : List S) → FitsBy Suits u (While n c b k) l → FitsBy Suits u (c ⧺ again n c b k) l
  fits_by-turn n c b k l h =
      let inner : need_by u (b ⧺ While n c b Done) (need_by u k l) ≡ need_by u k l =
      need_by-append b (While n c b Done) (need_by u k l) ∙ h.1 in
      fits_by-append c (again n c b k) l (rw inner h.2)
      (inner, fits_by-append b (While n c b Done) (need_by u k l) h.3 (h.0, h.1, h.2, h.3, tt), tt, h.4)

module _ (p : Program) (T : Types) (u : UnitTypes) where
  pub need-append : (a k : Code) (l : List Ty) → need p T u (a ⧺ k) l ≡ need p T u a (need p T u k l)
  need-append a k l = need_by-append (Suits T) (by_type p T u) a k l

  pub fits-append : (a k : Code) (l : List Ty) → Fits p T u a (need p T u k l) → Fits p T u k l → Fits p T u (a ⧺ k) l
  fits-append a k l h g = fits_by-append (Suits T) (by_type p T u) a k l h g

  pub need-turn : (n : Note) (c b k : Code) (l : List Ty) → Fits p T u (While n c b k) l
      → need p T u (c ⧺ again n c b k) l ≡ need p T u k l
  need-turn n c b k l h = need_by-turn (Suits T) (by_type p T u) n c b k l h

  pub fits-turn : (n : Note) (c b k : Code) (l : List Ty) → Fits p T u (While n c b k) l → Fits p T u (c ⧺ again n c b k) l
  fits-turn n c b k l h = fits_by-turn (Suits T) (by_type p T u) n c b k l h

-- ---- reading locals

pub reads-append : (i : ℕ) (a k : Code) (l : Bool) → reads i (a ⧺ k) l ≡ reads i a (reads i k l)
reads-append i Done k l = refl
reads-append i (Do n p s) k l = ap (reads_by i p) (reads-append i s k l)
reads-append i (If n a b s) k l = ap (λ m. reads i a m || reads i b m) (reads-append i s k l)
reads-append i (While n c b s) k l = ap (λ m. reads i c (reads i b false || m)) (reads-append i s k l)
reads-append i (Enter n b s) k l = ap (λ m. reads i b m) (reads-append i s k l)
reads-append i (EnterClass n c b s) k l = ap (λ m. reads i b m) (reads-append i s k l)
reads-append i (Exit n r s) k l = reads-append i s k l

-- what a loop says of its second turn, it says of its first
twice : (f g : Bool → Bool) (l m : Bool) → f (g false || l) ≡ m → f (g m || l) ≡ true → m ≡ true
twice f g l true e h = refl
twice f g l false e h = sym e ∙ h

pub reads-turn : (i : ℕ) (n : Note) (c b k : Code) (l : Bool) → reads i (c ⧺ again n c b k) l ≡ true → reads i (While n c b k) l ≡ true
reads-turn i n c b k l h =
    twice (reads i c) (reads i b) (reads i k l) (reads i (While n c b k) l) refl
    (ap (λ m. reads i c (m || reads i k l)) (sym (reads-append i b (While n c b Done) (reads i k l))) ∙ sym (reads-append i c (again n c b k) l) ∙ h)

-- ---- coming to an end

pub or-left : (a b : Bool) → a ≡ true → a || b ≡ true
or-left true b h = refl
or-left false b h = absurd (let no : ⊥ = cc in no)

pub or-right : (a b : Bool) → b ≡ true → a || b ≡ true
or-right true b h = refl
or-right false b h = h

or-map : (a b c d : Bool) → (a ≡ true → c ≡ true) → (b ≡ true → d ≡ true) → a || b ≡ true → c || d ≡ true
or-map true b c d f g h = or-left c d (f refl)
or-map false b c d f g h = or-right c d (g h)

and-map : (a b c : Bool) → (b ≡ true → c ≡ true) → a && b ≡ true → a && c ≡ true
and-map true b c f h = f h
and-map false b c f h = h

if-map : (x a b c d : Bool) → (a ≡ true → c ≡ true) → (b ≡ true → d ≡ true) → (if x then a else b) ≡ true → (if x then c else d) ≡ true
if-map true a b c d f g h = f h
if-map false a b c d f g h = g h

ends-by-map : (p : Plain) (a b : Bool) → (a ≡ true → b ≡ true) → ends_by p a ≡ true → ends_by p b ≡ true
ends-by-map (plain.Const v) a b f h = f h
ends-by-map (plain.Get i) a b f h = f h
ends-by-map (plain.Set i) a b f h = f h
ends-by-map plain.Drop a b f h = f h
ends-by-map (plain.Field i) a b f h = f h
ends-by-map (plain.FieldKeep i) a b f h = f h
ends-by-map (plain.PutField i) a b f h = f h
ends-by-map (plain.Static c i) a b f h = f h
ends-by-map (plain.PutStatic c i) a b f h = f h
ends-by-map (plain.Make c n) a b f h = f h
ends-by-map plain.MakePlain a b f h = f h
ends-by-map (plain.Call m n) a b f h = f h
ends-by-map (plain.CallStatic c m n) a b f h = f h
ends-by-map (plain.Op o) a b f h = f h
ends-by-map plain.Neg a b f h = f h
ends-by-map plain.Not a b f h = f h
ends-by-map plain.Start a b f h = f h
ends-by-map plain.Return a b f h = h
ends-by-map plain.ReturnValue a b f h = h

-- where more may end after the code, more may end
pub ends-map : (known : Bool) (k : Code) (l m : Bool) → (l ≡ true → m ≡ true) → ends known k l ≡ true → ends known k m ≡ true
ends-map known Done l m f h = f h
ends-map known (Do n p k) l m f h = ends-by-map p _ _ (ends-map (pushes_true p) k l m f) h
ends-map known (If n a b k) l m f h =
    or-map (ends false a (ends false k l)) (not known && ends false b (ends false k l)) (ends false a (ends false k m)) (not known && ends false b (ends false k m))
    (ends-map false a (ends false k l) (ends false k m) (ends-map false k l m f))
    (and-map (not known) (ends false b (ends false k l)) (ends false b (ends false k m))
    (ends-map false b (ends false k l) (ends false k m) (ends-map false k l m f))) h
ends-map known (While n c b k) l m f h =
    if-map (is_always_true c) (ends false b false) (ends false c (ends false b false || ends false k l)) (ends false b false)
    (ends false c (ends false b false || ends false k m)) (λ x. x)
    (ends-map false c (ends false b false || ends false k l) (ends false b false || ends false k m)
    (or-map (ends false b false) (ends false k l) (ends false b false) (ends false k m) (λ x. x) (ends-map false k l m f))) h
ends-map known (Enter n b k) l m f h = ends-map false b (ends false k l) (ends false k m) (ends-map false k l m f) h
ends-map known (EnterClass n c b k) l m f h = ends-map false b (ends false k l) (ends false k m) (ends-map false k l m f) h
ends-map known (Exit n r k) l m f h = ends-map false k l m f h

-- where less is known, more may end
pub ends-known : (known : Bool) (k : Code) (l : Bool) → ends known k l ≡ true → ends false k l ≡ true
ends-known true Done l h = h
ends-known true (Do n p k) l h = h
ends-known true (If n a b k) l h =
    or-map (ends false a (ends false k l)) false (ends false a (ends false k l)) (ends false b (ends false k l)) (λ x. x)
    (λ x. absurd (let no : ⊥ = cc in no)) h
ends-known true (While n c b k) l h = h
ends-known true (Enter n b k) l h = h
ends-known true (EnterClass n c b k) l h = h
ends-known true (Exit n r k) l h = h
ends-known false k l h = h

pub ends-append : (known : Bool) (a k : Code) (l : Bool) → ends known (a ⧺ k) l ≡ true → ends known a (ends false k l) ≡ true
ends-append known Done k l h = ends-known known k l h
ends-append known (Do n p s) k l h = ends-by-map p _ _ (ends-append (pushes_true p) s k l) h
ends-append known (If n a b s) k l h =
    or-map (ends false a (ends false (s ⧺ k) l)) (not known && ends false b (ends false (s ⧺ k) l))
    (ends false a (ends false s (ends false k l))) (not known && ends false b (ends false s (ends false k l)))
    (ends-map false a (ends false (s ⧺ k) l) (ends false s (ends false k l)) (ends-append false s k l))
    (and-map (not known) (ends false b (ends false (s ⧺ k) l)) (ends false b (ends false s (ends false k l)))
    (ends-map false b (ends false (s ⧺ k) l) (ends false s (ends false k l)) (ends-append false s k l))) h
ends-append known (While n c b s) k l h =
    if-map (is_always_true c) (ends false b false) (ends false c (ends false b false || ends false (s ⧺ k) l)) (ends false b false)
    (ends false c (ends false b false || ends false s (ends false k l))) (λ x. x)
    (ends-map false c (ends false b false || ends false (s ⧺ k) l) (ends false b false || ends false s (ends false k l))
    (or-map (ends false b false) (ends false (s ⧺ k) l) (ends false b false) (ends false s (ends false k l)) (λ x. x) (ends-append false s k l))) h
ends-append known (Enter n b s) k l h =
    ends-map false b (ends false (s ⧺ k) l) (ends false s (ends false k l)) (ends-append false s k l) h
ends-append known (EnterClass n c b s) k l h =
    ends-map false b (ends false (s ⧺ k) l) (ends false s (ends false k l)) (ends-append false s k l) h
ends-append known (Exit n r s) k l h = ends-append false s k l h

-- a loop on the constant true
ends-forever : (n m : Note) (q : Plain) (b k : Code) (l : Bool) → pushes_true q ≡ true
    → ends_by q (ends (pushes_true q) (again n (Do m q Done) b k) l) ≡ true → ends false b false ≡ true
ends-forever n m (plain.Const v) b k l t h =
    let w : Bool → Bool = λ x. ends false b x in
    let is : ends true (again n (Do m (plain.Const v) Done) b k) l ≡ true = ap (λ x. ends x (again n (Do m (plain.Const v) Done) b k) l) (sym t) ∙ h in
    let inner : ends false (b ⧺ While n (Do m (plain.Const v) Done) b Done) (ends false k l) ≡ true =
    or-only (ends false (b ⧺ While n (Do m (plain.Const v) Done) b Done) (ends false k l)) is in
    let loop : ends false (While n (Do m (plain.Const v) Done) b Done) (ends false k l) ≡ ends false b false = rw t refl in
    twice (λ x. x) w false (ends false b false) (or-false (ends false b false)) (or-wide (ends false b (ends false b false)) (rw (← loop) (ends-append false b (While n (Do m (plain.Const v) Done) b Done) (ends false k l) inner)))
  where
    or-only : (a : Bool) → a || false ≡ true → a ≡ true
    or-only true h = refl
    or-only false h = h

    or-false : (a : Bool) → a || false ≡ a
    or-false true = refl
    or-false false = refl

    or-wide : (a : Bool) → a ≡ true → a || false ≡ true
    or-wide true h = refl
    or-wide false h = h
ends-forever n m (plain.Get i) b k l t h = absurd (let no : ⊥ = cc in no)
ends-forever n m (plain.Set i) b k l t h = absurd (let no : ⊥ = cc in no)
ends-forever n m plain.Drop b k l t h = absurd (let no : ⊥ = cc in no)
ends-forever n m (plain.Field i) b k l t h = absurd (let no : ⊥ = cc in no)
ends-forever n m (plain.FieldKeep i) b k l t h = absurd (let no : ⊥ = cc in no)
ends-forever n m (plain.PutField i) b k l t h = absurd (let no : ⊥ = cc in no)
ends-forever n m (plain.Static c i) b k l t h = absurd (let no : ⊥ = cc in no)
ends-forever n m (plain.PutStatic c i) b k l t h = absurd (let no : ⊥ = cc in no)
ends-forever n m (plain.Make c j) b k l t h = absurd (let no : ⊥ = cc in no)
ends-forever n m plain.MakePlain b k l t h = absurd (let no : ⊥ = cc in no)
ends-forever n m (plain.Call j i) b k l t h = absurd (let no : ⊥ = cc in no)
ends-forever n m (plain.CallStatic c j i) b k l t h = absurd (let no : ⊥ = cc in no)
ends-forever n m (plain.Op o) b k l t h = absurd (let no : ⊥ = cc in no)
ends-forever n m plain.Neg b k l t h = absurd (let no : ⊥ = cc in no)
ends-forever n m plain.Not b k l t h = absurd (let no : ⊥ = cc in no)
ends-forever n m plain.Start b k l t h = absurd (let no : ⊥ = cc in no)
ends-forever n m plain.Return b k l t h = absurd (let no : ⊥ = cc in no)
ends-forever n m plain.ReturnValue b k l t h = absurd (let no : ⊥ = cc in no)

ends-loop : (known : Bool) (n : Note) (c b k : Code) (l : Bool) → is_always_true c ≡ false
    → ends known (c ⧺ again n c b k) l ≡ true → ends false c (ends false b false || ends false k l) ≡ true
ends-loop known n c b k l never h =
    let whole : Bool = ends false c (ends false b false || ends false k l) in
    let loop : (m : Bool) → ends false (While n c b Done) m ≡ ends false c (ends false b false || m) = λ m. rw never (refl {a = ends false c (ends false b false || m)}) in
    let first : ends false c (ends false (again n c b k) l) ≡ true = ends-known known c (ends false (again n c b k) l) (ends-append known c (again n c b k) l h) in
    let more : ends false (again n c b k) l ≡ true → ends false b whole || ends false k l ≡ true = λ x.
    or-map (ends false (b ⧺ While n c b Done) (ends false k l)) (ends false k l) (ends false b whole) (ends false k l)
    (λ y. rw (← loop (ends false k l)) (ends-append false b (While n c b Done) (ends false k l) y)) (λ y. y) x in
    twice (ends false c) (ends false b) (ends false k l) whole (refl {a = whole})
    (ends-map false c (ends false (again n c b k) l) (ends false b whole || ends false k l) more first)

and-none : (a : Bool) → a && false ≡ false
and-none true = refl
and-none false = refl

other : (m : Note) (q : Plain) (s : Code) → is_done s ≡ false → (known : Bool) (n : Note) (b k : Code) (l : Bool)
    → ends known (Do m q s ⧺ again n (Do m q s) b k) l ≡ true → ends known (While n (Do m q s) b k) l ≡ true
other m q s more known n b k l h =
    let never : is_always_true (Do m q s) ≡ false = rw more (and-none (pushes_true q)) in
    rw never (ends-loop known n (Do m q s) b k l never h)

pub ends-turn : (known : Bool) (n : Note) (c b k : Code) (l : Bool) → ends known (c ⧺ again n c b k) l ≡ true → ends known (While n c b k) l ≡ true
ends-turn known n Done b k l h = ends-loop known n Done b k l refl h
ends-turn known n (Do m q Done) b k l h = chosen (pushes_true q) refl
  where
    chosen : (x : Bool) → pushes_true q ≡ x → (if (pushes_true q && true) then ends false b false else ends false (Do m q Done) (ends false b false || ends false k l)) ≡ true
    chosen true e = rw e (ends-forever n m q b k l e h)
    chosen false e = rw e (ends-loop known n (Do m q Done) b k l (rw e refl) h)
ends-turn known n (Do m q (Do i r s)) b k l h = other m q (Do i r s) refl known n b k l h
ends-turn known n (Do m q (If i x y s)) b k l h = other m q (If i x y s) refl known n b k l h
ends-turn known n (Do m q (While i x y s)) b k l h = other m q (While i x y s) refl known n b k l h
ends-turn known n (Do m q (Enter i x s)) b k l h = other m q (Enter i x s) refl known n b k l h
ends-turn known n (Do m q (EnterClass i x y s)) b k l h = other m q (EnterClass i x y s) refl known n b k l h
ends-turn known n (Do m q (Exit i r s)) b k l h = other m q (Exit i r s) refl known n b k l h
ends-turn known n (If m x y s) b k l h = ends-loop known n (If m x y s) b k l refl h
ends-turn known n (While m x y s) b k l h = ends-loop known n (While m x y s) b k l refl h
ends-turn known n (Enter m x s) b k l h = ends-loop known n (Enter m x s) b k l refl h
ends-turn known n (EnterClass m x y s) b k l h = ends-loop known n (EnterClass m x y s) b k l refl h
ends-turn known n (Exit m r s) b k l h = ends-loop known n (Exit m r s) b k l refl h
