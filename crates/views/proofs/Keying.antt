-- Keys of promises that tie are one key, and what is found among the assumptions that have effect.
use Rattle.std.proofs.Common.{◌≡◌, ℕ, List, [], ◌∷◌, refl, sym, ◌∙◌, ap, subst, rules, Bool, true, false, cond}
use mathlib.Core.Bool.{◌&&◌, not}
use Rattle.std.specs.Prelude.{Option, Some, None, find, filter}
use Rattle.std.specs.Ordering.{nat_cmp, ordering_then, is_eq}
use Rattle.std.specs.Cmp.Lexicographic.{slice_cmp}
use Rattle.std.specs.declared.cmp.Ordering.{Ordering}
use Rattle.std.specs.declared.cmp.Ordering.TheVariants.{Less, Equal, Greater}
use Rattle.std.proofs.lemmas.Map.Lookups.{exact_bytes}
use denote.Enum.Bare.{same_true}
use Rattle.desk_base.specs.declared.key.PromiseKey.{PromiseKey}
use Rattle.desk_base.specs.declared.key.PromiseName.{PromiseName}
use Rattle.desk_base.specs.contracts.key.PromiseName.{the_type}
use Rattle.desk_base.specs.contracts.key.PromiseNameOrd.TheImpl as name_ord
use Rattle.desk_base.specs.contracts.key.PromiseNameOrd.TheImpl.Laws as name_laws
use Rattle.promise_scrub.specs.declared.surface.Assumption.{Assumption}
use Rattle.promise_scrub.specs.declared.surface.Surface.{Surface}
use Rattle.views.specs.declared.kind.FaceKind.{FaceKind}
use Rattle.views.specs.Face.{Face, Seen, assumptions_in, assumptions_of, face, face_of, has_member, key_cmp, same_key, stands, takes_effect}
use Rattle.views.specs.Looks.{assumed_in}
use Rattle.views.specs.Seeing.{IsOwn}

exact_name : (x y : PromiseName) → (name_ord.ghosts).cmp x y ≡ Equal → x ≡ y
exact_name x y h = same_true the_type (search rules) x y (name_laws.matches_eq-law x y ∙ ap (λ (o : Ordering). is_eq o) h)

both_tie : (a b : Ordering) → ordering_then a b ≡ Equal → (a ≡ Equal) × (b ≡ Equal)
both_tie Less b h = absurd (cc)
both_tie Equal b h = (refl, h)
both_tie Greater b h = absurd (cc)

exact_keys : (x y : PromiseKey) → key_cmp x y ≡ Equal → x ≡ y
exact_keys x y h =
    let tied : ordering_then (slice_cmp nat_cmp x.target y.target) (ordering_then ((name_ord.ghosts).cmp x.name y.name) (slice_cmp nat_cmp x.detail y.detail)) ≡ Equal = h in
    let first = both_tie _ _ tied in
    let rest = both_tie _ _ first.1 in
    same x.target y.target x.name y.name x.detail y.detail (exact_bytes x.target y.target first.0) (exact_name x.name y.name rest.0) (exact_bytes x.detail y.detail rest.1)
  where
    same : (t u : List ℕ) (m n : PromiseName) (d e : List ℕ) → t ≡ u → m ≡ n → d ≡ e
        → (let a : PromiseKey = record { target = t; name = m; detail = d } in let b : PromiseKey = record { target = u; name = n; detail = e } in a ≡ b)
    same t u m n d e p q r = cc

equal_of : (o : Ordering) → is_eq o ≡ true → o ≡ Equal
equal_of Less h = absurd cc
equal_of Equal h = refl
equal_of Greater h = absurd cc

-- one key
pub same_key-is : (x y : PromiseKey) → same_key x y ≡ true → x ≡ y
same_key-is x y h = exact_keys x y (equal_of (key_cmp x y) h)

-- an assumption of the key has effect on the type
abbrev pub has_effect : Surface → PromiseKey → Bool
has_effect s key = has_member s.members key.target && not (stands s.standing key)

one_of : (e h : Bool) (has : Bool) (a : Assumption) (more all : Option Assumption) → (h ≡ true → e ≡ has) → more ≡ cond has all None
    → cond e (cond h (Some a) more) more ≡ cond has (cond h (Some a) all) None
one_of true true has a more all same m = let e : has ≡ true = sym (same refl) in sym (ap (λ (b : Bool). cond b (Some a) None) e)
one_of true false has a more all same m = m
one_of false true has a more all same m =
    let e : has ≡ false = sym (same refl) in
    m ∙ ap (λ (b : Bool). cond b all None) e ∙ sym (ap (λ (b : Bool). cond b (Some a) None) e)
one_of false false has a more all same m = m

find_kept : (e : Bool) (t : Assumption → Bool) (a : Assumption) (xs : List Assumption) → find t (cond e (a ∷ xs) xs) ≡ cond e (cond (t a) (Some a) (find t xs)) (find t xs)
find_kept true t a xs = refl
find_kept false t a xs = refl

cond_same : (b : Bool) (o : Option Assumption) → o ≡ cond b o o
cond_same true o = refl
cond_same false o = refl

-- of the assumptions that have effect the first of a key is the first of all, where one of that key has effect
pub find-assumed : (s : Surface) (key : PromiseKey) (xs : List Assumption)
    → find (λ a. same_key a.key key) (filter (takes_effect s) xs) ≡ cond (has_effect s key) (find (λ a. same_key a.key key) xs) None
find-assumed s key [] = cond_same (has_effect s key) None
find-assumed s key (a ∷ xs) =
    find_kept (takes_effect s a) (λ (x : Assumption). same_key x.key key) a (filter (takes_effect s) xs)
    ∙ one_of (takes_effect s a) (same_key a.key key) (has_effect s key) a (find (λ x. same_key x.key key) (filter (takes_effect s) xs)) (find (λ x. same_key x.key key) xs)
    (λ h. ap (has_effect s) (same_key-is a.key key h))
    (find-assumed s key xs)

-- the assumptions of a view's class
pub own-assumptions : (seen : Seen) (surfaces : List Surface) (own : Surface) → (let view : Seen = record { surfaces = surfaces; class = own.name } in view ≡ seen) → IsOwn surfaces own
    → assumptions_of seen ≡ own.assumptions
own-assumptions seen surfaces own is o = sym (ap assumptions_of is) ∙ ap assumptions_in o.among

-- what is assumed at a type that is shown
pub assumed-shown : (seen : Seen) (name : List ℕ) (k : FaceKind) (s own : Surface) (key : PromiseKey) (r : Option Assumption)
    → face seen name ≡ Some (face_of (assumptions_of seen) seen.class (record { kind = k; surface = s })) → assumptions_of seen ≡ own.assumptions
    → has_effect s key ≡ true → r ≡ find (λ a. same_key a.key key) own.assumptions → r ≡ assumed_in (face seen name) key
assumed-shown seen name k s own key r shown is has e =
    e ∙ ap (λ (xs : List Assumption). find (λ a. same_key a.key key) xs) (sym is)
    ∙ sym (ap (λ (f : Option Face). assumed_in f key) shown ∙ find-assumed s key (assumptions_of seen)
    ∙ ap (λ (b : Bool). cond b (find (λ a. same_key a.key key) (assumptions_of seen)) None) has)

pub assumed-none : (seen : Seen) (name : List ℕ) (k : FaceKind) (s : Surface) (key : PromiseKey)
    → face seen name ≡ Some (face_of (assumptions_of seen) seen.class (record { kind = k; surface = s }))
    → has_effect s key ≡ false → None ≡ assumed_in (face seen name) key
assumed-none seen name k s key shown has =
    sym (ap (λ (f : Option Face). assumed_in f key) shown ∙ find-assumed s key (assumptions_of seen)
    ∙ ap (λ (b : Bool). cond b (find (λ a. same_key a.key key) (assumptions_of seen)) None) has)
