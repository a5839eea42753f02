-- What promises require is the same where the same is shown of the types that they name.
use Rattle.std.proofs.Common.{◌≡◌, ℕ, ◌+◌, Bool, true, false, cond, List, [], ◌∷◌, ◌++◌, map, refl, sym, ◌∙◌, ap, subst}
use mathlib.Core.Bool.{◌&&◌, ◌||◌}
use Rattle.std.specs.Prelude.{Option, Some, None, Contains, filter, codes}
use Rattle.std.specs.List.{flat_map}
use Rattle.std.specs.Str.{bytes_eq}
use Rattle.std.proofs.lemmas.List.Elements.{Contains-append_left, Contains-append_right, Contains-push}
use Rattle.std.proofs.lemmas.Slice.Eq.{bytes_eq-Decides}
use Rattle.class_faces.specs.declared.face.FaceTy.{FaceTy}
use Rattle.class_faces.specs.declared.face.FaceTy.TheVariants as ty
use Rattle.class_faces.specs.declared.face.MemberFace.{MemberFace}
use Rattle.class_faces.specs.declared.face.ParamFace.{ParamFace}
use Rattle.promise_grammar.specs.declared.tree.PromiseTree.{PromiseTree, out-PromiseTree}
use Rattle.promise_grammar.specs.declared.tree.PromiseTree.TheOpen.{PromiseTree-F}
use Rattle.promise_scrub.specs.declared.surface.Standing.{Standing}
use Rattle.views.specs.Face.{Face}
use Rattle.views.specs.Looks.{member_in, standing_at}
use Rattle.lock_findings.specs.declared.lock.Need.{Need}
use Rattle.lock_findings.specs.declared.own.OwnNeed.{OwnNeed}
use Rattle.bound_unit.specs.Names.{Faces, Name, content_names, is_param, lock_names, lock_owner, member_names, names_at, owner_names, param_names, promise_names, standing_names, type_names}
use Rattle.lock_check.specs.Locks.{lock_holder}
use Rattle.lock_check.specs.Needs.{holder_for, is_lock_content, is_named, is_type_name, lock_word, need_of, need_with, needs_at, of_class, of_param, of_this, owner_by, owner_from, owner_of, params_at, params_of, asks_lock, type_word}
use Rattle.lock_check.specs.Owned.{own_need_if, own_needs, own_needs_from, place_at}

-- ---- names

-- the same is shown of each of the names
abbrev pub Same : Faces → Faces → List Name → Type 0
Same F G names = (n : Name) → Contains names n → F n ≡ G n

pub same_left : (F G : Faces) (xs ys : List Name) → Same F G (xs ++ ys) → Same F G xs
same_left F G xs ys s = λ n h. s n (Contains-append_left xs ys n h)

pub same_right : (F G : Faces) (xs ys : List Name) → Same F G (xs ++ ys) → Same F G ys
same_right F G xs ys s = λ n h. s n (Contains-append_right xs ys n h)

pub same_first : (F G : Faces) (x : Name) (xs : List Name) → Same F G (x ∷ xs) → F x ≡ G x
same_first F G x xs s = s x (Contains-append_left (x ∷ []) xs x (Contains-push [] x))

pub same_rest : (F G : Faces) (x : Name) (xs : List Name) → Same F G (x ∷ xs) → Same F G xs
same_rest F G x xs s = same_right F G (x ∷ []) xs s

-- ---- tests

abbrev IsNot : Bool → Type 0
IsNot true = ⊥
IsNot false = Unit {0}

no_both : false ≡ true → ⊥
no_both e = subst IsNot e tt

-- ---- holders

type_same : (F G : Faces) (t : FaceTy) (lock : Name) → Same F G (type_names t)
    → cond (is_type_name t) (lock_holder (F (type_word t)) lock false) None ≡ cond (is_type_name t) (lock_holder (G (type_word t)) lock false) None
type_same F G ty.Int lock s = refl
type_same F G ty.Bool lock s = refl
type_same F G ty.Args lock s = refl
type_same F G (ty.Named c) lock s = ap (λ (f : Option Face). lock_holder f lock false) (same_first F G c [] s)

from_same : (F G : Faces) (i : ℕ) (params : List ParamFace) (name lock : Name) → Same F G (flat_map param_names params)
    → (is_param params name ≡ false → F name ≡ G name)
    → holder_for F (owner_from i params name) lock ≡ holder_for G (owner_from i params name) lock
from_same F G i [] name lock s last = ap (λ (f : Option Face). lock_holder f lock true) (last refl)
from_same F G i (p ∷ ps) name lock s last =
    go (is_named name p) refl
    (λ h. from_same F G (i + 1) ps name lock (same_right F G (param_names p) (flat_map param_names ps) s) h)
  where
    go : (b : Bool) → is_named name p ≡ b
        → ((is_param ps name ≡ false → F name ≡ G name) → holder_for F (owner_from (i + 1) ps name) lock ≡ holder_for G (owner_from (i + 1) ps name) lock)
        → holder_for F (cond b (of_param i p) (owner_from (i + 1) ps name)) lock ≡ holder_for G (cond b (of_param i p) (owner_from (i + 1) ps name)) lock
    go true e more = type_same F G p.ty lock (same_left F G (param_names p) (flat_map param_names ps) s)
    go false e more = more (λ h. last (ap (λ (b : Bool). b || is_param ps name) e ∙ h))

owner_same : (F G : Faces) (class : Name) (params : List ParamFace) (bare : Bool) (name lock : Name) → F class ≡ G class
    → Same F G (flat_map param_names params) → Same F G (lock_names params name)
    → holder_for F (owner_of class params bare name) lock ≡ holder_for G (owner_of class params bare name) lock
owner_same F G class params bare name lock own s names = go (bytes_eq name (codes "this")) (bytes_eq name class && bare) refl refl
  where
    named : bytes_eq name (codes "this") ≡ false → is_param params name ≡ false → F name ≡ G name
    named e f =
        let is : lock_names params name ≡ name ∷ [] =
        ap (λ (b : Bool). cond b [] (owner_names params name)) e ∙ ap (λ (b : Bool). cond b [] (name ∷ [])) f in
        same_first F G name [] (subst (Same F G) is names)

    own_class : (a b : Bool) → (a && b) ≡ true → a ≡ true
    own_class true b e = refl
    own_class false b e = absurd (no_both e)

    go : (a b : Bool) → bytes_eq name (codes "this") ≡ a → (bytes_eq name class && bare) ≡ b
        → holder_for F (cond a (of_this class) (cond b (of_class name) (owner_from 0 params name))) lock
        ≡ holder_for G (cond a (of_this class) (cond b (of_class name) (owner_from 0 params name))) lock
    go true b e f = ap (λ (shown : Option Face). lock_holder shown lock false) own
    go false true e f =
        let is : name ≡ class = (bytes_eq-Decides name class).0 (own_class (bytes_eq name class) bare f) in
        ap (λ (shown : Option Face). lock_holder shown lock true) (ap F is ∙ own ∙ sym (ap G is))
    go false false e f = from_same F G 0 params name lock s (named e)

-- ---- promises

lock_named : (F G : Faces) (params : List ParamFace) (s : Standing) → asks_lock s ≡ true → Same F G (standing_names params s)
    → Same F G (lock_names params (lock_owner s.key.detail))
lock_named F G params s r names = go (out-PromiseTree s.tree) refl r names
  where
    go : (t : PromiseTree-F PromiseTree) → out-PromiseTree s.tree ≡ t → is_lock_content t ≡ true → Same F G (content_names params s.key t)
        → Same F G (lock_names params (lock_owner s.key.detail))
    go (PromiseTree-F.RequiresLock items) is e names = names
    go _ is e names = absurd (no_both e)

need_same : (F G : Faces) (class : Name) (params : List ParamFace) (s : Standing) → F class ≡ G class → Same F G (flat_map param_names params)
    → asks_lock s ≡ true → Same F G (standing_names params s) → need_of F class params s ≡ need_of G class params s
need_same F G class params s own types r names =
    ap (need_with s.key (owner_by class params s))
    (owner_same F G class params _ (lock_owner s.key.detail) (lock_word s.key.detail) own types (lock_named F G params s r names))

all_same : (F G : Faces) (class : Name) (params : List ParamFace) (ss : List Standing) → F class ≡ G class → Same F G (flat_map param_names params)
    → Same F G (flat_map (standing_names params) ss)
    → map (need_of F class params) (filter asks_lock ss) ≡ map (need_of G class params) (filter asks_lock ss)
all_same F G class params [] own types names = refl
all_same F G class params (s ∷ ss) own types names =
    go (asks_lock s) refl (all_same F G class params ss own types (same_right F G (standing_names params s) (flat_map (standing_names params) ss) names))
  where
    go : (b : Bool) → asks_lock s ≡ b → map (need_of F class params) (filter asks_lock ss) ≡ map (need_of G class params) (filter asks_lock ss)
        → map (need_of F class params) (cond b (s ∷ filter asks_lock ss) (filter asks_lock ss)) ≡ map (need_of G class params) (cond b (s ∷ filter asks_lock ss) (filter asks_lock ss))
    go true e more =
        ap (λ (n : Need). n ∷ map (need_of F class params) (filter asks_lock ss))
        (need_same F G class params s own types e (same_left F G (standing_names params s) (flat_map (standing_names params) ss) names))
        ∙ ap (λ (ns : List Need). need_of G class params s ∷ ns) more
    go false e more = more

own_all_same : (F G : Faces) (class : Name) (params : List ParamFace) (places : List ℕ) (i : ℕ) (ss : List Standing) → F class ≡ G class
    → Same F G (flat_map param_names params) → Same F G (flat_map (standing_names params) ss)
    → own_needs_from (need_of F class params) places i ss ≡ own_needs_from (need_of G class params) places i ss
own_all_same F G class params places i [] own types names = refl
own_all_same F G class params places i (s ∷ ss) own types names =
    go (asks_lock s) refl
    (own_all_same F G class params places (i + 1) ss own types (same_right F G (standing_names params s) (flat_map (standing_names params) ss) names))
  where
    go : (b : Bool) → asks_lock s ≡ b
        → own_needs_from (need_of F class params) places (i + 1) ss ≡ own_needs_from (need_of G class params) places (i + 1) ss
        → own_need_if b (need_of F class params s) (place_at places i) ++ own_needs_from (need_of F class params) places (i + 1) ss
        ≡ own_need_if b (need_of G class params s) (place_at places i) ++ own_needs_from (need_of G class params) places (i + 1) ss
    go true e more =
        ap (λ (n : Need). own_need_if true n (place_at places i) ++ own_needs_from (need_of F class params) places (i + 1) ss)
        (need_same F G class params s own types e (same_left F G (standing_names params s) (flat_map (standing_names params) ss) names))
        ∙ ap (λ (ns : List OwnNeed). own_need_if true (need_of G class params s) (place_at places i) ++ ns) more
    go false e more = more

-- ---- members

types_named : (F G : Faces) (shown : Option Face) (unit : Name) (m : Option MemberFace) → Same F G (names_at shown unit m)
    → Same F G (flat_map param_names (params_of m))
types_named F G shown unit None s = same_left F G [] _ s
types_named F G shown unit (Some m) s = same_left F G (flat_map param_names m.params) _ s

promises_named : (F G : Faces) (shown : Option Face) (unit : Name) (m : Option MemberFace) → Same F G (names_at shown unit m)
    → Same F G (promise_names (params_of m) shown unit)
promises_named F G shown unit None s = s
promises_named F G shown unit (Some m) s = same_right F G _ _ (same_right F G (flat_map param_names m.params) _ s)

pub needs_same : (F G : Faces) (class unit : Name) → F class ≡ G class → Same F G (member_names (F class) unit) → needs_at F class unit ≡ needs_at G class unit
needs_same F G class unit own names =
    all_same F G class (params_at F class unit) (standing_at (F class) unit) own
    (types_named F G (F class) unit (member_in (F class) unit) names)
    (promises_named F G (F class) unit (member_in (F class) unit) names)
    ∙ ap (λ (f : Option Face). map (need_of G class (params_of (member_in f unit))) (filter asks_lock (standing_at f unit))) own

pub own_needs_same : (F G : Faces) (class unit : Name) (places : List ℕ) → F class ≡ G class → Same F G (member_names (F class) unit)
    → own_needs F class unit places ≡ own_needs G class unit places
own_needs_same F G class unit places own names =
    own_all_same F G class (params_at F class unit) places 0 (standing_at (F class) unit) own
    (types_named F G (F class) unit (member_in (F class) unit) names)
    (promises_named F G (F class) unit (member_in (F class) unit) names)
    ∙ ap (λ (f : Option Face). own_needs_from (need_of G class (params_of (member_in f unit))) places 0 (standing_at f unit)) own
