-- Fields keep their types as objects are written, entered and made.
use Rattle.std.proofs.Common.{◌≡◌, ℕ, zero, suc, ◌+◌, ◌<◌, ⊎_elim, List, [], ◌∷◌, ◌++◌, Option, Some, None, length, replicate, slice_get, slice_set, refl, sym, ap, ◌∙◌, subst, arith}
use Rattle.std.proofs.lemmas.Bool.Decides.{eqb_tells}
use Rattle.core_model.specs.Objects.{put_for, changed, new_object, fresh_object, fresh_count, initial_values, own_initials, made}
use Rattle.core_model.specs.declared.program.Program.{Program}
use Rattle.core_model.specs.declared.program.ClassInfo.{ClassInfo}
use Rattle.core_model.specs.declared.program.Initial.{Initial}
use Rattle.core_model.specs.declared.program.Initial.TheVariants.{Held, FreshObject}
use Rattle.core_model.specs.declared.object.Obj.{Obj}
use Rattle.core_model.specs.declared.object.ObjKind.TheVariants as kind
use Rattle.core_model.specs.declared.value.Value.TheVariants as value
use Rattle.core_laws.specs.Shape.{kind_of}
use Rattle.core_laws.proofs.Owners.{get-set, get-other}
use Rattle.core_laws.proofs.Shaping.{change-kind, append-kind}
use Rattle.core_types.specs.Types.{Ty, Types, of_class}
use Rattle.core_types.specs.Belonging.{AllBelong}
use Rattle.core_types.specs.Programs.{InitialsFit}
use Rattle.core_types.specs.Configs.{fields_types, FieldsFit}
use Rattle.core_types.proofs.Widening.{Grows, belongs-grows, all-grow}

pub some-is : {A : Type 0} {x y : A} → Some x ≡ Some y → x ≡ y
some-is e = cc

abbrev pub Holders : Program → List Obj → Type 0
Holders p os = (k : ℕ) (info : ClassInfo) → slice_get p.classes k ≡ Some info → kind_of (slice_get os k) ≡ Some (kind.Holder k)

abbrev pub ObjFits : Types → List Obj → Obj → Type 0
ObjFits T os o = AllBelong T os o.fields (fields_types T o.kind)

pub grows-append : (os ns : List Obj) → Grows os (os ++ ns)
grows-append os ns r k e = append-kind os ns r k e

pub grows-changed : (os : List Obj) (r : ℕ) (f : Obj → Obj) → ((x : Obj) → (f x).kind ≡ x.kind) → Grows os (changed os r f)
grows-changed os r f same q k e = change-kind os r q (slice_get os r) f same refl ∙ e

pub grows-none : (ns : List Obj) → Grows [] ns
grows-none ns r k e = absurd (let no : ⊥ = cc in no)

pub holders-grow : (p : Program) (os ns : List Obj) → Grows os ns → Holders p os → Holders p ns
holders-grow p os ns g h = λ k info e. g k (kind.Holder k) (h k info e)

fields-put : (T : Types) (os : List Obj) (r : ℕ) (o : Option Obj) (f : Obj → Obj) → slice_get os r ≡ o
    → Grows os (put_for os r o f) → ((x : Obj) → slice_get os r ≡ Some x → ObjFits T os x → ObjFits T os (f x)) → FieldsFit T os
    → FieldsFit T (put_for os r o f)
fields-put T os r None f e g keeps h = h
fields-put T os r (Some o) f e g keeps h = λ q x there.
    ⊎_elim
    (λ y. let is : f o ≡ x = some-is (sym (get-set os r o (f o) e) ∙ ap (slice_get (slice_set os r (f o))) y.1 ∙ there) in
    subst (ObjFits T (slice_set os r (f o))) is (all-grow T os (slice_set os r (f o)) (f o).fields (fields_types T (f o).kind) g (keeps o e (h r o e))))
    (λ n. all-grow T os (slice_set os r (f o)) x.fields (fields_types T x.kind) g (h q x (sym (get-other os r q (f o) n.1) ∙ there)))
    (eqb_tells r q)

pub fields-changed : (T : Types) (os : List Obj) (r : ℕ) (f : Obj → Obj) → ((x : Obj) → (f x).kind ≡ x.kind)
    → ((x : Obj) → slice_get os r ≡ Some x → ObjFits T os x → ObjFits T os (f x)) → FieldsFit T os → FieldsFit T (changed os r f)
fields-changed T os r f same keeps h = fields-put T os r (slice_get os r) f refl (grows-changed os r f same) keeps h

pub append-each : (P : Obj → Type 0) (os ns : List Obj) → ((r : ℕ) (o : Obj) → slice_get os r ≡ Some o → P o)
    → ((r : ℕ) (o : Obj) → slice_get ns r ≡ Some o → P o) → (r : ℕ) (o : Obj) → slice_get (os ++ ns) r ≡ Some o → P o
append-each P [] ns h g r o e = g r o e
append-each P (x ∷ os) ns h g zero o e = h zero o e
append-each P (x ∷ os) ns h g (suc r) o e = append-each P os ns (λ q y f. h (suc q) y f) g r o e

pub fields-append : (T : Types) (os ns : List Obj) → FieldsFit T os → ((r : ℕ) (o : Obj) → slice_get ns r ≡ Some o → ObjFits T (os ++ ns) o)
    → FieldsFit T (os ++ ns)
fields-append T os ns h g =
    append-each (ObjFits T (os ++ ns)) os ns
    (λ r o e. all-grow T os (os ++ ns) o.fields (fields_types T o.kind) (grows-append os ns) (h r o e)) g

pub fresh-fit : (T : Types) (ns : List Obj) (n r : ℕ) (o : Obj) → slice_get (replicate n fresh_object) r ≡ Some o → ObjFits T ns o
fresh-fit T ns zero r o e = absurd (let no : ⊥ = cc in no)
fresh-fit T ns (suc n) zero o e = subst (ObjFits T ns) (some-is e) tt
fresh-fit T ns (suc n) (suc r) o e = fresh-fit T ns n r o e

-- ---- objects as they are made

pub get-past : (xs ys : List Obj) (i j : ℕ) → j ≡ length xs + i → slice_get (xs ++ ys) j ≡ slice_get ys i
get-past [] ys i j e = let same : j ≡ i = omega (arith, e) in ap (slice_get ys) same
get-past (x ∷ xs) ys i zero e = absurd (omega (arith, e))
get-past (x ∷ xs) ys i (suc j) e = let less : j ≡ length xs + i = omega (arith, e) in get-past xs ys i j less

pub fresh-at : (n j : ℕ) → j < n → kind_of (slice_get (replicate n fresh_object) j) ≡ Some kind.Plain
fresh-at zero j h = absurd (omega (arith, h))
fresh-at (suc n) zero h = refl
fresh-at (suc n) (suc j) h = fresh-at n j (omega (arith, h))

-- from n on there are so many fresh Objects
abbrev pub FreshFrom : List Obj → ℕ → ℕ → Type 0
FreshFrom ns n m = (j : ℕ) → j < m → kind_of (slice_get ns (n + j)) ≡ Some kind.Plain

pub initials-belong : (T : Types) (ns : List Obj) (n : ℕ) (is : List Initial) (ts : List Ty) → FreshFrom ns n (fresh_count is) → InitialsFit T is ts
    → AllBelong T ns (initial_values n is) ts
initials-belong T ns n [] [] f h = tt
initials-belong T ns n [] (t ∷ ts) f h = absurd h
initials-belong T ns n (i ∷ is) [] f h = absurd h
initials-belong T ns n (Held v ∷ is) (t ∷ ts) f h =
    (belongs-grows T [] ns v t (grows-none ns) h.0, initials-belong T ns n is ts f h.1)
initials-belong T ns n (FreshObject ∷ is) (t ∷ ts) f h =
    let here : n + 0 ≡ n = omega arith in
    let first : kind_of (slice_get ns n) ≡ Some kind.Plain = ap (λ j. kind_of (slice_get ns j)) (sym here) ∙ f 0 (omega arith) in (
      h.0 ns (value.Ref n) (rw first refl),
      initials-belong T ns (n + 1) is ts
          (λ j less. let next : n + 1 + j ≡ n + (1 + j) = omega arith in
          ap (λ i. kind_of (slice_get ns i)) next ∙ f (1 + j) (omega (arith, less))) h.1,
    )

cons-each : (P : Obj → Type 0) (x : Obj) (ns : List Obj) → P x → ((r : ℕ) (o : Obj) → slice_get ns r ≡ Some o → P o)
    → (r : ℕ) (o : Obj) → slice_get (x ∷ ns) r ≡ Some o → P o
cons-each P x ns f g zero o e = subst P (some-is e) f
cons-each P x ns f g (suc r) o e = g r o e

pub fields-fresh : (T : Types) (os : List Obj) → FieldsFit T os → FieldsFit T (os ++ fresh_object ∷ [])
fields-fresh T os h = fields-append T os (fresh_object ∷ []) h (fresh-fit T (os ++ fresh_object ∷ []) 1)

pub fields-made : (T : Types) (os : List Obj) (c : ℕ) (info : ClassInfo) → InitialsFit T (own_initials info.fields) (of_class T c).own → FieldsFit T os
    → FieldsFit T (made os c info.fields)
fields-made T os c info fits h =
    let more : List Obj = replicate (fresh_count (own_initials info.fields)) fresh_object in
    let new : Obj = new_object (kind.Made c) (initial_values (length os + 1) (own_initials info.fields)) in
    let fresh : FreshFrom (os ++ new ∷ more) (length os + 1) (fresh_count (own_initials info.fields)) = λ j less.
    ap kind_of (get-past os (new ∷ more) (suc j) (length os + 1 + j) (omega arith)) ∙ fresh-at (fresh_count (own_initials info.fields)) j less in
    fields-append T os (new ∷ more) h
    (cons-each (ObjFits T (os ++ new ∷ more)) new more
    (initials-belong T (os ++ new ∷ more) (length os + 1) (own_initials info.fields) (of_class T c).own fresh fits)
    (fresh-fit T (os ++ new ∷ more) (fresh_count (own_initials info.fields))))
