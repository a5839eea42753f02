-- The field that an instruction reaches is declared.
use Rattle.std.proofs.Common.{◌≡◌, ◌<◌, ℕ, zero, suc, Bool, true, false, List, [], ◌∷◌, Option, Some, None, length, slice_get, is_some, refl, ap, ◌∙◌, subst, arith}
use Rattle.core_model.specs.Code.{Code, Done, Do, If, While, Enter, EnterClass, Exit}
use Rattle.core_model.specs.NextAccess.{access_on, access_of, field_in, declared_field, field_of_object, access_by_thread, access_by, first_plain, next_access}
use Rattle.core_model.specs.declared.instr.Known.{Known}
use Rattle.core_model.specs.declared.instr.Known.TheVariants as known
use Rattle.core_model.specs.declared.instr.Note.{Note}
use Rattle.core_model.specs.declared.instr.Plain.{Plain}
use Rattle.core_model.specs.declared.instr.Plain.TheVariants as plain
use Rattle.core_model.specs.declared.program.Program.{Program}
use Rattle.core_model.specs.declared.program.ClassInfo.{ClassInfo}
use Rattle.core_model.specs.declared.object.Obj.{Obj}
use Rattle.core_model.specs.declared.object.ObjKind.{ObjKind}
use Rattle.core_model.specs.declared.object.ObjKind.TheVariants as kind
use Rattle.core_model.specs.declared.config.Call.{Call}
use Rattle.core_model.specs.declared.config.Config.{Config}
use Rattle.core_model.specs.declared.config.Mode.TheVariants as mode
use Rattle.core_model.specs.declared.config.Thread.{Thread}
use Rattle.core_model.specs.declared.value.Value.{Value}
use Rattle.core_model.specs.declared.value.Value.TheVariants as value
use Rattle.core_model.specs.Objects.{of_kind}
use Rattle.core_laws.specs.Shape.{class_fields, fields_of}
use Rattle.core_laws.proofs.Lists.{each-get}
use Rattle.core_types.specs.Types.{Ty, ClassType, Types, of_class, of_unit}
use Rattle.core_types.specs.Belonging.{Belongs, AllBelong}
use Rattle.core_types.specs.Uses.{pushed, popped, field_read, field_kept, field_written, of_field, use_of}
use Rattle.core_types.specs.Need.{need, need_of, UseFits, Fits}
use Rattle.core_types.specs.Configs.{fields_types, ThreadFits, ConfigFits}
use Rattle.core_types.specs.Reaching.{based, beneath, reached_by, reached}
use Rattle.core_types.proofs.Widening.{all-long}
use Rattle.core_types.proofs.Fields.{FieldAt, own-at, static-at}
use Rattle.core_types.proofs.Straightly.{get-less}
use Rattle.core_types.proofs.Heaps.{some-is}

abbrev at : ℕ → ℕ → ℕ × ℕ
at r i = (r, i)

same-place : (q i r j : ℕ) → Some (at q i) ≡ Some (at r j) → (q ≡ r) × (i ≡ j)
same-place q i r j e =
    let both : at q i ≡ at r j = some-is e in
    (ap (λ (x : ℕ × ℕ). x.0) both, ap (λ (x : ℕ × ℕ). x.1) both)

-- what is beneath the base doesn't matter
alone : (v : Value) (ts : List Value) (i : ℕ) (x : Option (ℕ × ℕ)) → based (v ∷ ts) i ≡ x → based (v ∷ []) i ≡ x
alone (value.Int n) ts i x g = g
alone (value.Bool n) ts i x g = g
alone (value.Str n) ts i x g = g
alone value.Null ts i x g = g
alone (value.Ref n) ts i x g = g

there-less : {A : Type 0} (xs : List A) (i : ℕ) → i < length xs → is_some (slice_get xs i) ≡ true
there-less [] i h = absurd (omega (arith, h))
there-less (x ∷ xs) zero h = refl
there-less (x ∷ xs) (suc i) h = there-less xs i (omega (arith, h))

class-declared : (o : Option ClassInfo) (s : Bool) (i : ℕ) → is_some (slice_get (of_kind s (class_fields o)) i) ≡ true → is_some (field_in s o i) ≡ true
class-declared None s i h = absurd (let no : ⊥ = cc in no)
class-declared (Some c) s i h = h

kind-declared : (p : Program) (k : ObjKind) (i : ℕ) → is_some (slice_get (fields_of p k) i) ≡ true → is_some (declared_field p k i) ≡ true
kind-declared p (kind.Holder c) i h = class-declared (slice_get p.classes c) true i h
kind-declared p (kind.Made c) i h = class-declared (slice_get p.classes c) false i h
kind-declared p kind.Plain i h = absurd (let no : ⊥ = cc in no)

-- a field of a type is a declared one
at-declared : (p : Program) (T : Types) (c : Config) (r i : ℕ) (t : Ty) → ConfigFits p T c → FieldAt T c.objects r i t
    → is_some (field_of_object p (slice_get c.objects r) i) ≡ true
at-declared p T c r i t w a =
    let o = a.obj in
    let less : i < length (fields_of p o.kind) =
    omega (arith, get-less (fields_types T o.kind) i t a.typed, all-long T c.objects o.fields (fields_types T o.kind) (w.fields r o a.found), w.shaped.fields r o a.found) in
    rw a.found (kind-declared p o.kind i (there-less (fields_of p o.kind) i less))

module _ (p : Program) (T : Types) (c : Config) (w : ConfigFits p T c) where
  abbrev Declared : ℕ → ℕ → Type 0
  Declared r i = is_some (field_of_object p (slice_get c.objects r) i) ≡ true

  own-declared : (k r i j : ℕ) (o : Option Ty) (v : Value) → slice_get (of_class T k).own i ≡ o → is_some o ≡ true → Belongs T c.objects v (ClassType k)
      → based (v ∷ []) i ≡ Some (r, j) → Declared r j
  own-declared k r i j None v e s b g = absurd (let no : ⊥ = cc in no)
  own-declared k r i j (Some t) (value.Int x) e s b g = absurd (let no : ⊥ = cc in no)
  own-declared k r i j (Some t) (value.Bool x) e s b g = absurd (let no : ⊥ = cc in no)
  own-declared k r i j (Some t) (value.Str x) e s b g = absurd (let no : ⊥ = cc in no)
  own-declared k r i j (Some t) value.Null e s b g = absurd (let no : ⊥ = cc in no)
  own-declared k r i j (Some t) (value.Ref q) e s b g =
      let same = same-place q i r j g in
      subst (λ x. Declared x j) same.0 (subst (λ x. Declared q x) same.1 (at-declared p T c q i t w (own-at p T w.program c.objects q k i t b e)))

  -- by the use of the instruction: a base of the class is where it is reached
  read-declared : (k r i j : ℕ) (o : Option Ty) (ts : List Value) (l : List Ty) → slice_get (of_class T k).own i ≡ o → UseFits T (field_read k o) l
      → AllBelong T c.objects ts (need_of (field_read k o) l) → based ts i ≡ Some (r, j) → Declared r j
  read-declared k r i j None ts l e s b g = absurd s
  read-declared k r i j (Some t) [] l e s b g = absurd b
  read-declared k r i j (Some t) (v ∷ ts) l e s b g = own-declared k r i j (Some t) v e refl b.0 (alone v ts i (Some (r, j)) g)

  kept-declared : (k r i j : ℕ) (o : Option Ty) (ts : List Value) (l : List Ty) → slice_get (of_class T k).own i ≡ o → UseFits T (field_kept k o) l
      → AllBelong T c.objects ts (need_of (field_kept k o) l) → based ts i ≡ Some (r, j) → Declared r j
  kept-declared k r i j None ts l e s b g = absurd s
  kept-declared k r i j (Some t) [] l e s b g = absurd b
  kept-declared k r i j (Some t) (v ∷ ts) l e s b g = own-declared k r i j (Some t) v e refl b.0 (alone v ts i (Some (r, j)) g)

  put-declared : (k r i j : ℕ) (o : Option Ty) (ts : List Value) (l : List Ty) → slice_get (of_class T k).own i ≡ o → UseFits T (field_written k o) l
      → AllBelong T c.objects ts (need_of (field_written k o) l) → beneath ts i ≡ Some (r, j) → Declared r j
  put-declared k r i j None ts l e s b g = absurd s
  put-declared k r i j (Some t) [] l e s b g = absurd b
  put-declared k r i j (Some t) (u ∷ []) l e s b g = absurd b.1
  put-declared k r i j (Some t) (u ∷ v ∷ ts) l e s b g = own-declared k r i j (Some t) v e refl b.1.0 (alone v ts i (Some (r, j)) g)

  static-declared : (k r i j : ℕ) (o : Option Ty) → slice_get (of_class T k).statics i ≡ o → is_some o ≡ true → Some (at k i) ≡ Some (at r j) → Declared r j
  static-declared k r i j None e s g = absurd (let no : ⊥ = cc in no)
  static-declared k r i j (Some t) e s g =
      let same = same-place k i r j g in
      subst (λ x. Declared x j) same.0 (subst (λ x. Declared k x) same.1 (at-declared p T c k i t w (static-at p T w.program c.objects k i t w.shaped.holders e)))

  pushed-some : (o : Option Ty) (l : List Ty) → UseFits T (pushed o) l → is_some o ≡ true
  pushed-some None l s = absurd s
  pushed-some (Some t) l s = refl

  popped-some : (o : Option Ty) (l : List Ty) → UseFits T (popped o) l → is_some o ≡ true
  popped-some None l s = absurd s
  popped-some (Some t) l s = refl

  of-read : (n : Known) (r i j : ℕ) (ts : List Value) (l : List Ty) → UseFits T (of_field field_read T n i) l
      → AllBelong T c.objects ts (need_of (of_field field_read T n i) l) → based ts i ≡ Some (r, j) → Declared r j
  of-read known.Nothing r i j ts l s b g = absurd s
  of-read (known.Class k) r i j ts l s b g = read-declared k r i j (slice_get (of_class T k).own i) ts l refl s b g
  of-read (known.Monitor m) r i j ts l s b g = absurd s

  of-kept : (n : Known) (r i j : ℕ) (ts : List Value) (l : List Ty) → UseFits T (of_field field_kept T n i) l
      → AllBelong T c.objects ts (need_of (of_field field_kept T n i) l) → based ts i ≡ Some (r, j) → Declared r j
  of-kept known.Nothing r i j ts l s b g = absurd s
  of-kept (known.Class k) r i j ts l s b g = kept-declared k r i j (slice_get (of_class T k).own i) ts l refl s b g
  of-kept (known.Monitor m) r i j ts l s b g = absurd s

  of-put : (n : Known) (r i j : ℕ) (ts : List Value) (l : List Ty) → UseFits T (of_field field_written T n i) l
      → AllBelong T c.objects ts (need_of (of_field field_written T n i) l) → beneath ts i ≡ Some (r, j) → Declared r j
  of-put known.Nothing r i j ts l s b g = absurd s
  of-put (known.Class k) r i j ts l s b g = put-declared k r i j (slice_get (of_class T k).own i) ts l refl s b g
  of-put (known.Monitor m) r i j ts l s b g = absurd s

  nothing-reached : (r j : ℕ) → None ≡ Some (at r j) → Declared r j
  nothing-reached r j g = absurd (let no : ⊥ = cc in no)

  plain-declared : (u : ℕ) (n : Note) (i : Plain) (k : Code) (r j : ℕ) (ts : List Value) → UseFits T (use_of p T (of_unit T u) n i) (need p T (of_unit T u) k [])
      → AllBelong T c.objects ts (need p T (of_unit T u) (Do n i k) []) → reached_by i ts ≡ Some (r, j) → Declared r j
  plain-declared u n (plain.Const v) k r j ts s b g = nothing-reached r j g
  plain-declared u n (plain.Get i) k r j ts s b g = nothing-reached r j g
  plain-declared u n (plain.Set i) k r j ts s b g = nothing-reached r j g
  plain-declared u n plain.Drop k r j ts s b g = nothing-reached r j g
  plain-declared u n (plain.Field i) k r j ts s b g = of-read n.known r i j ts (need p T (of_unit T u) k []) s b g
  plain-declared u n (plain.FieldKeep i) k r j ts s b g = of-kept n.known r i j ts (need p T (of_unit T u) k []) s b g
  plain-declared u n (plain.PutField i) k r j ts s b g = of-put n.known r i j ts (need p T (of_unit T u) k []) s b g
  plain-declared u n (plain.Static d i) k r j ts s b g =
      static-declared d r i j (slice_get (of_class T d).statics i) refl (pushed-some (slice_get (of_class T d).statics i) (need p T (of_unit T u) k []) s) g
  plain-declared u n (plain.PutStatic d i) k r j ts s b g =
      static-declared d r i j (slice_get (of_class T d).statics i) refl (popped-some (slice_get (of_class T d).statics i) (need p T (of_unit T u) k []) s) g
  plain-declared u n (plain.Make d m) k r j ts s b g = nothing-reached r j g
  plain-declared u n plain.MakePlain k r j ts s b g = nothing-reached r j g
  plain-declared u n (plain.Call m a) k r j ts s b g = nothing-reached r j g
  plain-declared u n (plain.CallStatic d m a) k r j ts s b g = nothing-reached r j g
  plain-declared u n (plain.Op o) k r j ts s b g = nothing-reached r j g
  plain-declared u n plain.Neg k r j ts s b g = nothing-reached r j g
  plain-declared u n plain.Not k r j ts s b g = nothing-reached r j g
  plain-declared u n plain.Start k r j ts s b g = nothing-reached r j g
  plain-declared u n plain.Return k r j ts s b g = nothing-reached r j g
  plain-declared u n plain.ReturnValue k r j ts s b g = nothing-reached r j g

  code-declared : (u : ℕ) (k : Code) (r j : ℕ) (ts : List Value) → Fits p T (of_unit T u) k []
      → AllBelong T c.objects ts (need p T (of_unit T u) k []) → reached k ts ≡ Some (r, j) → Declared r j
  code-declared u Done r j ts s b g = nothing-reached r j g
  code-declared u (Do n i k) r j ts s b g = plain-declared u n i k r j ts s.0 b g
  code-declared u (If n a d k) r j ts s b g = nothing-reached r j g
  code-declared u (While n a d k) r j ts s b g = nothing-reached r j g
  code-declared u (Enter n a k) r j ts s b g = nothing-reached r j g
  code-declared u (EnterClass n d a k) r j ts s b g = nothing-reached r j g
  code-declared u (Exit n q k) r j ts s b g = nothing-reached r j g

pub reached-declared : (p : Program) (T : Types) (c : Config) (t : ℕ) (call : Call) (below : List Call) (r i : ℕ) → ConfigFits p T c
    → slice_get c.threads t ≡ Some (record { calls = call ∷ below; mode = mode.Running })
    → reached call.rest call.temps ≡ Some (r, i) → is_some (field_of_object p (slice_get c.objects r) i) ≡ true
reached-declared p T c t call below r i w e g =
    let fits = each-get (λ (x : Thread). ThreadFits p T c.objects x) c.threads t _ e w.threads in
    code-declared p T c w call.unit call.rest r i call.temps fits.0.0.fits fits.0.1 g

based-none : (p : Program) (os : List Obj) (ts : List Value) (i : ℕ) (x : Bool) → based ts i ≡ None → access_on p os (slice_get ts 0) i x ≡ None
based-none p os [] i x g = refl
based-none p os (value.Int n ∷ ts) i x g = refl
based-none p os (value.Bool b ∷ ts) i x g = refl
based-none p os (value.Str n ∷ ts) i x g = refl
based-none p os (value.Null ∷ ts) i x g = refl
based-none p os (value.Ref r ∷ ts) i x g = absurd (let no : ⊥ = cc in no)

beneath-none : (p : Program) (os : List Obj) (ts : List Value) (i : ℕ) (x : Bool) → beneath ts i ≡ None → access_on p os (slice_get ts 1) i x ≡ None
beneath-none p os [] i x g = refl
beneath-none p os (v ∷ ts) i x g = based-none p os ts i x g

plain-none : (p : Program) (os : List Obj) (ts : List Value) (i : Plain) → reached_by i ts ≡ None → access_of p os ts i ≡ None
plain-none p os ts (plain.Const v) g = refl
plain-none p os ts (plain.Get i) g = refl
plain-none p os ts (plain.Set i) g = refl
plain-none p os ts plain.Drop g = refl
plain-none p os ts (plain.Field i) g = based-none p os ts i false g
plain-none p os ts (plain.FieldKeep i) g = based-none p os ts i false g
plain-none p os ts (plain.PutField i) g = beneath-none p os ts i true g
plain-none p os ts (plain.Static d i) g = absurd (let no : ⊥ = cc in no)
plain-none p os ts (plain.PutStatic d i) g = absurd (let no : ⊥ = cc in no)
plain-none p os ts (plain.Make d m) g = refl
plain-none p os ts plain.MakePlain g = refl
plain-none p os ts (plain.Call m a) g = refl
plain-none p os ts (plain.CallStatic d m a) g = refl
plain-none p os ts (plain.Op o) g = refl
plain-none p os ts plain.Neg g = refl
plain-none p os ts plain.Not g = refl
plain-none p os ts plain.Start g = refl
plain-none p os ts plain.Return g = refl
plain-none p os ts plain.ReturnValue g = refl

code-none : (p : Program) (os : List Obj) (ts : List Value) (k : Code) → reached k ts ≡ None → access_by p os ts (first_plain k) ≡ None
code-none p os ts Done g = refl
code-none p os ts (Do n i k) g = plain-none p os ts i g
code-none p os ts (If n a b k) g = refl
code-none p os ts (While n a b k) g = refl
code-none p os ts (Enter n b k) g = refl
code-none p os ts (EnterClass n d b k) g = refl
code-none p os ts (Exit n r k) g = refl

pub reached-none : (p : Program) (c : Config) (t : ℕ) (call : Call) (below : List Call)
    → slice_get c.threads t ≡ Some (record { calls = call ∷ below; mode = mode.Running })
    → reached call.rest call.temps ≡ None → next_access p c t ≡ None
reached-none p c t call below e g = ap (access_by_thread p c.objects) e ∙ code-none p c.objects call.temps call.rest g
