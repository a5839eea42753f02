-- Units that no types make well typed.
use Rattle.std.proofs.Common.{◌≡◌, ◌≤◌, ℕ, zero, suc, ◌==◌, ◌&&◌, not, if◌then◌else◌, ⊎_elim, Bool, true, false, List, [], ◌∷◌, Option, Some, None, length, slice_get, refl, sym, ap, ◌∙◌, subst, arith}
use Rattle.std.proofs.lemmas.Bool.{ltb-true}
use Rattle.std.proofs.lemmas.Bool.Decides.{eqb_tells}
use Rattle.core_model.specs.Code.{Code, Done, Do, If, While, Enter, EnterClass, Exit, ◌⧺◌}
use Rattle.core_model.specs.Units.{unit_number}
use Rattle.core_model.specs.declared.program.TheConstants.{NEW, RUN}
use Rattle.core_model.specs.declared.instr.Known.{Known}
use Rattle.core_model.specs.declared.instr.Known.TheVariants as known
use Rattle.core_model.specs.declared.instr.Note.{Note}
use Rattle.core_model.specs.declared.instr.Plain.{Plain}
use Rattle.core_model.specs.declared.instr.Plain.TheVariants as plain
use Rattle.core_model.specs.declared.program.Program.{Program}
use Rattle.core_model.specs.declared.program.ClassInfo.{ClassInfo}
use Rattle.core_model.specs.declared.program.UnitName.{UnitName}
use Rattle.core_model.specs.declared.program.UnitCode.{UnitCode}
use Rattle.core_model.specs.declared.value.Value.{Value}
use Rattle.core_model.specs.declared.value.Value.TheVariants as value
use Rattle.core_laws.specs.Constructors.{calls_new, new_uncalled}
use Rattle.core_laws.specs.Places.{again, Along, Always}
use Rattle.core_types.specs.Slots.{Use, Goes, Wrong}
use Rattle.core_types.specs.Types.{Ty, BoolType, IntType, NullType, RunnableType, Types, UnitTypes, of_unit, args_of, locals_of}
use Rattle.core_types.specs.Belonging.{is_int, Suits}
use Rattle.core_types.specs.Uses.{popped, lists_name, made_bare, constructed, of_make, called_on, called_static, of_call, returned, use_of}
use Rattle.core_types.specs.Need.{need, need_of, AllSuit, UseFits, Fits}
use Rattle.core_types.specs.Paths.{reads}
use Rattle.core_types.specs.Programs.{unit_class, MemberFits, Returns, UnitFits, ProgramFits}
use Rattle.core_laws.proofs.Lists.{each-get}
use Rattle.core_types.proofs.Codes.{or-left}

fits-as : (p : Program) (T : Types) (u : ℕ) (code : UnitCode) (k : Code) → UnitFits p T u code → code.code ≡ k → Fits p T (of_unit T u) k []
fits-as p T u code k h e = subst (λ x. Fits p T (of_unit T u) x []) e h.fits

pub no-negated : (p : Program) (T : Types) (u : ℕ) (code : UnitCode) (n m : Note) (k : Code) → UnitFits p T u code
    → code.code ≡ Do n (plain.Const (value.Bool true)) (Do m plain.Neg k) → ⊥
no-negated p T u code n m k h e =
    let wrong : is_int (value.Bool true) ≡ true = (fits-as p T u code _ h e).0.0 [] (value.Bool true) refl in
    let no : ⊥ = cc in no

-- null suits no int
null-set : (T : Types) (o : Option Ty) (l : List Ty) → o ≡ Some IntType → AllSuit T (NullType ∷ []) (need_of (popped o) l) → ⊥
null-set T None l e h = let no : ⊥ = cc in no
null-set T (Some t) l e h =
    let is : t ≡ IntType = cc in
    let wrong : is_int value.Null ≡ true = subst (λ x. Suits T NullType x) is h.0 [] value.Null refl in
    let no : ⊥ = cc in no

pub no-null : (p : Program) (T : Types) (u : ℕ) (code : UnitCode) (n m : Note) (i : ℕ) (k : Code) → UnitFits p T u code
    → slice_get (locals_of (of_unit T u)) i ≡ Some IntType → code.code ≡ Do n (plain.Const value.Null) (Do m (plain.Set i) k) → ⊥
no-null p T u code n m i k h t e =
    null-set T (slice_get (locals_of (of_unit T u)) i) (need p T (of_unit T u) k []) t (fits-as p T u code _ h e).0

same-number : (i : ℕ) → (i == i) ≡ true
same-number i = ⊎_elim (λ y. y.0) (λ d. absurd (d.1 refl)) (eqb_tells i i)

pub no-unset : (p : Program) (T : Types) (u : ℕ) (code : UnitCode) (n : Note) (i : ℕ) (k : Code) → UnitFits p T u code
    → length (args_of (of_unit T u)) ≤ i → code.code ≡ Do n (plain.Get i) k → ⊥
no-unset p T u code n i k h long e =
    let read : reads i code.code false ≡ true = subst (λ x. reads i x false ≡ true) (sym e) (or-left (i == i) (reads i k false) (same-number i)) in
    omega (arith, long, ltb-true i (length (args_of (of_unit T u))) (h.set i read))

pub no-over : (p : Program) (T : Types) (u : ℕ) (code : UnitCode) (n : Note) (v : Value) → UnitFits p T u code
    → code.code ≡ Do n (plain.Const v) Done → ⊥
no-over p T u code n (value.Int x) h e = (fits-as p T u code _ h e).0
no-over p T u code n (value.Bool b) h e = (fits-as p T u code _ h e).0
no-over p T u code n (value.Str s) h e = (fits-as p T u code _ h e).0
no-over p T u code n value.Null h e = (fits-as p T u code _ h e).0
no-over p T u code n (value.Ref r) h e = (fits-as p T u code _ h e).0

no-end : (r : Option Ty) (t : Ty) → r ≡ Some t → Returns r false Done → ⊥
no-end None t e h = let no : ⊥ = cc in no
no-end (Some s) t e h = let no : ⊥ = cc in no

pub no-unended : (p : Program) (T : Types) (u : ℕ) (code : UnitCode) (t : Ty) → UnitFits p T u code
    → (of_unit T u).result ≡ Some t → code.code ≡ Done → ⊥
no-unended p T u code t h r e = no-end (of_unit T u).result t r (subst (λ k. Returns (of_unit T u).result false k) e h.returns)

no-result : (T : Types) (r : Option Ty) (l : List Ty) → r ≡ None → UseFits T (returned r) l → ⊥
no-result T None l e h = h
no-result T (Some t) l e h = let no : ⊥ = cc in no

pub no-given : (p : Program) (T : Types) (u : ℕ) (code : UnitCode) (n : Note) (k : Code) → UnitFits p T u code
    → (of_unit T u).result ≡ None → code.code ≡ Do n plain.ReturnValue k → ⊥
no-given p T u code n k h r e = no-result T (of_unit T u).result (need p T (of_unit T u) k []) r (fits-as p T u code _ h e).0

-- ---- makers and members

bare-is : (T : Types) (c n : ℕ) (listed : Bool) (l : List Ty) → UseFits T (made_bare c n listed) l → (n ≡ 0) × (listed ≡ false)
bare-is T c zero true l s = absurd s
bare-is T c zero false l s = (refl, refl)
bare-is T c (suc n) listed l s = absurd s

constructed-is : (T : Types) (c n : ℕ) (listed : Bool) (o : Option ℕ) (l : List Ty) → o ≡ None → UseFits T (constructed T c n listed o) l
    → (n ≡ 0) × (listed ≡ false)
constructed-is T c n listed None l e s = bare-is T c n listed l s
constructed-is T c n listed (Some u) l e s = absurd (let no : ⊥ = cc in no)

maker-is : (p : Program) (T : Types) (c n : ℕ) (o : Option ClassInfo) (info : ClassInfo) (l : List Ty) → o ≡ Some info → unit_number p c NEW n ≡ None
    → UseFits T (of_make p T c n o) l → (n ≡ 0) × (lists_name NEW info.units ≡ false)
maker-is p T c n None info l e f s = absurd s
maker-is p T c n (Some i) info l e f s =
    let is : i ≡ info = cc in
    subst (λ (x : ClassInfo). (n ≡ 0) × (lists_name NEW x.units ≡ false)) is (constructed-is T c n (lists_name NEW i.units) (unit_number p c NEW n) l f s)

pub no-arguments : (p : Program) (T : Types) (u : ℕ) (code : UnitCode) (n : Note) (c a : ℕ) (info : ClassInfo) (k : Code) → UnitFits p T u code
    → slice_get p.classes c ≡ Some info → unit_number p c NEW a ≡ None → code.code ≡ Do n (plain.Make c a) k
    → (a ≡ 0) × (lists_name NEW info.units ≡ false)
no-arguments p T u code n c a info k h there none e =
    maker-is p T c a (slice_get p.classes c) info (need p T (of_unit T u) k []) there none (fits-as p T u code _ h e).0

names-none : (p : Program) (T : Types) (k : Known) (a : ℕ) (l : List Ty) → UseFits T (of_call p T k NEW a) l → ⊥
names-none p T known.Nothing a l s = s
names-none p T (known.Class c) a l s = s
names-none p T (known.Monitor m) a l s = s

pub no-constructor-called : (p : Program) (T : Types) (u : ℕ) (code : UnitCode) (n : Note) (a : ℕ) (k : Code) → UnitFits p T u code
    → code.code ≡ Do n (plain.Call NEW a) k → ⊥
no-constructor-called p T u code n a k h e = names-none p T n.known a (need p T (of_unit T u) k []) (fits-as p T u code _ h e).0

some-is : {A : Type 0} {x y : A} → Some x ≡ Some y → x ≡ y
some-is e = cc

pub unit-of-its-class : (p : Program) (T : Types) (c i : ℕ) (info : ClassInfo) (m : UnitName) (code : UnitCode) → ProgramFits p T
    → slice_get p.classes c ≡ Some info → slice_get info.units i ≡ Some m → slice_get p.units m.unit ≡ Some code → code.class ≡ c
unit-of-its-class p T c i info m code h there listed at =
    let member : MemberFits p T c m = each-get (MemberFits p T c) info.units i m listed (h.members c info there) in
    some-is (sym (ap unit_class at) ∙ member.class)

-- ---- no place of the code calls a constructor but to make an object

wrong-if : (T : Types) (b : Bool) (u : Use Ty) (after : List Ty) → UseFits T (if b then Wrong else u) after → not b ≡ true
wrong-if T true u after h = absurd h
wrong-if T false u after h = refl

run-if : (T : Types) (a b : Bool) (u : Use Ty) (after : List Ty) → UseFits T (if a && b then u else Wrong) after → a ≡ true
run-if T true b u after h = refl
run-if T false b u after h = absurd h

other-name : (m : ℕ) → (m == RUN) ≡ true → not (m == NEW) ≡ true
other-name m e =
    let is : m ≡ RUN = ⊎_elim (λ y. y.1) (λ d. let f : (m == RUN) ≡ false = d.0 in absurd (let no : ⊥ = cc in no)) (eqb_tells m RUN) in
    ap (λ z. not (z == NEW)) is

of_call-uncalled : (p : Program) (T : Types) (k : Known) (m a : ℕ) (after : List Ty) → UseFits T (of_call p T k m a) after → not (m == NEW) ≡ true
of_call-uncalled p T known.Nothing m a after h = other-name m (run-if T (m == RUN) (a == 0) (Goes (RunnableType ∷ []) []) after h)
of_call-uncalled p T (known.Class c) m a after h = wrong-if T (m == NEW) (called_on T (unit_number p c m a)) after h
of_call-uncalled p T (known.Monitor x) m a after h = absurd h

plain-uncalled : (p : Program) (T : Types) (u : UnitTypes) (n : Note) (i : Plain) (after : List Ty) → UseFits T (use_of p T u n i) after
    → not (calls_new i) ≡ true
plain-uncalled p T u n (plain.Call m a) after h = of_call-uncalled p T n.known m a after h
plain-uncalled p T u n (plain.CallStatic c m a) after h = wrong-if T (m == NEW) (called_static T (unit_number p c m a)) after h
plain-uncalled p T u n i after h = refl

abbrev Uncalled : Code → Type 0
Uncalled k = new_uncalled k ≡ true

uncalled-along : (p : Program) (T : Types) (u : UnitTypes) (k m : Code) (after : List Ty) → Fits p T u k after → Along Uncalled k m
uncalled-along p T u Done m after h = tt
uncalled-along p T u (Do n i k) m after h = (plain-uncalled p T u n i (need p T u k after) h.0, uncalled-along p T u k m after h.1)
uncalled-along p T u (If n a b k) m after h = (
  refl,
  uncalled-along p T u a (k ⧺ m) (need p T u k after) h.1,
  uncalled-along p T u b (k ⧺ m) (need p T u k after) h.2,
  uncalled-along p T u k m after h.3,
)
uncalled-along p T u (While n c b k) m after h = (
  refl,
  refl,
  uncalled-along p T u c (again n c b (k ⧺ m)) (BoolType ∷ need p T u k after) h.2,
  uncalled-along p T u b (While n c b (k ⧺ m)) (need p T u k after) h.3,
  uncalled-along p T u k m after h.4,
)
uncalled-along p T u (Enter n b k) m after h =
    (refl, λ r. (uncalled-along p T u b (Exit n r (k ⧺ m)) (need p T u k after) h.0, refl), uncalled-along p T u k m after h.1)
uncalled-along p T u (EnterClass n c b k) m after h =
    (refl, (uncalled-along p T u b (Exit n c (k ⧺ m)) (need p T u k after) h.1, refl), uncalled-along p T u k m after h.2)
uncalled-along p T u (Exit n r k) m after h = (refl, uncalled-along p T u k m after h)

pub always-uncalled : (p : Program) (T : Types) (u : ℕ) (code : UnitCode) → UnitFits p T u code → Always (λ k. new_uncalled k ≡ true) code.code
always-uncalled p T u code h = uncalled-along p T (of_unit T u) code.code Done [] h.fits
