-- The sample program is well typed.
use Rattle.std.proofs.Common.{◌≡◌, ◌<◌, ℕ, zero, suc, ◌==◌, ◌||◌, ◌&&◌, not, ⊎_elim, Bool, true, false, if◌then◌else◌, List, [], ◌∷◌, Option, Some, None, slice_get, nat_lt, refl, sym, subst, arith}
use Rattle.std.proofs.lemmas.Bool.Decides.{eqb_tells}
use Rattle.std.specs.Option.{option_map}
use Rattle.core_model.specs.declared.program.UnitName.{UnitName}
use Rattle.core_model.specs.Objects.{static_initials, own_initials}
use Rattle.core_model.specs.Units.{unit_number}
use Rattle.core_model.specs.declared.program.TheConstants.{MAIN, RUN}
use Rattle.core_model.specs.declared.program.ClassInfo.{ClassInfo}
use Rattle.core_model.specs.declared.program.UnitCode.{UnitCode}
use Rattle.core_model.specs.declared.object.Obj.{Obj}
use Rattle.core_model.specs.declared.object.ObjKind.{ObjKind}
use Rattle.core_model.specs.declared.object.ObjKind.TheVariants as kind
use Rattle.core_model.specs.declared.value.Value.{Value}
use Rattle.core_model.specs.declared.value.Value.TheVariants as value
use Rattle.core_laws.specs.Places.{Each}
use Rattle.core_laws.specs.Marks.{Unmarked}
use Rattle.core_laws.specs.Shape.{kind_of}
use Rattle.core_types.specs.Types.{Ty, IntType, BoolType, of_unit, ObjectType, RunnableType, ClassType, Types, of_class, has, is_class, is_runnable}
use Rattle.core_types.specs.Belonging.{if_kind, refers, may_run, is_of, is_object, Suits}
use Rattle.core_types.specs.Need.{AllSuit, Fits}
use Rattle.core_types.specs.Paths.{reads}
use Rattle.core_types.specs.Programs.{InitialsFit, MemberFits, IsAlike, Implements, RunFits, MainFits, UnitFits, ProgramFits}
use Rattle.core_types.specs.Sample.{member, add_one, main_unit, unit_in, new_code, get_code, run_code, main_code, source_code, sample, sample_types}
use Rattle.core_types.proofs.Heaps.{some-is}

abbrev T : Types
T = sample_types

same : (t : Ty) → Suits T t t
same t = λ os v h. h

kind-suits : (o : Option ObjKind) (test other : ObjKind → Bool) → ((k : ObjKind) → test k ≡ true → other k ≡ true) → if_kind o test ≡ true → if_kind o other ≡ true
kind-suits None test other f h = h
kind-suits (Some k) test other f h = f k h

suits-by : (os : List Obj) (v : Value) (test other : ObjKind → Bool) → ((k : ObjKind) → test k ≡ true → other k ≡ true) → refers os v test ≡ true → refers os v other ≡ true
suits-by os (value.Int x) test other f h = h
suits-by os (value.Bool b) test other f h = h
suits-by os (value.Str s) test other f h = h
suits-by os value.Null test other f h = h
suits-by os (value.Ref r) test other f h = kind-suits (kind_of (slice_get os r)) test other f h

-- a number is no smaller one
far : (i k : ℕ) → k < i → (i == k) ≡ false
far i k h = ⊎_elim (λ y. absurd (omega (arith, h, y.1))) (λ n. n.0) (eqb_tells i k)

-- only Counter itself is a Counter
is-counter : (c : ℕ) → is_class T 0 c ≡ true → c ≡ 0
is-counter zero h = refl
is-counter (suc zero) h = absurd (let no : ⊥ = cc in no)
is-counter (suc (suc c)) h =
    let e : (suc (suc c) == 0) ≡ false = far (suc (suc c)) 0 (omega arith) in
    absurd (let no : ⊥ = cc in no)

counter-source : (k : ObjKind) → is_of T 0 k ≡ true → is_of T 1 k ≡ true
counter-source (kind.Holder c) h = h
counter-source (kind.Made c) h = subst (λ d. is_class T 1 d ≡ true) (sym (is-counter c h)) refl
counter-source kind.Plain h = h

counter-runs : (k : ObjKind) → is_of T 0 k ≡ true → may_run T k ≡ true
counter-runs (kind.Holder c) h = h
counter-runs (kind.Made c) h = subst (λ d. is_runnable T d ≡ true) (sym (is-counter c h)) refl
counter-runs kind.Plain h = h

counter-object : (k : ObjKind) → is_of T 0 k ≡ true → is_object k ≡ true
counter-object (kind.Holder c) h = h
counter-object (kind.Made c) h = refl
counter-object kind.Plain h = refl

to-source : Suits T (ClassType 0) (ClassType 1)
to-source os v h = suits-by os v (is_of T 0) (is_of T 1) counter-source h

to-runnable : Suits T (ClassType 0) RunnableType
to-runnable os v h = suits-by os v (is_of T 0) (may_run T) counter-runs h

to-object : Suits T (ClassType 0) ObjectType
to-object os v h = suits-by os v (is_of T 0) is_object counter-object h

ints : AllSuit T (IntType ∷ []) (IntType ∷ [])
ints = (same IntType, tt)

bools : AllSuit T (BoolType ∷ []) (BoolType ∷ [])
bools = (same BoolType, tt)

counters : AllSuit T (ClassType 0 ∷ []) (ClassType 0 ∷ [])
counters = (same (ClassType 0), tt)

new-set : (i : ℕ) → reads i new_code false ≡ true → nat_lt i 2 ≡ true
new-set zero h = refl
new-set (suc zero) h = refl
new-set (suc (suc i)) h =
    let a : (suc (suc i) == 0) ≡ false = far (suc (suc i)) 0 (omega arith) in
    let b : (suc (suc i) == 1) ≡ false = far (suc (suc i)) 1 (omega arith) in
    absurd (let no : ⊥ = cc in no)

get-set : (i : ℕ) → reads i get_code false ≡ true → nat_lt i 1 ≡ true
get-set zero h = refl
get-set (suc i) h =
    let a : (suc i == 0) ≡ false = far (suc i) 0 (omega arith) in
    let none : reads (suc i) get_code false ≡ false = rw a refl in
    absurd (let no : ⊥ = cc in no)

run-set : (i : ℕ) → reads i run_code false ≡ true → nat_lt i 1 ≡ true
run-set zero h = refl
run-set (suc i) h =
    let a : (suc i == 0) ≡ false = far (suc i) 0 (omega arith) in
    let none : reads (suc i) run_code false ≡ false = rw a refl in
    absurd (let no : ⊥ = cc in no)

set-first : (a b : Bool) → not a && (a || (not b && (b || (a || false)))) ≡ false
set-first true b = refl
set-first false true = refl
set-first false false = refl

main-set : (i : ℕ) → reads i main_code false ≡ true → nat_lt i 1 ≡ true
main-set i h =
    let none : reads i main_code false ≡ false = set-first (i == 1) (i == 2) in
    absurd (let no : ⊥ = cc in no)

new-fits : UnitFits sample T 0 (unit_in 0 2 new_code)
new-fits = record {
  class = refl;
  long = refl;
  this = refl;
  fits = ((same (ClassType 0), tt), ((same IntType, tt), (tt, tt)));
  needs = refl;
  set = new-set;
  returns = tt;
}

adds : Fits sample T (of_unit T 1) add_one []
adds = (counters, (counters, (ints, (ints, (ints, (tt, tt))))))

get-fits : UnitFits sample T 1 (unit_in 0 1 get_code)
get-fits = record {
  class = refl;
  long = refl;
  this = refl;
  fits = (refl, refl, (bools, tt), (counters, (ints, (ints, (bools, (refl, adds, (counters, (ints, (tt, tt))), tt))))), tt);
  needs = refl;
  set = get-set;
  returns = refl;
}

run-fits : UnitFits sample T 2 (unit_in 0 1 run_code)
run-fits = record {
  class = refl;
  long = refl;
  this = refl;
  fits = ((to-object, tt), ((refl, (counters, (ints, (tt, tt))), tt), tt));
  needs = refl;
  set = run-set;
  returns = tt;
}

main-fits : UnitFits sample T 3 main_unit
main-fits = record {
  class = refl;
  long = refl;
  this = refl;
  fits = (ints, (counters, (tt, ((to-source, tt), (tt, ((same (ClassType 1), tt), (ints, (tt, ((to-runnable, tt), (tt, tt))))))))));
  needs = refl;
  set = main-set;
  returns = tt;
}

source-fits : UnitFits sample T 4 (unit_in 1 1 source_code)
source-fits = record {
  class = refl;
  long = refl;
  this = refl;
  fits = (refl, refl, (bools, tt), tt, tt);
  needs = refl;
  set = λ i h. absurd (let no : ⊥ = cc in no);
  returns = refl;
}

units-fit : (u : ℕ) (code : UnitCode) → slice_get sample.units u ≡ Some code → UnitFits sample T u code
units-fit zero code e = subst (UnitFits sample T 0) (some-is e) new-fits
units-fit (suc zero) code e = subst (UnitFits sample T 1) (some-is e) get-fits
units-fit (suc (suc zero)) code e = subst (UnitFits sample T 2) (some-is e) run-fits
units-fit (suc (suc (suc zero))) code e = subst (UnitFits sample T 3) (some-is e) main-fits
units-fit (suc (suc (suc (suc zero)))) code e = subst (UnitFits sample T 4) (some-is e) source-fits
units-fit (suc (suc (suc (suc (suc u))))) code e = absurd (let no : ⊥ = cc in no)

bare-code : (u : ℕ) (code : UnitCode) → slice_get sample.units u ≡ Some code → Unmarked code.code
bare-code zero code e = subst (λ (c : UnitCode). Unmarked c.code) (some-is e) tt
bare-code (suc zero) code e = subst (λ (c : UnitCode). Unmarked c.code) (some-is e) (tt, (tt, tt, tt), tt)
bare-code (suc (suc zero)) code e = subst (λ (c : UnitCode). Unmarked c.code) (some-is e) ((tt, tt), tt)
bare-code (suc (suc (suc zero))) code e = subst (λ (c : UnitCode). Unmarked c.code) (some-is e) tt
bare-code (suc (suc (suc (suc zero)))) code e = subst (λ (c : UnitCode). Unmarked c.code) (some-is e) (tt, tt, tt)
bare-code (suc (suc (suc (suc (suc u))))) code e = absurd (let no : ⊥ = cc in no)

statics-fit : (c : ℕ) (info : ClassInfo) → slice_get sample.classes c ≡ Some info → InitialsFit T (static_initials info.fields) (of_class T c).statics
statics-fit zero info e = subst (λ (i : ClassInfo). InitialsFit T (static_initials i.fields) (of_class T 0).statics) (some-is e) (refl, (same ObjectType, tt))
statics-fit (suc zero) info e = subst (λ (i : ClassInfo). InitialsFit T (static_initials i.fields) (of_class T 1).statics) (some-is e) tt
statics-fit (suc (suc c)) info e = absurd (let no : ⊥ = cc in no)

own-fit : (c : ℕ) (info : ClassInfo) → slice_get sample.classes c ≡ Some info → InitialsFit T (own_initials info.fields) (of_class T c).own
own-fit zero info e = subst (λ (i : ClassInfo). InitialsFit T (own_initials i.fields) (of_class T 0).own) (some-is e) (refl, tt)
own-fit (suc zero) info e = subst (λ (i : ClassInfo). InitialsFit T (own_initials i.fields) (of_class T 1).own) (some-is e) tt
own-fit (suc (suc c)) info e = absurd (let no : ⊥ = cc in no)

members-fit : (c : ℕ) (info : ClassInfo) → slice_get sample.classes c ≡ Some info → Each (MemberFits sample T c) info.units
members-fit zero info e =
    subst (λ (i : ClassInfo). Each (MemberFits sample T 0) i.units) (some-is e) (
      record { named = refl; there = refl; class = refl; count = refl; this = (refl, refl) },
      (
        record { named = refl; there = refl; class = refl; count = refl; this = (refl, refl) },
        (
          record { named = refl; there = refl; class = refl; count = refl; this = (refl, refl) },
          (record { named = refl; there = refl; class = refl; count = refl; this = tt }, tt),
        ),
      ),
    )
members-fit (suc zero) info e =
    subst (λ (i : ClassInfo). Each (MemberFits sample T 1) i.units) (some-is e)
    (record { named = refl; there = refl; class = refl; count = refl; this = (refl, refl) }, tt)
members-fit (suc (suc c)) info e = absurd (let no : ⊥ = cc in no)

equal-is : (a b : ℕ) → (a == b) || false ≡ true → a ≡ b
equal-is a b e = ⊎_elim (λ y. y.1) (λ d. let f : (a == b) ≡ false = d.0 in absurd (let no : ⊥ = cc in no)) (eqb_tells a b)

-- Source has the one member `get`
source-members : (m n u : ℕ) → unit_number sample 1 m n ≡ Some u → IsAlike T u (unit_number sample 0 m n)
source-members m n u e = chosen (3 == m) (0 == n) refl refl e
  where
    equal : (a b : ℕ) → (a == b) ≡ true → a ≡ b
    equal a b h = ⊎_elim (λ y. y.1) (λ d. let f : (a == b) ≡ false = d.0 in absurd (let no : ⊥ = cc in no)) (eqb_tells a b)

    chosen : (a b : Bool) → (3 == m) ≡ a → (0 == n) ≡ b
        → option_map (λ (y : UnitName). y.unit) (if a && b then Some (member 3 0 4) else None) ≡ Some u → IsAlike T u (unit_number sample 0 m n)
    chosen true true f g h =
        let is : 4 ≡ u = some-is h in
        subst (λ i. IsAlike T u (unit_number sample 0 i n)) (equal 3 m f)
        (subst (λ i. IsAlike T u (unit_number sample 0 3 i)) (equal 0 n g)
        (subst (λ i. IsAlike T i (unit_number sample 0 3 0)) is (refl, refl, refl)))
    chosen true false f g h = absurd (let no : ⊥ = cc in no)
    chosen false b f g h = absurd (let no : ⊥ = cc in no)

counter-implements : Implements sample T 0 1
counter-implements = record { fields = refl; members = source-members }

implements-fit : (c d : ℕ) → has (of_class T c).implements d ≡ true → Implements sample T c d
implements-fit zero d h = subst (Implements sample T 0) (equal-is 1 d h) counter-implements
implements-fit (suc zero) d h = absurd (let no : ⊥ = cc in no)
implements-fit (suc (suc c)) d h = absurd (let no : ⊥ = cc in no)

runs-fit : (c : ℕ) → is_runnable T c ≡ true → RunFits T (unit_number sample c RUN 0)
runs-fit zero h = (refl, refl)
runs-fit (suc zero) h = absurd (let no : ⊥ = cc in no)
runs-fit (suc (suc c)) h = absurd (let no : ⊥ = cc in no)

mains-fit : (c : ℕ) → has sample.mains c ≡ true → MainFits T (unit_number sample c MAIN 1)
mains-fit c h = subst (λ d. MainFits T (unit_number sample d MAIN 1)) (equal-is 0 c h) (refl, (refl, tt))

pub sample-fits : ProgramFits sample T
sample-fits = record {
  long = refl;
  names = (refl, refl, refl);
  statics = statics-fit;
  own = own-fit;
  members = members-fit;
  implements = implements-fit;
  runs = runs-fit;
  units = units-fit;
  mains = mains-fit;
  unmarked = bare-code;
}
