-- The instructions that make objects, begin calls and start threads keep calls well typed.
use Rattle.std.proofs.Common.{◌≡◌, ◌<◌, ◌≤◌, ℕ, zero, suc, ◌+◌, ◌-◌, ◌==◌, ◌||◌, ◌&&◌, ⊎_elim, Bool, true, false, if◌then◌else◌, List, [], ◌∷◌, ◌++◌, Option, Some, None, length, slice_get, take, drop, reverse, replicate, is_some, nat_lt, nat_le, refl, sym, ap, ◌∙◌, subst, arith}
use Rattle.std.specs.Option.{option_to_list}
use mathlib.Core.List.{reverse_aux}
use Rattle.std.proofs.lemmas.Bool.{lt-ltb, ltb-true, le-leb}
use Rattle.std.proofs.lemmas.Bool.Decides.{eqb_tells}
use Rattle.std.proofs.lemmas.List.{length-append, length-replicate, length-reverse, reverse-reverse}
use Rattle.core_model.specs.Frames.{with_objects, with_temps, ends}
use Rattle.core_model.specs.Calling.{begins, construct, make_of, make_from, call_in, call_at, call_on, call_from, call_static_from, start_with, start_in, start_from}
use Rattle.core_model.specs.Objects.{class_of, made, new_object, fresh_object, fresh_count, initial_values, own_initials}
use Rattle.core_model.specs.Units.{unit_number, call_with, call_for, call_of}
use Rattle.core_model.specs.declared.instr.Known.{Known}
use Rattle.core_model.specs.declared.instr.Known.TheVariants as known
use Rattle.core_model.specs.declared.program.TheConstants.{NEW, RUN}
use Rattle.core_model.specs.declared.program.Program.{Program}
use Rattle.core_model.specs.declared.program.ClassInfo.{ClassInfo}
use Rattle.core_model.specs.declared.program.UnitCode.{UnitCode}
use Rattle.core_model.specs.declared.object.Obj.{Obj}
use Rattle.core_model.specs.declared.object.ObjKind.{ObjKind}
use Rattle.core_model.specs.declared.object.ObjKind.TheVariants as kind
use Rattle.core_model.specs.declared.config.Gives.{Gives}
use Rattle.core_model.specs.declared.config.Gives.TheVariants.{Own, Object}
use Rattle.core_model.specs.declared.frame.Frame.{Frame}
use Rattle.core_model.specs.declared.frame.After.{After}
use Rattle.core_model.specs.declared.value.Value.{Value}
use Rattle.core_model.specs.declared.value.Value.TheVariants as value
use Rattle.core_types.specs.Types.{Ty, ClassType, RunnableType, Types, of_class, of_unit, args_of, not_empty, is_instance, has, is_class, is_runnable}
use Rattle.core_types.specs.Belonging.{refers, may_run, is_of, Belongs, AllBelong}
use Rattle.core_types.specs.Uses.{Goes, Wrong, lists_name, made_bare, unless_new, constructed, of_make, called, called_on, called_static, of_call}
use Rattle.core_types.specs.Need.{need_of, AllSuit, UseFits}
use Rattle.core_types.specs.Programs.{ThisFits, IsAlike, RunFits, ProgramFits}
use Rattle.core_types.specs.Configs.{GivesThere, IsThere, LocalFits, need_in, TopFits, Awaits, known_beneath}
use Rattle.core_types.specs.Faults.{null_in, null_under}
use Rattle.core_types.proofs.Widening.{Grows, all-long, all-take, all-drop, all-grow}
use Rattle.core_types.proofs.Heaps.{grows-append, fields-made, get-past}
use Rattle.core_types.proofs.Goings.{going-known}
use Rattle.core_types.proofs.Codes.{or-left}
use Rattle.core_types.proofs.Numbers.{belongs-any, all-there, there-append, nulls-there, member-at}
use Rattle.core_types.proofs.Fields.{is-there, class-is}
use Rattle.core_types.proofs.Straightly.{Kept, Good, temps, objects, go, end, push-kept, if-kept}

-- ---- arguments

all-reverse-aux : (T : Types) (os : List Obj) (vs ws : List Value) (ts us : List Ty) → AllBelong T os vs ts → AllBelong T os ws us
    → AllBelong T os (reverse_aux vs ws) (reverse_aux ts us)
all-reverse-aux T os [] ws [] us h g = g
all-reverse-aux T os [] ws (t ∷ ts) us h g = absurd h
all-reverse-aux T os (v ∷ vs) ws [] us h g = absurd h
all-reverse-aux T os (v ∷ vs) ws (t ∷ ts) us h g = all-reverse-aux T os vs (v ∷ ws) ts (t ∷ us) h.1 (h.0, g)

all-reverse : (T : Types) (os : List Obj) (vs : List Value) (ts : List Ty) → AllBelong T os vs ts → AllBelong T os (reverse vs) (reverse ts)
all-reverse T os vs ts h = all-reverse-aux T os vs [] ts [] h tt

-- the arguments on top, in their order
pub args-belong : (T : Types) (os : List Obj) (vs : List Value) (ts us : List Ty) (n : ℕ) → n ≡ length ts → AllBelong T os vs (reverse ts ++ us)
    → AllBelong T os (reverse (take n vs)) ts × AllBelong T os (drop n vs) us
args-belong T os vs ts us n e h =
    let same : n ≡ length (reverse ts) = e ∙ sym (length-reverse ts) in (
      subst (λ l. AllBelong T os (reverse (take n vs)) l) (reverse-reverse ts)
          (rw same (all-reverse T os (take (length (reverse ts)) vs) (reverse ts) (all-take T os vs (reverse ts) us h))),
      rw same (all-drop T os vs (reverse ts) us h),
    )

enough : (T : Types) (os : List Obj) (vs : List Value) (ts us : List Ty) → AllBelong T os vs (reverse ts ++ us) → length ts ≤ length vs
enough T os vs ts us h =
    omega (arith, all-long T os vs (reverse ts ++ us) h, length-append (reverse ts) us, length-reverse ts)

abbrev first : List Value → Option Value
first [] = None
first (v ∷ vs) = Some v

first-reversed : (vs ws : List Value) (n : ℕ) → n < length vs → first (reverse_aux (take (suc n) vs) ws) ≡ slice_get vs n
first-reversed [] ws n h = absurd (omega (arith, h))
first-reversed (v ∷ vs) ws zero h = refl
first-reversed (v ∷ vs) ws (suc n) h = first-reversed vs (v ∷ ws) n (omega (arith, h))

-- the receiver is beneath n arguments
first-is : (vs : List Value) (n : ℕ) → n < length vs → first (reverse (take (n + 1) vs)) ≡ slice_get vs n
first-is vs n h = let e : n + 1 ≡ suc n = omega arith in rw e (first-reversed vs [] n h)

local-begun : (T : Types) (os : List Obj) (args more : List Value) (ts others : List Ty) (i : ℕ) → i < length ts → AllBelong T os args ts
    → LocalFits T os (slice_get (args ++ more) i) (slice_get (ts ++ others) i)
local-begun T os [] more [] others i less h = absurd (omega (arith, less))
local-begun T os [] more (t ∷ ts) others i less h = absurd h
local-begun T os (v ∷ args) more [] others i less h = absurd h
local-begun T os (v ∷ args) more (t ∷ ts) others zero less h = h.0
local-begun T os (v ∷ args) more (t ∷ ts) others (suc i) less h = local-begun T os args more ts others i (omega (arith, less)) h.1

pub this-is : (c : ℕ) (ts : List Ty) → not_empty ts ≡ true → ThisFits c ts → ts ≡ ClassType c ∷ []
this-is c [] e h = absurd (let no : ⊥ = cc in no)
this-is c (t ∷ ts) e h = rw (h.0, h.1) refl

pub this-none : (ts : List Ty) → not_empty ts ≡ false → ts ≡ []
this-none [] e = refl
this-none (t ∷ ts) e = absurd (let no : ⊥ = cc in no)

same-number : (n : ℕ) → (n == n) ≡ true
same-number n = ⊎_elim (λ y. y.0) (λ d. absurd (d.1 refl)) (eqb_tells n n)

-- made of a class
made-is : (T : Types) (c : ℕ) (k : ObjKind) → is_of T c k ≡ true → (d : ℕ) × (k ≡ kind.Made d) × (is_class T c d ≡ true)
made-is T c (kind.Holder d) h = absurd (let no : ⊥ = cc in no)
made-is T c (kind.Made d) h = (d, refl, h)
made-is T c kind.Plain h = absurd (let no : ⊥ = cc in no)

runs-is : (T : Types) (k : ObjKind) → may_run T k ≡ true → (d : ℕ) × (k ≡ kind.Made d) × (is_runnable T d ≡ true)
runs-is T (kind.Holder d) h = absurd (let no : ⊥ = cc in no)
runs-is T (kind.Made d) h = (d, refl, h)
runs-is T kind.Plain h = absurd (let no : ⊥ = cc in no)

module _ (p : Program) (T : Types) (program : ProgramFits p T) where
  -- ---- calls that begin

  pub begun-fits : (os : List Obj) (u : ℕ) (code : UnitCode) (args : List Value) (w : Gives) → slice_get p.units u ≡ Some code
      → AllBelong T os args (args_of (of_unit T u)) → TopFits p T os (call_with u code args w)
  begun-fits os u code args w e h =
      let fits = program.units u code e in
      let n = all-long T os args (args_of (of_unit T u)) h in (
        record {
          fits = fits.fits;
          long = length-append args (replicate (code.locals - length args) value.Null)
              ∙ (let l = length-replicate (code.locals - length args) value.Null in
              omega (arith, l, n, fits.long, length-append (args_of (of_unit T u)) (of_unit T u).others));
          locals = λ i r. local-begun T os args (replicate (code.locals - length args) value.Null) (args_of (of_unit T u)) (of_unit T u).others i
              (ltb-true i (length (args_of (of_unit T u))) (fits.set i r)) h;
          returns = fits.returns;
        },
        rw fits.needs tt,
      )

  pub begun-there : (os : List Obj) (u : ℕ) (code : UnitCode) (args : List Value) (w : Gives) → slice_get p.units u ≡ Some code
      → AllBelong T os args (args_of (of_unit T u)) → GivesThere T os w → IsThere p T os (call_with u code args w)
  begun-there os u code args w e h g = (
    rw e refl,
    there-append T os args (replicate (code.locals - length args) value.Null) (all-there T os args (args_of (of_unit T u)) h)
        (nulls-there T os (code.locals - length args)),
    g,
  )

  -- the caller awaits what the call gives
  begins-with : (f : Frame) (w : Gives) (u : ℕ) (code : UnitCode) (args : List Value) → slice_get p.units u ≡ Some code → Good p T f
      → AllBelong T f.objects args (args_of (of_unit T u)) → GivesThere T f.objects w
      → Awaits T f.objects w (of_unit T u).result f.call.temps (need_in p T f.call)
      → Kept p T false (begins f (call_for u (Some code) args w))
  begins-with f w u code args e g h there a = record {
    fields = g.fields;
    calls = (
      begun-fits f.objects u code args w e h,
      (going-known p T f.objects f.call (known_beneath w (of_unit T u).result f.call.temps) f.call.temps g.going, a, g.below),
    );
    there = (begun-there f.objects u code args w e h there, g.there);
    started = tt;
    ending = refl;
  }

  begins-kept : (f : Frame) (w : Gives) (u : ℕ) (args : List Value) → Good p T f → is_some (slice_get p.units u) ≡ true
      → AllBelong T f.objects args (args_of (of_unit T u)) → GivesThere T f.objects w
      → Awaits T f.objects w (of_unit T u).result f.call.temps (need_in p T f.call)
      → Kept p T false (begins f (call_of p (Some u) args w))
  begins-kept f w u args g is h there a =
      let code = class-is (slice_get p.units u) is in
      subst (λ o. Kept p T false (begins f (call_for u o args w))) (sym code.1) (begins-with f w u code.0 args code.1 g h there a)

  awaits-own : (os : List Obj) (r : Option Ty) (ts : List Value) (l : List Ty) → AllSuit T (option_to_list r) l
      → AllBelong T os ts (drop (length (option_to_list r)) l) → Awaits T os Own r ts l
  awaits-own os None ts l s h = h
  awaits-own os (Some t) ts [] s h = absurd s
  awaits-own os (Some t) ts (n ∷ l) s h = (s.0, h)

  -- ---- a call by the receiver's class

  -- the member that an object has, whose parameters and result are these
  record Answer (os : List Obj) (m n r : ℕ) (ps : List Ty) (res : Option Ty) : Type 0 where
    class : ℕ
    unit : ℕ
    of_class_is : class_of (slice_get os r) ≡ Some class
    number : unit_number p class m n ≡ Some unit
    takes : (vs : List Value) → AllBelong T os vs ps → AllBelong T os (value.Ref r ∷ vs) (args_of (of_unit T unit))
    result : (of_unit T unit).result ≡ res

  made-belongs : (os : List Obj) (r d : ℕ) (o : Obj) → slice_get os r ≡ Some o → o.kind ≡ kind.Made d → Belongs T os (value.Ref r) (ClassType d)
  made-belongs os r d o e k = rw (e, k) (or-left (d == d) _ (same-number d))

  -- a class that has the member with a `this`
  answer : (os : List Obj) (m n r d v : ℕ) (o : Obj) (ps : List Ty) (res : Option Ty) → slice_get os r ≡ Some o → o.kind ≡ kind.Made d
      → unit_number p d m n ≡ Some v → is_instance (of_unit T v) ≡ true → (of_unit T v).params ≡ ps → (of_unit T v).result ≡ res
      → Answer os m n r ps res
  answer os m n r d v o ps res e k number instance params result = record {
    class = d;
    unit = v;
    of_class_is = rw (e, k) refl;
    number = number;
    takes = λ vs h. rw (this-is d (of_unit T v).this instance (member-at p T program d m n v number).this, params) (made-belongs os r d o e k, h);
    result = result;
  }

  answer-alike : (os : List Obj) (m n r d u : ℕ) (o : Obj) (v : Option ℕ) → slice_get os r ≡ Some o → o.kind ≡ kind.Made d
      → is_instance (of_unit T u) ≡ true → unit_number p d m n ≡ v → IsAlike T u v → Answer os m n r (of_unit T u).params (of_unit T u).result
  answer-alike os m n r d u o None e k instance number h = absurd h
  answer-alike os m n r d u o (Some v) e k instance number h =
      answer os m n r d v o (of_unit T u).params (of_unit T u).result e k number (h.0 ∙ instance) h.1 h.2

  answer-class : (os : List Obj) (m n r c u : ℕ) → Belongs T os (value.Ref r) (ClassType c) → unit_number p c m n ≡ Some u
      → is_instance (of_unit T u) ≡ true → Answer os m n r (of_unit T u).params (of_unit T u).result
  answer-class os m n r c u h number instance =
      let at = is-there os r (is_of T c) h in
      let d = made-is T c at.obj.kind at.passes in
      ⊎_elim
      (λ y. answer os m n r d.0 u at.obj (of_unit T u).params (of_unit T u).result at.found d.1
      (ap (λ x. unit_number p x m n) y.1 ∙ number) instance refl refl)
      (λ e. let named : has (of_class T d.0).implements c ≡ true = ap (λ x. x || has (of_class T d.0).implements c) (sym e.0) ∙ d.2 in
      answer-alike os m n r d.0 u at.obj (unit_number p d.0 m n) at.found d.1 instance refl
      ((program.implements d.0 c named).members m n u number))
      (eqb_tells d.0 c)

  answer-found : (os : List Obj) (r d : ℕ) (o : Obj) (v : Option ℕ) → slice_get os r ≡ Some o → o.kind ≡ kind.Made d
      → unit_number p d RUN 0 ≡ v → RunFits T v → Answer os RUN 0 r [] None
  answer-found os r d o None e k number h = absurd h
  answer-found os r d o (Some v) e k number h =
      answer os RUN 0 r d v o [] None e k number h.0 (empty-is (of_unit T v).params (member-at p T program d RUN 0 v number).count) h.1
    where
      empty-is : (ts : List Ty) → length ts ≡ 0 → ts ≡ []
      empty-is [] e = refl
      empty-is (t ∷ ts) e = absurd (omega (arith, e))

  answer-run : (os : List Obj) (r : ℕ) → Belongs T os (value.Ref r) RunnableType → Answer os RUN 0 r [] None
  answer-run os r h =
      let at = is-there os r (may_run T) h in
      let d = runs-is T at.obj.kind at.passes in
      answer-found os r d.0 at.obj (unit_number p d.0 RUN 0) at.found d.1 refl (program.runs d.0 d.2)

  answered : (f : Frame) (m n r : ℕ) (vs : List Value) (ps : List Ty) (res : Option Ty) → Good p T f → Answer f.objects m n r ps res
      → AllBelong T f.objects vs ps → Awaits T f.objects Own res f.call.temps (need_in p T f.call)
      → Kept p T false (call_at p f m n (value.Ref r ∷ vs) (Some r))
  answered f m n r vs ps res g a h w =
      subst (λ (o : Option ℕ). Kept p T false (call_in p f m n (value.Ref r ∷ vs) o)) (sym a.of_class_is)
      (subst (λ (o : Option ℕ). Kept p T false (begins f (call_of p o (value.Ref r ∷ vs) Own))) (sym a.number)
      (begins-kept f Own a.unit (value.Ref r ∷ vs) g (member-at p T program a.class m n a.unit a.number).there (a.takes vs h) tt
      (rw a.result w)))

  on-kept : (f : Frame) (m n : ℕ) (v : Value) (vs : List Value) (test : ObjKind → Bool) (ps : List Ty) (res : Option Ty) → Good p T f
      → refers f.objects v test ≡ true → AllBelong T f.objects vs ps
      → ((r : ℕ) → refers f.objects (value.Ref r) test ≡ true → Answer f.objects m n r ps res)
      → Awaits T f.objects Own res f.call.temps (need_in p T f.call) → Kept p T (null_in (Some v)) (call_on p f m n (v ∷ vs))
  on-kept f m n (value.Int x) vs test ps res g r h a w = absurd (let no : ⊥ = cc in no)
  on-kept f m n (value.Bool b) vs test ps res g r h a w = absurd (let no : ⊥ = cc in no)
  on-kept f m n (value.Str s) vs test ps res g r h a w = absurd (let no : ⊥ = cc in no)
  on-kept f m n value.Null vs test ps res g r h a w = end p T program f g.fields g.below g.there
  on-kept f m n (value.Ref q) vs test ps res g r h a w = answered f m n q vs ps res g (a q r) h w

  on-args : (f : Frame) (m n : ℕ) (args : List Value) (t : Ty) (ps : List Ty) (test : ObjKind → Bool) (res : Option Ty) → Good p T f
      → AllBelong T f.objects args (t ∷ ps) → ((v : Value) → Belongs T f.objects v t → refers f.objects v test ≡ true)
      → ((r : ℕ) → refers f.objects (value.Ref r) test ≡ true → Answer f.objects m n r ps res)
      → Awaits T f.objects Own res f.call.temps (need_in p T f.call) → Kept p T (null_in (first args)) (call_on p f m n args)
  on-args f m n [] t ps test res g h k a w = absurd h
  on-args f m n (v ∷ vs) t ps test res g h k a w = on-kept f m n v vs test ps res g (k v h.0) h.1 a w

  -- the temporaries have the receiver and the arguments on top
  call-kept : (f : Frame) (m n : ℕ) (ts : List Value) (t : Ty) (ps us : List Ty) (test : ObjKind → Bool) (res : Option Ty) → Good p T f
      → length ps ≡ n → AllBelong T f.objects ts (reverse (t ∷ ps) ++ us)
      → ((v : Value) → Belongs T f.objects v t → refers f.objects v test ≡ true)
      → ((r : ℕ) → refers f.objects (value.Ref r) test ≡ true → Answer f.objects m n r ps res)
      → ((vs : List Value) → AllBelong T f.objects vs us → Awaits T f.objects Own res vs (need_in p T f.call))
      → Kept p T (null_under n ts) (call_from p f m n ts)
  call-kept f m n ts t ps us test res g count h k a w =
      let long : n + 1 ≡ length (t ∷ ps) = omega (arith, count) in
      let args = args-belong T f.objects ts (t ∷ ps) us (n + 1) long h in
      let less : n < length ts = omega (arith, enough T f.objects ts (t ∷ ps) us h, count) in
      let under : null_under n ts ≡ null_in (first (reverse (take (n + 1) ts))) = ap null_in (sym (first-is ts n less)) in
      if-any (nat_lt n (length ts)) (null_under n ts) (call_on p (with_temps f (drop (n + 1) ts)) m n (reverse (take (n + 1) ts))) (ends f)
      (lt-ltb n (length ts) less)
      (rw under (on-args (with_temps f (drop (n + 1) ts)) m n (reverse (take (n + 1) ts)) t ps test res (temps p T program f (drop (n + 1) ts) g)
      args.0 k a (w (drop (n + 1) ts) args.1)))
    where
      if-any : (x y : Bool) (a b : After) → x ≡ true → Kept p T y a → Kept p T y (if x then a else b)
      if-any true y a b e h = h
      if-any false y a b e h = absurd (let no : ⊥ = cc in no)

  on-class : (f : Frame) (c m n u : ℕ) (ts : List Value) → unit_number p c m n ≡ Some u → is_instance (of_unit T u) ≡ true → Good p T f
      → UseFits T (called (of_unit T u)) (need_in p T f.call) → AllBelong T f.objects ts (need_of (called (of_unit T u)) (need_in p T f.call))
      → Kept p T (null_under n ts) (call_from p f m n ts)
  on-class f c m n u ts number instance g s h =
      let member = member-at p T program c m n u number in
      let this = this-is c (of_unit T u).this instance member.this in
      call-kept f m n ts (ClassType c) (of_unit T u).params (drop (length (option_to_list (of_unit T u).result)) (need_in p T f.call)) (is_of T c)
      (of_unit T u).result g member.count
      (subst (λ l. AllBelong T f.objects ts (reverse (l ++ (of_unit T u).params) ++ drop (length (option_to_list (of_unit T u).result)) (need_in p T f.call))) this h)
      (λ v b. b) (λ r b. answer-class f.objects m n r c u b number instance)
      (λ vs b. awaits-own f.objects (of_unit T u).result vs (need_in p T f.call) s b)

  on-number : (f : Frame) (c m n : ℕ) (o : Option ℕ) (ts : List Value) → unit_number p c m n ≡ o → Good p T f
      → UseFits T (called_on T o) (need_in p T f.call) → AllBelong T f.objects ts (need_of (called_on T o) (need_in p T f.call))
      → Kept p T (null_under n ts) (call_from p f m n ts)
  on-number f c m n None ts e g s h = absurd s
  on-number f c m n (Some u) ts e g s h = chosen (is_instance (of_unit T u)) refl s h
    where
      chosen : (x : Bool) → is_instance (of_unit T u) ≡ x
          → UseFits T (if x then called (of_unit T u) else Wrong) (need_in p T f.call)
          → AllBelong T f.objects ts (need_of (if x then called (of_unit T u) else Wrong) (need_in p T f.call))
          → Kept p T (null_under n ts) (call_from p f m n ts)
      chosen true i s h = on-class f c m n u ts e i g s h
      chosen false i s h = absurd s

  on-named : (f : Frame) (c m n : ℕ) (ts : List Value) (new : Bool) → Good p T f
      → UseFits T (if new then Wrong else called_on T (unit_number p c m n)) (need_in p T f.call)
      → AllBelong T f.objects ts (need_of (if new then Wrong else called_on T (unit_number p c m n)) (need_in p T f.call))
      → Kept p T (null_under n ts) (call_from p f m n ts)
  on-named f c m n ts true g s h = absurd s
  on-named f c m n ts false g s h = on-number f c m n (unit_number p c m n) ts refl g s h

  on-runnable : (f : Frame) (m n : ℕ) (ts : List Value) → m ≡ RUN → n ≡ 0 → Good p T f
      → AllBelong T f.objects ts (RunnableType ∷ need_in p T f.call) → Kept p T (null_under n ts) (call_from p f m n ts)
  on-runnable f m n ts em en g h =
      rw (em, en) (call-kept f RUN 0 ts RunnableType [] (need_in p T f.call) (may_run T) None g refl h
      (λ v b. b) (λ r b. answer-run f.objects r b) (λ vs b. b))

  pub of-call-kept : (f : Frame) (k : Known) (m n : ℕ) (ts : List Value) → Good p T f → UseFits T (of_call p T k m n) (need_in p T f.call)
      → AllBelong T f.objects ts (need_of (of_call p T k m n) (need_in p T f.call)) → Kept p T (null_under n ts) (call_from p f m n ts)
  of-call-kept f known.Nothing m n ts g s h = chosen (m == RUN) (n == 0) refl refl s h
    where
      equal : (a b : ℕ) → (a == b) ≡ true → a ≡ b
      equal a b e = ⊎_elim (λ y. y.1) (λ d. absurd (let no : ⊥ = cc in no)) (eqb_tells a b)

      chosen : (x y : Bool) → (m == RUN) ≡ x → (n == 0) ≡ y → UseFits T (if x && y then Goes (RunnableType ∷ []) [] else Wrong) (need_in p T f.call)
          → AllBelong T f.objects ts (need_of (if x && y then Goes (RunnableType ∷ []) [] else Wrong) (need_in p T f.call))
          → Kept p T (null_under n ts) (call_from p f m n ts)
      chosen true true em en s h = on-runnable f m n ts (equal m RUN em) (equal n 0 en) g h
      chosen true false em en s h = absurd s
      chosen false y em en s h = absurd s
  of-call-kept f (known.Class c) m n ts g s h = on-named f c m n ts (m == NEW) g s h
  of-call-kept f (known.Monitor k) m n ts g s h = absurd s

  -- ---- a static call

  static-in : (f : Frame) (c m n u : ℕ) (ts : List Value) → unit_number p c m n ≡ Some u → is_instance (of_unit T u) ≡ false → Good p T f
      → UseFits T (called (of_unit T u)) (need_in p T f.call) → AllBelong T f.objects ts (need_of (called (of_unit T u)) (need_in p T f.call))
      → Kept p T false (call_static_from p f c m n ts)
  static-in f c m n u ts number instance g s h =
      let member = member-at p T program c m n u number in
      let none = this-none (of_unit T u).this instance in
      let long : n ≡ length (args_of (of_unit T u)) = rw none (sym member.count) in
      let us : List Ty = drop (length (option_to_list (of_unit T u).result)) (need_in p T f.call) in
      let args = args-belong T f.objects ts (args_of (of_unit T u)) us n long h in
      let few : n ≤ length ts = omega (arith, enough T f.objects ts (args_of (of_unit T u)) us h, long) in
      if-kept p T program (nat_le n (length ts)) (begins (with_temps f (drop n ts)) (call_of p (unit_number p c m n) (reverse (take n ts)) Own)) (ends f)
      (le-leb n (length ts) few)
      (subst (λ (o : Option ℕ). Kept p T false (begins (with_temps f (drop n ts)) (call_of p o (reverse (take n ts)) Own))) (sym number)
      (begins-kept (with_temps f (drop n ts)) Own u (reverse (take n ts)) (temps p T program f (drop n ts) g) member.there args.0 tt
      (awaits-own f.objects (of_unit T u).result (drop n ts) (need_in p T f.call) s args.1)))

  static-number : (f : Frame) (c m n : ℕ) (o : Option ℕ) (ts : List Value) → unit_number p c m n ≡ o → Good p T f
      → UseFits T (called_static T o) (need_in p T f.call) → AllBelong T f.objects ts (need_of (called_static T o) (need_in p T f.call))
      → Kept p T false (call_static_from p f c m n ts)
  static-number f c m n None ts e g s h = absurd s
  static-number f c m n (Some u) ts e g s h = chosen (is_instance (of_unit T u)) refl s h
    where
      chosen : (x : Bool) → is_instance (of_unit T u) ≡ x
          → UseFits T (if x then Wrong else called (of_unit T u)) (need_in p T f.call)
          → AllBelong T f.objects ts (need_of (if x then Wrong else called (of_unit T u)) (need_in p T f.call))
          → Kept p T false (call_static_from p f c m n ts)
      chosen true i s h = absurd s
      chosen false i s h = static-in f c m n u ts e i g s h

  static-named : (f : Frame) (c m n : ℕ) (ts : List Value) (new : Bool) → Good p T f
      → UseFits T (if new then Wrong else called_static T (unit_number p c m n)) (need_in p T f.call)
      → AllBelong T f.objects ts (need_of (if new then Wrong else called_static T (unit_number p c m n)) (need_in p T f.call))
      → Kept p T false (call_static_from p f c m n ts)
  static-named f c m n ts true g s h = absurd s
  static-named f c m n ts false g s h = static-number f c m n (unit_number p c m n) ts refl g s h

  pub call-static-kept : (f : Frame) (c m n : ℕ) (ts : List Value) → Good p T f
      → UseFits T (unless_new m (called_static T (unit_number p c m n))) (need_in p T f.call)
      → AllBelong T f.objects ts (need_of (unless_new m (called_static T (unit_number p c m n))) (need_in p T f.call))
      → Kept p T false (call_static_from p f c m n ts)
  call-static-kept f c m n ts g s h = static-named f c m n ts (m == NEW) g s h

  -- ---- objects that are made

  abbrev new_of : Frame → ℕ → ClassInfo → Obj
  new_of f c info = new_object (kind.Made c) (initial_values (length f.objects + 1) (own_initials info.fields))

  new-at : (f : Frame) (c : ℕ) (info : ClassInfo) → slice_get (made f.objects c info.fields) (length f.objects) ≡ Some (new_of f c info)
  new-at f c info = get-past f.objects (new_of f c info ∷ replicate (fresh_count (own_initials info.fields)) fresh_object) 0 (length f.objects) (omega arith)

  new-belongs : (f : Frame) (c : ℕ) (info : ClassInfo) → Belongs T (made f.objects c info.fields) (value.Ref (length f.objects)) (ClassType c)
  new-belongs f c info = made-belongs (made f.objects c info.fields) (length f.objects) c (new_of f c info) (new-at f c info) refl

  made-grows : (f : Frame) (c : ℕ) (info : ClassInfo) → Grows f.objects (made f.objects c info.fields)
  made-grows f c info = grows-append f.objects (new_of f c info ∷ replicate (fresh_count (own_initials info.fields)) fresh_object)

  made-good : (f : Frame) (c : ℕ) (info : ClassInfo) → slice_get p.classes c ≡ Some info → Good p T f
      → Good p T (with_objects f (made f.objects c info.fields))
  made-good f c info e g =
      objects p T program f (made f.objects c info.fields) (made-grows f c info) (fields-made T f.objects c info (program.own c info e) g.fields) g

  awaits-made : (os : List Obj) (r c : ℕ) (res : Option Ty) (ts : List Value) (l : List Ty) → Belongs T os (value.Ref r) (ClassType c)
      → AllSuit T (ClassType c ∷ []) l → AllBelong T os ts (drop 1 l) → Awaits T os (Object r) res ts l
  awaits-made os r c res ts [] b s h = absurd s
  awaits-made os r c res ts (n ∷ l) b s h = (s.0 os (value.Ref r) b, h)

  -- f has the arguments taken; the new object is there
  construct-kept : (f : Frame) (c n r u : ℕ) (args : List Value) → unit_number p c NEW n ≡ Some u → is_instance (of_unit T u) ≡ true → Good p T f
      → Belongs T f.objects (value.Ref r) (ClassType c) → AllBelong T f.objects args (of_unit T u).params → AllSuit T (ClassType c ∷ []) (need_in p T f.call)
      → AllBelong T f.objects f.call.temps (drop 1 (need_in p T f.call)) → Kept p T false (construct p f r args (Some u))
  construct-kept f c n r u args number instance g b h s t =
      let member = member-at p T program c NEW n u number in
      begins-kept f (Object r) u (value.Ref r ∷ args) g member.there
      (rw (this-is c (of_unit T u).this instance member.this) (b, h)) (belongs-any T f.objects (value.Ref r) (ClassType c) b)
      (awaits-made f.objects r c (of_unit T u).result f.call.temps (need_in p T f.call) b s t)

  make-unit : (f : Frame) (c n u : ℕ) (info : ClassInfo) (ts : List Value) → unit_number p c NEW n ≡ Some u → is_instance (of_unit T u) ≡ true
      → slice_get p.classes c ≡ Some info → Good p T f → AllSuit T (ClassType c ∷ []) (need_in p T f.call)
      → AllBelong T f.objects ts (reverse (of_unit T u).params ++ drop 1 (need_in p T f.call))
      → Kept p T false (make_from p f c n ts)
  make-unit f c n u info ts number instance e g s h =
      let member = member-at p T program c NEW n u number in
      let us : List Ty = drop 1 (need_in p T f.call) in
      let args = args-belong T f.objects ts (of_unit T u).params us n (sym member.count) h in
      let few : n ≤ length ts = omega (arith, enough T f.objects ts (of_unit T u).params us h, member.count) in
      let ns : List Obj = made f.objects c info.fields in
      let w = made-grows f c info in
      let body = construct-kept (with_objects (with_temps f (drop n ts)) ns) c n (length f.objects) u (reverse (take n ts)) number instance
      (temps p T program (with_objects f ns) (drop n ts) (made-good f c info e g)) (new-belongs f c info)
      (all-grow T f.objects ns (reverse (take n ts)) (of_unit T u).params w args.0) s
      (all-grow T f.objects ns (drop n ts) us w args.1) in
      if-kept p T program (nat_le n (length ts)) (make_of p (with_temps f (drop n ts)) c n (reverse (take n ts)) (slice_get p.classes c)) (ends f)
      (le-leb n (length ts) few)
      (subst (λ (o : Option ClassInfo). Kept p T false (make_of p (with_temps f (drop n ts)) c n (reverse (take n ts)) o)) (sym e)
      (subst (λ (o : Option ℕ). Kept p T false (construct p (with_objects (with_temps f (drop n ts)) ns) (length f.objects) (reverse (take n ts)) o)) (sym number) body))

  -- without a constructor there are no arguments
  make-bare : (f : Frame) (c : ℕ) (info : ClassInfo) (ts : List Value) → unit_number p c NEW 0 ≡ None
      → slice_get p.classes c ≡ Some info → Good p T f → AllSuit T (ClassType c ∷ []) (need_in p T f.call)
      → AllBelong T f.objects ts (drop 1 (need_in p T f.call)) → Kept p T false (make_from p f c 0 ts)
  make-bare f c info ts number e g s h =
      let us : List Ty = drop 1 (need_in p T f.call) in
      let few : 0 ≤ length ts = omega arith in
      let ns : List Obj = made f.objects c info.fields in
      let body : Kept p T false (construct p (with_objects (with_temps f (drop 0 ts)) ns) (length f.objects) (reverse (take 0 ts)) None) =
      push-kept p T program (with_objects (with_temps f (drop 0 ts)) ns) (value.Ref (length f.objects)) (ClassType c)
      (temps p T program (with_objects f ns) (drop 0 ts) (made-good f c info e g)) s
      (all-grow T f.objects ns (drop 0 ts) us (made-grows f c info) h) (new-belongs f c info) in
      if-kept p T program (nat_le 0 (length ts)) (make_of p (with_temps f (drop 0 ts)) c 0 (reverse (take 0 ts)) (slice_get p.classes c)) (ends f)
      (le-leb 0 (length ts) few)
      (subst (λ (o : Option ClassInfo). Kept p T false (make_of p (with_temps f (drop 0 ts)) c 0 (reverse (take 0 ts)) o)) (sym e)
      (subst (λ (o : Option ℕ). Kept p T false (construct p (with_objects (with_temps f (drop 0 ts)) ns) (length f.objects) (reverse (take 0 ts)) o)) (sym number) body))

  make-none : (f : Frame) (c n : ℕ) (info : ClassInfo) (listed : Bool) (ts : List Value) → unit_number p c NEW n ≡ None → slice_get p.classes c ≡ Some info
      → Good p T f → UseFits T (made_bare c n listed) (need_in p T f.call) → AllBelong T f.objects ts (need_of (made_bare c n listed) (need_in p T f.call))
      → Kept p T false (make_from p f c n ts)
  make-none f c zero info true ts number e g s h = absurd s
  make-none f c zero info false ts number e g s h = make-bare f c info ts number e g s h
  make-none f c (suc n) info listed ts number e g s h = absurd s

  make-number : (f : Frame) (c n : ℕ) (info : ClassInfo) (listed : Bool) (o : Option ℕ) (ts : List Value) → unit_number p c NEW n ≡ o
      → slice_get p.classes c ≡ Some info → Good p T f → UseFits T (constructed T c n listed o) (need_in p T f.call)
      → AllBelong T f.objects ts (need_of (constructed T c n listed o) (need_in p T f.call)) → Kept p T false (make_from p f c n ts)
  make-number f c n info listed None ts number e g s h = make-none f c n info listed ts number e g s h
  make-number f c n info listed (Some u) ts number e g s h = chosen (is_instance (of_unit T u)) refl s h
    where
      chosen : (x : Bool) → is_instance (of_unit T u) ≡ x
          → UseFits T (if x then Goes (reverse (of_unit T u).params) (ClassType c ∷ []) else Wrong) (need_in p T f.call)
          → AllBelong T f.objects ts (need_of (if x then Goes (reverse (of_unit T u).params) (ClassType c ∷ []) else Wrong) (need_in p T f.call))
          → Kept p T false (make_from p f c n ts)
      chosen true i s h = make-unit f c n u info ts number i e g s h
      chosen false i s h = absurd s

  make-class : (f : Frame) (c n : ℕ) (o : Option ClassInfo) (ts : List Value) → slice_get p.classes c ≡ o → Good p T f
      → UseFits T (of_make p T c n o) (need_in p T f.call) → AllBelong T f.objects ts (need_of (of_make p T c n o) (need_in p T f.call))
      → Kept p T false (make_from p f c n ts)
  make-class f c n None ts e g s h = absurd s
  make-class f c n (Some info) ts e g s h = make-number f c n info (lists_name NEW info.units) (unit_number p c NEW n) ts refl e g s h

  pub make-kept : (f : Frame) (c n : ℕ) (ts : List Value) → Good p T f → UseFits T (of_make p T c n (slice_get p.classes c)) (need_in p T f.call)
      → AllBelong T f.objects ts (need_of (of_make p T c n (slice_get p.classes c)) (need_in p T f.call)) → Kept p T false (make_from p f c n ts)
  make-kept f c n ts g s h = make-class f c n (slice_get p.classes c) ts refl g s h

  -- ---- threads that are started

  starts-kept : (f : Frame) (r : ℕ) (ts : List Value) → Good p T f → Answer f.objects RUN 0 r [] None → AllBelong T f.objects ts (need_in p T f.call)
      → Kept p T false (start_from p f (value.Ref r ∷ ts))
  starts-kept f r ts g a h =
      let code = class-is (slice_get p.units a.unit) (member-at p T program a.class RUN 0 a.unit a.number).there in
      let top = begun-fits f.objects a.unit code.0 (value.Ref r ∷ []) Own code.1 (a.takes [] tt) in
      let gone = go p T program f ts g h in
      subst (λ (o : Option ℕ). Kept p T false (start_in p (with_temps f ts) (value.Ref r) o)) (sym a.of_class_is)
      (subst (λ (o : Option ℕ). Kept p T false (start_with (with_temps f ts) (call_of p o (value.Ref r ∷ []) Own))) (sym a.number)
      (subst (λ o. Kept p T false (start_with (with_temps f ts) (call_for a.unit o (value.Ref r ∷ []) Own))) (sym code.1)
      (record {
        fields = gone.fields;
        calls = gone.calls;
        there = gone.there;
        started = ((top, tt), (begun-there f.objects a.unit code.0 (value.Ref r ∷ []) Own code.1 (a.takes [] tt) tt, tt));
        ending = refl;
      })))

  pub start-kept : (f : Frame) (ts : List Value) → Good p T f → AllBelong T f.objects ts (RunnableType ∷ need_in p T f.call)
      → Kept p T false (start_from p f ts)
  start-kept f [] g h = absurd h
  start-kept f (value.Int x ∷ ts) g h = absurd (let e = h.0 in let no : ⊥ = cc in no)
  start-kept f (value.Bool b ∷ ts) g h = absurd (let e = h.0 in let no : ⊥ = cc in no)
  start-kept f (value.Str x ∷ ts) g h = absurd (let e = h.0 in let no : ⊥ = cc in no)
  start-kept f (value.Null ∷ ts) g h = go p T program f ts g h.1
  start-kept f (value.Ref r ∷ ts) g h = starts-kept f r ts g (answer-run f.objects r h.0) h.1
