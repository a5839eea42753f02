-- The instructions that begin no call and have no code inside keep calls well typed.
use Rattle.std.proofs.Common.{◌≡◌, ◌<◌, ℕ, ℤ, zero, suc, pos, int_rem, ◌==◌, ◌&&◌, not, ⊎_elim, Bool, true, false, if◌then◌else◌, List, [], ◌∷◌, ◌++◌, Option, Some, None, length, slice_get, slice_set, drop, is_some, nat_lt, refl, sym, ◌∙◌, subst, arith, length-set}
use Rattle.std.specs.Ordering.{int_eq}
use Rattle.std.specs.Int.{w32, int_wrapping_div}
use Rattle.std.proofs.lemmas.Bool.{lt-ltb}
use Rattle.std.proofs.lemmas.Bool.Decides.{eqb_tells}
use Rattle.core_model.specs.Code.{Code, Do}
use Rattle.core_model.specs.Frames.{with_objects, with_temps, with_rest, goes_on, ends, push, push_if}
use Rattle.core_model.specs.Straight.{get, set_from, with_local, drop_from, read, field_from, keep_from, write, put_from, put_static_from, operate_from, neg_from, not_from}
use Rattle.core_model.specs.Calling.{make_plain}
use Rattle.core_model.specs.Objects.{field_at, with_field, changed, fresh_object}
use Rattle.core_model.specs.Operators.{operated, negated}
use Rattle.core_model.specs.declared.instr.Known.{Known}
use Rattle.core_model.specs.declared.instr.Known.TheVariants as known
use Rattle.core_model.specs.declared.instr.Note.{Note}
use Rattle.core_model.specs.declared.instr.Op.{Op}
use Rattle.core_model.specs.declared.instr.Op.TheVariants as op
use Rattle.core_model.specs.declared.instr.Plain.TheVariants as plain
use Rattle.core_model.specs.declared.program.Program.{Program}
use Rattle.core_model.specs.declared.object.Obj.{Obj}
use Rattle.core_model.specs.declared.config.Thread.{Thread}
use Rattle.core_model.specs.declared.frame.Frame.{Frame}
use Rattle.core_model.specs.declared.frame.After.{After}
use Rattle.core_model.specs.declared.value.Value.{Value}
use Rattle.core_model.specs.declared.value.Value.TheVariants as value
use Rattle.core_types.specs.Types.{Ty, IntType, BoolType, TextType, NullType, ObjectType, ClassType, AnyType, Types, of_class, of_unit, locals_of}
use Rattle.core_types.specs.Belonging.{is_int, Belongs, AllBelong}
use Rattle.core_types.specs.Uses.{pushed, popped, field_read, field_kept, field_written, of_field, of_const, of_op}
use Rattle.core_types.specs.Need.{need_of, AllSuit, UseFits}
use Rattle.core_types.specs.Paths.{reads, is_true, true_on_top}
use Rattle.core_types.specs.Programs.{ProgramFits}
use Rattle.core_types.specs.Configs.{IsThere, FieldsFit, LocalFits, IsGoing, need_in, result_in, BeneathFit, CallsFit, ThreadFits}
use Rattle.core_types.specs.Faults.{is_ending, null_under, zero_on_top, divides}
use Rattle.core_types.proofs.Widening.{Grows, Found, push-one, all-grow}
use Rattle.core_types.proofs.Heaps.{Holders, grows-changed, grows-append, holders-grow, fields-fresh, get-past}
use Rattle.core_types.proofs.Goings.{going-same, going-known, going-grows, beneath-grows, returns-on}
use Rattle.core_types.proofs.Codes.{ends-known}
use Rattle.core_laws.specs.Places.{Each}
use Rattle.core_types.proofs.Numbers.{belongs-any, there-set, calls-there-grow, beneath-there}
use Rattle.core_types.proofs.Fields.{FieldAt, read-found, found-some, fields-written, own-at, static-at}
use Rattle.core_laws.proofs.Owners.{get-other}

pub get-less : {A : Type 0} (xs : List A) (i : ℕ) (x : A) → slice_get xs i ≡ Some x → i < length xs
get-less [] i x e = absurd (let no : ⊥ = cc in no)
get-less (z ∷ xs) zero x e = omega arith
get-less (z ∷ xs) (suc i) x e = omega (arith, get-less xs i x e)

pub lt-get : {A B : Type 0} (xs : List A) (ys : List B) (i : ℕ) (x : A) → slice_get xs i ≡ Some x → length ys ≡ length xs → nat_lt i (length ys) ≡ true
lt-get xs ys i x e h = lt-ltb i (length ys) (omega (arith, get-less xs i x e, h))

pub get-long : {A : Type 0} (xs : List A) (i : ℕ) (x : A) → i < length xs → slice_get (slice_set xs i x) i ≡ Some x
get-long [] i x h = absurd (omega (arith, h))
get-long (y ∷ xs) zero x h = refl
get-long (y ∷ xs) (suc i) x h = get-long xs i x (omega (arith, h))

abbrev pub StartedFits : Program → Types → List Obj → Option Thread → Type 0
StartedFits p T os None = Unit {0}
StartedFits p T os (Some h) = ThreadFits p T os h × Each (IsThere p T os) h.calls

-- what a step leaves of its thread; `x` says whether the thread is ending
pub record Kept (p : Program) (T : Types) (x : Bool) (a : After) : Type 0 where
  pub fields : FieldsFit T a.objects
  pub calls : CallsFit p T a.objects a.mode a.calls
  pub there : Each (IsThere p T a.objects) a.calls
  pub started : StartedFits p T a.objects a.started
  pub ending : is_ending a.mode ≡ x

-- what a step finds, once the instruction is taken from the rest
pub record Good (p : Program) (T : Types) (f : Frame) : Type 0 where
  pub fields : FieldsFit T f.objects
  pub holders : Holders p f.objects
  pub going : IsGoing p T f.objects false f.call
  pub below : BeneathFit p T f.objects f.call.gives (result_in T f.call) f.below
  pub there : Each (IsThere p T f.objects) (f.call ∷ f.below)

module _ (p : Program) (T : Types) (program : ProgramFits p T) where
  pub temps : (f : Frame) (ts : List Value) → Good p T f → Good p T (with_temps f ts)
  temps f ts g = record { fields = g.fields; holders = g.holders; going = going-same p T f.objects f.call false ts g.going; below = g.below; there = g.there }

  pub objects : (f : Frame) (ns : List Obj) → Grows f.objects ns → FieldsFit T ns → Good p T f → Good p T (with_objects f ns)
  objects f ns w fields g = record {
    fields = fields;
    holders = holders-grow p f.objects ns w g.holders;
    going = going-grows p T f.objects ns false f.call w g.going;
    below = beneath-grows p T f.objects ns f.call.gives (result_in T f.call) f.below w g.below;
    there = calls-there-grow p T f.objects ns (f.call ∷ f.below) w g.there;
  }

  pub go : (f : Frame) (ts : List Value) → Good p T f → AllBelong T f.objects ts (need_in p T f.call) → Kept p T false (goes_on (with_temps f ts))
  go f ts g h = record {
    fields = g.fields;
    calls = ((going-known p T f.objects f.call (true_on_top ts) ts g.going, h), g.below);
    there = g.there;
    started = tt;
    ending = refl;
  }

  pub end : (f : Frame) → FieldsFit T f.objects → BeneathFit p T f.objects f.call.gives (result_in T f.call) f.below
      → Each (IsThere p T f.objects) (f.call ∷ f.below) → Kept p T true (ends f)
  end f fields below there = record {
    fields = fields;
    calls = (refl, beneath-there p T f.objects f.call.gives (result_in T f.call) f.below below);
    there = there;
    started = tt;
    ending = refl;
  }

  pub push-kept : (f : Frame) (v : Value) (t : Ty) → Good p T f → AllSuit T (t ∷ []) (need_in p T f.call)
      → AllBelong T f.objects f.call.temps (drop 1 (need_in p T f.call)) → Belongs T f.objects v t → Kept p T false (push f v)
  push-kept f v t g s h b = go f (v ∷ f.call.temps) g (push-one T f.objects v t f.call.temps (need_in p T f.call) s b h)

  push-found : (f : Frame) (o : Option Value) (t : Ty) → Good p T f → AllSuit T (t ∷ []) (need_in p T f.call)
      → AllBelong T f.objects f.call.temps (drop 1 (need_in p T f.call)) → Found T f.objects o t → Kept p T false (push_if f o)
  push-found f None t g s h b = absurd b
  push-found f (Some v) t g s h b = push-kept f v t g s h b

  pub if-kept : (x : Bool) (a b : After) → x ≡ true → Kept p T false a → Kept p T false (if x then a else b)
  if-kept true a b e h = h
  if-kept false a b e h = absurd (let no : ⊥ = cc in no)

  -- ---- locals and temporaries

  const-with : (f : Frame) (v : Value) (t : Ty) → AllSuit T (t ∷ []) (need_in p T f.call)
      → AllBelong T f.objects f.call.temps (drop 1 (need_in p T f.call)) → Belongs T f.objects v t → FieldsFit T f.objects
      → IsGoing p T f.objects (is_true v) f.call → BeneathFit p T f.objects f.call.gives (result_in T f.call) f.below
      → Each (IsThere p T f.objects) (f.call ∷ f.below) → Kept p T false (push f v)
  const-with f v t s h b fields g below there = record {
    fields = fields;
    calls = (
      (
        going-same p T f.objects f.call (is_true v) (v ∷ f.call.temps) g,
        push-one T f.objects v t f.call.temps (need_in p T f.call) s b h,
      ),
      below,
    );
    there = there;
    started = tt;
    ending = refl;
  }

  pub const-kept : (f : Frame) (v : Value) → UseFits T (of_const v) (need_in p T f.call)
      → AllBelong T f.objects f.call.temps (need_of (of_const v) (need_in p T f.call)) → FieldsFit T f.objects
      → IsGoing p T f.objects (is_true v) f.call → BeneathFit p T f.objects f.call.gives (result_in T f.call) f.below
      → Each (IsThere p T f.objects) (f.call ∷ f.below) → Kept p T false (push f v)
  const-kept f (value.Int x) s h fields g below there = const-with f (value.Int x) IntType s h refl fields g below there
  const-kept f (value.Bool b) s h fields g below there = const-with f (value.Bool b) BoolType s h refl fields g below there
  const-kept f (value.Str x) s h fields g below there = const-with f (value.Str x) TextType s h refl fields g below there
  const-kept f value.Null s h fields g below there = const-with f value.Null NullType s h refl fields g below there
  const-kept f (value.Ref r) s h fields g below there = absurd s

  local-kept : (f : Frame) (w : Option Value) (t : Ty) → Good p T f → AllSuit T (t ∷ []) (need_in p T f.call)
      → AllBelong T f.objects f.call.temps (drop 1 (need_in p T f.call)) → LocalFits T f.objects w (Some t) → Kept p T false (push_if f w)
  local-kept f None t g s h l = absurd l
  local-kept f (Some v) t g s h l = push-kept f v t g s h l

  pub get-kept : (f : Frame) (i : ℕ) (o : Option Ty) → Good p T f → UseFits T (pushed o) (need_in p T f.call)
      → AllBelong T f.objects f.call.temps (need_of (pushed o) (need_in p T f.call)) → LocalFits T f.objects (slice_get f.call.locals i) o
      → Kept p T false (get f i)
  get-kept f i None g s h l = absurd s
  get-kept f i (Some t) g s h l = local-kept f (slice_get f.call.locals i) t g s h l

  pub drop-kept : (f : Frame) (ts : List Value) → Good p T f → AllBelong T f.objects ts (AnyType ∷ need_in p T f.call) → Kept p T false (drop_from f ts)
  drop-kept f [] g h = absurd h
  drop-kept f (v ∷ ts) g h = go f ts g h.1

  pub neg-kept : (f : Frame) (ts : List Value) → Good p T f → AllSuit T (IntType ∷ []) (need_in p T f.call)
      → AllBelong T f.objects ts (IntType ∷ drop 1 (need_in p T f.call)) → Kept p T false (neg_from f ts)
  neg-kept f [] g s h = absurd h
  neg-kept f (value.Int x ∷ ts) g s h = push-kept (with_temps f ts) (value.Int (negated x)) IntType (temps f ts g) s h.1 refl
  neg-kept f (value.Bool b ∷ ts) g s h = absurd (let e = h.0 in let no : ⊥ = cc in no)
  neg-kept f (value.Str x ∷ ts) g s h = absurd (let e = h.0 in let no : ⊥ = cc in no)
  neg-kept f (value.Null ∷ ts) g s h = absurd (let e = h.0 in let no : ⊥ = cc in no)
  neg-kept f (value.Ref r ∷ ts) g s h = absurd (let e = h.0 in let no : ⊥ = cc in no)

  pub not-kept : (f : Frame) (ts : List Value) → Good p T f → AllSuit T (BoolType ∷ []) (need_in p T f.call)
      → AllBelong T f.objects ts (BoolType ∷ drop 1 (need_in p T f.call)) → Kept p T false (not_from f ts)
  not-kept f [] g s h = absurd h
  not-kept f (value.Int x ∷ ts) g s h = absurd (let e = h.0 in let no : ⊥ = cc in no)
  not-kept f (value.Bool b ∷ ts) g s h = push-kept (with_temps f ts) (value.Bool (not b)) BoolType (temps f ts g) s h.1 refl
  not-kept f (value.Str x ∷ ts) g s h = absurd (let e = h.0 in let no : ⊥ = cc in no)
  not-kept f (value.Null ∷ ts) g s h = absurd (let e = h.0 in let no : ⊥ = cc in no)
  not-kept f (value.Ref r ∷ ts) g s h = absurd (let e = h.0 in let no : ⊥ = cc in no)

  -- the local is set, and read from then on
  set-going : (f : Frame) (n : Note) (i : ℕ) (k : Code) (v : Value) (t : Ty) (ts : List Value) (known : Bool)
      → slice_get (locals_of (of_unit T f.call.unit)) i ≡ Some t → Belongs T f.objects v t
      → IsGoing p T f.objects known (record f.call { rest = Do n (plain.Set i) k })
      → IsGoing p T f.objects (true_on_top ts) (record f.call { rest = k; locals = slice_set f.call.locals i v; temps = ts })
  set-going f n i k v t ts known e b g = record {
    fits = g.fits.1;
    long = length-set f.call.locals i v ∙ g.long;
    locals = λ j r. ⊎_elim
        (λ y. subst (λ (m : ℕ). LocalFits T f.objects (slice_get (slice_set f.call.locals i v) m) (slice_get (locals_of (of_unit T f.call.unit)) m)) (sym y.1)
        (here f.objects (slice_get (slice_set f.call.locals i v) i) (slice_get (locals_of (of_unit T f.call.unit)) i) v t
        (get-long f.call.locals i v (omega (arith, get-less (locals_of (of_unit T f.call.unit)) i t e, g.long))) e b))
        (λ d. let later : not (j == i) && reads j k false ≡ true = rw d.0 r in
        subst (λ w. LocalFits T f.objects w (slice_get (locals_of (of_unit T f.call.unit)) j))
        (sym (get-other f.call.locals i j v (λ x. d.1 (sym x)))) (g.locals j later))
        (eqb_tells j i);
    returns = returns-on (of_unit T f.call.unit).result known (true_on_top ts) (Do n (plain.Set i) k) k (ends-known (true_on_top ts) k true) g.returns;
  }
    where
      here : (os : List Obj) (w : Option Value) (u : Option Ty) (v : Value) (t : Ty) → w ≡ Some v → u ≡ Some t → Belongs T os v t → LocalFits T os w u
      here os w u v t e d b = rw (e, d) b

  set-in : (f : Frame) (n : Note) (i : ℕ) (k : Code) (o : Option Ty) (ts : List Value) (known : Bool)
      → slice_get (locals_of (of_unit T f.call.unit)) i ≡ o → FieldsFit T f.objects
      → BeneathFit p T f.objects f.call.gives (result_in T f.call) f.below → Each (IsThere p T f.objects) (f.call ∷ f.below)
      → IsGoing p T f.objects known (record f.call { rest = Do n (plain.Set i) k })
      → UseFits T (popped o) (need_in p T (record f.call { rest = k })) → AllBelong T f.objects ts (need_of (popped o) (need_in p T (record f.call { rest = k })))
      → Kept p T false (set_from (with_rest f k) i ts)
  set-in f n i k None ts known e fields below there g s h = absurd s
  set-in f n i k (Some t) [] known e fields below there g s h = absurd h
  set-in f n i k (Some t) (v ∷ ts) known e fields below there g s h =
      if-kept (nat_lt i (length f.call.locals)) (goes_on (with_local (with_temps (with_rest f k) ts) i v)) (ends (with_rest f k))
      (lt-get (locals_of (of_unit T f.call.unit)) f.call.locals i t e g.long)
      (record {
        fields = fields;
        calls = ((set-going f n i k v t ts known e h.0 g, h.1), below);
        there = ((there.0.0, there-set T f.objects f.call.locals i v (belongs-any T f.objects v t h.0) there.0.1, there.0.2), there.1);
        started = tt;
        ending = refl;
      })

  pub set-kept : (f : Frame) (n : Note) (i : ℕ) (k : Code) (ts : List Value) (known : Bool) → FieldsFit T f.objects
      → BeneathFit p T f.objects f.call.gives (result_in T f.call) f.below → Each (IsThere p T f.objects) (f.call ∷ f.below)
      → IsGoing p T f.objects known (record f.call { rest = Do n (plain.Set i) k })
      → AllBelong T f.objects ts (need_in p T (record f.call { rest = Do n (plain.Set i) k }))
      → Kept p T false (set_from (with_rest f k) i ts)
  set-kept f n i k ts known fields below there g h =
      set-in f n i k (slice_get (locals_of (of_unit T f.call.unit)) i) ts known refl fields below there g g.fits.0 h

  -- ---- operators

  push-unless : (f : Frame) (b : Bool) (v : Value) → Good p T f → AllSuit T (IntType ∷ []) (need_in p T f.call)
      → AllBelong T f.objects f.call.temps (drop 1 (need_in p T f.call)) → Belongs T f.objects v IntType
      → Kept p T b (push_if f (if b then None else Some v))
  push-unless f true v g s h b = end f g.fields g.below g.there
  push-unless f false v g s h b = push-kept f v IntType g s h b

  equal-found : (os : List Obj) (v w : Value) → Found T os (operated op.Equal v w) BoolType
  equal-found os (value.Int x) (value.Int y) = refl
  equal-found os (value.Int x) (value.Bool b) = refl
  equal-found os (value.Int x) (value.Str y) = refl
  equal-found os (value.Int x) value.Null = refl
  equal-found os (value.Int x) (value.Ref r) = refl
  equal-found os (value.Bool b) w = refl
  equal-found os (value.Str x) w = refl
  equal-found os value.Null w = refl
  equal-found os (value.Ref r) w = refl

  other-found : (os : List Obj) (v w : Value) → Found T os (operated op.NotEqual v w) BoolType
  other-found os (value.Int x) (value.Int y) = refl
  other-found os (value.Int x) (value.Bool b) = refl
  other-found os (value.Int x) (value.Str y) = refl
  other-found os (value.Int x) value.Null = refl
  other-found os (value.Int x) (value.Ref r) = refl
  other-found os (value.Bool b) w = refl
  other-found os (value.Str x) w = refl
  other-found os value.Null w = refl
  other-found os (value.Ref r) w = refl

  int-is : (v : Value) → is_int v ≡ true → (x : ℤ) × (v ≡ value.Int x)
  int-is (value.Int x) h = (x, refl)
  int-is (value.Bool b) h = absurd (let no : ⊥ = cc in no)
  int-is (value.Str s) h = absurd (let no : ⊥ = cc in no)
  int-is value.Null h = absurd (let no : ⊥ = cc in no)
  int-is (value.Ref r) h = absurd (let no : ⊥ = cc in no)

  -- an operator on two ints that always gives a value
  total-kept : (f : Frame) (o : Op) (t : Ty) (ts : List Value) → ((os : List Obj) (x y : ℤ) → Found T os (operated o (value.Int x) (value.Int y)) t)
      → Good p T f → AllSuit T (t ∷ []) (need_in p T f.call)
      → AllBelong T f.objects ts (IntType ∷ IntType ∷ drop 1 (need_in p T f.call)) → Kept p T false (operate_from f o ts)
  total-kept f o t [] give g s h = absurd h
  total-kept f o t (w ∷ []) give g s h = absurd h.1
  total-kept f o t (w ∷ v ∷ ts) give g s h =
      let y = int-is w h.0 in
      let x = int-is v h.1.0 in
      push-found (with_temps f ts) (operated o v w) t (temps f ts g) s h.1.1 (rw (x.1, y.1) (give f.objects x.0 y.0))

  -- `/` and `%`, which a divisor of zero ends
  partial-kept : (f : Frame) (o : Op) (ts : List Value) (by : ℤ → ℤ → ℤ)
      → ((x y : ℤ) → operated o (value.Int x) (value.Int y) ≡ (if int_eq y (pos 0) then None else Some (value.Int (by x y))))
      → Good p T f → AllSuit T (IntType ∷ []) (need_in p T f.call)
      → AllBelong T f.objects ts (IntType ∷ IntType ∷ drop 1 (need_in p T f.call)) → Kept p T (zero_on_top ts) (operate_from f o ts)
  partial-kept f o [] by is g s h = absurd h
  partial-kept f o (w ∷ []) by is g s h = absurd h.1
  partial-kept f o (value.Int y ∷ value.Int x ∷ ts) by is g s h =
      subst (λ z. Kept p T (int_eq y (pos 0)) (push_if (with_temps f ts) z)) (sym (is x y))
      (push-unless (with_temps f ts) (int_eq y (pos 0)) (value.Int (by x y)) (temps f ts g) s h.1.1 refl)
  partial-kept f o (value.Int y ∷ value.Bool b ∷ ts) by is g s h = absurd (let e = h.1.0 in let no : ⊥ = cc in no)
  partial-kept f o (value.Int y ∷ value.Str x ∷ ts) by is g s h = absurd (let e = h.1.0 in let no : ⊥ = cc in no)
  partial-kept f o (value.Int y ∷ value.Null ∷ ts) by is g s h = absurd (let e = h.1.0 in let no : ⊥ = cc in no)
  partial-kept f o (value.Int y ∷ value.Ref r ∷ ts) by is g s h = absurd (let e = h.1.0 in let no : ⊥ = cc in no)
  partial-kept f o (value.Bool b ∷ v ∷ ts) by is g s h = absurd (let e = h.0 in let no : ⊥ = cc in no)
  partial-kept f o (value.Str x ∷ v ∷ ts) by is g s h = absurd (let e = h.0 in let no : ⊥ = cc in no)
  partial-kept f o (value.Null ∷ v ∷ ts) by is g s h = absurd (let e = h.0 in let no : ⊥ = cc in no)
  partial-kept f o (value.Ref r ∷ v ∷ ts) by is g s h = absurd (let e = h.0 in let no : ⊥ = cc in no)

  -- `==` and `!=`, of any two values
  any-kept : (f : Frame) (o : Op) (ts : List Value) → ((os : List Obj) (v w : Value) → Found T os (operated o v w) BoolType)
      → Good p T f → AllSuit T (BoolType ∷ []) (need_in p T f.call)
      → AllBelong T f.objects ts (AnyType ∷ AnyType ∷ drop 1 (need_in p T f.call)) → Kept p T false (operate_from f o ts)
  any-kept f o [] give g s h = absurd h
  any-kept f o (w ∷ []) give g s h = absurd h.1
  any-kept f o (w ∷ v ∷ ts) give g s h =
      push-found (with_temps f ts) (operated o v w) BoolType (temps f ts g) s h.1.1 (give f.objects v w)

  pub operate-kept : (f : Frame) (o : Op) (ts : List Value) → Good p T f → UseFits T (of_op o) (need_in p T f.call)
      → AllBelong T f.objects ts (need_of (of_op o) (need_in p T f.call)) → Kept p T (divides o && zero_on_top ts) (operate_from f o ts)
  operate-kept f op.Add ts g s h = total-kept f op.Add IntType ts (λ os x y. refl) g s h
  operate-kept f op.Subtract ts g s h = total-kept f op.Subtract IntType ts (λ os x y. refl) g s h
  operate-kept f op.Multiply ts g s h = total-kept f op.Multiply IntType ts (λ os x y. refl) g s h
  operate-kept f op.Divide ts g s h = partial-kept f op.Divide ts (int_wrapping_div w32) (λ x y. refl) g s h
  operate-kept f op.Remainder ts g s h = partial-kept f op.Remainder ts int_rem (λ x y. refl) g s h
  operate-kept f op.Less ts g s h = total-kept f op.Less BoolType ts (λ os x y. refl) g s h
  operate-kept f op.Greater ts g s h = total-kept f op.Greater BoolType ts (λ os x y. refl) g s h
  operate-kept f op.AtMost ts g s h = total-kept f op.AtMost BoolType ts (λ os x y. refl) g s h
  operate-kept f op.AtLeast ts g s h = total-kept f op.AtLeast BoolType ts (λ os x y. refl) g s h
  operate-kept f op.Equal ts g s h = any-kept f op.Equal ts equal-found g s h
  operate-kept f op.NotEqual ts g s h = any-kept f op.NotEqual ts other-found g s h

  -- ---- fields

  pub read-kept : (f : Frame) (r i : ℕ) (t : Ty) → FieldAt T f.objects r i t → Good p T f → AllSuit T (t ∷ []) (need_in p T f.call)
      → AllBelong T f.objects f.call.temps (drop 1 (need_in p T f.call)) → Kept p T false (read f r i)
  read-kept f r i t a g s h = push-found f (field_at f.objects r i) t g s h (read-found T f.objects r i t g.fields a)

  pub write-kept : (f : Frame) (r i : ℕ) (v : Value) (t : Ty) → FieldAt T f.objects r i t → Belongs T f.objects v t → Good p T f
      → AllBelong T f.objects f.call.temps (need_in p T f.call) → Kept p T false (write f r i v)
  write-kept f r i v t a b g h =
      let ns : List Obj = changed f.objects r (λ o. with_field o i v) in
      let w : Grows f.objects ns = grows-changed f.objects r (λ o. with_field o i v) (λ x. refl) in
      if-kept (is_some (field_at f.objects r i)) (goes_on (with_objects f ns)) (ends f)
      (found-some T f.objects (field_at f.objects r i) t (read-found T f.objects r i t g.fields a))
      (go (with_objects f ns) f.call.temps (objects f ns w (fields-written T f.objects r i v t a b g.fields) g)
      (all-grow T f.objects ns f.call.temps (need_in p T f.call) w h))

  field-kept : (f : Frame) (c i : ℕ) (o : Option Ty) (ts : List Value) → slice_get (of_class T c).own i ≡ o → Good p T f
      → UseFits T (field_read c o) (need_in p T f.call) → AllBelong T f.objects ts (need_of (field_read c o) (need_in p T f.call))
      → Kept p T (null_under 0 ts) (field_from f i ts)
  field-kept f c i None ts e g s h = absurd s
  field-kept f c i (Some t) [] e g s h = absurd h
  field-kept f c i (Some t) (value.Int x ∷ ts) e g s h = absurd (let e = h.0 in let no : ⊥ = cc in no)
  field-kept f c i (Some t) (value.Bool b ∷ ts) e g s h = absurd (let e = h.0 in let no : ⊥ = cc in no)
  field-kept f c i (Some t) (value.Str x ∷ ts) e g s h = absurd (let e = h.0 in let no : ⊥ = cc in no)
  field-kept f c i (Some t) (value.Null ∷ ts) e g s h = end f g.fields g.below g.there
  field-kept f c i (Some t) (value.Ref r ∷ ts) e g s h =
      read-kept (with_temps f ts) r i t (own-at p T program f.objects r c i t h.0 e) (temps f ts g) s h.1

  keep-kept : (f : Frame) (c i : ℕ) (o : Option Ty) (ts : List Value) → slice_get (of_class T c).own i ≡ o → Good p T f
      → UseFits T (field_kept c o) (need_in p T f.call) → AllBelong T f.objects ts (need_of (field_kept c o) (need_in p T f.call))
      → Kept p T (null_under 0 ts) (keep_from f i ts)
  keep-kept f c i None ts e g s h = absurd s
  keep-kept f c i (Some t) [] e g s h = absurd h
  keep-kept f c i (Some t) (value.Int x ∷ ts) e g s h = absurd (let e = h.0 in let no : ⊥ = cc in no)
  keep-kept f c i (Some t) (value.Bool b ∷ ts) e g s h = absurd (let e = h.0 in let no : ⊥ = cc in no)
  keep-kept f c i (Some t) (value.Str x ∷ ts) e g s h = absurd (let e = h.0 in let no : ⊥ = cc in no)
  keep-kept f c i (Some t) (value.Null ∷ ts) e g s h = end f g.fields g.below g.there
  keep-kept f c i (Some t) (value.Ref r ∷ ts) e g s h =
      read-kept (with_temps f (value.Ref r ∷ ts)) r i t (own-at p T program f.objects r c i t h.0 e) (temps f (value.Ref r ∷ ts) g)
      (first T t (ClassType c) (need_in p T f.call) s) (under T t f.objects (value.Ref r) (ClassType c) ts (need_in p T f.call) s h.0 h.1)
    where
      first : (T : Types) (t u : Ty) (ns : List Ty) → AllSuit T (t ∷ u ∷ []) ns → AllSuit T (t ∷ []) ns
      first T t u [] s = absurd s
      first T t u (n ∷ ns) s = (s.0, tt)

      under : (T : Types) (t : Ty) (os : List Obj) (v : Value) (u : Ty) (vs : List Value) (ns : List Ty) → AllSuit T (t ∷ u ∷ []) ns
          → Belongs T os v u → AllBelong T os vs (drop 2 ns) → AllBelong T os (v ∷ vs) (drop 1 ns)
      under T t os v u vs [] s b h = absurd s
      under T t os v u vs (n ∷ ns) s b h = push-one T os v u vs ns s.1 b h

  put-kept : (f : Frame) (c i : ℕ) (o : Option Ty) (ts : List Value) → slice_get (of_class T c).own i ≡ o → Good p T f
      → UseFits T (field_written c o) (need_in p T f.call) → AllBelong T f.objects ts (need_of (field_written c o) (need_in p T f.call))
      → Kept p T (null_under 1 ts) (put_from f i ts)
  put-kept f c i None ts e g s h = absurd s
  put-kept f c i (Some t) [] e g s h = absurd h
  put-kept f c i (Some t) (v ∷ []) e g s h = absurd h.1
  put-kept f c i (Some t) (v ∷ value.Int x ∷ ts) e g s h = absurd (let e = h.1.0 in let no : ⊥ = cc in no)
  put-kept f c i (Some t) (v ∷ value.Bool b ∷ ts) e g s h = absurd (let e = h.1.0 in let no : ⊥ = cc in no)
  put-kept f c i (Some t) (v ∷ value.Str x ∷ ts) e g s h = absurd (let e = h.1.0 in let no : ⊥ = cc in no)
  put-kept f c i (Some t) (v ∷ value.Null ∷ ts) e g s h = end f g.fields g.below g.there
  put-kept f c i (Some t) (v ∷ value.Ref r ∷ ts) e g s h =
      write-kept (with_temps f ts) r i v t (own-at p T program f.objects r c i t h.1.0 e) h.0 (temps f ts g) h.1.1

  pub of-field-kept : (f : Frame) (k : Known) (i : ℕ) (ts : List Value) → Good p T f → UseFits T (of_field field_read T k i) (need_in p T f.call)
      → AllBelong T f.objects ts (need_of (of_field field_read T k i) (need_in p T f.call)) → Kept p T (null_under 0 ts) (field_from f i ts)
  of-field-kept f known.Nothing i ts g s h = absurd s
  of-field-kept f (known.Class c) i ts g s h = field-kept f c i (slice_get (of_class T c).own i) ts refl g s h
  of-field-kept f (known.Monitor m) i ts g s h = absurd s

  pub of-keep-kept : (f : Frame) (k : Known) (i : ℕ) (ts : List Value) → Good p T f → UseFits T (of_field field_kept T k i) (need_in p T f.call)
      → AllBelong T f.objects ts (need_of (of_field field_kept T k i) (need_in p T f.call)) → Kept p T (null_under 0 ts) (keep_from f i ts)
  of-keep-kept f known.Nothing i ts g s h = absurd s
  of-keep-kept f (known.Class c) i ts g s h = keep-kept f c i (slice_get (of_class T c).own i) ts refl g s h
  of-keep-kept f (known.Monitor m) i ts g s h = absurd s

  pub of-put-kept : (f : Frame) (k : Known) (i : ℕ) (ts : List Value) → Good p T f → UseFits T (of_field field_written T k i) (need_in p T f.call)
      → AllBelong T f.objects ts (need_of (of_field field_written T k i) (need_in p T f.call)) → Kept p T (null_under 1 ts) (put_from f i ts)
  of-put-kept f known.Nothing i ts g s h = absurd s
  of-put-kept f (known.Class c) i ts g s h = put-kept f c i (slice_get (of_class T c).own i) ts refl g s h
  of-put-kept f (known.Monitor m) i ts g s h = absurd s

  static-in : (f : Frame) (c i : ℕ) (o : Option Ty) → slice_get (of_class T c).statics i ≡ o → Good p T f → UseFits T (pushed o) (need_in p T f.call)
      → AllBelong T f.objects f.call.temps (need_of (pushed o) (need_in p T f.call)) → Kept p T false (read f c i)
  static-in f c i None e g s h = absurd s
  static-in f c i (Some t) e g s h = read-kept f c i t (static-at p T program f.objects c i t g.holders e) g s h

  pub static-kept : (f : Frame) (c i : ℕ) → Good p T f → UseFits T (pushed (slice_get (of_class T c).statics i)) (need_in p T f.call)
      → AllBelong T f.objects f.call.temps (need_of (pushed (slice_get (of_class T c).statics i)) (need_in p T f.call)) → Kept p T false (read f c i)
  static-kept f c i g s h = static-in f c i (slice_get (of_class T c).statics i) refl g s h

  put-static-in : (f : Frame) (c i : ℕ) (o : Option Ty) (ts : List Value) → slice_get (of_class T c).statics i ≡ o → Good p T f
      → UseFits T (popped o) (need_in p T f.call) → AllBelong T f.objects ts (need_of (popped o) (need_in p T f.call))
      → Kept p T false (put_static_from f c i ts)
  put-static-in f c i None ts e g s h = absurd s
  put-static-in f c i (Some t) [] e g s h = absurd h
  put-static-in f c i (Some t) (v ∷ ts) e g s h =
      write-kept (with_temps f ts) c i v t (static-at p T program f.objects c i t g.holders e) h.0 (temps f ts g) h.1

  pub put-static-kept : (f : Frame) (c i : ℕ) (ts : List Value) → Good p T f
      → UseFits T (popped (slice_get (of_class T c).statics i)) (need_in p T f.call)
      → AllBelong T f.objects ts (need_of (popped (slice_get (of_class T c).statics i)) (need_in p T f.call)) → Kept p T false (put_static_from f c i ts)
  put-static-kept f c i ts g s h = put-static-in f c i (slice_get (of_class T c).statics i) ts refl g s h

  pub plain-kept : (f : Frame) → Good p T f → AllSuit T (ObjectType ∷ []) (need_in p T f.call)
      → AllBelong T f.objects f.call.temps (drop 1 (need_in p T f.call)) → Kept p T false (make_plain f)
  plain-kept f g s h =
      let ns : List Obj = f.objects ++ fresh_object ∷ [] in
      let w : Grows f.objects ns = grows-append f.objects (fresh_object ∷ []) in
      let there : slice_get ns (length f.objects) ≡ Some fresh_object = get-past f.objects (fresh_object ∷ []) 0 (length f.objects) (omega arith) in
      push-kept (with_objects f ns) (value.Ref (length f.objects)) ObjectType (objects f ns w (fields-fresh T f.objects g.fields) g) s
      (all-grow T f.objects ns f.call.temps (drop 1 (need_in p T f.call)) w h) (rw there refl)
