-- The instructions that change temporaries alone, and the temporaries that they leave.
use Rattle.std.proofs.Common.{◌≡◌, refl, ℕ, not, List, [], ◌∷◌, Option, Some, None, slice_get}
use Rattle.core_model.specs.Frames.{with_temps, goes_on, ends, push_if}
use Rattle.core_model.specs.Straight.{drop_from, field_from, keep_from, operate_from, neg_from, not_from}
use Rattle.core_model.specs.Objects.{field_at}
use Rattle.core_model.specs.Operators.{operated, negated}
use Rattle.core_model.specs.Step.{do_plain}
use Rattle.core_model.specs.declared.instr.Op.{Op}
use Rattle.core_model.specs.declared.instr.Plain.{Plain}
use Rattle.core_model.specs.declared.instr.Plain.TheVariants as plain
use Rattle.core_model.specs.declared.program.Program.{Program}
use Rattle.core_model.specs.declared.frame.Frame.{Frame}
use Rattle.core_model.specs.declared.frame.After.{After}
use Rattle.core_model.specs.declared.object.Obj.{Obj}
use Rattle.core_model.specs.declared.value.Value.{Value}
use Rattle.core_model.specs.declared.value.Value.TheVariants as value

abbrev pub IsTemporary : Plain → Type 0
IsTemporary (plain.Set i) = ⊥
IsTemporary (plain.PutField i) = ⊥
IsTemporary (plain.PutStatic c i) = ⊥
IsTemporary (plain.Make c n) = ⊥
IsTemporary plain.MakePlain = ⊥
IsTemporary (plain.Call m n) = ⊥
IsTemporary (plain.CallStatic c m n) = ⊥
IsTemporary plain.Start = ⊥
IsTemporary plain.Return = ⊥
IsTemporary plain.ReturnValue = ⊥
IsTemporary _ = Unit {0}

abbrev pub pushed : Option Value → List Value → Option (List Value)
pushed None ts = None
pushed (Some v) ts = Some (v ∷ ts)

abbrev pub dropped : List Value → Option (List Value)
dropped [] = None
dropped (v ∷ ts) = Some ts

abbrev pub field_temps : List Obj → ℕ → List Value → Option (List Value)
field_temps os i (value.Ref r ∷ ts) = pushed (field_at os r i) ts
field_temps os i _ = None

abbrev pub keep_temps : List Obj → ℕ → List Value → Option (List Value)
keep_temps os i (value.Ref r ∷ ts) = pushed (field_at os r i) (value.Ref r ∷ ts)
keep_temps os i _ = None

abbrev pub op_temps : Op → List Value → Option (List Value)
op_temps o (w ∷ v ∷ ts) = pushed (operated o v w) ts
op_temps o _ = None

abbrev pub neg_temps : List Value → Option (List Value)
neg_temps (value.Int x ∷ ts) = Some (value.Int (negated x) ∷ ts)
neg_temps _ = None

abbrev pub not_temps : List Value → Option (List Value)
not_temps (value.Bool b ∷ ts) = Some (value.Bool (not b) ∷ ts)
not_temps _ = None

-- the temporaries that such an instruction leaves; nothing where the thread ends
abbrev pub temps_after : List Obj → List Value → List Value → Plain → Option (List Value)
temps_after os ls ts (plain.Const v) = Some (v ∷ ts)
temps_after os ls ts (plain.Get i) = pushed (slice_get ls i) ts
temps_after os ls ts plain.Drop = dropped ts
temps_after os ls ts (plain.Field i) = field_temps os i ts
temps_after os ls ts (plain.FieldKeep i) = keep_temps os i ts
temps_after os ls ts (plain.Static c i) = pushed (field_at os c i) ts
temps_after os ls ts (plain.Op o) = op_temps o ts
temps_after os ls ts plain.Neg = neg_temps ts
temps_after os ls ts plain.Not = not_temps ts
temps_after os ls ts _ = None

abbrev pub by_temps : Frame → Option (List Value) → After
by_temps f None = ends f
by_temps f (Some ts) = goes_on (with_temps f ts)

pushed-is : (f : Frame) (o : Option Value) → push_if f o ≡ by_temps f (pushed o f.call.temps)
pushed-is f None = refl
pushed-is f (Some v) = refl

read-is : (f : Frame) (ts : List Value) (o : Option Value) → push_if (with_temps f ts) o ≡ by_temps f (pushed o ts)
read-is f ts None = refl
read-is f ts (Some v) = refl

drop-is : (f : Frame) (ts : List Value) → drop_from f ts ≡ by_temps f (dropped ts)
drop-is f [] = refl
drop-is f (v ∷ ts) = refl

field-is : (f : Frame) (i : ℕ) (ts : List Value) → field_from f i ts ≡ by_temps f (field_temps f.objects i ts)
field-is f i [] = refl
field-is f i (value.Int x ∷ ts) = refl
field-is f i (value.Bool x ∷ ts) = refl
field-is f i (value.Str x ∷ ts) = refl
field-is f i (value.Null ∷ ts) = refl
field-is f i (value.Ref r ∷ ts) = read-is f ts (field_at f.objects r i)

keep-is : (f : Frame) (i : ℕ) (ts : List Value) → keep_from f i ts ≡ by_temps f (keep_temps f.objects i ts)
keep-is f i [] = refl
keep-is f i (value.Int x ∷ ts) = refl
keep-is f i (value.Bool x ∷ ts) = refl
keep-is f i (value.Str x ∷ ts) = refl
keep-is f i (value.Null ∷ ts) = refl
keep-is f i (value.Ref r ∷ ts) = read-is f (value.Ref r ∷ ts) (field_at f.objects r i)

op-is : (f : Frame) (o : Op) (ts : List Value) → operate_from f o ts ≡ by_temps f (op_temps o ts)
op-is f o [] = refl
op-is f o (w ∷ []) = refl
op-is f o (w ∷ v ∷ ts) = read-is f ts (operated o v w)

neg-is : (f : Frame) (ts : List Value) → neg_from f ts ≡ by_temps f (neg_temps ts)
neg-is f [] = refl
neg-is f (value.Int x ∷ ts) = refl
neg-is f (value.Bool x ∷ ts) = refl
neg-is f (value.Str x ∷ ts) = refl
neg-is f (value.Null ∷ ts) = refl
neg-is f (value.Ref r ∷ ts) = refl

not-is : (f : Frame) (ts : List Value) → not_from f ts ≡ by_temps f (not_temps ts)
not-is f [] = refl
not-is f (value.Int x ∷ ts) = refl
not-is f (value.Bool x ∷ ts) = refl
not-is f (value.Str x ∷ ts) = refl
not-is f (value.Null ∷ ts) = refl
not-is f (value.Ref r ∷ ts) = refl

pub temporary-is : (p : Program) (f : Frame) (i : Plain) → IsTemporary i
    → do_plain p f i ≡ by_temps f (temps_after f.objects f.call.locals f.call.temps i)
temporary-is p f (plain.Const v) h = refl
temporary-is p f (plain.Get i) h = pushed-is f (slice_get f.call.locals i)
temporary-is p f (plain.Set i) h = absurd h
temporary-is p f plain.Drop h = drop-is f f.call.temps
temporary-is p f (plain.Field i) h = field-is f i f.call.temps
temporary-is p f (plain.FieldKeep i) h = keep-is f i f.call.temps
temporary-is p f (plain.PutField i) h = absurd h
temporary-is p f (plain.Static c i) h = pushed-is f (field_at f.objects c i)
temporary-is p f (plain.PutStatic c i) h = absurd h
temporary-is p f (plain.Make c n) h = absurd h
temporary-is p f plain.MakePlain h = absurd h
temporary-is p f (plain.Call m n) h = absurd h
temporary-is p f (plain.CallStatic c m n) h = absurd h
temporary-is p f (plain.Op o) h = op-is f o f.call.temps
temporary-is p f plain.Neg h = neg-is f f.call.temps
temporary-is p f plain.Not h = not-is f f.call.temps
temporary-is p f plain.Start h = absurd h
temporary-is p f plain.Return h = absurd h
temporary-is p f plain.ReturnValue h = absurd h
