-- The instructions that begin no call, enter no monitor and make no object.
use Rattle.std.specs.Prelude.{ℕ, not, nat_lt, is_some, List, [], ◌∷◌, Some, None, if◌then◌else◌, length, slice_get, slice_set}
use Rattle.core_model.specs.Code.{Code, Done, If, While, ◌⧺◌}
use Rattle.core_model.specs.Frames.{with_call, with_objects, with_temps, with_rest, after, goes_on, ends, push, push_if}
use Rattle.core_model.specs.Objects.{field_at, with_field, changed}
use Rattle.core_model.specs.Operators.{operated, negated}
use Rattle.core_model.specs.declared.instr.Note.{Note}
use Rattle.core_model.specs.declared.instr.Op.{Op}
use Rattle.core_model.specs.declared.config.Mode.TheVariants as mode
use Rattle.core_model.specs.declared.frame.Frame.{Frame}
use Rattle.core_model.specs.declared.frame.After.{After}
use Rattle.core_model.specs.declared.value.Value.{Value}
use Rattle.core_model.specs.declared.value.Value.TheVariants as value

-- Get(i)
abbrev pub get : Frame → ℕ → After
get f i = push_if f (slice_get f.call.locals i)

abbrev pub with_local : Frame → ℕ → Value → Frame
with_local f i v = with_call f (record f.call { locals = slice_set f.call.locals i v })

-- Set(i)
abbrev pub set_from : Frame → ℕ → List Value → After
set_from f i (v ∷ ts) = if nat_lt i (length f.call.locals) then goes_on (with_local (with_temps f ts) i v) else ends f
set_from f i [] = ends f

-- Drop
abbrev pub drop_from : Frame → List Value → After
drop_from f (v ∷ ts) = goes_on (with_temps f ts)
drop_from f [] = ends f

-- the field of the object is pushed
abbrev pub read : Frame → ℕ → ℕ → After
read f r i = push_if f (field_at f.objects r i)

-- Field(i)
abbrev pub field_from : Frame → ℕ → List Value → After
field_from f i (value.Ref r ∷ ts) = read (with_temps f ts) r i
field_from f i _ = ends f

-- FieldKeep(i)
abbrev pub keep_from : Frame → ℕ → List Value → After
keep_from f i (value.Ref r ∷ ts) = read (with_temps f (value.Ref r ∷ ts)) r i
keep_from f i _ = ends f

-- the field of the object is written
abbrev pub write : Frame → ℕ → ℕ → Value → After
write f r i v =
    if is_some (field_at f.objects r i)
    then goes_on (with_objects f (changed f.objects r (λ o. with_field o i v)))
    else ends f

-- PutField(i), once the value is popped
abbrev pub put_on : Frame → ℕ → Value → List Value → After
put_on f i v (value.Ref r ∷ ts) = write (with_temps f ts) r i v
put_on f i v _ = ends f

abbrev pub put_from : Frame → ℕ → List Value → After
put_from f i (v ∷ ts) = put_on f i v ts
put_from f i [] = ends f

-- PutStatic(c, i)
abbrev pub put_static_from : Frame → ℕ → ℕ → List Value → After
put_static_from f c i (v ∷ ts) = write (with_temps f ts) c i v
put_static_from f c i [] = ends f

-- Op(o), once the second operand is popped
abbrev pub operate_on : Frame → Op → Value → List Value → After
operate_on f o w (v ∷ ts) = push_if (with_temps f ts) (operated o v w)
operate_on f o w [] = ends f

abbrev pub operate_from : Frame → Op → List Value → After
operate_from f o (w ∷ ts) = operate_on f o w ts
operate_from f o [] = ends f

-- Neg
abbrev pub neg_from : Frame → List Value → After
neg_from f (value.Int x ∷ ts) = push (with_temps f ts) (value.Int (negated x))
neg_from f _ = ends f

-- Not
abbrev pub not_from : Frame → List Value → After
not_from f (value.Bool b ∷ ts) = push (with_temps f ts) (value.Bool (not b))
not_from f _ = ends f

-- Return
abbrev pub return_from : Frame → After
return_from f = after (with_temps f []) (mode.Leaving None)

-- ReturnValue
abbrev pub return_value_from : Frame → List Value → After
return_value_from f (v ∷ ts) = after (with_temps f []) (mode.Leaving (Some v))
return_value_from f [] = ends f

-- If(a, b)
abbrev pub branch_from : Frame → Code → Code → List Value → After
branch_from f a b (value.Bool c ∷ ts) = goes_on (with_temps (with_rest f ((if c then a else b) ⧺ f.call.rest)) ts)
branch_from f a b _ = ends f

-- While(c, b): the condition, and then an If of the body and this While again
abbrev pub turn : Frame → Note → Code → Code → After
turn f n c b = goes_on (with_rest f (c ⧺ If n (b ⧺ While n c b Done) Done f.call.rest))
