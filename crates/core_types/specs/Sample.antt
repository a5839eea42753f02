-- A program with its types: `interface Source { int get(); }` and `class Counter implements Source, Runnable { static int s = 0;
-- static final Object k = new Object(); int x = 0; Counter(int a) { this.x = a; }
-- int get() { while (true) { if (x < 3) { this.x = x + 1; } else { return x; } } }
-- synchronized void run() { synchronized (Counter.class) { x = 1; } }
-- static void main(String[] args) { Counter c = new Counter(2); Source o = c; s = o.get(); new Thread(c).start(); } }`.
use Rattle.std.specs.Prelude.{ℕ, pos, true, false, [], ◌∷◌, Some, None, codes}
use Rattle.core_model.specs.Code.{Code, Done, Do, If, While, Enter, EnterClass}
use Rattle.core_model.specs.declared.instr.Known.{Known}
use Rattle.core_model.specs.declared.instr.Known.TheVariants as known
use Rattle.core_model.specs.declared.instr.Note.{Note}
use Rattle.core_model.specs.declared.instr.Op.TheVariants as op
use Rattle.core_model.specs.declared.instr.Plain.{Plain}
use Rattle.core_model.specs.declared.instr.Plain.TheVariants as plain
use Rattle.core_model.specs.declared.program.Program.{Program}
use Rattle.core_model.specs.declared.program.ClassInfo.{ClassInfo}
use Rattle.core_model.specs.declared.program.Initial.TheVariants.{Held, FreshObject}
use Rattle.core_model.specs.declared.program.UnitCode.{UnitCode}
use Rattle.core_model.specs.declared.program.UnitName.{UnitName}
use Rattle.core_model.specs.declared.value.Value.TheVariants as value
use Rattle.core_types.specs.Types.{IntType, NullType, ObjectType, ClassType, Types}

abbrev pub noted : Known → Note
noted k = record { place = 0; known = k }

-- an instruction of which nothing is noted, and one of class c
abbrev pub then : Plain → Code → Code
then i k = Do (noted known.Nothing) i k

abbrev pub then_of : ℕ → Plain → Code → Code
then_of c i k = Do (noted (known.Class c)) i k

-- the member names `new`, `main`, `run` and `get` are 0 to 3; Counter is class 0 and Source class 1
abbrev pub new_code : Code
new_code = then (plain.Get 0) (then (plain.Get 1) (then_of 0 (plain.PutField 0) Done))

abbrev pub read_x : Code → Code
read_x k = then (plain.Get 0) (then_of 0 (plain.Field 0) k)

abbrev pub add_one : Code
add_one =
    then (plain.Get 0) (read_x (then (plain.Const (value.Int (pos 1))) (then (plain.Op op.Add) (then_of 0 (plain.PutField 0) Done))))

abbrev pub add_or_give : Code
add_or_give =
    read_x (then (plain.Const (value.Int (pos 3))) (then (plain.Op op.Less)
    (If (noted known.Nothing) add_one (read_x (then plain.ReturnValue Done)) Done)))

abbrev pub forever : Code
forever = then (plain.Const (value.Bool true)) Done

abbrev pub get_code : Code
get_code = While (noted known.Nothing) forever add_or_give Done

abbrev pub set_one : Code
set_one = then (plain.Get 0) (then (plain.Const (value.Int (pos 1))) (then_of 0 (plain.PutField 0) Done))

abbrev pub run_code : Code
run_code = then (plain.Get 0) (Enter (noted known.Nothing) (EnterClass (noted known.Nothing) 0 set_one Done) Done)

abbrev pub main_code : Code
main_code =
    then (plain.Const (value.Int (pos 2))) (then (plain.Make 0 1) (then (plain.Set 1)
    (then (plain.Get 1) (then (plain.Set 2)
    (then (plain.Get 2) (then_of 1 (plain.Call 3 0) (then (plain.PutStatic 0 0)
    (then (plain.Get 1) (then plain.Start Done)))))))))

-- the code of an interface's method
abbrev pub source_code : Code
source_code = While (noted known.Nothing) forever Done Done

abbrev pub member : ℕ → ℕ → ℕ → UnitName
member m n u = record { name = m; params = n; unit = u }

abbrev pub unit_in : ℕ → ℕ → Code → UnitCode
unit_in c n k = record { key = []; class = c; is_static = false; locals = n; code = k }

abbrev pub counter : ClassInfo
counter = record {
  name = [];
  fields = record { name = []; is_static = true; is_final = false; initial = Held (value.Int (pos 0)) }
      ∷ record { name = []; is_static = true; is_final = true; initial = FreshObject }
      ∷ record { name = []; is_static = false; is_final = false; initial = Held (value.Int (pos 0)) } ∷ [];
  units = member 0 1 0 ∷ member 3 0 1 ∷ member 2 0 2 ∷ member 1 1 3 ∷ [];
}

abbrev pub source : ClassInfo
source = record { name = []; fields = []; units = member 3 0 4 ∷ [] }

abbrev pub main_unit : UnitCode
main_unit = record { key = []; class = 0; is_static = true; locals = 3; code = main_code }

abbrev pub sample : Program
sample = record {
  classes = counter ∷ source ∷ [];
  units = unit_in 0 2 new_code ∷ unit_in 0 1 get_code ∷ unit_in 0 1 run_code ∷ main_unit ∷ unit_in 1 1 source_code ∷ [];
  mains = 0 ∷ [];
  members = codes "new" ∷ codes "main" ∷ codes "run" ∷ codes "get" ∷ [];
}

abbrev pub sample_types : Types
sample_types = record {
  classes = record { statics = IntType ∷ ObjectType ∷ []; own = IntType ∷ []; implements = 1 ∷ []; runnable = true }
      ∷ record { statics = []; own = []; implements = []; runnable = false } ∷ [];
  units = record { this = ClassType 0 ∷ []; params = IntType ∷ []; others = []; result = None }
      ∷ record { this = ClassType 0 ∷ []; params = []; others = []; result = Some IntType }
      ∷ record { this = ClassType 0 ∷ []; params = []; others = []; result = None }
      ∷ record { this = []; params = NullType ∷ []; others = ClassType 0 ∷ ClassType 1 ∷ []; result = None }
      ∷ record { this = ClassType 1 ∷ []; params = []; others = []; result = Some IntType } ∷ [];
}
