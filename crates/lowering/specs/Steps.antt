-- The places of field accesses, calls, `new` and starts, in the order in which they stand in code.
use Rattle.std.specs.Prelude.{ℕ, Bool, true, false, List, [], ◌∷◌, ◌++◌}
use Rattle.lowering.specs.declared.code.NamedInstr.{NamedInstr}
use Rattle.lowering.specs.declared.code.NamedInstr.TheVariants as i
use Rattle.lowering.specs.declared.instr.NamedPlain.{NamedPlain}
use Rattle.lowering.specs.declared.instr.NamedPlain.TheVariants as plain
use Rattle.lowering.specs.Code.{Code, Done, Do, If, While, Enter, EnterClass}

abbrev pub is_step : NamedPlain → Bool
is_step (plain.Field f) = true
is_step (plain.FieldKeep f) = true
is_step (plain.PutField f) = true
is_step (plain.Static c f) = true
is_step (plain.PutStatic c f) = true
is_step (plain.Make c n) = true
is_step plain.MakePlain = true
is_step (plain.Call m n) = true
is_step (plain.CallStatic c m n) = true
is_step plain.Start = true
is_step _ = false

abbrev pub place_if : Bool → ℕ → List ℕ
place_if true p = p ∷ []
place_if false p = []

abbrev pub steps_of : Code → List ℕ
steps_of Done = []
steps_of (Do n p k) = place_if (is_step p) n.place ++ steps_of k
steps_of (If n a b k) = steps_of a ++ (steps_of b ++ steps_of k)
steps_of (While n c b k) = steps_of c ++ (steps_of b ++ steps_of k)
steps_of (Enter n b k) = steps_of b ++ steps_of k
steps_of (EnterClass n c b k) = steps_of b ++ steps_of k

-- of one instruction
abbrev pub instr_steps : NamedInstr → List ℕ
instr_steps (i.Do n p) = place_if (is_step p) n.place
instr_steps (i.If n a b) = steps_of a ++ steps_of b
instr_steps (i.While n c b) = steps_of c ++ steps_of b
instr_steps (i.Enter n b) = steps_of b
instr_steps (i.EnterClass n c b) = steps_of b

-- of a list of instructions, the last of which comes first
abbrev pub list_steps : List NamedInstr → List ℕ
list_steps [] = []
list_steps (x ∷ xs) = list_steps xs ++ instr_steps x
