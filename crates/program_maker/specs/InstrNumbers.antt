-- One named instruction with numbers in the place of names.
use Rattle.core_model.specs.declared.body.Instr.{Instr}
use Rattle.core_model.specs.declared.body.Instr.TheVariants as core
use Rattle.lowering.specs.declared.code.NamedInstr.{NamedInstr}
use Rattle.lowering.specs.declared.code.NamedInstr.TheVariants as i
use Rattle.lowering.specs.Numbers.{Numbers, class_number, note_number, plain_number, numbered}

abbrev pub instr_number : Numbers → NamedInstr → Instr
instr_number r (i.Do n p) = core.Do (note_number r n) (plain_number r n.known p)
instr_number r (i.If n a b) = core.If (note_number r n) (numbered r a) (numbered r b)
instr_number r (i.While n c b) = core.While (note_number r n) (numbered r c) (numbered r b)
instr_number r (i.Enter n b) = core.Enter (note_number r n) (numbered r b)
instr_number r (i.EnterClass n c b) = core.EnterClass (note_number r n) (class_number r c) (numbered r b)
