use Rattle.std.proofs.Common.{◌≡◌, ◌++◌, drop}
use Rattle.name_rules.specs.Notes.{consults_params}
use Rattle.name_rules.proofs.note.put_params.Given as goal

-- the notes so far and those of the parameters that are left are all
abbrev pub invariant-loop-param : goal.invariant-loop-param
invariant-loop-param l = l.notes ++ consults_params (drop l.param-index l.params) ≡ l.fn.notes ++ consults_params l.params
