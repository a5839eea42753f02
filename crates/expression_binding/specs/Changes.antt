-- What comes to an expression's stamp behind its making, as the code names it.
use Rattle.bound_tree.specs.declared.tree.Stamp.{Stamp}
use Rattle.expression_binding.specs.declared.fit.Change.{Change}
use Rattle.expression_binding.specs.declared.fit.Change.TheVariants as change
use Rattle.expression_binding.specs.Stamps.{stamp_from, spoilt_stamp}

abbrev pub changed : Change → Stamp → Stamp
changed (change.From first) s = stamp_from first s
changed (change.Spoilt in_paren) s = spoilt_stamp in_paren s
