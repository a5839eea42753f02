use Rattle.std.proofs.Common.{◌≡◌, ◌+◌, ◌++◌, drop}
use Rattle.tree_places.specs.Numbers.{number_of}
use Rattle.views.specs.Face.{face}
use Rattle.unit_rules.specs.Shown.{types_shown}
use Rattle.binder.specs.Params.{params_notes, params_scope}
use Rattle.binder.proofs.params.put_params.Given as goal

-- the names and the notes so far and those of what is left are all
abbrev pub invariant-loop-param : goal.invariant-loop-param
invariant-loop-param l = record {
  next : l.number ≡ l.first + l.param-index;
  scope : params_scope l.number l.scope (drop l.param-index l.params) ≡ params_scope l.first l.fn.scope l.params;
  notes : l.notes ++ params_notes (types_shown (face l.site.types.now)) (number_of l.site.places.now) l.number l.scope (drop l.param-index l.params)
      ≡ l.fn.notes ++ params_notes (types_shown (face l.site.types.now)) (number_of l.site.places.now) l.first l.fn.scope l.params;
}
