-- Annotations whose spans are put elsewhere, and nothing else.
use Rattle.std.specs.Prelude.{map}
use Rattle.std.specs.Option.{option_map}
use Rattle.desk_base.specs.declared.span.Span.{Span}
use Rattle.java_tree.specs.declared.member.Annot.{Annot}
use Rattle.java_tree.specs.declared.member.AnnotLayer.{AnnotLayer}
use Rattle.java_tree.specs.declared.member.InnerAnnot.{InnerAnnot}
use Rattle.java_tree.specs.declared.member.Elements.{Elements}
use Rattle.java_tree.specs.declared.member.Elements.TheVariants as elements
use Rattle.java_tree.specs.declared.member.Elem.{Elem}
use Rattle.java_tree.specs.declared.member.Elem.TheVariants as element
use Rattle.tree_places.specs.Moved.{moved_lexeme, moved_lexemes}

abbrev pub moved_elem : (Span → Span) → Elem → Elem
moved_elem place (element.Str text) = element.Str (moved_lexeme place text)
moved_elem place element.Annot = element.Annot

abbrev pub moved_elements : (Span → Span) → Elements → Elements
moved_elements place elements.Bare = elements.Bare
moved_elements place (elements.Empty opening closing) = elements.Empty (place opening) (place closing)
moved_elements place (elements.One opening value elem closing) = elements.One (place opening) (option_map (moved_lexeme place) value) (moved_elem place elem) (place closing)
moved_elements place (elements.Many opening value elems closing) = elements.Many (place opening) (option_map (moved_lexeme place) value) (map (moved_elem place) elems) (place closing)

abbrev pub moved_annot_layer : (Span → Span) → AnnotLayer → AnnotLayer
moved_annot_layer place l = record { at = place l.at; name = moved_lexemes place l.name; elements = moved_elements place l.elements }

abbrev pub moved_inner : (Span → Span) → InnerAnnot → InnerAnnot
moved_inner place i = record { depth = i.depth; layer = moved_annot_layer place i.layer }

abbrev pub moved_annot : (Span → Span) → Annot → Annot
moved_annot place a = record { layer = moved_annot_layer place a.layer; inner = map (moved_inner place) a.inner }
