-- Which members a scoped promise is for.
use Rattle.std.specs.Prelude.{ℕ, Bool, true, false, ◌&&◌, List, [], length, take, drop, nat_le, nat_eq, ◌+◌}
use Rattle.std.specs.List.{starts_with, ends_with}
use Rattle.std.specs.Str.{bytes_eq}
use Rattle.java_tree.specs.declared.member.MemberTree.{MemberTree}
use Rattle.java_tree.specs.declared.member.MemberTree.TheVariants as member
use Rattle.java_tree.specs.declared.member.Param.{Param}
use Rattle.promise_grammar.specs.declared.scope.NamePattern.{NamePattern}
use Rattle.promise_grammar.specs.declared.scope.NamePattern.TheVariants as pattern
use Rattle.promise_grammar.specs.declared.scope.ScopeContent.{ScopeContent}
use Rattle.promise_grammar.specs.declared.scope.ScopeContent.TheVariants as scope

-- the name begins with the one part and ends with the other, and they don't overlap in it
abbrev pub encloses : List ℕ → List ℕ → List ℕ → Bool
encloses before after name =
    nat_le (length before + length after) (length name) && (starts_with nat_eq name before && ends_with nat_eq name after)

-- one name, any name, or a name that begins with the part before the star and ends with that after
-- it, with anything, also nothing, between them
abbrev pub matches : NamePattern → List ℕ → Bool
matches (pattern.Exactly n) name = bytes_eq n name
matches pattern.Any name = true
matches (pattern.Starred n at) name = encloses (take at n) (drop at n) name

abbrev pub is_nil : List Param → Bool
is_nil [] = true
is_nil _ = false

-- a main is no method, and an interface has no scoped promises
abbrev pub selects : ScopeContent → MemberTree → Bool
selects (scope.Fields p) (member.Field f) = matches p f.name.text
selects (scope.Methods p) (member.Method m) = matches p m.name.text
selects (scope.PlainMethods p) (member.Method m) = is_nil m.params && matches p m.name.text
selects scope.Constructors (member.Ctor c) = true
selects _ _ = false
