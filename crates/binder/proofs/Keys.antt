-- There are as many keys as members.
use Rattle.std.proofs.Common.{◌≡◌, ℕ, suc, List, [], ◌∷◌, ◌++◌, length, refl, ap}
use Rattle.java_tree.specs.declared.file.ClassTree.{ClassTree}
use Rattle.java_tree.specs.declared.member.MemberTree.{MemberTree}
use Rattle.class_faces.specs.Keys.{keys_after, member_keys, slot_of}

keys_long_after : (class : List ℕ) (slots : List (List ℕ)) (ms : List MemberTree) → length (keys_after class slots ms) ≡ length ms
keys_long_after class slots [] = refl
keys_long_after class slots (m ∷ ms) = ap suc (keys_long_after class (slots ++ slot_of m ∷ []) ms)

pub keys_long : (class : ClassTree) → length (member_keys class) ≡ length class.members
keys_long class = keys_long_after class.name.text [] class.members
