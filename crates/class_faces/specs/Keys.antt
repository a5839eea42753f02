-- The keys of a class's members.
use Rattle.std.specs.Prelude.{◌≡◌, ◌≢◌, ◌⊎◌, ℕ, ◌+◌, ◌<◌, ◌^◌, List, [], ◌∷◌, ◌++◌, length, codes, decimal, count_by, nat_lt, if◌then◌else◌, unwrap_or, Option, Some, None}
use Rattle.std.specs.List.{AllByRecursion}
use Rattle.std.specs.Str.{bytes_eq, IsAscii}
use Rattle.std.specs.Str.Lossy.{utf8_lossy}
use Rattle.std.specs.Ordering.{nat_cmp}
use Rattle.std.specs.Cmp.Lexicographic.{slice_cmp}
use Rattle.std.specs.BTreeMap.{BTreeMap, get}
use Rattle.java_tree.specs.declared.file.ClassTree.{ClassTree}
use Rattle.java_tree.specs.declared.member.MemberTree.{MemberTree}
use Rattle.java_tree.specs.declared.member.MemberTree.TheVariants as member

-- a name as a text; a name of the grammar is of ASCII and stays as it is
abbrev pub text_of : List ℕ → List ℕ
text_of name = utf8_lossy name

-- a name and a number of parameters
abbrev pub counted : List ℕ → ℕ → List ℕ
counted name count = name ++ (codes "/" ++ decimal count)

-- what members of one name have in common: a field its name, a method its name and number of
-- parameters, each constructor the word `new`
abbrev pub slot_of : MemberTree → List ℕ
slot_of (member.Field f) = f.name.text
slot_of (member.Method m) = counted m.name.text (length m.params)
slot_of (member.Sig s) = counted s.name.text (length s.params)
slot_of (member.Ctor c) = codes "new"
slot_of (member.Main m) = counted (codes "main") 1

-- the name in a member's key
abbrev pub key_name : MemberTree → List ℕ
key_name (member.Field f) = f.name.text
key_name (member.Method m) = m.name.text
key_name (member.Sig s) = s.name.text
key_name (member.Ctor c) = codes "new"
key_name (member.Main m) = codes "main"

-- the number of parameters in a member's key; that of a field has none
abbrev pub key_count : MemberTree → Option ℕ
key_count (member.Field f) = None
key_count (member.Method m) = Some (length m.params)
key_count (member.Sig s) = Some (length s.params)
key_count (member.Ctor c) = Some (length c.params)
key_count (member.Main m) = Some 1

abbrev pub written_name : List ℕ → Option ℕ → List ℕ
written_name name None = name
written_name name (Some count) = counted name count

-- a member's key without its class
abbrev pub short_key : MemberTree → List ℕ
short_key m = written_name (key_name m) (key_count m)

-- what follows the key of the k-th member of one slot
abbrev pub repeat_mark : ℕ → List ℕ
repeat_mark k = if nat_lt k 2 then [] else (codes "~" ++ decimal k)

-- The key of the k-th member of one slot, by its name and number of parameters: `new` is the name of a
-- constructor, a main is `main` with one parameter, and a field has no number.
abbrev pub member_key : List ℕ → List ℕ → Option ℕ → ℕ → List ℕ
member_key class name count k = text_of (class ++ codes "." ++ (written_name name count ++ repeat_mark k))

-- the key of the k-th member of its slot
abbrev pub key_with : List ℕ → MemberTree → ℕ → List ℕ
key_with class m k = member_key class (key_name m) (key_count m) k

-- how many of these slots are that one
abbrev pub times : List (List ℕ) → List ℕ → ℕ
times slots slot = count_by (λ s. bytes_eq s slot) slots

-- the keys of members that come after members with these slots
abbrev pub keys_after : List ℕ → List (List ℕ) → List MemberTree → List (List ℕ)
keys_after class slots [] = []
keys_after class slots (m ∷ ms) = key_with class m (times slots (slot_of m) + 1) ∷ keys_after class (slots ++ slot_of m ∷ []) ms

-- the keys of the members of a class, in written order
abbrev pub member_keys : ClassTree → List (List ℕ)
member_keys class = keys_after class.name.text [] class.members

-- the keys of the units of a class: the header's, then those of the members
abbrev pub unit_keys : ClassTree → List (List ℕ)
unit_keys class = text_of class.name.text ∷ member_keys class

-- ---- when keys differ

-- a byte of ASCII that is no sign of a key
pub record IsNameByte (b : ℕ) : Type 0 where
  pub ascii : b < 128
  pub no_dot : b ≢ 46
  pub no_slash : b ≢ 47
  pub no_tilde : b ≢ 126

abbrev pub IsPlain : List ℕ → Type 0
IsPlain name = AllByRecursion IsNameByte name

-- a name with a number of parameters that a machine can count
pub record IsCallable (name : List ℕ) (count : ℕ) : Type 0 where
  pub plain : IsPlain name
  pub no_constructor : name ≢ codes "new"
  pub few : count < 2 ^ 64

abbrev pub IsNamed : MemberTree → Type 0
IsNamed (member.Field f) = IsPlain f.name.text
IsNamed (member.Method m) = IsCallable m.name.text (length m.params)
IsNamed (member.Sig s) = IsCallable s.name.text (length s.params)
IsNamed (member.Ctor c) = length c.params < 2 ^ 64
IsNamed (member.Main m) = Unit {0}

-- The names of a class and of its members are as the grammar has them: no sign of a key is in them, and
-- no method is called `new`.
pub record HasNames (class : ClassTree) : Type 0 where
  pub own : IsPlain class.name.text
  pub members : AllByRecursion IsNamed class.members
  pub few : length class.members < 2 ^ 64

-- none of these is the key
abbrev pub Lacks : List ℕ → List (List ℕ) → Type 0
Lacks key [] = Unit {0}
Lacks key (k ∷ ks) = (key ≢ k) × Lacks key ks

-- no two of these keys are one
abbrev pub Distinct : List (List ℕ) → Type 0
Distinct [] = Unit {0}
Distinct (k ∷ ks) = Lacks k ks × Distinct ks

-- it is among these
abbrev pub IsAmong : List ℕ → List (List ℕ) → Type 0
IsAmong key [] = ⊥
IsAmong key (k ∷ ks) = (key ≡ k) ⊎ IsAmong key ks

-- ---- what the code keeps

-- a name of ASCII is its own text
abbrev pub IsAsWritten : List ℕ → Type 0
IsAsWritten name = IsAscii name → text_of name ≡ name

-- how often the map has the slot
abbrev pub count_in : BTreeMap (List ℕ) ℕ → List ℕ → ℕ
count_in map slot = unwrap_or (get (slice_cmp nat_cmp) map slot) 0

-- the map has how often each slot is among these
pub record Counts (map : BTreeMap (List ℕ) ℕ) (slots : List (List ℕ)) : Type 0 where
  pub counts : (slot : List ℕ) → count_in map slot ≡ times slots slot

-- the map has one slot more, and k is how often that one is there now
pub record Counted (map : BTreeMap (List ℕ) ℕ) (slots : List (List ℕ)) (slot : List ℕ) (k : ℕ) : Type 0 where
  pub counts : Counts map (slots ++ slot ∷ [])
  pub number : k ≡ times slots slot + 1

-- the key of the next member, whose slot is counted now
pub record Keyed (map : BTreeMap (List ℕ) ℕ) (class : List ℕ) (slots : List (List ℕ)) (m : MemberTree) (made : List ℕ) : Type 0 where
  pub counts : Counts map (slots ++ slot_of m ∷ [])
  pub key : made ≡ key_with class m (times slots (slot_of m) + 1)
