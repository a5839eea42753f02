-- A member as its heading and its body.
use Rattle.std.specs.Prelude.{◌≡◌, ℕ, List, []}
use Rattle.java_phrases.specs.Tree.{Token, Block, Method, Ctor, Main, MemberTree, MemberTree as member}
use Rattle.java_phrases.specs.Common.{Phrase}
use Rattle.java_heads.specs.Answers.{field_with, sig_with}
use Rattle.java_statements.specs.Spelling.{BlockSpells}
use Rattle.java_heads.specs.declared.heading.Heading.{Heading}
use Rattle.java_heads.specs.declared.heading.Heading.TheVariants as heading
use Rattle.java_heads.specs.declared.heading.MethodHeading.{MethodHeading}
use Rattle.java_heads.specs.declared.heading.CtorHeading.{CtorHeading}
use Rattle.java_heads.specs.declared.heading.MainHeading.{MainHeading}
use Rattle.java_heads.specs.Headings.{HeadingSpells}

-- ---- a heading with its body, without the tokens

abbrev pub method_of : MethodHeading → Block → Method
method_of h body = record { mods = h.mods; result = h.result; name = h.name; params = h.params; throws = h.throws; body = body; tokens = [] }

abbrev pub ctor_of : CtorHeading → Block → Ctor
ctor_of h body = record { mods = h.mods; name = h.name; params = h.params; throws = h.throws; body = body; tokens = [] }

abbrev pub main_of : MainHeading → Block → Main
main_of h body = record { mods = h.mods; name = h.name; final_word = h.final_word; param = h.param; throws = h.throws; body = body; tokens = [] }

-- what stands behind the heading makes it this member
abbrev pub Completes : Heading → MemberTree → Phrase
Completes (heading.Field f) m ts rest = (m ≡ member.Field f) × (ts ≡ rest)
Completes (heading.Method h) m ts rest = (body : Block) × (m ≡ member.Method (method_of h body)) × BlockSpells 64 body ts rest
Completes (heading.Ctor h) m ts rest = (body : Block) × (m ≡ member.Ctor (ctor_of h body)) × BlockSpells 64 body ts rest
Completes (heading.Main h) m ts rest = (body : Block) × (m ≡ member.Main (main_of h body)) × BlockSpells 64 body ts rest

-- a heading and what completes it
abbrev pub Whole : List ℕ → MemberTree → Phrase
Whole class m ts rest = (h : Heading) × (mid : List Token) × HeadingSpells class h ts mid × Completes h m mid rest

-- ---- where a member keeps its tokens

abbrev pub method_with : List Token → Method → Method
method_with tokens m = record { mods = m.mods; result = m.result; name = m.name; params = m.params; throws = m.throws; body = m.body; tokens = tokens }

abbrev pub ctor_with : List Token → Ctor → Ctor
ctor_with tokens c = record { mods = c.mods; name = c.name; params = c.params; throws = c.throws; body = c.body; tokens = tokens }

abbrev pub main_with : List Token → Main → Main
main_with tokens m = record { mods = m.mods; name = m.name; final_word = m.final_word; param = m.param; throws = m.throws; body = m.body; tokens = tokens }

abbrev pub member_with : List Token → MemberTree → MemberTree
member_with tokens (member.Field f) = member.Field (field_with tokens f)
member_with tokens (member.Method m) = member.Method (method_with tokens m)
member_with tokens (member.Sig s) = member.Sig (sig_with tokens s)
member_with tokens (member.Ctor c) = member.Ctor (ctor_with tokens c)
member_with tokens (member.Main m) = member.Main (main_with tokens m)
