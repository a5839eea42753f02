-- No type of a text that is read is declared under a name of the library.
use Rattle.std.proofs.Common.{◌≡◌, ◌≢◌, refl, ℕ, zero, suc, Bool, true, false, cond, List, [], ◌∷◌, codes, Some, None, subst, arith}
use Rattle.std.specs.List.{Contains}
use Rattle.std.specs.Str.{bytes_eq}
use Rattle.std.proofs.lemmas.Slice.Eq.{bytes_eq-Decides}
use Rattle.std.proofs.lemmas.List.Elements.{Contains-append_left, Contains-append_right, Contains-push}
use Rattle.java_tree.specs.declared.file.ClassTree.{ClassTree}
use Rattle.java_tree.specs.declared.token.Token.{Token}
use Rattle.java_heads.specs.Spelling.{IsFreeName}
use Rattle.java_phrases.specs.Phrase.{Each}
use Rattle.java_reader.specs.Spelling.{TypeSpells}
use Rattle.promise_scrub.specs.declared.surface.Surface.{Surface}
use Rattle.views.specs.Face.{surface_named}
use Rattle.binding_laws.specs.Laws.{ReadNamesAreFree, FreeNamesDeclareNone}

-- ---- texts

spelled-free : (c : ClassTree) (ts rest : List Token) → TypeSpells c ts rest → IsFreeName c.name.text
spelled-free c ts rest (mid, (end, alone, brace), members) = let (t1, mods, (t2, word, more)) = alone.0 in more.0

each-free : (cs : List ClassTree) (ts rest : List Token) (c : ClassTree) → Each TypeSpells cs ts rest → Contains cs c → IsFreeName c.name.text
each-free [] ts rest c s (k, low, is) = absurd (omega arith)
each-free (d ∷ cs) ts rest c (mid, s, more) (zero, low, is) = subst (λ (x : ClassTree). IsFreeName x.name.text) is (spelled-free d ts mid s)
each-free (d ∷ cs) ts rest c (mid, s, more) (suc k, low, is) = each-free cs mid rest c more (k, omega arith, is)

pub read-names-free : ReadNamesAreFree
read-names-free text file class reads has = let (t1, lines, (t2, imports, types)) = reads.spelled in each-free file.types t2 [] class types has

-- ---- views

none-named : (name : List ℕ) (surfaces : List Surface) → ((s : Surface) → Contains surfaces s → s.name ≢ name) → surface_named surfaces name ≡ None
none-named name [] h = refl
none-named name (s ∷ ss) h = go (bytes_eq s.name name) (bytes_eq-Decides s.name name).0 (none-named name ss (λ x at. h x (Contains-append_right (s ∷ []) ss x at)))
  where
    go : (b : Bool) → (b ≡ true → s.name ≡ name) → surface_named ss name ≡ None → cond b (Some s) (surface_named ss name) ≡ None
    go true same rest = absurd (h s (Contains-append_left (s ∷ []) ss s (Contains-push [] s)) (same refl))
    go false same rest = rest

pub free-names-declare-none : FreeNamesDeclareNone
free-names-declare-none seen free =
    (none-named (codes "String") seen.surfaces (λ s at. (free s at).no_string), none-named (codes "Object") seen.surfaces (λ s at. (free s at).no_object))
