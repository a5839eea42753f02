-- Whole files of alike tokens.
use Rattle.std.proofs.Common.{◌≡◌, List, [], ap, ◌∙◌, sym, subst}
use Rattle.std.proofs.lemmas.List.{append-nil}
use Rattle.java_tree.specs.declared.token.Token.{Token}
use Rattle.java_tree.specs.declared.file.FileTree.{FileTree}
use Rattle.java_lexer.specs.Lexing.{AreSpelled}
use Rattle.java_reader.specs.Alike.{Alike}
use Rattle.java_reader.specs.Spelling.{Spells}
use Rattle.java_reader.proofs.Spelled.{one-file}
use Rattle.java_reader.proofs.Again.{again-file}
use Rattle.tree_places.specs.Moved.{moved_tokens}
use Rattle.tree_places.specs.Bare.{nowhere, bare_file}
use Rattle.tree_places.proofs.Alike.{moved-alike, alike_unmoved, moved-spelled}
use Rattle.tree_places.proofs.MovedFile.{moves-file}

spells_bare : (f : FileTree) (ts : List Token) → Spells ts f → Spells (moved_tokens nowhere ts) (bare_file f)
spells_bare f ts s =
    let t = (moves-file nowhere f).moves ts [] s in
    subst (λ l. Spells l (bare_file f)) (append-nil (moved_tokens nowhere t.own) ∙ ap (moved_tokens nowhere) (sym (append-nil t.own) ∙ sym t.is)) (t.anywhere [])

pub bare_files : (one other : FileTree) (ts us : List Token) → Spells ts one → Spells us other → Alike ts us → bare_file one ≡ bare_file other
bare_files one other ts us s t alike =
    one-file (bare_file one) (bare_file other) (moved_tokens nowhere ts) (spells_bare one ts s)
    (subst (λ l. Spells l (bare_file other)) (sym (moved-alike ts us alike)) (spells_bare other us t))

pub alike_texts : (one other : FileTree) (ts us : List Token) → Spells ts one → Spells us other → AreSpelled ts → AreSpelled us → bare_file one ≡ bare_file other → Alike ts us
alike_texts one other ts us s t a b same =
    alike_unmoved ts us
    (again-file (bare_file one) (moved_tokens nowhere ts) (moved_tokens nowhere us) (spells_bare one ts s) (subst (λ f. Spells (moved_tokens nowhere us) f) (sym same) (spells_bare other us t))
    (moved-spelled ts a) (moved-spelled us b))
