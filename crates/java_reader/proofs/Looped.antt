-- What the loop over the parts has found when it stops.
use Rattle.std.proofs.Common.{◌≡◌, ℕ, ◌<◌, List, [], ◌∷◌, length, Option, Some, None, unwrap_or, Result, Ok, Err, IfOk, IfErr, refl, sym, subst}
use Rattle.java_phrases.specs.Tree.{Token, ClassTree, FileTree}
use Rattle.java_phrases.specs.Common.{next_start}
use Rattle.java_reader.specs.declared.error.ReadError.{ReadError}
use Rattle.java_reader.specs.declared.error.ReadError.TheVariants as error
use Rattle.java_reader.specs.declared.draft.Draft.{Draft}
use Rattle.java_reader.specs.Spelling.{Spells}
use Rattle.java_reader.specs.Parts.{Stage, Start, IsOutside}
use Rattle.java_reader.specs.Answers.{AdvancesFrom, IsWhole, IsPartCause}
use Rattle.java_reader.specs.Drafts.{stage_by, stage_of}
use Rattle.java_reader.proofs.Shorter.{part-shorter}
use Rattle.java_reader.proofs.Unique.{end_stage, NoPart, no_part-end, longest}
use Rattle.java_reader.proofs.Drafted.{Begun, begun-step, drafted-file}
use Rattle.java_reader.proofs.Spelled.{stuck-file}

start-some : (ts : List Token) (at : ℕ) → next_start ts ≡ Some at → ts ≡ [] → ⊥
unfolding next_start
start-some [] at e is = cc
start-some (t ∷ ts) at e is = cc

start-none : (ts : List Token) → next_start ts ≡ None → ts ≡ []
unfolding next_start
start-none [] e = refl
start-none (t ∷ ts) e = cc

-- no part goes on from what was read
stuck : (tokens ahead : List Token) (d : Draft) (b : Begun tokens d ahead) → NoPart (stage_of d) ahead → NoPart (end_stage Start b.parts) ahead
stuck tokens ahead d b none = let P : Stage → Type 0 = λ x. NoPart x ahead in subst P (sym b.stage) none

pub shorter : (at : ℕ) (d new : Draft) (ts rest : List Token) → AdvancesFrom at d ts (Ok new) rest → length rest < length ts
shorter at d new ts rest (part, s, is) = part-shorter (stage_of d) part ts rest s

pub preserved : (at : ℕ) (tokens : List Token) (d new : Draft) (ts rest : List Token) → Begun tokens d ts → AdvancesFrom at d ts (Ok new) rest → Begun tokens new rest
preserved at tokens d new ts rest b (part, s, is) = begun-step tokens ts rest d new part b s is

pub fault : (end at : ℕ) (tokens ahead rest : List Token) (d : Draft) (e : ReadError) → Begun tokens d ahead → next_start ahead ≡ Some at → AdvancesFrom at d ahead (Err e) rest → IsPartCause end tokens e
fault end at tokens ahead rest d (error.Limit which place) b start none = none
fault end at tokens ahead rest d (error.Lex place) b start none = none
fault end at tokens ahead rest d error.OutOfMemory b start free = tt
fault end at tokens ahead rest d (error.Grammar place) b start (is, none) =
    let P : Option ℕ → Type 0 = λ o. place ≡ unwrap_or o end in
    record {
      unspelled = λ tree s. start-some ahead at start (stuck-file b.parts tree tokens ahead b.begins (stuck tokens ahead d b none) s).0;
      left = ahead;
      begun = longest b.parts tokens ahead b.begins (stuck tokens ahead d b none);
      place = subst P (sym start) is;
    }

pub whole-found : (end : ℕ) (tokens ahead : List Token) (d : Draft) (r : Result FileTree ReadError) → Begun tokens d ahead → next_start ahead ≡ None → IsWhole d end r → IfOk r (Spells tokens)
whole-found end tokens ahead d (Ok file) b start (closed, is) =
    let P : FileTree → Type 0 = λ x. Spells tokens x in
    subst P (sym is) (drafted-file d.file d.current tokens ahead closed (start-none ahead start) b.drafted)
whole-found end tokens ahead d (Err e) b start whole = tt

in_body : (d : Draft) (class : ClassTree) → d.current ≡ Some class → IsOutside (stage_of d) → ⊥
in_body d class is = let P : Option ClassTree → Type 0 = λ o. IsOutside (stage_by o d.file) → ⊥ in subst P (sym is) (λ none. none)

pub whole-cause : (end : ℕ) (tokens ahead : List Token) (d : Draft) (r : Result FileTree ReadError) → Begun tokens d ahead → next_start ahead ≡ None → IsWhole d end r → IfErr r (IsPartCause end tokens)
whole-cause end tokens ahead d (Ok file) b start whole = tt
whole-cause end tokens ahead d (Err e) b start (class, is, cause) =
    let P : Option ℕ → Type 0 = λ o. end ≡ unwrap_or o end in
    let N : List Token → Type 0 = λ l. NoPart (end_stage Start b.parts) l in
    let none : NoPart (end_stage Start b.parts) ahead = subst N (sym (start-none ahead start)) (no_part-end (end_stage Start b.parts)) in
    let C : ReadError → Type 0 = λ x. IsPartCause end tokens x in
    subst C (sym cause) (record {
      unspelled = λ tree s. in_body d class is (subst IsOutside b.stage (stuck-file b.parts tree tokens ahead b.begins none s).1);
      left = ahead;
      begun = longest b.parts tokens ahead b.begins none;
      place = subst P (sym start) refl;
    })
