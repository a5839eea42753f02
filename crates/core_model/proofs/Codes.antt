-- Lists of instructions, the last one first, as code.
use Rattle.std.proofs.Common.{◌≡◌, List, [], ◌∷◌, ◌++◌, Option, Some, None, MatchOption, refl, sym, ap, ◌∙◌, ℕ, ◌<◌, ◌-◌, length, slice_get, arith}
use Rattle.core_model.specs.Code.{Code, Done, ◌⧺◌}
use Rattle.core_model.specs.Code.{size_of}
use Rattle.core_model.specs.CodeOf.{before, code_onto, object_of, plain_of}
use Rattle.core_model.specs.NextAccess.{first_plain}
use Rattle.core_model.specs.Step.{next_exit}
use Rattle.core_model.specs.declared.body.Instr.{Instr}
use Rattle.core_model.specs.declared.body.Instr.TheVariants as i

pub onto-append : (k : Code) (xs ys : List Instr) → code_onto k (xs ++ ys) ≡ code_onto (code_onto k xs) ys
onto-append k [] ys = refl
onto-append k (x ∷ xs) ys = onto-append (before x k) xs ys

pub before-append : (x : Instr) (k m : Code) → before x k ⧺ m ≡ before x (k ⧺ m)
before-append (i.Do n p) k m = refl
before-append (i.If n a b) k m = refl
before-append (i.While n c b) k m = refl
before-append (i.Enter n b) k m = refl
before-append (i.EnterClass n c b) k m = refl
before-append (i.Exit n r) k m = refl

pub onto-code : (k m : Code) (xs : List Instr) → code_onto (k ⧺ m) xs ≡ code_onto k xs ⧺ m
onto-code k m [] = refl
onto-code k m (x ∷ xs) = ap (λ s. code_onto s xs) (sym (before-append x k m)) ∙ onto-code (before x k) m xs

pub onto-front : (m : Code) (xs : List Instr) → code_onto m xs ≡ code_onto Done xs ⧺ m
onto-front m xs = onto-code Done m xs

-- the last of the list is the first instruction
pub onto-popped : (r : Option Instr) (old new : List Instr)
    → MatchOption r ((old ≡ []) × (new ≡ [])) (λ x. old ≡ new ++ x ∷ [])
    → MatchOption r ((code_onto Done old ≡ Done) × (code_onto Done new ≡ Done)) (λ x. code_onto Done old ≡ before x (code_onto Done new))
onto-popped None old new h = (ap (code_onto Done) h.0, ap (code_onto Done) h.1)
onto-popped (Some x) old new h = ap (code_onto Done) h ∙ onto-append Done new (x ∷ [])

-- an instruction goes before code that is smaller
pub size-before : (x : Instr) (k : Code) → size_of k < size_of (before x k)
size-before (i.Do n p) k = omega arith
size-before (i.If n a b) k = omega arith
size-before (i.While n c b) k = omega arith
size-before (i.Enter n b) k = omega arith
size-before (i.EnterClass n c b) k = omega arith
size-before (i.Exit n r) k = omega arith

pub exit-passed : (x : Instr) (k : Code) → object_of x ≡ None → next_exit (before x k) ≡ next_exit k
exit-passed (i.Do n p) k e = refl
exit-passed (i.If n a b) k e = refl
exit-passed (i.While n c b) k e = refl
exit-passed (i.Enter n b) k e = refl
exit-passed (i.EnterClass n c b) k e = refl
exit-passed (i.Exit n r) k e = cc

pub exit-found : (x : Instr) (k : Code) (r : ℕ) → object_of x ≡ Some r → next_exit (before x k) ≡ Some (r, k)
exit-found (i.Do n p) k r e = cc
exit-found (i.If n a b) k r e = cc
exit-found (i.While n c b) k r e = cc
exit-found (i.Enter n b) k r e = cc
exit-found (i.EnterClass n c b) k r e = cc
exit-found (i.Exit n o) k r e = cc

plain-before : (x : Instr) (k : Code) → first_plain (before x k) ≡ plain_of x
plain-before (i.Do n p) k = refl
plain-before (i.If n a b) k = refl
plain-before (i.While n c b) k = refl
plain-before (i.Enter n b) k = refl
plain-before (i.EnterClass n c b) k = refl
plain-before (i.Exit n r) k = refl

first-onto : (k : Code) (x : Instr) (xs : List Instr) (y : Instr) → slice_get (x ∷ xs) (length xs) ≡ Some y
    → first_plain (code_onto k (x ∷ xs)) ≡ plain_of y
first-onto k x [] y e = plain-before x k ∙ (let same : x ≡ y = cc in ap plain_of same)
first-onto k x (z ∷ zs) y e = first-onto (before x k) z zs y e

-- the last of the list is the first instruction
pub first-last : (xs : List Instr) (y : Instr) → slice_get xs (length xs - 1) ≡ Some y → first_plain (code_onto Done xs) ≡ plain_of y
first-last [] y e = cc
first-last (x ∷ xs) y e =
    let short : length (x ∷ xs) - 1 ≡ length xs = omega arith in
    first-onto Done x xs y (ap (slice_get (x ∷ xs)) (sym short) ∙ e)
