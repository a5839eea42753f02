-- The places of code are those of its acts, in the same order.
use Rattle.std.proofs.Common.{◌≡◌, refl, ℕ, List, [], ◌∷◌, ◌++◌, map, sym, ap, ◌∙◌, append_assoc}
use Rattle.std.proofs.lemmas.List.{append-nil}
use Rattle.bound_tree.specs.Claim.{Claim}
use Rattle.lowering.specs.declared.code.NamedInstr.{NamedInstr}
use Rattle.lowering.specs.declared.code.NamedInstr.TheVariants as i
use Rattle.lowering.specs.declared.instr.NamedKnown.{NamedKnown}
use Rattle.lowering.specs.declared.instr.NamedPlain.{NamedPlain}
use Rattle.lowering.specs.declared.instr.NamedPlain.TheVariants as plain
use Rattle.lowering.specs.Code.{Code, Done, Do, If, While, Enter, EnterClass}
use Rattle.lowering.specs.CodeOf.{before, code_onto}
use Rattle.lowering.specs.Acts.{NamedActed, put_act, act_of, noted_claim, code_acts, acts_in}
use Rattle.lowering.specs.Steps.{is_step, place_if, steps_of, instr_steps, list_steps}

abbrev ats : List NamedActed → List ℕ
ats acts = map (λ (a : NamedActed). a.at) acts

put-at : (p : ℕ) (held : List Claim) (n : NamedKnown) (q : NamedPlain) (rest : List NamedActed)
    → ats (put_act p held (act_of n q) rest) ≡ place_if (is_step q) p ++ ats rest
put-at p held n (plain.Const v) rest = refl
put-at p held n (plain.Get x) rest = refl
put-at p held n (plain.Set x) rest = refl
put-at p held n plain.Drop rest = refl
put-at p held n (plain.Field f) rest = refl
put-at p held n (plain.FieldKeep f) rest = refl
put-at p held n (plain.PutField f) rest = refl
put-at p held n (plain.Static c f) rest = refl
put-at p held n (plain.PutStatic c f) rest = refl
put-at p held n (plain.Make c k) rest = refl
put-at p held n plain.MakePlain rest = refl
put-at p held n (plain.Call m k) rest = refl
put-at p held n (plain.CallStatic c m k) rest = refl
put-at p held n (plain.Op o) rest = refl
put-at p held n plain.Neg rest = refl
put-at p held n plain.Not rest = refl
put-at p held n plain.Start rest = refl
put-at p held n plain.Return rest = refl
put-at p held n plain.ReturnValue rest = refl

steps-acts : (held : List Claim) (k : Code) (rest : List NamedActed) → ats (code_acts held k rest) ≡ steps_of k ++ ats rest
steps-acts held Done rest = refl
steps-acts held (Do n p k) rest =
    put-at n.place held n.known p (code_acts held k rest)
    ∙ ap (λ (l : List ℕ). place_if (is_step p) n.place ++ l) (steps-acts held k rest)
    ∙ sym (append_assoc (place_if (is_step p) n.place) (steps_of k) (ats rest))
steps-acts held (If n a b k) rest =
    steps-acts held a (code_acts held b (code_acts held k rest))
    ∙ ap (λ (l : List ℕ). steps_of a ++ l)
    (steps-acts held b (code_acts held k rest)
    ∙ ap (λ (l : List ℕ). steps_of b ++ l) (steps-acts held k rest) ∙ sym (append_assoc (steps_of b) (steps_of k) (ats rest)))
    ∙ sym (append_assoc (steps_of a) (steps_of b ++ steps_of k) (ats rest))
steps-acts held (While n a b k) rest =
    steps-acts held a (code_acts held b (code_acts held k rest))
    ∙ ap (λ (l : List ℕ). steps_of a ++ l)
    (steps-acts held b (code_acts held k rest)
    ∙ ap (λ (l : List ℕ). steps_of b ++ l) (steps-acts held k rest) ∙ sym (append_assoc (steps_of b) (steps_of k) (ats rest)))
    ∙ sym (append_assoc (steps_of a) (steps_of b ++ steps_of k) (ats rest))
steps-acts held (Enter n b k) rest =
    steps-acts (held ++ noted_claim n.known) b (code_acts held k rest)
    ∙ ap (λ (l : List ℕ). steps_of b ++ l) (steps-acts held k rest) ∙ sym (append_assoc (steps_of b) (steps_of k) (ats rest))
steps-acts held (EnterClass n c b k) rest =
    steps-acts (held ++ noted_claim n.known) b (code_acts held k rest)
    ∙ ap (λ (l : List ℕ). steps_of b ++ l) (steps-acts held k rest) ∙ sym (append_assoc (steps_of b) (steps_of k) (ats rest))

pub steps-are-acts : (k : Code) → steps_of k ≡ map (λ (a : NamedActed). a.at) (acts_in k)
steps-are-acts k = sym (steps-acts [] k [] ∙ append-nil (steps_of k))

-- an instruction, and then what comes after it
steps-before : (x : NamedInstr) (k : Code) → steps_of (before x k) ≡ instr_steps x ++ steps_of k
steps-before (i.Do n p) k = refl
steps-before (i.If n a b) k = sym (append_assoc (steps_of a) (steps_of b) (steps_of k))
steps-before (i.While n a b) k = sym (append_assoc (steps_of a) (steps_of b) (steps_of k))
steps-before (i.Enter n b) k = refl
steps-before (i.EnterClass n c b) k = refl

steps-onto : (xs : List NamedInstr) (k : Code) → steps_of (code_onto k xs) ≡ list_steps xs ++ steps_of k
steps-onto [] k = refl
steps-onto (x ∷ xs) k =
    steps-onto xs (before x k)
    ∙ ap (λ (l : List ℕ). list_steps xs ++ l) (steps-before x k)
    ∙ sym (append_assoc (list_steps xs) (instr_steps x) (steps_of k))

pub steps-listed : (xs : List NamedInstr) → steps_of (code_onto Done xs) ≡ list_steps xs
steps-listed xs = steps-onto xs Done ∙ append-nil (list_steps xs)

pub ruleset listed = (steps-listed)
