-- Marks as they are put.
use Rattle.std.proofs.Common.{◌≡◌, ℕ, zero, suc, arith, ◌+◌, ◌<◌, List, [], ◌∷◌, ◌++◌, length, take, get_or, refl, sym, ◌∙◌, ap, subst, append_assoc, add-zero, zero-add}
use Rattle.std.specs.Prelude.{Some, Result, Ok, Err, OnOk}
use Rattle.desk_base.specs.declared.memory.OutOfMemory.{OutOfMemory}
use Rattle.promise_marks.specs.declared.mark.Mark.{Mark}
use Rattle.java_tree.specs.declared.member.Param.{Param}
use Rattle.java_tree.specs.declared.token.Lexeme.{Lexeme}
use Rattle.std.proofs.lemmas.List.{take_more, length-take-le}
use Rattle.promise_marks.specs.Given.{Given, by_params, by_mods, last_name}
use Rattle.promise_marks.specs.Marks.{IsMark, AreMarks, PutsMarks}

-- marks of two lists
pub marks-append : (gs hs : List Given) (ms ns : List Mark) → AreMarks gs ms → AreMarks hs ns → AreMarks (gs ++ hs) (ms ++ ns)
marks-append [] hs [] ns one two = two
marks-append [] hs (m ∷ ms) ns one two = absurd one
marks-append (g ∷ gs) hs [] ns one two = absurd one
marks-append (g ∷ gs) hs (m ∷ ms) ns one two = (one.0, marks-append gs hs ms ns one.1 two)

-- nothing is put
pub puts_none : (ms : List Mark) → PutsMarks ms ms []
puts_none ms = record { puts = λ before are. subst (λ (gs : List Given). AreMarks gs ms) (sym (append-nil before)) are }
  where
    append-nil : (gs : List Given) → gs ++ [] ≡ gs
    append-nil [] = refl
    append-nil (g ∷ gs) = ap (λ (z : List Given). g ∷ z) (append-nil gs)

-- one is put
pub puts_one : (ms new : List Mark) (g : Given) (m : Mark) → IsMark g m → new ≡ ms ++ m ∷ [] → PutsMarks ms new (g ∷ [])
puts_one ms new g m is made = record {
  puts = λ before are.
      subst (AreMarks (before ++ g ∷ [])) (sym made) (marks-append before (g ∷ []) ms (m ∷ []) are (is, tt));
}

-- some are put, and then more
pub puts_more : (a b c : List Mark) (gs hs : List Given) → PutsMarks a b gs → PutsMarks b c hs → PutsMarks a c (gs ++ hs)
puts_more a b c gs hs one two = record {
  puts = λ before are.
      subst (λ (z : List Given). AreMarks z c) (append_assoc before gs hs) (two.puts (before ++ gs) (one.puts before are));
}

pub puts_after : (r : Result (Unit {0}) OutOfMemory) (a b c : List Mark) (gs hs : List Given) → PutsMarks a b gs → OnOk r (PutsMarks b c hs) → OnOk r (PutsMarks a c (gs ++ hs))
puts_after (Ok x) a b c gs hs one two = puts_more a b c gs hs one two
puts_after (Err e) a b c gs hs one two = tt

-- what was put to nothing
pub marks_from : (old new : List Mark) (gs : List Given) → old ≡ [] → PutsMarks old new gs → AreMarks gs new
marks_from old new gs none puts = puts.puts [] (subst (AreMarks []) (sym none) tt)

nil_append : (gs : List Given) → gs ++ [] ≡ gs
nil_append [] = refl
nil_append (g ∷ gs) = ap (λ (z : List Given). g ∷ z) (nil_append gs)

params_push : (n : ℕ) (xs : List Param) (p : Param) → by_params n (xs ++ p ∷ []) ≡ by_params n xs ++ by_mods (Some (n + length xs)) p.mods
params_push n [] p = nil_append (by_mods (Some n) p.mods) ∙ ap (λ (k : ℕ). by_mods (Some k) p.mods) (sym (add-zero n))
params_push n (x ∷ xs) p =
    let same : (n + 1) + length xs ≡ n + suc (length xs) = omega arith in
    ap (λ (z : List Given). by_mods (Some n) x.mods ++ z) (params_push (n + 1) xs p ∙ ap (λ (k : ℕ). by_params (n + 1) xs ++ by_mods (Some k) p.mods) same)
    ∙ sym (append_assoc (by_mods (Some n) x.mods) (by_params (n + 1) xs) (by_mods (Some (n + suc (length xs))) p.mods))

-- one parameter more
pub params_more : (i : ℕ) (ps : List Param) (p : Param) → i < length ps → p ≡ get_or ps i p
    → by_params 0 (take (i + 1) ps) ≡ by_params 0 (take i ps) ++ by_mods (Some i) p.mods
params_more i ps p low is =
    let long : 0 + length (take i ps) ≡ i = zero-add (length (take i ps)) ∙ length-take-le i ps (omega arith) in
    ap (by_params 0) (take_more ps i p low) ∙ params_push 0 (take i ps) (get_or ps i p)
    ∙ ap (λ (k : ℕ). by_params 0 (take i ps) ++ by_mods (Some k) (get_or ps i p).mods) long
    ∙ ap (λ (q : Param). by_params 0 (take i ps) ++ by_mods (Some i) q.mods) (sym is)

-- the last name
pub last_at : (words : List Lexeme) (k : ℕ) (d : Lexeme) → k + 1 ≡ length words → last_name words ≡ (get_or words k d).text
last_at [] k d e = absurd (let z : k + 1 ≡ 0 = e in omega arith)
last_at (w ∷ []) zero d e = refl
last_at (w ∷ []) (suc k) d e = absurd (let z : suc k + 1 ≡ 1 = e in omega arith)
last_at (w ∷ v ∷ ws) zero d e = absurd (let z : 1 ≡ suc (suc (length ws)) = e in omega arith)
last_at (w ∷ v ∷ ws) (suc k) d e = last_at (v ∷ ws) k d (let z : suc k + 1 ≡ suc (suc (length ws)) = e in omega arith)
