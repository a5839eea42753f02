-- The places of a call, put one after another.
use Rattle.std.proofs.Common.{◌≡◌, ℕ, List, sym, ap, ◌∙◌}
use Rattle.bound_tree.specs.Claim.{Claim}
use Rattle.bound_tree.specs.Claims.{Seen}
use Rattle.bound_tree.specs.Places.{Of, ToReceiver, ToArgument, ToNothing, Calls}
use Rattle.bound_tree.specs.Reading.{term_of, terms_of}
use Rattle.bound_tree.specs.Tree.{Term, Terms}
use Rattle.bound_tree.specs.Walked.{spot, term_seen, args_seen, value_seen}
use Rattle.bound_tree.specs.declared.name.MemberName.{MemberName}
use Rattle.bound_tree.specs.declared.tree.Stamp.{Stamp}
use Rattle.bound_tree.specs.declared.tree.Expr.{Expr}
use Rattle.bound_tree.specs.declared.tree.Expr.TheVariants as e
use Rattle.bound_tree.proofs.Readings.{term_of-Call, term_of-UnknownCall}

pub call_steps : (h : List Claim) (ph : Terms) (whole r r1 r2 : Expr) (s : Stamp) (m : MemberName) (xs xs1 xs2 : List Expr) (k0 k1 k2 k3 : List Seen)
    → whole ≡ e.Call s r m xs
    → r1 ≡ r → xs1 ≡ xs → xs2 ≡ xs → r2 ≡ r
    → k1 ≡ spot h ph s.is_faulty s.at (Calls m (Of (term_of r1)) (terms_of xs1)) k0
    → k2 ≡ args_seen h ph (λ n. ToArgument m n) 0 (terms_of xs2) k1
    → k3 ≡ value_seen h ph (term_of r2) (ToReceiver m) k2
    → k3 ≡ term_seen h ph (term_of whole) k0
call_steps h ph whole r r1 r2 s m xs xs1 xs2 k0 k1 k2 k3 is a b c d p q v =
    v
    ∙ ap (λ (x : Expr). value_seen h ph (term_of x) (ToReceiver m) k2) d
    ∙ ap (λ (k : List Seen). value_seen h ph (term_of r) (ToReceiver m) k)
    (q
    ∙ ap (λ (ys : List Expr). args_seen h ph (λ n. ToArgument m n) 0 (terms_of ys) k1) c
    ∙ ap (λ (k : List Seen). args_seen h ph (λ n. ToArgument m n) 0 (terms_of xs) k)
    (p
    ∙ ap (λ (x : Expr). spot h ph s.is_faulty s.at (Calls m (Of (term_of x)) (terms_of xs1)) k0) a
    ∙ ap (λ (ys : List Expr). spot h ph s.is_faulty s.at (Calls m (Of (term_of r)) (terms_of ys)) k0) b))
    ∙ sym (ap (λ (x : Term). term_seen h ph x k0) (ap term_of is ∙ term_of-Call s r m xs))

pub unknown_call_steps : (h : List Claim) (ph : Terms) (whole r r1 : Expr) (s : Stamp) (n n1 n2 : List ℕ) (xs xs1 : List Expr) (k0 k1 k2 : List Seen)
    → whole ≡ e.UnknownCall s r n xs
    → xs1 ≡ xs → n1 ≡ n → r1 ≡ r → n2 ≡ n
    → k1 ≡ args_seen h ph (λ _. ToNothing n1) 0 (terms_of xs1) k0
    → k2 ≡ value_seen h ph (term_of r1) (ToNothing n2) k1
    → k2 ≡ term_seen h ph (term_of whole) k0
unknown_call_steps h ph whole r r1 s n n1 n2 xs xs1 k0 k1 k2 is a b c d p v =
    v
    ∙ ap (λ (x : Expr). value_seen h ph (term_of x) (ToNothing n2) k1) c
    ∙ ap (λ (y : List ℕ). value_seen h ph (term_of r) (ToNothing y) k1) d
    ∙ ap (λ (k : List Seen). value_seen h ph (term_of r) (ToNothing n) k)
    (p
    ∙ ap (λ (ys : List Expr). args_seen h ph (λ _. ToNothing n1) 0 (terms_of ys) k0) a
    ∙ ap (λ (y : List ℕ). args_seen h ph (λ _. ToNothing y) 0 (terms_of xs) k0) b)
    ∙ sym (ap (λ (x : Term). term_seen h ph x k0) (ap term_of is ∙ term_of-UnknownCall s r n xs))
