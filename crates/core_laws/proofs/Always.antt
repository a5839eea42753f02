-- What holds at each place of code is closed under the ways in which code goes on.
use Rattle.std.proofs.Common.{◌≡◌, refl, ap, subst}
use Rattle.core_model.specs.Code.{Code, Done, Do, If, While, Enter, EnterClass, Exit, ◌⧺◌}
use Rattle.core_laws.specs.Places.{again, Along, Always, Here}
use Rattle.core_laws.proofs.Carried.{IsClosed}

pub join-assoc : (a k m : Code) → (a ⧺ k) ⧺ m ≡ a ⧺ (k ⧺ m)
join-assoc Done k m = refl
join-assoc (Do n p s) k m = ap (Do n p) (join-assoc s k m)
join-assoc (If n a b s) k m = ap (If n a b) (join-assoc s k m)
join-assoc (While n c b s) k m = ap (While n c b) (join-assoc s k m)
join-assoc (Enter n b s) k m = ap (Enter n b) (join-assoc s k m)
join-assoc (EnterClass n c b s) k m = ap (EnterClass n c b) (join-assoc s k m)
join-assoc (Exit n r s) k m = ap (Exit n r) (join-assoc s k m)

pub along-append : (P : Code → Type 0) (a k m : Code) → Along P a (k ⧺ m) → Along P k m → Along P (a ⧺ k) m
along-append P Done k m h g = g
along-append P (Do n p s) k m h g = (rw (join-assoc s k m) h.0, along-append P s k m h.1 g)
along-append P (If n a b s) k m h g =
    (rw (join-assoc s k m) h.0, rw (join-assoc s k m) h.1, rw (join-assoc s k m) h.2, along-append P s k m h.3 g)
along-append P (While n c b s) k m h g =
    (rw (join-assoc s k m) h.0, rw (join-assoc s k m) h.1, rw (join-assoc s k m) h.2, rw (join-assoc s k m) h.3, along-append P s k m h.4 g)
along-append P (Enter n b s) k m h g =
    (rw (join-assoc s k m) h.0, λ r. (rw (join-assoc s k m) (h.1 r).0, rw (join-assoc s k m) (h.1 r).1), along-append P s k m h.2 g)
along-append P (EnterClass n c b s) k m h g =
    (rw (join-assoc s k m) h.0, (rw (join-assoc s k m) h.1.0, rw (join-assoc s k m) h.1.1), along-append P s k m h.2 g)
along-append P (Exit n r s) k m h g = (rw (join-assoc s k m) h.0, along-append P s k m h.1 g)

join-done : (k : Code) → k ⧺ Done ≡ k
join-done Done = refl
join-done (Do n p k) = ap (Do n p) (join-done k)
join-done (If n a b k) = ap (If n a b) (join-done k)
join-done (While n c b k) = ap (While n c b) (join-done k)
join-done (Enter n b k) = ap (Enter n b) (join-done k)
join-done (EnterClass n c b k) = ap (EnterClass n c b) (join-done k)
join-done (Exit n r k) = ap (Exit n r) (join-done k)

-- what is always so is so here
pub always-here : (P : Code → Type 0) (k : Code) → Always P k → Here P k
always-here P Done h = tt
always-here P (Do n p k) h = subst (λ (l : Code). P (Do n p l)) (join-done k) h.0
always-here P (If n a b k) h = subst (λ (l : Code). P (If n a b l)) (join-done k) h.0
always-here P (While n c b k) h = subst (λ (l : Code). P (While n c b l)) (join-done k) h.0
always-here P (Enter n b k) h = subst (λ (l : Code). P (Enter n b l)) (join-done k) h.0
always-here P (EnterClass n c b k) h = subst (λ (l : Code). P (EnterClass n c b l)) (join-done k) h.0
always-here P (Exit n r k) h = subst (λ (l : Code). P (Exit n r l)) (join-done k) h.0

pub always-closed : (P : Code → Type 0) → IsClosed (Always P)
always-closed P = record {
  plain = λ n i k h. h.1;
  past_if = λ n a b k h. h.3;
  yes = λ n a b k h. along-append P a k Done h.1 h.3;
  no = λ n a b k h. along-append P b k Done h.2 h.3;
  past_while = λ n c b k h. h.4;
  turn = λ n c b k h. along-append P c (again n c b k) Done h.2
      (h.1, along-append P b (While n c b Done) (k ⧺ Done) h.3 (h.0, h.1, h.2, h.3, tt), tt, h.4);
  past_enter = λ n b k h. h.2;
  enter = λ n b k r h. along-append P b (Exit n r k) Done (h.1 r).0 ((h.1 r).1, h.2);
  past_class = λ n c b k h. h.2;
  enter_class = λ n c b k h. along-append P b (Exit n c k) Done h.1.0 (h.1.1, h.2);
  exit = λ n r k h. h.1;
}
