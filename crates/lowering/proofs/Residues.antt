-- Numbers in the place of names keep what code does; and what is known at each place of code is known of what is left there.
use Rattle.std.proofs.Common.{◌≡◌, refl, ℕ, List, [], ◌∷◌, ◌++◌, Option, Some, None, sym, ap, ◌∙◌, subst}
use Rattle.core_model.specs.Code as core
use Rattle.core_model.specs.Code.{◌⧺◌}
use Rattle.core_model.specs.declared.instr.Claim.{Claim}
use Rattle.core_laws.specs.Places.{Each, Along, again}
use Rattle.core_laws.specs.Marks.{Unmarked}
use Rattle.bound_tree.specs.Claim.{Claim as TreeClaim}
use Rattle.lowering.specs.declared.instr.NamedKnown.{NamedKnown}
use Rattle.lowering.specs.declared.instr.NamedKnown.TheVariants as known
use Rattle.lowering.specs.declared.instr.NamedPlain.{NamedPlain}
use Rattle.lowering.specs.declared.instr.NamedPlain.TheVariants as plain
use Rattle.lowering.specs.Code.{Code, Done, Do, If, While, Enter, EnterClass}
use Rattle.lowering.specs.Acts.{put_act, noted, noted_claim, act_of, code_acts, NamedAct, NamedActed, ReadsField, WritesField, CallsOn}
use Rattle.lowering.specs.Numbers.{Numbers, class_known, claim_number, known_number, plain_number, numbered, or_empty}
use Rattle.lowering.specs.Residue.{CoreAct, CoreActed, known_class, core_act, known_claim, core_acts, held_claims, Next, class_if, act_number, claims_numbers, acted_numbers}

-- ---- numbers

known-same : (o : Option ℕ) → known_class (class_known o) ≡ o
known-same None = refl
known-same (Some i) = refl

no-claim : (o : Option ℕ) → known_claim (class_known o) ≡ []
no-claim None = refl
no-claim (Some i) = refl

module _ (r : Numbers) where
  class-same : (n : NamedKnown) → known_class (known_number r n) ≡ class_if r (noted n)
  class-same known.Nothing = refl
  class-same (known.Class c) = known-same (r.class c)
  class-same (known.Monitor m) = refl

  claim-same : (n : NamedKnown) → known_claim (known_number r n) ≡ claims_numbers r (noted_claim n)
  claim-same known.Nothing = refl
  claim-same (known.Class c) = no-claim (r.class c)
  claim-same (known.Monitor m) = refl

  claims-append : (a b : List TreeClaim) → claims_numbers r (a ++ b) ≡ claims_numbers r a ++ claims_numbers r b
  claims-append [] b = refl
  claims-append (m ∷ a) b = ap (λ (l : List Claim). claim_number r m ∷ l) (claims-append a b)

  abbrev act_if : Option NamedAct → Option CoreAct
  act_if None = None
  act_if (Some a) = Some (act_number r a)

  act-same : (n : NamedKnown) (p : NamedPlain) → core_act (known_number r n) (plain_number r n p) ≡ act_if (act_of n p)
  act-same n (plain.Const v) = refl
  act-same n (plain.Get x) = refl
  act-same n (plain.Set x) = refl
  act-same n plain.Drop = refl
  act-same n (plain.Field f) = ap (λ (c : Option ℕ). Some (ReadsField c (r.field (or_empty (noted n)) f))) (class-same n)
  act-same n (plain.FieldKeep f) = ap (λ (c : Option ℕ). Some (ReadsField c (r.field (or_empty (noted n)) f))) (class-same n)
  act-same n (plain.PutField f) = ap (λ (c : Option ℕ). Some (WritesField c (r.field (or_empty (noted n)) f))) (class-same n)
  act-same n (plain.Static c f) = refl
  act-same n (plain.PutStatic c f) = refl
  act-same n (plain.Make c k) = refl
  act-same n plain.MakePlain = refl
  act-same n (plain.Call m k) = ap (λ (c : Option ℕ). Some (CallsOn c (r.member m) k)) (class-same n)
  act-same n (plain.CallStatic c m k) = refl
  act-same n (plain.Op o) = refl
  act-same n plain.Neg = refl
  act-same n plain.Not = refl
  act-same n plain.Start = refl
  act-same n plain.Return = refl
  act-same n plain.ReturnValue = refl

  put-same : (p : ℕ) (held : List TreeClaim) (o : Option NamedAct) (rest : List NamedActed)
      → put_act p (claims_numbers r held) (act_if o) (acted_numbers r rest) ≡ acted_numbers r (put_act p held o rest)
  put-same p held None rest = refl
  put-same p held (Some a) rest = refl

  inner-same : (n : NamedKnown) (held : List TreeClaim) → claims_numbers r held ++ known_claim (known_number r n) ≡ claims_numbers r (held ++ noted_claim n)
  inner-same n held = ap (λ (l : List Claim). claims_numbers r held ++ l) (claim-same n) ∙ sym (claims-append held (noted_claim n))

  numbers-keep : (held : List TreeClaim) (k : Code) (rest : List NamedActed)
      → core_acts (claims_numbers r held) (numbered r k) (acted_numbers r rest) ≡ acted_numbers r (code_acts held k rest)
  numbers-keep held Done rest = refl
  numbers-keep held (Do n p k) rest =
      ap (put_act n.place (claims_numbers r held) (core_act (known_number r n.known) (plain_number r n.known p))) (numbers-keep held k rest)
      ∙ ap (λ (o : Option CoreAct). put_act n.place (claims_numbers r held) o (acted_numbers r (code_acts held k rest))) (act-same n.known p)
      ∙ put-same n.place held (act_of n.known p) (code_acts held k rest)
  numbers-keep held (If n a b k) rest =
      ap (λ (l : List CoreActed). core_acts (claims_numbers r held) (numbered r a) (core_acts (claims_numbers r held) (numbered r b) l)) (numbers-keep held k rest)
      ∙ ap (core_acts (claims_numbers r held) (numbered r a)) (numbers-keep held b (code_acts held k rest))
      ∙ numbers-keep held a (code_acts held b (code_acts held k rest))
  numbers-keep held (While n c b k) rest =
      ap (λ (l : List CoreActed). core_acts (claims_numbers r held) (numbered r c) (core_acts (claims_numbers r held) (numbered r b) l)) (numbers-keep held k rest)
      ∙ ap (core_acts (claims_numbers r held) (numbered r c)) (numbers-keep held b (code_acts held k rest))
      ∙ numbers-keep held c (code_acts held b (code_acts held k rest))
  numbers-keep held (Enter n b k) rest =
      ap (core_acts (claims_numbers r held ++ known_claim (known_number r n.known)) (numbered r b)) (numbers-keep held k rest)
      ∙ ap (λ (l : List Claim). core_acts l (numbered r b) (acted_numbers r (code_acts held k rest))) (inner-same n.known held)
      ∙ numbers-keep (held ++ noted_claim n.known) b (code_acts held k rest)
  numbers-keep held (EnterClass n c b k) rest =
      ap (core_acts (claims_numbers r held ++ known_claim (known_number r n.known)) (numbered r b)) (numbers-keep held k rest)
      ∙ ap (λ (l : List Claim). core_acts l (numbered r b) (acted_numbers r (code_acts held k rest))) (inner-same n.known held)
      ∙ numbers-keep (held ++ noted_claim n.known) b (code_acts held k rest)

  unmarked : (k : Code) → Unmarked (numbered r k)
  unmarked Done = tt
  unmarked (Do n p k) = unmarked k
  unmarked (If n a b k) = (unmarked a, unmarked b, unmarked k)
  unmarked (While n c b k) = (unmarked c, unmarked b, unmarked k)
  unmarked (Enter n b k) = (unmarked b, unmarked k)
  unmarked (EnterClass n c b k) = (unmarked b, unmarked k)

pub numbers-keep-acts : (r : Numbers) (held : List TreeClaim) (k : Code) (rest : List NamedActed)
    → core_acts (claims_numbers r held) (numbered r k) (acted_numbers r rest) ≡ acted_numbers r (code_acts held k rest)
numbers-keep-acts r held k rest = numbers-keep r held k rest

pub numbered-unmarked : (r : Numbers) (k : Code) → Unmarked (numbered r k)
numbered-unmarked r k = unmarked r k

-- ---- what is left

held-append : (a k : core.Code) → Unmarked a → held_claims (a ⧺ k) ≡ held_claims k
held-append core.Done k u = refl
held-append (core.Do n p s) k u = held-append s k u
held-append (core.If n a b s) k u = held-append s k u.2
held-append (core.While n c b s) k u = held-append s k u.2
held-append (core.Enter n b s) k u = held-append s k u.1
held-append (core.EnterClass n c b s) k u = held-append s k u.1
held-append (core.Exit n r s) k u = absurd u

module _ (Q : CoreActed → Type 0) where
  first : (p : ℕ) (held : List Claim) (o : Option CoreAct) (rest : List CoreActed) → Each Q (put_act p held o rest) → Each Q (put_act p held o [])
  first p held None rest h = tt
  first p held (Some a) rest h = (h.0, tt)

  then : (p : ℕ) (held : List Claim) (o : Option CoreAct) (rest : List CoreActed) → Each Q (put_act p held o rest) → Each Q rest
  then p held None rest h = h
  then p held (Some a) rest h = h.1

  after : (held : List Claim) (s : core.Code) (rest : List CoreActed) → Each Q (core_acts held s rest) → Each Q rest
  after held core.Done rest h = h
  after held (core.Do n p s) rest h = after held s rest (then n.place held (core_act n.known p) (core_acts held s rest) h)
  after held (core.If n a b s) rest h = after held s rest (after held b (core_acts held s rest) (after held a (core_acts held b (core_acts held s rest)) h))
  after held (core.While n c b s) rest h = after held s rest (after held b (core_acts held s rest) (after held c (core_acts held b (core_acts held s rest)) h))
  after held (core.Enter n b s) rest h = after held s rest (after (held ++ known_claim n.known) b (core_acts held s rest) h)
  after held (core.EnterClass n c b s) rest h = after held s rest (after (held ++ known_claim n.known) b (core_acts held s rest) h)
  after held (core.Exit n r s) rest h = after held s rest h

  along : (s k : core.Code) (rest : List CoreActed) → Unmarked s → Each Q (core_acts (held_claims k) s rest) → Along (Next Q) s k
  along core.Done k rest u h = tt
  along (core.Do n p s) k rest u h = (
    rw (held-append s k u) (first n.place (held_claims k) (core_act n.known p) (core_acts (held_claims k) s rest) h),
    along s k rest u (then n.place (held_claims k) (core_act n.known p) (core_acts (held_claims k) s rest) h),
  )
  along (core.If n a b s) k rest u h =
      let same : held_claims k ≡ held_claims (s ⧺ k) = sym (held-append s k u.2) in
      let two : Each Q (core_acts (held_claims k) b (core_acts (held_claims k) s rest)) = after (held_claims k) a _ h in
      let three : Each Q (core_acts (held_claims k) s rest) = after (held_claims k) b _ two in (
        tt,
        along a (s ⧺ k) (core_acts (held_claims k) b (core_acts (held_claims k) s rest)) u.0
            (subst (λ (l : List Claim). Each Q (core_acts l a (core_acts (held_claims k) b (core_acts (held_claims k) s rest)))) same h),
        along b (s ⧺ k) (core_acts (held_claims k) s rest) u.1
            (subst (λ (l : List Claim). Each Q (core_acts l b (core_acts (held_claims k) s rest))) same two),
        along s k rest u.2 three,
      )
  along (core.While n c b s) k rest u h =
      let same : held_claims k ≡ held_claims (s ⧺ k) = sym (held-append s k u.2) in
      let two : Each Q (core_acts (held_claims k) b (core_acts (held_claims k) s rest)) = after (held_claims k) c _ h in
      let three : Each Q (core_acts (held_claims k) s rest) = after (held_claims k) b _ two in (
        tt,
        tt,
        along c (again n c b (s ⧺ k)) (core_acts (held_claims k) b (core_acts (held_claims k) s rest)) u.0
            (subst (λ (l : List Claim). Each Q (core_acts l c (core_acts (held_claims k) b (core_acts (held_claims k) s rest)))) same h),
        along b (core.While n c b (s ⧺ k)) (core_acts (held_claims k) s rest) u.1
            (subst (λ (l : List Claim). Each Q (core_acts l b (core_acts (held_claims k) s rest))) same two),
        along s k rest u.2 three,
      )
  along (core.Enter n b s) k rest u h =
      let same : held_claims k ≡ held_claims (s ⧺ k) = sym (held-append s k u.1) in
      let inner : Each Q (core_acts (held_claims (s ⧺ k) ++ known_claim n.known) b (core_acts (held_claims k) s rest)) =
      subst (λ (l : List Claim). Each Q (core_acts (l ++ known_claim n.known) b (core_acts (held_claims k) s rest))) same h in (
        tt,
        (λ (r : ℕ). (along b (core.Exit n r (s ⧺ k)) (core_acts (held_claims k) s rest) u.0 inner, tt)),
        along s k rest u.1 (after (held_claims k ++ known_claim n.known) b _ h),
      )
  along (core.EnterClass n c b s) k rest u h =
      let same : held_claims k ≡ held_claims (s ⧺ k) = sym (held-append s k u.1) in
      let inner : Each Q (core_acts (held_claims (s ⧺ k) ++ known_claim n.known) b (core_acts (held_claims k) s rest)) =
      subst (λ (l : List Claim). Each Q (core_acts (l ++ known_claim n.known) b (core_acts (held_claims k) s rest))) same h in (
        tt,
        (along b (core.Exit n c (s ⧺ k)) (core_acts (held_claims k) s rest) u.0 inner, tt),
        along s k rest u.1 (after (held_claims k ++ known_claim n.known) b _ h),
      )
  along (core.Exit n r s) k rest u h = absurd u

pub acts-along : (Q : CoreActed → Type 0) (s k : core.Code) (rest : List CoreActed) → Unmarked s → Each Q (core_acts (held_claims k) s rest) → Along (Next Q) s k
acts-along Q s k rest u h = along Q s k rest u h
