-- The running list of claims is that of a place's ancestors.
use Rattle.std.proofs.Common.{◌≡◌, refl, ℕ, Bool, List, [], ◌∷◌, ◌++◌, Option, Some, None, sym, ap, ◌∙◌, append_assoc}
use Rattle.std.proofs.lemmas.List.{append-nil}
use Rattle.bound_tree.specs.Claim.{Claim}
use Rattle.bound_tree.specs.Claim as claim
use Rattle.bound_tree.specs.Tree.{Term, Terms, Statement, Statements, stamp_of, is_bad, base_of}
use Rattle.bound_tree.specs.Tree as t
use Rattle.bound_tree.specs.Places.{Frame, InSync, InClass, Place, Goal, Locks, here, inside, under, term_places, args_places, base_places, Access, access_of, read_places, written_places, one_term, two_terms, places, places_all}
use Rattle.bound_tree.specs.Claims.{claim_of, listed, frame_claims, claims_of, Seen, seen, all_seen, with_claims, walked, walked_all}

pub seen-both : (varies : ℕ → Bool) (held : List Claim) (ps qs : List Place)
    → all_seen varies held (ps ++ qs) ≡ all_seen varies held ps ++ all_seen varies held qs
seen-both varies held [] qs = refl
seen-both varies held (p ∷ ps) qs = ap (λ (l : List Seen). seen varies held p ∷ l) (seen-both varies held ps qs)

-- one step inwards is one more claim in the running list
pub seen-under : (varies : ℕ → Bool) (held : List Claim) (f : Frame) (ps : List Place)
    → all_seen varies held (under f ps) ≡ all_seen varies (held ++ frame_claims varies f) ps
seen-under varies held f [] = refl
seen-under varies held f (p ∷ ps) =
    rw (append_assoc held (frame_claims varies f) (claims_of varies p.around))
    (ap (λ (l : List Seen). seen varies held (inside f p) ∷ l) (seen-under varies held f ps))

-- ---- what has nothing around it

abbrev Bare : List Place → Type 0
Bare [] = Unit {0}
Bare (p ∷ ps) = (p.around ≡ []) × Bare ps

bare-both : (ps qs : List Place) → Bare ps → Bare qs → Bare (ps ++ qs)
bare-both [] qs g h = h
bare-both (p ∷ ps) qs g h = (g.0, bare-both ps qs g.1 h)

bare-seen : (varies : ℕ → Bool) (held : List Claim) (ps : List Place) → Bare ps → with_claims held ps ≡ all_seen varies held ps
bare-seen varies held [] h = refl
bare-seen varies held (p ∷ ps) h =
    ap (λ (l : List Seen). record { claims = held; phrase = p.phrase; faulty = p.faulty; at = p.at; what = p.what } ∷ l) (bare-seen varies held ps h.1)
    ∙ ap (λ (cs : List Claim). record { claims = cs; phrase = p.phrase; faulty = p.faulty; at = p.at; what = p.what } ∷ all_seen varies held ps)
    (sym (ap (λ (fs : List Frame). held ++ claims_of varies fs) h.0 ∙ append-nil held))

mutual
  term-bare : (ph : Terms) (e : Term) → Bare (term_places ph e)
  term-bare ph (t.Const s l) = tt
  term-bare ph (t.This s) = tt
  term-bare ph (t.Local s x) = tt
  term-bare ph (t.Field s b f) = bare-both (term_places ph b) _ (term-bare ph b) (refl, tt)
  term-bare ph (t.Static s f) = (refl, tt)
  term-bare ph (t.New s c es) = bare-both (args_places ph _ 0 es) _ (args-bare ph _ 0 es) (refl, tt)
  term-bare ph (t.Call s r m es) =
      bare-both (term_places ph r) _ (term-bare ph r) (refl, bare-both (args_places ph _ 0 es) _ (args-bare ph _ 0 es) (refl, tt))
  term-bare ph (t.CallStatic s m es) = bare-both (args_places ph _ 0 es) _ (args-bare ph _ 0 es) (refl, tt)
  term-bare ph (t.Unknown s n es) = args-bare ph _ 0 es
  term-bare ph (t.UnknownField s b n) = term-bare ph b
  term-bare ph (t.UnknownCall s r n es) = bare-both (term_places ph r) _ (term-bare ph r) (refl, args-bare ph _ 0 es)
  term-bare ph (t.Unary s o a) = term-bare ph a
  term-bare ph (t.And s a b) = bare-both (term_places ph a) (term_places ph b) (term-bare ph a) (term-bare ph b)
  term-bare ph (t.Or s a b) = bare-both (term_places ph a) (term_places ph b) (term-bare ph a) (term-bare ph b)
  term-bare ph (t.Binary s o a b) = bare-both (term_places ph a) (term_places ph b) (term-bare ph a) (term-bare ph b)

  args-bare : (ph : Terms) (to : ℕ → Goal) (n : ℕ) (es : Terms) → Bare (args_places ph to n es)
  args-bare ph to n t.no_terms = tt
  args-bare ph to n (t.term e es) = bare-both (term_places ph e) _ (term-bare ph e) (refl, args-bare ph to _ es)

base-bare : (ph : Terms) (b : Option Term) → Bare (base_places ph b)
base-bare ph None = tt
base-bare ph (Some b) = term-bare ph b

read-bare : (ph : Terms) (a : Option Access) → Bare (read_places ph a)
read-bare ph None = tt
read-bare ph (Some a) = (refl, tt)

written-bare : (ph : Terms) (a : Option Access) → Bare (written_places ph a)
written-bare ph None = tt
written-bare ph (Some a) = (refl, tt)

-- ---- the walk

mutual
  pub walked-seen : (varies : ℕ → Bool) (held : List Claim) (s : Statement) → walked varies held s ≡ all_seen varies held (places s)
  walked-seen varies held (t.Block ss) = walked_all-seen varies held ss
  walked-seen varies held (t.Declare p x ty v) =
      bare-seen varies held (places (t.Declare p x ty v)) (bare-both (term_places (one_term v) v) _ (term-bare (one_term v) v) (refl, tt))
  walked-seen varies held (t.Assign to v) =
      bare-seen varies held (places (t.Assign to v))
      (bare-both (base_places (two_terms to v) (base_of to)) _ (base-bare (two_terms to v) (base_of to))
      (bare-both (term_places (two_terms to v) v) _ (term-bare (two_terms to v) v) (refl, written-bare (two_terms to v) (access_of to))))
  walked-seen varies held (t.Compound to o v) =
      bare-seen varies held (places (t.Compound to o v))
      (bare-both (base_places (two_terms to v) (base_of to)) _ (base-bare (two_terms to v) (base_of to))
      (bare-both (read_places (two_terms to v) (access_of to)) _ (read-bare (two_terms to v) (access_of to))
      (bare-both (term_places (two_terms to v) v) _ (term-bare (two_terms to v) v) (written-bare (two_terms to v) (access_of to)))))
  walked-seen varies held (t.Perform v) = bare-seen varies held (term_places (one_term v) v) (term-bare (one_term v) v)
  walked-seen varies held (t.Start p v) =
      bare-seen varies held (places (t.Start p v)) (bare-both (term_places (one_term v) v) _ (term-bare (one_term v) v) (refl, (refl, tt)))
  walked-seen varies held (t.If v a b) =
      rw (seen-both varies held (term_places (one_term v) v) (places a ++ places b), seen-both varies held (places a) (places b))
      (ap (λ (l : List Seen). l ++ (walked varies held a ++ walked varies held b))
      (bare-seen varies held (term_places (one_term v) v) (term-bare (one_term v) v))
      ∙ ap (λ (l : List Seen). all_seen varies held (term_places (one_term v) v) ++ (l ++ walked varies held b)) (walked-seen varies held a)
      ∙ ap (λ (l : List Seen). all_seen varies held (term_places (one_term v) v) ++ (all_seen varies held (places a) ++ l)) (walked-seen varies held b))
  walked-seen varies held (t.While v a) =
      rw (seen-both varies held (term_places (one_term v) v) (places a))
      (ap (λ (l : List Seen). l ++ walked varies held a) (bare-seen varies held (term_places (one_term v) v) (term-bare (one_term v) v))
      ∙ ap (λ (l : List Seen). all_seen varies held (term_places (one_term v) v) ++ l) (walked-seen varies held a))
  walked-seen varies held (t.Sync v a) =
      ap (λ (l : List Seen). l ++ walked varies (held ++ listed (claim_of varies v)) a)
      (bare-seen varies held (term_places (one_term v) v ++ here (one_term v) (is_bad v) (stamp_of v).first (Locks v))
      (bare-both (term_places (one_term v) v) _ (term-bare (one_term v) v) (refl, tt)))
      ∙ ap (λ (l : List Seen). all_seen varies held (term_places (one_term v) v ++ here (one_term v) (is_bad v) (stamp_of v).first (Locks v)) ++ l)
      (walked-seen varies (held ++ listed (claim_of varies v)) a ∙ sym (seen-under varies held (InSync v) (places a)))
      ∙ sym (seen-both varies held (term_places (one_term v) v ++ here (one_term v) (is_bad v) (stamp_of v).first (Locks v)) (under (InSync v) (places a)))
      ∙ ap (all_seen varies held) (append_assoc (term_places (one_term v) v) (here (one_term v) (is_bad v) (stamp_of v).first (Locks v)) (under (InSync v) (places a)))
  walked-seen varies held (t.SyncClass p c a) =
      walked-seen varies (held ++ claim.Class c ∷ []) a ∙ sym (seen-under varies held (InClass c) (places a))
  walked-seen varies held (t.Return p) = refl
  walked-seen varies held (t.ReturnValue p v) =
      bare-seen varies held (places (t.ReturnValue p v)) (bare-both (term_places (one_term v) v) _ (term-bare (one_term v) v) (refl, tt))

  pub walked_all-seen : (varies : ℕ → Bool) (held : List Claim) (ss : Statements) → walked_all varies held ss ≡ all_seen varies held (places_all ss)
  walked_all-seen varies held t.no_statements = refl
  walked_all-seen varies held (t.statement s ss) =
      rw (seen-both varies held (places s) (places_all ss))
      (ap (λ (l : List Seen). l ++ walked_all varies held ss) (walked-seen varies held s)
      ∙ ap (λ (l : List Seen). all_seen varies held (places s) ++ l) (walked_all-seen varies held ss))

-- with nothing held before, the claims are those of the ancestors
pub nothing-held : (varies : ℕ → Bool) (p : Place) → seen varies [] p ≡ record { claims = claims_of varies p.around; phrase = p.phrase; faulty = p.faulty; at = p.at; what = p.what }
nothing-held varies p = refl
