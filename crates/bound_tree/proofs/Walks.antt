-- The walk from the end meets the places with their claims.
use Rattle.std.proofs.Common.{◌≡◌, refl, ℕ, Bool, true, false, List, [], ◌∷◌, ◌++◌, Option, Some, None, map, sym, ap, ◌∙◌, append_assoc}
use Rattle.std.proofs.lemmas.List.{append-nil, reverse-append}
use Rattle.bound_tree.specs.Claim.{Claim}
use Rattle.bound_tree.specs.Claim as claim
use Rattle.bound_tree.specs.Claims.{claim_of, listed, Seen, all_seen, with_claims, walked, walked_all}
use Rattle.bound_tree.specs.Places.{InMember, InClass, Place, Goal, ToReceiver, ToArgument, ToConstructor, ToNothing, ToLocal, ToResult, ToThread, Locks, Starts, Access, access_of, target_goal, here, goes, term_places, args_places, base_places, read_places, written_places, one_term, two_terms, places, member_places, part_places}
use Rattle.bound_tree.specs.Reading.{statement_of}
use Rattle.bound_tree.specs.Shown.{shown, shown_back}
use Rattle.bound_tree.specs.Tree.{Term, Terms, Statement, Statements, stamp_of, is_bad, base_of}
use Rattle.bound_tree.specs.Tree as t
use Rattle.bound_tree.specs.Walked.{term_seen, args_seen, base_seen, read_seen, written_seen, value_seen, statement_seen, statements_seen, member_claims, body_seen}
use Rattle.bound_tree.specs.declared.place.Seen.{Seen as KeptSeen}
use Rattle.bound_tree.specs.declared.unit.Body.{Body}
use Rattle.bound_tree.specs.declared.unit.Part.TheVariants as part
use Rattle.bound_tree.proofs.Claims.{walked-seen, seen-under}

-- what a push leaves
pub pushed-back : (new list : List KeptSeen) (s : KeptSeen) → new ≡ list ++ s ∷ [] → shown_back new ≡ shown s ∷ shown_back list
pushed-back new list s e = ap shown_back e ∙ ap (map shown) (reverse-append list (s ∷ []))

both : (h : List Claim) (ps qs : List Place) → with_claims h (ps ++ qs) ≡ with_claims h ps ++ with_claims h qs
both h [] qs = refl
both h (p ∷ ps) qs =
    ap (λ (l : List Seen). record { claims = h; phrase = p.phrase; faulty = p.faulty; at = p.at; what = p.what } ∷ l) (both h ps qs)

also : (xs ys l m k : List Seen) → l ≡ xs ++ m → m ≡ ys ++ k → l ≡ (xs ++ ys) ++ k
also xs ys l m k e f = e ∙ ap (λ (n : List Seen). xs ++ n) f ∙ sym (append_assoc xs ys k)

next : (h : List Claim) (ps qs : List Place) (l m k : List Seen) → l ≡ with_claims h ps ++ m → m ≡ with_claims h qs ++ k
    → l ≡ with_claims h (ps ++ qs) ++ k
next h ps qs l m k e f =
    also (with_claims h ps) (with_claims h qs) l m k e f ∙ ap (λ (n : List Seen). n ++ k) (sym (both h ps qs))

mutual
  term-walk : (h : List Claim) (ph : Terms) (e : Term) (k : List Seen) → term_seen h ph e k ≡ with_claims h (term_places ph e) ++ k
  term-walk h ph (t.Const s l) k = refl
  term-walk h ph (t.This s) k = refl
  term-walk h ph (t.Local s x) k = refl
  term-walk h ph (t.Field s b f) k = next h (term_places ph b) _ _ _ k (term-walk h ph b _) refl
  term-walk h ph (t.Static s f) k = refl
  term-walk h ph (t.New s c es) k = next h (args_places ph (λ n. ToConstructor c n) 0 es) _ _ _ k (args-walk h ph (λ n. ToConstructor c n) 0 es _) refl
  term-walk h ph (t.Call s r m es) k =
      next h (term_places ph r) _ _ _ k (term-walk h ph r _)
      (next h (goes ph r (ToReceiver m)) _ _ _ k refl
      (next h (args_places ph (λ n. ToArgument m n) 0 es) _ _ _ k (args-walk h ph (λ n. ToArgument m n) 0 es _) refl))
  term-walk h ph (t.CallStatic s m es) k = next h (args_places ph (λ n. ToArgument m n) 0 es) _ _ _ k (args-walk h ph (λ n. ToArgument m n) 0 es _) refl
  term-walk h ph (t.Unknown s n es) k = args-walk h ph (λ _. ToNothing n) 0 es k
  term-walk h ph (t.UnknownField s b n) k = term-walk h ph b k
  term-walk h ph (t.UnknownCall s r n es) k =
      next h (term_places ph r) _ _ _ k (term-walk h ph r _)
      (next h (goes ph r (ToNothing n)) _ _ _ k refl (args-walk h ph (λ _. ToNothing n) 0 es k))
  term-walk h ph (t.Unary s o a) k = term-walk h ph a k
  term-walk h ph (t.And s a b) k = next h (term_places ph a) (term_places ph b) _ _ k (term-walk h ph a _) (term-walk h ph b k)
  term-walk h ph (t.Or s a b) k = next h (term_places ph a) (term_places ph b) _ _ k (term-walk h ph a _) (term-walk h ph b k)
  term-walk h ph (t.Binary s o a b) k = next h (term_places ph a) (term_places ph b) _ _ k (term-walk h ph a _) (term-walk h ph b k)

  args-walk : (h : List Claim) (ph : Terms) (to : ℕ → Goal) (n : ℕ) (es : Terms) (k : List Seen)
      → args_seen h ph to n es k ≡ with_claims h (args_places ph to n es) ++ k
  args-walk h ph to n t.no_terms k = refl
  args-walk h ph to n (t.term e es) k =
      next h (term_places ph e) _ _ _ k (term-walk h ph e _)
      (next h (goes ph e (to n)) _ _ _ k refl (args-walk h ph to _ es k))

base-walk : (h : List Claim) (ph : Terms) (b : Option Term) (k : List Seen) → base_seen h ph b k ≡ with_claims h (base_places ph b) ++ k
base-walk h ph None k = refl
base-walk h ph (Some b) k = term-walk h ph b k

read-walk : (h : List Claim) (ph : Terms) (a : Option Access) (k : List Seen) → read_seen h ph a k ≡ with_claims h (read_places ph a) ++ k
read-walk h ph None k = refl
read-walk h ph (Some a) k = refl

written-walk : (h : List Claim) (ph : Terms) (a : Option Access) (k : List Seen) → written_seen h ph a k ≡ with_claims h (written_places ph a) ++ k
written-walk h ph None k = refl
written-walk h ph (Some a) k = refl

value-walk : (h : List Claim) (ph : Terms) (v : Term) (g : Goal) (k : List Seen) → value_seen h ph v g k ≡ with_claims h (term_places ph v ++ goes ph v g) ++ k
value-walk h ph v g k = next h (term_places ph v) (goes ph v g) _ _ k (term-walk h ph v _) refl

mutual
  statement-walk : (varies : ℕ → Bool) (h : List Claim) (s : Statement) (k : List Seen) → statement_seen varies h s k ≡ walked varies h s ++ k
  statement-walk varies h (t.Block ss) k = statements-walk varies h ss k
  statement-walk varies h (t.Declare p x ty v) k = value-walk h (one_term v) v (ToLocal x) k
  statement-walk varies h (t.Assign to v) k =
      next h (base_places (two_terms to v) (base_of to)) _ _ _ k (base-walk h (two_terms to v) (base_of to) _)
      (next h (term_places (two_terms to v) v) _ _ _ k (term-walk h (two_terms to v) v _)
      (next h (goes (two_terms to v) v (target_goal to)) _ _ _ k refl (written-walk h (two_terms to v) (access_of to) k)))
  statement-walk varies h (t.Compound to o v) k =
      next h (base_places (two_terms to v) (base_of to)) _ _ _ k (base-walk h (two_terms to v) (base_of to) _)
      (next h (read_places (two_terms to v) (access_of to)) _ _ _ k (read-walk h (two_terms to v) (access_of to) _)
      (next h (term_places (two_terms to v) v) _ _ _ k (term-walk h (two_terms to v) v _) (written-walk h (two_terms to v) (access_of to) k)))
  statement-walk varies h (t.Perform v) k = term-walk h (one_term v) v k
  statement-walk varies h (t.Start p v) k =
      next h (term_places (one_term v) v) _ _ _ k (term-walk h (one_term v) v _)
      (next h (goes (one_term v) v ToThread) (here (one_term v) (is_bad v) p (Starts v)) _ _ k refl refl)
  statement-walk varies h (t.If v a b) k =
      also (with_claims h (term_places (one_term v) v)) _ _ _ k (term-walk h (one_term v) v _)
      (also (walked varies h a) (walked varies h b) _ _ k (statement-walk varies h a _) (statement-walk varies h b k))
  statement-walk varies h (t.While v a) k =
      also (with_claims h (term_places (one_term v) v)) (walked varies h a) _ _ k (term-walk h (one_term v) v _) (statement-walk varies h a k)
  statement-walk varies h (t.Sync v a) k =
      also (with_claims h (term_places (one_term v) v ++ here (one_term v) (is_bad v) (stamp_of v).first (Locks v)))
      (walked varies (h ++ listed (claim_of varies v)) a) _ _ k
      (next h (term_places (one_term v) v) (here (one_term v) (is_bad v) (stamp_of v).first (Locks v)) _ _ _ (term-walk h (one_term v) v _) refl)
      (statement-walk varies (h ++ listed (claim_of varies v)) a k)
  statement-walk varies h (t.SyncClass p c a) k = statement-walk varies (h ++ claim.Class c ∷ []) a k
  statement-walk varies h (t.Return p) k = refl
  statement-walk varies h (t.ReturnValue p v) k = value-walk h (one_term v) v ToResult k

  statements-walk : (varies : ℕ → Bool) (h : List Claim) (ss : Statements) (k : List Seen) → statements_seen varies h ss k ≡ walked_all varies h ss ++ k
  statements-walk varies h t.no_statements k = refl
  statements-walk varies h (t.statement s ss) k =
      also (walked varies h s) (walked_all varies h ss) _ _ k (statement-walk varies h s _) (statements-walk varies h ss k)

whole-walk : (varies : ℕ → Bool) (h : List Claim) (s : Statement) → statement_seen varies h s [] ≡ all_seen varies h (places s)
whole-walk varies h s = statement-walk varies h s [] ∙ append-nil (walked varies h s) ∙ walked-seen varies h s

-- of a body, by whether it is synchronized and static
member-walk : (varies : ℕ → Bool) (c : List ℕ) (y z : Bool) (s : Statement) (ps : List Place)
    → ps ≡ places s
    → statement_seen varies (member_claims c y z) s [] ≡ all_seen varies [] (member_places c y z ps)
member-walk varies c false z s ps e = whole-walk varies [] s ∙ ap (all_seen varies []) (sym e)
member-walk varies c true false s ps e =
    whole-walk varies (claim.Local 0 ∷ []) s ∙ ap (all_seen varies (claim.Local 0 ∷ [])) (sym e) ∙ sym (seen-under varies [] InMember ps)
member-walk varies c true true s ps e =
    whole-walk varies (claim.Class c ∷ []) s ∙ ap (all_seen varies (claim.Class c ∷ [])) (sym e) ∙ sym (seen-under varies [] (InClass c) ps)

pub body_walk : (varies : ℕ → Bool) (c : List ℕ) (b : Body) → body_seen varies c b ≡ all_seen varies [] (part_places c (part.Body b))
body_walk varies c b = member-walk varies c b.is_synchronized b.is_static (statement_of b.block) (places (statement_of b.block)) refl
