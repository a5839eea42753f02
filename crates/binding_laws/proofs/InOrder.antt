-- Names that are put in order, each once, are all there.
use Rattle.std.proofs.Common.{◌≡◌, refl, sym, ap, ◌∙◌, subst, zero, suc, List, [], ◌∷◌, arith}
use Rattle.std.specs.List.{Contains}
use Rattle.std.specs.Ordering.{nat_cmp, match_ordering, is_eq}
use Rattle.std.specs.declared.cmp.Ordering.{Ordering}
use Rattle.std.specs.declared.cmp.Ordering.TheVariants.{Less, Equal, Greater}
use Rattle.std.specs.Cmp.Lexicographic.{slice_cmp}
use Rattle.std.specs.BTreeSet.{insert_key}
use Rattle.std.proofs.lemmas.Map.Text.{is_eq-slice_cmp}
use Rattle.std.proofs.lemmas.Slice.Eq.{bytes_eq-Decides}
use Rattle.name_rules.specs.Types.{Name}
use Rattle.bound_unit.specs.Alike.{first_of_all, one_later}
use Rattle.unit_rules.specs.Consulted.{put_among, each_in_order}
use Rattle.binding_laws.proofs.EachStatement.{Every, every-more}

pub every-contains : (N : Name → Type 0) (ns : List Name) (n : Name) → Every N ns → Contains ns n → N n
every-contains N [] n h (k, low, is) = absurd (omega arith)
every-contains N (m ∷ ns) n h (zero, low, is) = subst N is h.0
every-contains N (m ∷ ns) n h (suc k, low, is) = every-contains N ns n h.1 (k, omega arith, is)

pub every-self : (ns : List Name) → Every (Contains ns) ns
every-self [] = tt
every-self (n ∷ ns) = (first_of_all n ns, every-more (Contains ns) (Contains (n ∷ ns)) (one_later n ns) ns (every-self ns))

same_name : (n m : Name) → slice_cmp nat_cmp n m ≡ Equal → n ≡ m
same_name n m e = (bytes_eq-Decides n m).0 (sym (is_eq-slice_cmp n m) ∙ ap is_eq e)

abbrev inserted : List Name → Name → List Name
inserted ks n = insert_key (slice_cmp nat_cmp) ks n

abbrev placed : Name → Name → List Name → Ordering → List Name
placed n k ks r = match_ordering r (n ∷ k ∷ ks) (k ∷ ks) (k ∷ inserted ks n)

inserted-new : (ks : List Name) (n : Name) → Contains (inserted ks n) n
inserted-new [] n = first_of_all n []
inserted-new (k ∷ ks) n = go (slice_cmp nat_cmp n k) refl (inserted-new ks n)
  where
    go : (r : Ordering) → slice_cmp nat_cmp n k ≡ r → Contains (inserted ks n) n → Contains (placed n k ks r) n
    go Less e later = first_of_all n (k ∷ ks)
    go Equal e later = subst (λ (m : Name). Contains (m ∷ ks) n) (same_name n k e) (first_of_all n ks)
    go Greater e later = one_later k (inserted ks n) n later

inserted-old : (ks : List Name) (n : Name) → Every (Contains (inserted ks n)) ks
inserted-old [] n = tt
inserted-old (k ∷ ks) n = go (slice_cmp nat_cmp n k) (inserted-old ks n)
  where
    go : (r : Ordering) → Every (Contains (inserted ks n)) ks → Every (Contains (placed n k ks r)) (k ∷ ks)
    go Less later = every-more (Contains (k ∷ ks)) (Contains (n ∷ k ∷ ks)) (one_later n (k ∷ ks)) (k ∷ ks) (every-self (k ∷ ks))
    go Equal later = every-self (k ∷ ks)
    go Greater later =
        (first_of_all k (inserted ks n), every-more (Contains (inserted ks n)) (Contains (k ∷ inserted ks n)) (one_later k (inserted ks n)) ks later)

put-each : (ns kept : List Name) → Every (Contains (put_among ns kept)) ns
put-each [] kept = tt
put-each (n ∷ ns) kept =
    let before = put_among ns kept in (
      inserted-new before n,
      every-more (Contains before) (Contains (inserted before n)) (λ m h. every-contains (Contains (inserted before n)) before m (inserted-old before n) h) ns (put-each ns kept),
    )

pub in-order : (ns : List Name) → Every (Contains (each_in_order ns)) ns
in-order ns = put-each ns []
