-- The rounds over findings are the rounds over the numbered graph.
use Rattle.std.proofs.Common.{◌≡◌, ℕ, zero, suc, ◌<◌, List, [], ◌∷◌, length, get_or, arith, sym, ◌∙◌, subst, ap}
use Rattle.std.specs.Prelude.{Bool, Contains, All}
use Rattle.std.proofs.lemmas.List.Elements.{All-contains, Contains-get_or}
use Rattle.consistency.specs.declared.flat.Flat.{Flat}
use Rattle.consistency.specs.declared.graph.Clause.{Clause}
use Rattle.consistency.specs.declared.graph.Link.{Link}
use Rattle.consistency.specs.declared.graph.Link.TheVariants.{Promise, Word}
use Rattle.consistency.specs.Flat.{target_of, Survives, Alive}
use Rattle.consistency.specs.Numbers.{Holds, In, SameLinks, Numbered}

-- a list that is long enough has an element to read by
next_of : {B : Type 0} (fs : List Clause) (i : ℕ) → i < length fs → ((d : Clause) → i < length fs → B) → B
next_of [] i lt h = absurd (omega arith)
next_of (x ∷ xs) i lt h = h x lt

-- each link of an alternative that survives by number survives
link_holds : (given : Bool) (g : Flat) (m : ℕ) (ls : List Link) (S T : ℕ → Type 0) → ((q : ℕ) → S q → T q) → SameLinks given g m ls → Survives g S m
    → (x : Link) → Contains ls x → Holds given T x
link_holds given g m ls S T up same s (Promise q) c = let w = same.from q c in up q (subst S w.3 (s.1 w.0 w.1 w.2))
link_holds given g m ls S T up same s (Word w) c = same.wordless s.0 w c

pub survives_links : (given : Bool) (g : Flat) (m : ℕ) (ls : List Link) (S T : ℕ → Type 0) → ((q : ℕ) → S q → T q) → SameLinks given g m ls → Survives g S m → All (Holds given T) ls
survives_links given g m ls S T up same s k d lt = link_holds given g m ls S T up same s (get_or ls k d) (Contains-get_or ls k d lt)

pub links_survive : (given : Bool) (g : Flat) (m : ℕ) (ls : List Link) (S T : ℕ → Type 0) → ((q : ℕ) → S q → T q) → SameLinks given g m ls → All (Holds given S) ls → Survives g T m
links_survive given g m ls S T up same h = (
  same.opens (λ w c. All-contains (Holds given S) ls (Word w) h c),
  λ l lin al. up (target_of g l) (All-contains (Holds given S) ls (Promise (target_of g l)) h (same.to l lin al)),
)

pub alive_in : (given : Bool) (fs : List Clause) (g : Flat) → Numbered given fs g → (k p : ℕ) → Alive g k p → In given fs k p
alive_in given fs g n zero p h = tt
alive_in given fs g n (suc k) p h = λ x c on.
    let i = c.0 in
    let is : get_or fs i x ≡ x = c.2 in
    let w = h i (let z = n.count in let y = c.1 in omega arith) (n.on i x c.1 ∙ ap (λ (z : Clause). z.on) is ∙ on) in
    let b = n.back w.0 x w.1 in
    let at : Contains x.alternatives.items b.0 = subst (λ (z : Clause). Contains z.alternatives.items b.0) (subst (λ (j : ℕ). get_or fs j x ≡ x) (sym w.2) is) b.1 in
    (b.0, at, survives_links given g w.0 b.0.items (Alive g k) (In given fs k) (alive_in given fs g n k) b.2 w.3)

pub in_alive : (given : Bool) (fs : List Clause) (g : Flat) → Numbered given fs g → (k p : ℕ) → In given fs k p → Alive g k p
in_alive given fs g n zero p h = tt
in_alive given fs g n (suc k) p h = λ f in' on. next_of fs f (let z = n.count in omega arith) (λ d lt.
    let x = get_or fs f d in
    let w = h x (Contains-get_or fs f d lt) (sym (n.on f d lt) ∙ on) in
    let t = n.there f d lt w.0 w.1 in
    (t.0, t.1, t.2, links_survive given g t.0 w.0.items (In given fs k) (Alive g k) (in_alive given fs g n k) t.3 w.2))
