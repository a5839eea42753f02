-- Alternatives are put into the lists of a graph, one by one.
use Rattle.std.proofs.Common.{◌≡◌, ℕ, zero, suc, ◌+◌, ◌-◌, ◌<◌, ◌≤◌, ◌^◌, List, [], ◌∷◌, ◌++◌, length, get_or, take, map, arith, refl, sym, ◌∙◌, ap, subst, ◌⊎◌, inl, inr, Bool, true, false, append_assoc}
use Rattle.std.specs.Prelude.{Contains, Vec, not, ◌&&◌}
use Rattle.std.specs.Global.{Global}
use Rattle.std.proofs.lemmas.List.{length-append, length-map, get_or_append_left, get_or-append_right, get_or-map, take_more, append-nil, get_or_default}
use Rattle.std.proofs.Math.Seq.{get_or-append_seam}
use Rattle.std.proofs.lemmas.List.Elements.{Contains-get_or, Contains-append_left, Contains-append_right, Contains-append_cases}
use Rattle.consistency.specs.declared.flat.Flat.{Flat}
use Rattle.consistency.specs.declared.graph.Clause.{Clause}
use Rattle.consistency.specs.declared.graph.Link.{Link}
use Rattle.consistency.specs.declared.graph.Link.TheVariants.{Promise, Word}
use Rattle.consistency.specs.Flat.{Fits, finding_of, alternative_of, barred_of, target_of}
use Rattle.consistency.specs.Numbers.{Numbered, SameLinks}
use Rattle.consistency.specs.Flattening.{AddsLinks, AddsWays, FlatTo, HasWays, Way, has_word, targets, ways_of}
use Rattle.consistency.specs.Wired.{IsWired}

-- ---- the promises to which links lead

pub targets-append : (xs ys : List Link) → targets (xs ++ ys) ≡ targets xs ++ targets ys
targets-append [] ys = refl
targets-append (Promise q ∷ xs) ys = ap (λ (z : List ℕ). q ∷ z) (targets-append xs ys)
targets-append (Word w ∷ xs) ys = targets-append xs ys

later : (y : Link) (ls : List Link) (x : Link) → Contains ls x → Contains (y ∷ ls) x
later y ls x c = (suc c.0, (let z = c.1 in omega arith), c.2)

-- each promise in the list is linked to
target_there : (ls : List Link) (i d : ℕ) → i < length (targets ls) → Contains ls (Promise (get_or (targets ls) i d))
target_there [] i d lt = absurd (omega arith)
target_there (Word w ∷ ls) i d lt = later (Word w) ls (Promise (get_or (targets ls) i d)) (target_there ls i d lt)
target_there (Promise q ∷ ls) zero d lt = (zero, omega arith, refl)
target_there (Promise q ∷ ls) (suc i) d lt = later (Promise q) ls (Promise (get_or (targets ls) i d)) (target_there ls i d (omega arith))

-- the same link leads to the same promise
number_same : (r q : ℕ) → Promise r ≡ Promise q → r ≡ q
number_same r q e = cc

-- each link to a promise has its place in the list
link_there : (ls : List Link) (q j : ℕ) → j < length ls → get_or ls j (Promise q) ≡ Promise q → (i : ℕ) × (i < length (targets ls)) × (get_or (targets ls) i 0 ≡ q)
link_there [] q j lt is = absurd (omega arith)
link_there (Promise r ∷ ls) q zero lt is = (zero, omega arith, number_same r q is)
link_there (Promise r ∷ ls) q (suc j) lt is = let w = link_there ls q j (omega arith) is in (suc w.0, (let z = w.1 in omega arith), w.2)
link_there (Word r ∷ ls) q zero lt is = absurd cc
link_there (Word r ∷ ls) q (suc j) lt is = link_there ls q j (omega arith) is

-- ---- words

word_found : (ls : List Link) (w j : ℕ) → j < length ls → get_or ls j (Word w) ≡ Word w → has_word ls ≡ true
word_found [] w j lt is = absurd (omega arith)
word_found (Word v ∷ ls) w j lt is = refl
word_found (Promise q ∷ ls) w zero lt is = absurd cc
word_found (Promise q ∷ ls) w (suc j) lt is = word_found ls w j (omega arith) is

word_there : (ls : List Link) → has_word ls ≡ true → (w : ℕ) × Contains ls (Word w)
word_there [] h = absurd cc
word_there (Word v ∷ ls) h = (v, (zero, omega arith, refl))
word_there (Promise q ∷ ls) h = let w = word_there ls h in (w.0, later (Promise q) ls (Word w.0) w.1)

wordless_of : (given : Bool) (ls : List Link) → (not given && has_word ls) ≡ false → (w : ℕ) → Contains ls (Word w) → given ≡ true
wordless_of true ls h w c = refl
wordless_of false ls h w c = absurd (let z = word_found ls w c.0 c.1 c.2 in cc)

opens_by : (ls : List Link) (b : Bool) → has_word ls ≡ b → ((w : ℕ) → Contains ls (Word w) → false ≡ true) → has_word ls ≡ false
opens_by ls false is h = is
opens_by ls true is h = absurd (let w = word_there ls is in let z = h w.0 w.1 in cc)

opens_of : (given : Bool) (ls : List Link) → ((w : ℕ) → Contains ls (Word w) → given ≡ true) → (not given && has_word ls) ≡ false
opens_of true ls h = refl
opens_of false ls h = opens_by ls (has_word ls) refl h

-- ---- one alternative more

below_or_past : (i n : ℕ) → (i < n) ⊎ (n ≤ i)
below_or_past i n = grind arith

last_or_below : (l n : ℕ) → l < n + 1 → (l ≡ n) ⊎ (l < n)
last_or_below l n h = grind arith

read_seam : {X : Type 0} (xs : List X) (y d : X) (m : ℕ) → m ≡ length xs → get_or (xs ++ y ∷ []) m d ≡ y
read_seam {X} xs y d m e = subst (λ (z : ℕ). get_or (xs ++ y ∷ []) z d ≡ y) (sym e) (get_or-append_seam xs y [] d)

read_left : {X : Type 0} (now xs ys : List X) (d : X) (m : ℕ) → now ≡ xs ++ ys → m < length xs → get_or now m d ≡ get_or xs m d
read_left {X} now xs ys d m e lt = ap (λ (z : List X). get_or z m d) e ∙ get_or_append_left xs ys d m lt

read_right : {X : Type 0} (now xs ys : List X) (d : X) (m : ℕ) → now ≡ xs ++ ys → length xs ≤ m → get_or now m d ≡ get_or ys (m - length xs) d
read_right {X} now xs ys d m e le = ap (λ (z : List X). get_or z m d) e ∙ get_or-append_right xs ys (length xs) m d refl le

same_each : (way : ℕ) (ts : List ℕ) (i : ℕ) → i < length ts → get_or (map (λ q. way) ts) i 0 ≡ way
same_each way [] i lt = absurd (omega arith)
same_each way (t ∷ ts) zero lt = refl
same_each way (t ∷ ts) (suc i) lt = same_each way ts i (omega arith)

-- what the lists have after one alternative more
record Put (given : Bool) (old new : Flat) (f n : ℕ) (ls : List Link) : Type 0 where
  finding : new.finding.items ≡ old.finding.items ++ f ∷ []
  barred : new.barred.items ≡ old.barred.items ++ (not given && has_word ls) ∷ []
  alternative : new.alternative.items ≡ old.alternative.items ++ map (λ q. n) (targets ls)
  target : new.target.items ≡ old.target.items ++ targets ls

links_grow : (given : Bool) (old new : Flat) (f n : ℕ) (ls : List Link) → Put given old new f n ls
    → length new.alternative.items ≡ length old.alternative.items + length (targets ls)
links_grow given old new f n ls p =
    ap (λ (z : List ℕ). length z) p.alternative ∙ length-append old.alternative.items (map (λ q. n) (targets ls))
    ∙ ap (λ (z : ℕ). length old.alternative.items + z) (length-map (targets ls) (λ (q : ℕ). n))

new_alternative : (given : Bool) (old new : Flat) (f n : ℕ) (ls : List Link) → Put given old new f n ls
    → (l : ℕ) → length old.alternative.items ≤ l → l < length new.alternative.items → alternative_of new l ≡ n
new_alternative given old new f n ls p l le lt =
    let g = links_grow given old new f n ls p in
    read_right new.alternative.items old.alternative.items (map (λ q. n) (targets ls)) 0 l p.alternative le
    ∙ same_each n (targets ls) (l - length old.alternative.items) (omega (arith, g, le, lt))

same_kept : (given : Bool) (old new : Flat) (f n : ℕ) (ls : List Link) → Put given old new f n ls
    → length old.barred.items ≡ n → length old.target.items ≡ length old.alternative.items
    → (m : ℕ) (ws : List Link) → m < n → SameLinks given old m ws → SameLinks given new m ws
same_kept given old new f n ls p bs ts m ws lt s =
    let bar : barred_of new m ≡ barred_of old m = read_left new.barred.items old.barred.items ((not given && has_word ls) ∷ []) false m p.barred (omega (arith, bs, lt)) in
    record {
      wordless = λ b. s.wordless (sym bar ∙ b);
      opens = λ h. bar ∙ s.opens h;
      to = λ l ll al. elim (below_or_past l (length old.alternative.items)) [
        | inl below ↦ (
            let a = read_left new.alternative.items old.alternative.items (map (λ q. n) (targets ls)) 0 l p.alternative below in
            let t : target_of new l ≡ target_of old l = read_left new.target.items old.target.items (targets ls) 0 l p.target (omega (arith, ts, below)) in
            subst (λ (z : ℕ). Contains ws (Promise z)) (sym t) (s.to l below (sym a ∙ al)))
        | inr past ↦ absurd (let a = new_alternative given old new f n ls p l past ll in omega (arith, a, al, lt))
      ];
      from = λ q c.
          let w = s.from q c in
          let g = links_grow given old new f n ls p in
          let below = w.1 in (
            w.0,
            omega (arith, g, below),
            read_left new.alternative.items old.alternative.items (map (λ q. n) (targets ls)) 0 w.0 p.alternative below ∙ w.2,
            read_left new.target.items old.target.items (targets ls) 0 w.0 p.target (omega (arith, ts, below)) ∙ w.3,
          );
    }

same_put : (given : Bool) (old new : Flat) (f n : ℕ) (ls : List Link) → Put given old new f n ls
    → length old.barred.items ≡ n → length old.target.items ≡ length old.alternative.items
    → ((l : ℕ) → l < length old.alternative.items → alternative_of old l < n)
    → SameLinks given new n ls
same_put given old new f n ls p bs ts inn =
    let bar : barred_of new n ≡ (not given && has_word ls) = ap (λ (z : List Bool). get_or z n false) p.barred ∙ read_seam old.barred.items (not given && has_word ls) false n (sym bs) in
    let g = links_grow given old new f n ls p in
    record {
      wordless = λ b. wordless_of given ls (sym bar ∙ b);
      opens = λ h. bar ∙ opens_of given ls h;
      to = λ l ll al. elim (below_or_past l (length old.alternative.items)) [
        | inl below ↦ absurd (
            let a = read_left new.alternative.items old.alternative.items (map (λ q. n) (targets ls)) 0 l p.alternative below in
            let b = inn l below in
            omega (arith, a, b, al))
        | inr past ↦ (
            let t : target_of new l ≡ get_or (targets ls) (l - length old.target.items) 0 = read_right new.target.items old.target.items (targets ls) 0 l p.target (omega (arith, ts, past)) in
            subst (λ (z : ℕ). Contains ls (Promise z)) (sym t) (target_there ls (l - length old.target.items) 0 (omega (arith, g, ts, past, ll))))
      ];
      from = λ q c.
          let w = link_there ls q c.0 c.1 c.2 in
          let l = length old.alternative.items + w.0 in
          let lt = w.1 in
          let ll : l < length new.alternative.items = omega (arith, g, lt) in
          let back : l - length old.target.items ≡ w.0 = omega (arith, ts) in (
            l,
            ll,
            new_alternative given old new f n ls p l (omega arith) ll,
            read_right new.target.items old.target.items (targets ls) 0 l p.target (omega (arith, ts)) ∙ ap (λ (z : ℕ). get_or (targets ls) z 0) back ∙ w.2,
          );
    }

has_more : (given : Bool) (old new : Flat) (f n : ℕ) (ls : List Link) (ways : List Way) → Put given old new f n ls → n ≡ length old.finding.items
    → HasWays given ways old → HasWays given (ways ++ (f, ls) ∷ []) new
has_more given old new f n ls ways p is h =
    let one : List Way = (f, ls) ∷ [] in
    let size = h.size in let bsize = h.barred_size in let tsize = h.target_size in
    let nw : n ≡ length ways = is ∙ size in
    let more : length (ways ++ one) ≡ length ways + 1 = length-append ways one in
    let g = links_grow given old new f n ls p in
    let bs : length old.barred.items ≡ n = bsize ∙ sym nw in
    record {
      size = (let a = ap (λ (z : List ℕ). length z) p.finding ∙ length-append old.finding.items (f ∷ []) in omega (arith, a, more, size));
      barred_size = (let a = ap (λ (z : List Bool). length z) p.barred ∙ length-append old.barred.items ((not given && has_word ls) ∷ []) in omega (arith, a, more, bsize));
      target_size = (let a = ap (λ (z : List ℕ). length z) p.target ∙ length-append old.target.items (targets ls) in omega (arith, a, g, tsize));
      finding = λ m d lt. elim (last_or_below m (length ways) (omega (arith, lt, more))) [
        | inl last ↦ (
            ap (λ (z : List ℕ). get_or z m 0) p.finding ∙ read_seam old.finding.items f 0 m (omega (arith, last, size))
            ∙ sym (ap (λ (w : Way). w.0) (read_seam ways (f, ls) d m last)))
        | inr below ↦ (
            read_left new.finding.items old.finding.items (f ∷ []) 0 m p.finding (omega (arith, below, size)) ∙ h.finding m d below
            ∙ sym (ap (λ (w : Way). w.0) (get_or_append_left ways one d m below)))
      ];
      same = λ m d lt. elim (last_or_below m (length ways) (omega (arith, lt, more))) [
        | inl last ↦ (
            let s = same_put given old new f n ls p bs tsize (λ l ll. let w = h.within l ll in omega (arith, w, nw)) in
            let s2 : SameLinks given new m ls = subst (λ (z : ℕ). SameLinks given new z ls) (nw ∙ sym last) s in
            subst (λ (w : Way). SameLinks given new m w.1) (sym (read_seam ways (f, ls) d m last)) s2)
        | inr below ↦ (
            let s = same_kept given old new f n ls p bs tsize m (get_or ways m d).1 (omega (arith, below, nw)) (h.same m d below) in
            subst (λ (w : Way). SameLinks given new m w.1) (sym (get_or_append_left ways one d m below)) s)
      ];
      within = λ l ll. elim (below_or_past l (length old.alternative.items)) [
        | inl below ↦ (
            let a : alternative_of new l ≡ alternative_of old l = read_left new.alternative.items old.alternative.items (map (λ q. n) (targets ls)) 0 l p.alternative below in
            let w = h.within l below in
            omega (arith, a, w, more))
        | inr past ↦ (let a = new_alternative given old new f n ls p l past ll in omega (arith, a, nw, more))
      ];
    }

pub ways_put : (given : Bool) (old mid new : Flat) (f n : ℕ) (ls : List Link) → n ≡ length old.finding.items
    → mid.promises ≡ old.promises → mid.on.items ≡ old.on.items → mid.finding.items ≡ old.finding.items ++ f ∷ []
    → mid.barred.items ≡ old.barred.items ++ (not given && has_word ls) ∷ [] → mid.alternative.items ≡ old.alternative.items → mid.target.items ≡ old.target.items
    → AddsLinks mid new n ls → AddsWays given old new ((f, ls) ∷ [])
ways_put given old mid new f n ls is pe oe fe be ae te a = record {
  promises = a.promises ∙ pe;
  on = a.on ∙ oe;
  ways = λ ways h. has_more given old new f n ls ways (record {
    finding = a.finding ∙ fe;
    barred = a.barred ∙ be;
    alternative = a.alternative ∙ ap (λ (z : List ℕ). z ++ map (λ q. n) (targets ls)) ae;
    target = a.target ∙ ap (λ (z : List ℕ). z ++ targets ls) te;
  }) is h;
}

-- ---- more alternatives

ways-append : (f : ℕ) (xs : List (Vec Link Global)) (x : Vec Link Global) → ways_of f (xs ++ x ∷ []) ≡ ways_of f xs ++ (f, x.items) ∷ []
ways-append f [] x = refl
ways-append f (y ∷ ys) x = ap (λ (z : List Way). (f, y.items) ∷ z) (ways-append f ys x)

pub ways_same : (given : Bool) (g : Flat) → AddsWays given g g []
ways_same given g = record { promises = refl; on = refl; ways = λ ways h. subst (λ (z : List Way). HasWays given z g) (sym (append-nil ways)) h }

pub ways_then : (given : Bool) (old mid new : Flat) (a b : List Way) → AddsWays given old mid a → AddsWays given mid new b → AddsWays given old new (a ++ b)
ways_then given old mid new a b x y = record {
  promises = y.promises ∙ x.promises;
  on = y.on ∙ x.on;
  ways = λ ways h. subst (λ (z : List Way). HasWays given z new) (append_assoc ways a b) (y.ways (ways ++ a) (x.ways ways h));
}

pub ways_more : (given : Bool) (old mid new : Flat) (f i : ℕ) (alternatives : List (Vec Link Global)) (ls : Vec Link Global) → i < length alternatives → ls ≡ get_or alternatives i ls
    → AddsWays given old mid (ways_of f (take i alternatives)) → AddsWays given mid new ((f, ls.items) ∷ []) → AddsWays given old new (ways_of f (take (i + 1) alternatives))
ways_more given old mid new f i alternatives ls lt is x y =
    let more : take (i + 1) alternatives ≡ take i alternatives ++ ls ∷ [] = take_more alternatives i ls lt ∙ ap (λ (z : Vec Link Global). take i alternatives ++ z ∷ []) (sym is) in
    let whole : ways_of f (take (i + 1) alternatives) ≡ ways_of f (take i alternatives) ++ (f, ls.items) ∷ [] =
    ap (λ (z : List (Vec Link Global)). ways_of f z) more ∙ ways-append f (take i alternatives) ls in
    subst (λ (z : List Way). AddsWays given old new z) (sym whole) (ways_then given old mid new (ways_of f (take i alternatives)) ((f, ls.items) ∷ []) x y)

-- ---- the findings so far

pub flat_none : (given : Bool) (cs : List Clause) (g : Flat) → HasWays given [] g → FlatTo given cs 0 g
flat_none given cs g h = ([], h, record { there = λ i d a lt c. absurd (omega arith); back = λ w c. absurd (let z = c.1 in omega arith) })

way_at : (f : ℕ) (xs : List (Vec Link Global)) (a : Vec Link Global) (k : ℕ) → k < length xs → get_or xs k a ≡ a → Contains (ways_of f xs) (f, a.items)
way_at f [] a k lt is = absurd (omega arith)
way_at f (x ∷ xs) a zero lt is = (zero, omega arith, ap (λ (z : Vec Link Global). (f, z.items)) is)
way_at f (x ∷ xs) a (suc k) lt is = let w = way_at f xs a k (omega arith) is in (suc w.0, (let z = w.1 in omega arith), w.2)

way_of : (f : ℕ) (xs : List (Vec Link Global)) (a : Vec Link Global) → Contains xs a → Contains (ways_of f xs) (f, a.items)
way_of f xs a c = way_at f xs a c.0 c.1 c.2

way_from : (f : ℕ) (xs : List (Vec Link Global)) (w : Way) (k : ℕ) → k < length (ways_of f xs) → get_or (ways_of f xs) k w ≡ w
    → (w.0 ≡ f) × ((a : Vec Link Global) × Contains xs a × (w.1 ≡ a.items))
way_from f [] w k lt is = absurd (omega arith)
way_from f (x ∷ xs) w zero lt is = (ap (λ (z : Way). z.0) (sym is), (x, (zero, omega arith, refl), ap (λ (z : Way). z.1) (sym is)))
way_from f (x ∷ xs) w (suc k) lt is =
    let h = way_from f xs w k (omega arith) is in
    let c = h.1.1 in
    (h.0, (h.1.0, (suc c.0, (let z = c.1 in omega arith), c.2), h.1.2))

-- the lists of one finding more
pub flat_more : (given : Bool) (cs : List Clause) (i f : ℕ) (c : Clause) (old mid new : Flat) → i < length cs → c ≡ get_or cs i c → f ≡ i
    → ((ways : List Way) → HasWays given ways old → HasWays given ways mid)
    → FlatTo given cs i old → AddsWays given mid new (ways_of f c.alternatives.items) → FlatTo given cs (i + 1) new
flat_more given cs i f c old mid new lt at is keep flat adds = (
  flat.0 ++ ways_of f c.alternatives.items,
  adds.ways flat.0 (keep flat.0 flat.1),
  record {
    there = λ j d a lj has. elim (last_or_below j i lj) [
      | inl last ↦ Contains-append_right flat.0 (ways_of f c.alternatives.items) (j, a.items) (
          subst (λ (z : ℕ). Contains (ways_of f c.alternatives.items) (z, a.items)) (is ∙ sym last)
          (way_of f c.alternatives.items a (subst (λ (z : Clause). Contains z.alternatives.items a) (read_of cs i j d c lt last at) has)))
      | inr below ↦ Contains-append_left flat.0 (ways_of f c.alternatives.items) (j, a.items) (flat.2.there j d a below has)
    ];
    back = λ w has. elim (Contains-append_cases flat.0 (ways_of f c.alternatives.items) w has) [
      | inl was ↦ (let b = flat.2.back w was in (let z = b.0 in omega arith, b.1))
      | inr put ↦ (
          let b = way_from f c.alternatives.items w put.0 put.1 put.2 in
          let place = b.0 in (
            omega arith,
            λ d. (b.1.0, subst (λ (z : Clause). Contains z.alternatives.items b.1.0) (sym (read_of cs i w.0 d c lt (place ∙ is) at)) b.1.1, b.1.2),
          ))
    ];
  },
) where
  read_of : (cs : List Clause) (i j : ℕ) (d c : Clause) → i < length cs → j ≡ i → c ≡ get_or cs i c → get_or cs j d ≡ c
  read_of cs i j d c lt e at = ap (λ (z : ℕ). get_or cs z d) e ∙ get_or_default cs i d c lt ∙ sym at

-- the promise that is put changes no alternative
pub keep_on : (given : Bool) (old mid : Flat) → mid.finding.items ≡ old.finding.items → mid.barred.items ≡ old.barred.items → mid.alternative.items ≡ old.alternative.items
    → mid.target.items ≡ old.target.items → (ways : List Way) → HasWays given ways old → HasWays given ways mid
keep_on given old mid fe be ae te ways h =
    let bar = λ (m : ℕ). ap (λ (z : List Bool). get_or z m false) be in
    let alt = λ (l : ℕ). ap (λ (z : List ℕ). get_or z l 0) ae in
    let tar = λ (l : ℕ). ap (λ (z : List ℕ). get_or z l 0) te in
    let many = ap (λ (z : List ℕ). length z) ae in
    record {
      size = ap (λ (z : List ℕ). length z) fe ∙ h.size;
      barred_size = ap (λ (z : List Bool). length z) be ∙ h.barred_size;
      target_size = ap (λ (z : List ℕ). length z) te ∙ h.target_size ∙ sym many;
      finding = λ m d lt. ap (λ (z : List ℕ). get_or z m 0) fe ∙ h.finding m d lt;
      same = λ m d lt. let s = h.same m d lt in record {
        wordless = λ b. s.wordless (sym (bar m) ∙ b);
        opens = λ o. bar m ∙ s.opens o;
        to = λ l ll al. subst (λ (z : ℕ). Contains (get_or ways m d).1 (Promise z)) (sym (tar l)) (s.to l (subst (λ (z : ℕ). l < z) many ll) (sym (alt l) ∙ al));
        from = λ q c. let w = s.from q c in (w.0, subst (λ (z : ℕ). w.0 < z) (sym many) w.1, alt w.0 ∙ w.2, tar w.0 ∙ w.3);
      };
      within = λ l ll. subst (λ (z : ℕ). z < length ways) (sym (alt l)) (h.within l (subst (λ (z : ℕ). l < z) many ll));
    }

-- ---- all findings

none_way : Way
none_way = (0, [])

at_way : (ws : List Way) (w x : Way) (m : ℕ) → m < length ws → get_or ws m w ≡ w → get_or ws m x ≡ w
at_way ws w x m lt is = get_or_default ws m x w lt ∙ is

pub numbered_of : (given : Bool) (cs : List Clause) (g : Flat) → g.on.items ≡ map (λ (c : Clause). c.on) cs → FlatTo given cs (length cs) g → Numbered given cs g
numbered_of given cs g ons flat =
    let ways = flat.0 in
    let h = flat.1 in
    let size = h.size in
    record {
      count = ap (λ (z : List ℕ). length z) ons ∙ length-map cs (λ (c : Clause). c.on);
      on = λ i d lt. ap (λ (z : List ℕ). get_or z i 0) ons ∙ get_or-map (λ (c : Clause). c.on) cs i d 0 lt;
      there = λ i d lt a has.
          let c = flat.2.there i d a lt has in
          let m = c.0 in
          let lm = c.1 in (
            m,
            omega (arith, size, lm),
            h.finding m (i, a.items) lm ∙ ap (λ (w : Way). w.0) c.2,
            subst (λ (w : Way). SameLinks given g m w.1) c.2 (h.same m (i, a.items) lm),
          );
      back = λ m d lt.
          let lm : m < length ways = omega (arith, size, lt) in
          let w = get_or ways m none_way in
          let b = flat.2.back w (Contains-get_or ways m none_way lm) in
          let a = b.1 d in
          let f : finding_of g m ≡ w.0 = h.finding m none_way lm in (
            a.0,
            subst (λ (z : ℕ). Contains (get_or cs z d).alternatives.items a.0) (sym f) a.1,
            subst (λ (z : List Link). SameLinks given g m z) a.2 (h.same m none_way lm),
          );
    }

first_of_all : (cs : List Clause) (n : ℕ) → n < length cs → Clause
first_of_all [] n lt = absurd (omega arith)
first_of_all (c ∷ cs) n lt = c

pub fits_of : (given : Bool) (cs : List Clause) (n : ℕ) (g : Flat) → IsWired n cs → g.promises ≡ n → n < 2 ^ 31 → length cs < 2 ^ 32 → length g.finding.items < 2 ^ 32
    → g.on.items ≡ map (λ (c : Clause). c.on) cs → FlatTo given cs (length cs) g → Fits g
fits_of given cs n g wired ps few fews many ons flat =
    let ways = flat.0 in
    let h = flat.1 in
    let size = h.size in let bsize = h.barred_size in
    let count = ap (λ (z : List ℕ). length z) ons ∙ length-map cs (λ (c : Clause). c.on) in
    record {
      barred = bsize ∙ sym size;
      links = h.target_size;
      on_in = λ f lt.
          let lc : f < length cs = omega (arith, count, lt) in
          let d = first_of_all cs f lc in
          let is = ap (λ (z : List ℕ). get_or z f 0) ons ∙ get_or-map (λ (c : Clause). c.on) cs f d 0 lc in
          let w = wired.ons (get_or cs f d) (Contains-get_or cs f d lc) in
          omega (arith, is, w, ps);
      finding_in = λ a lt.
          let la : a < length ways = omega (arith, size, lt) in
          let is = h.finding a none_way la in
          let b = flat.2.back (get_or ways a none_way) (Contains-get_or ways a none_way la) in
          let lb = b.0 in
          omega (arith, is, lb, count);
      alternative_in = λ l lt. let w = h.within l lt in omega (arith, w, size);
      few_promises = omega (arith, few, ps);
      few_findings = omega (arith, count, fews);
      few_alternatives = many;
      target_in = λ l lt.
          let m = alternative_of g l in
          let lm = h.within l lt in
          let s = h.same m none_way lm in
          let b = flat.2.back (get_or ways m none_way) (Contains-get_or ways m none_way lm) in
          let lb = b.0 in
          let d = first_of_all cs (get_or ways m none_way).0 lb in
          let a = b.1 d in
          let c = subst (λ (z : List Link). Contains z (Promise (target_of g l))) a.2 (s.to l lt refl) in
          let w = wired.targets (get_or cs (get_or ways m none_way).0 d) a.0 (target_of g l) (Contains-get_or cs (get_or ways m none_way).0 d lb) a.1 c in
          omega (arith, w, ps);
    }

-- ---- one link more

targets_more : (ls : List Link) (i : ℕ) (l : Link) → i < length ls → l ≡ get_or ls i l → targets (take (i + 1) ls) ≡ targets (take i ls) ++ targets (l ∷ [])
targets_more ls i l lt is = ap (λ (z : List Link). targets z) (take_more ls i l lt ∙ ap (λ (z : Link). take i ls ++ z ∷ []) (sym is)) ∙ targets-append (take i ls) (l ∷ [])

map_one : (way : ℕ) (xs : List ℕ) (q : ℕ) → map (λ x. way) (xs ++ q ∷ []) ≡ map (λ x. way) xs ++ way ∷ []
map_one way [] q = refl
map_one way (x ∷ xs) q = ap (λ (z : List ℕ). way ∷ z) (map_one way xs q)

pub links_put : (old mid new : Flat) (way q i : ℕ) (ls : List Link) (d : Link) → i < length ls → get_or ls i d ≡ Promise q
    → new.promises ≡ mid.promises → new.on.items ≡ mid.on.items → new.finding.items ≡ mid.finding.items → new.barred.items ≡ mid.barred.items
    → new.alternative.items ≡ mid.alternative.items ++ way ∷ [] → new.target.items ≡ mid.target.items ++ q ∷ []
    → AddsLinks old mid way (take i ls) → AddsLinks old new way (take (i + 1) ls)
links_put old mid new way q i ls d lt to pe oe fe be ae te a =
    let l = get_or ls i d in
    let is : l ≡ get_or ls i l = get_or_default ls i d l lt in
    let more : targets (take (i + 1) ls) ≡ targets (take i ls) ++ q ∷ [] = targets_more ls i l lt is ∙ ap (λ (z : Link). targets (take i ls) ++ targets (z ∷ [])) to in
    record {
      promises = pe ∙ a.promises;
      on = oe ∙ a.on;
      finding = fe ∙ a.finding;
      barred = be ∙ a.barred;
      alternative = ae ∙ ap (λ (z : List ℕ). z ++ way ∷ []) a.alternative ∙ append_assoc old.alternative.items (map (λ x. way) (targets (take i ls))) (way ∷ [])
          ∙ ap (λ (z : List ℕ). old.alternative.items ++ z) (sym (map_one way (targets (take i ls)) q) ∙ ap (λ (z : List ℕ). map (λ x. way) z) (sym more));
      target = te ∙ ap (λ (z : List ℕ). z ++ q ∷ []) a.target ∙ append_assoc old.target.items (targets (take i ls)) (q ∷ [])
          ∙ ap (λ (z : List ℕ). old.target.items ++ z) (sym more);
    }

pub links_skip : (old mid : Flat) (way w i : ℕ) (ls : List Link) (d : Link) → i < length ls → get_or ls i d ≡ Word w
    → AddsLinks old mid way (take i ls) → AddsLinks old mid way (take (i + 1) ls)
links_skip old mid way w i ls d lt to a =
    let l = get_or ls i d in
    let is : l ≡ get_or ls i l = get_or_default ls i d l lt in
    let more : targets (take (i + 1) ls) ≡ targets (take i ls) = targets_more ls i l lt is ∙ ap (λ (z : Link). targets (take i ls) ++ targets (z ∷ [])) to ∙ append-nil (targets (take i ls)) in
    record {
      promises = a.promises;
      on = a.on;
      finding = a.finding;
      barred = a.barred;
      alternative = a.alternative ∙ ap (λ (z : List ℕ). old.alternative.items ++ map (λ x. way) z) (sym more);
      target = a.target ∙ ap (λ (z : List ℕ). old.target.items ++ z) (sym more);
    }

-- before any alternative
pub has_none : (given : Bool) (g : Flat) → HasWays true [] g × HasWays false [] g → HasWays given [] g
has_none true g h = h.0
has_none false g h = h.1

-- the promise of one finding more
pub ons_more : (cs : List Clause) (i : ℕ) (d : Clause) (ons : List ℕ) → i < length cs → ons ≡ map (λ (x : Clause). x.on) (take i cs)
    → ons ++ (get_or cs i d).on ∷ [] ≡ map (λ (x : Clause). x.on) (take (i + 1) cs)
ons_more cs i d ons lt is =
    ap (λ (z : List ℕ). z ++ (get_or cs i d).on ∷ []) is ∙ sym (put (take i cs) (get_or cs i d))
    ∙ ap (λ (z : List Clause). map (λ (x : Clause). x.on) z) (sym (take_more cs i d lt))
  where
    put : (xs : List Clause) (x : Clause) → map (λ (y : Clause). y.on) (xs ++ x ∷ []) ≡ map (λ (y : Clause). y.on) xs ++ x.on ∷ []
    put [] x = refl
    put (y ∷ ys) x = ap (λ (z : List ℕ). y.on ∷ z) (put ys x)

-- the lists of one finding more, whose promise was put before
pub flat_put : (given : Bool) (cs : List Clause) (i f : ℕ) (c : Clause) (old mid new : Flat) (lss : List (Vec Link Global)) → AddsWays given mid new (ways_of f lss) → lss ≡ c.alternatives.items
    → mid.finding.items ≡ old.finding.items → mid.barred.items ≡ old.barred.items → mid.alternative.items ≡ old.alternative.items → mid.target.items ≡ old.target.items
    → i < length cs → c ≡ get_or cs i c → f ≡ i → FlatTo given cs i old → FlatTo given cs (i + 1) new
flat_put given cs i f c old mid new lss adds ls fe be ae te lt at is flat =
    flat_more given cs i f c old mid new lt at is (keep_on given old mid fe be ae te) flat (subst (λ (z : List (Vec Link Global)). AddsWays given mid new (ways_of f z)) ls adds)
