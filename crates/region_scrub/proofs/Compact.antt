-- What is known by the original numbers, said of the list of the declarations that are left.
use Rattle.std.proofs.Common.{◌≡◌, ◌≢◌, ℕ, zero, suc, ◌+◌, ◌<◌, ◌≤◌, List, [], ◌∷◌, length, map, refl, sym, ◌∙◌, ap, subst, arith, Bool, true, false}
use Rattle.std.specs.Prelude.{Option, Some, None, codes, option_and_then}
use Rattle.std.specs.List.{slice_get}
use Rattle.std.specs.Option.{option_map}
use Rattle.std.specs.Str.{bytes_eq}
use Rattle.std.proofs.lemmas.Option.{slice_get-map, same_Some}
use Rattle.std.proofs.lemmas.Slice.Eq.{bytes_eq-Decides}
use Rattle.region_tree.specs.declared.decl.RegionDecl.{RegionDecl}
use Rattle.region_tree.specs.Chains.{parent_at, Leads, IsUnder, IsRooted}
use Rattle.region_tree.specs.Regions.{decl_name, decl_kind, region_names, region_kinds, number_of, kind_of, parent_name, parent_number, parents_of}
use Rattle.region_tree.specs.Faults.{IsGood, AllGood, DeclFault}
use Rattle.region_scrub.specs.declared.fault.RegionFault.{RegionFault}
use Rattle.region_scrub.specs.declared.fault.RegionFault.TheVariants as fault
use Rattle.region_scrub.specs.Clearing.{left, left_before, error_of, IsFirstFaulty}
use Rattle.region_scrub.specs.Numbers.{fault_at, IsLeft, own_numbers, key_at, Heads, head_at, link_if, Links, kind_at, IsSound, HasFault}
use Rattle.region_scrub.proofs.Kept.{kept, kept_at, kept_from, kept_there, before_rises, before_same, before_lower, position_is, position_none, position_passes, position_misses, read_at, read_from}

-- which numbers are set aside
abbrev marks_of : List (Option RegionFault) → List (Option RegionFault)
marks_of aside = None ∷ None ∷ aside

-- the number among those left
abbrev new_number : List (Option RegionFault) → ℕ → ℕ
new_number aside = left_before (marks_of aside)

-- what is known
record Known (declared : List RegionDecl) (aside : List (Option RegionFault)) (heads parents : List (Option ℕ)) : Type 0 where
  long : length aside ≡ length declared
  firsts : Heads (own_numbers declared) (marks_of aside) heads
  links : Links (parents_of declared) heads (marks_of aside) parents

map-left : {Y : Type 0} (h : RegionDecl → Y) (ds : List RegionDecl) (aside : List (Option RegionFault)) → map h (left ds aside) ≡ kept (map h ds) aside
map-left h [] aside = refl
map-left h (d ∷ ds) [] = refl
map-left h (d ∷ ds) (None ∷ more) = ap (λ z. h d ∷ z) (map-left h ds more)
map-left h (d ∷ ds) (Some why ∷ more) = map-left h ds more

left-kept : (ds : List RegionDecl) (aside : List (Option RegionFault)) → left ds aside ≡ kept ds aside
left-kept [] aside = refl
left-kept (d ∷ ds) [] = refl
left-kept (d ∷ ds) (None ∷ more) = ap (λ (z : List RegionDecl). d ∷ z) (left-kept ds more)
left-kept (d ∷ ds) (Some why ∷ more) = left-kept ds more

names-left : (ds : List RegionDecl) (aside : List (Option RegionFault)) → region_names (left ds aside) ≡ kept (region_names ds) (marks_of aside)
names-left ds aside = ap (λ (z : List (List ℕ)). codes "Instance" ∷ codes "Static" ∷ z) (map-left decl_name ds aside)

kinds-left : (ds : List RegionDecl) (aside : List (Option RegionFault)) → region_kinds (left ds aside) ≡ kept (region_kinds ds) (marks_of aside)
kinds-left ds aside = ap (λ (z : List Bool). false ∷ true ∷ z) (map-left decl_kind ds aside)

length-map : {X Y : Type 0} (f : X → Y) (xs : List X) → length (map f xs) ≡ length xs
length-map f [] = refl
length-map f (x ∷ xs) = ap suc (length-map f xs)

differs : (a b : List ℕ) → a ≢ b → bytes_eq a b ≡ false
differs a b ne = go (bytes_eq a b) refl
  where
    go : (t : Bool) → bytes_eq a b ≡ t → bytes_eq a b ≡ false
    go true e = absurd (ne ((bytes_eq-Decides a b).0 e))
    go false e = e

-- the region that a name finds has it
number_name : (declared : List RegionDecl) (name : List ℕ) (g : ℕ) → number_of declared name ≡ Some g → slice_get (region_names declared) g ≡ Some name
unfolding number_of
number_name declared name g e =
    let r = position_passes (λ n. bytes_eq n name) 0 g (region_names declared) e in
    let same : g ≡ r.0 = omega (arith, r.2) in
    ap (slice_get (region_names declared)) same ∙ r.3 ∙ ap (λ (z : List ℕ). Some z) ((bytes_eq-Decides r.1 name).0 r.4)

number_misses : (declared : List RegionDecl) (name : List ℕ) (j : ℕ) → number_of declared name ≡ None → slice_get (region_names declared) j ≢ Some name
unfolding number_of
number_misses declared name j e at =
    let no : bytes_eq name name ≡ false = position_misses (λ n. bytes_eq n name) 0 (region_names declared) e j name at in
    let both : true ≡ false = sym ((bytes_eq-Decides name name).1 refl) ∙ no in cc

number_is : (declared : List RegionDecl) (name : List ℕ) (p : ℕ) → slice_get (region_names declared) p ≡ Some name
    → ((r : ℕ) → r < p → slice_get (region_names declared) r ≢ Some name) → number_of declared name ≡ Some p
unfolding number_of
number_is declared name p at below =
    let same : 0 + p ≡ p = omega arith in
    position_is (λ n. bytes_eq n name) 0 p (region_names declared) name at ((bytes_eq-Decides name name).1 refl)
    (λ r y less here. differs y name (λ e. below r less (here ∙ ap (λ (z : List ℕ). Some z) e)))
    ∙ ap (λ (z : ℕ). Some z) same

number_none : (declared : List RegionDecl) (name : List ℕ) → ((r : ℕ) → slice_get (region_names declared) r ≢ Some name) → number_of declared name ≡ None
unfolding number_of
number_none declared name misses =
    position_none (λ n. bytes_eq n name) 0 (region_names declared) (λ r y here. differs y name (λ e. misses r (here ∙ ap (λ (z : List ℕ). Some z) e)))

-- a name's region is the first one of those with that number
own_name : (declared : List RegionDecl) (name : List ℕ) (g k : ℕ) → number_of declared name ≡ Some g → key_at (own_numbers declared) k ≡ Some g
    → slice_get (region_names declared) k ≡ Some name
own_name declared name g k is own =
    let r = read_from (number_of declared) (region_names declared) k g own in
    r.1 ∙ sym (number_name declared r.0 g r.2) ∙ number_name declared name g is

own_at : (declared : List RegionDecl) (name : List ℕ) (k : ℕ) → slice_get (region_names declared) k ≡ Some name
    → key_at (own_numbers declared) k ≡ number_of declared name
own_at declared name k at = read_at (number_of declared) (region_names declared) k name at

-- a name among those left is that of a region left
name_from : (declared : List RegionDecl) (aside : List (Option RegionFault)) (name : List ℕ) (p : ℕ) → length aside ≡ length declared
    → slice_get (region_names (left declared aside)) p ≡ Some name
    → (j : ℕ) × IsLeft (marks_of aside) j × (new_number aside j ≡ p) × (slice_get (region_names declared) j ≡ Some name)
name_from declared aside name p long at =
    kept_from (region_names declared) (marks_of aside) p name (omega (arith, length-map decl_name declared))
    (ap (λ (z : List (List ℕ)). slice_get z p) (sym (names-left declared aside)) ∙ at)

name_at : (declared : List RegionDecl) (aside : List (Option RegionFault)) (k : ℕ) → IsLeft (marks_of aside) k
    → slice_get (region_names (left declared aside)) (new_number aside k) ≡ slice_get (region_names declared) k
name_at declared aside k l =
    ap (λ (z : List (List ℕ)). slice_get z (new_number aside k)) (names-left declared aside) ∙ kept_at (region_names declared) (marks_of aside) k l

-- a name's number among those left
number_left : (declared : List RegionDecl) (aside : List (Option RegionFault)) (heads parents : List (Option ℕ)) → Known declared aside heads parents
    → (name : List ℕ) → number_of (left declared aside) name ≡ option_map (new_number aside) (head_at heads (number_of declared name))
number_left declared aside heads parents s name = go (number_of declared name) refl
  where
    some : (g : ℕ) (o : Option ℕ) → number_of declared name ≡ Some g → key_at heads g ≡ o
        → number_of (left declared aside) name ≡ option_map (new_number aside) o
    some g None is head =
        number_none (left declared aside) name (λ r at.
        let j = name_from declared aside name r s.long at in
        s.firsts.none g j.0 head j.1 (own_at declared name j.0 j.3 ∙ is))
    some g (Some k) is head =
        number_is (left declared aside) name (new_number aside k)
        (name_at declared aside k (s.firsts.left g k head) ∙ own_name declared name g k is (s.firsts.owns g k head))
        (λ r less at.
        let j = name_from declared aside name r s.long at in
        let low : k ≤ j.0 = s.firsts.first g k j.0 head j.1 (own_at declared name j.0 j.3 ∙ is) in
        omega (arith, before_rises (marks_of aside) k j.0 low, j.2))

    go : (o : Option ℕ) → number_of declared name ≡ o → number_of (left declared aside) name ≡ option_map (new_number aside) (head_at heads o)
    go None is =
        number_none (left declared aside) name (λ r at.
        let j = name_from declared aside name r s.long at in number_misses declared name j.0 is j.3)
    go (Some g) is = some g (key_at heads g) is refl

link_some : (mark : Option RegionFault) (head : Option ℕ) (x : ℕ) → link_if mark head ≡ Some x → head ≡ Some x
link_some None head x e = e
link_some (Some why) head x e = absurd (cc)

-- a region that heads a name is left
head_left : {own : List (Option ℕ)} {marks : List (Option RegionFault)} {heads : List (Option ℕ)} → Heads own marks heads
    → (o : Option ℕ) (x : ℕ) → head_at heads o ≡ Some x → IsLeft marks x
head_left h None x e = absurd (cc)
head_left h (Some g) x e = h.left g x e

-- a parent is left
parent_left : (declared : List RegionDecl) (aside : List (Option RegionFault)) (heads parents : List (Option ℕ)) → Known declared aside heads parents
    → (k x : ℕ) → parent_at parents k ≡ Some x → IsLeft (marks_of aside) x
parent_left declared aside heads parents s k x e =
    head_left s.firsts (key_at (parents_of declared) k) x
    (link_some (fault_at (marks_of aside) k) (head_at heads (key_at (parents_of declared) k)) x (sym (s.links.links k) ∙ e))

parent_same : (declared : List RegionDecl) (aside : List (Option RegionFault)) (heads parents : List (Option ℕ)) → Known declared aside heads parents
    → (i : ℕ) (d : RegionDecl) → slice_get declared i ≡ Some d → IsLeft (marks_of aside) (suc (suc i))
    → number_of (left declared aside) (parent_name d) ≡ option_map (new_number aside) (parent_at parents (suc (suc i)))
parent_same declared aside heads parents s i d at l =
    let link : parent_at parents (suc (suc i)) ≡ head_at heads (parent_number declared d) =
    s.links.links (suc (suc i))
    ∙ ap (λ (z : Option RegionFault). link_if z (head_at heads (key_at (parents_of declared) (suc (suc i))))) l
    ∙ ap (head_at heads) (read_at (parent_number declared) declared i d at) in
    number_left declared aside heads parents s (parent_name d) ∙ ap (option_map (new_number aside)) (sym link)

decl_left : (declared : List RegionDecl) (aside : List (Option RegionFault)) (i : ℕ) → IsLeft aside i
    → slice_get (left declared aside) (left_before aside i) ≡ slice_get declared i
decl_left declared aside i l = ap (λ (z : List RegionDecl). slice_get z (left_before aside i)) (left-kept declared aside) ∙ kept_at declared aside i l

-- a region's parent among those left
parents-left : (declared : List RegionDecl) (aside : List (Option RegionFault)) (heads parents : List (Option ℕ)) → Known declared aside heads parents
    → (k : ℕ) → IsLeft (marks_of aside) k
    → parent_at (parents_of (left declared aside)) (new_number aside k) ≡ option_map (new_number aside) (parent_at parents k)
parents-left declared aside heads parents s zero l = sym (ap (option_map (new_number aside)) (s.links.links 0))
parents-left declared aside heads parents s (suc zero) l = sym (ap (option_map (new_number aside)) (s.links.links 1))
parents-left declared aside heads parents s (suc (suc i)) l =
    let d : (d : RegionDecl) × (slice_get declared i ≡ Some d) = kept_there declared aside i (omega (arith, s.long)) l in
    read_at (parent_number (left declared aside)) (left declared aside) (left_before aside i) d.0 (decl_left declared aside i l ∙ d.1)
    ∙ parent_same declared aside heads parents s i d.0 d.1 l

low_new : (aside : List (Option RegionFault)) (k : ℕ) → k < 2 → new_number aside k < 2
low_new [] zero low = omega arith
low_new [] (suc zero) low = omega arith
low_new (a ∷ more) zero low = omega arith
low_new (a ∷ more) (suc zero) low = omega arith
low_new aside (suc (suc k)) low = absurd (omega arith)

low_old : (aside : List (Option RegionFault)) (k : ℕ) → new_number aside k < 2 → k < 2
low_old aside zero low = omega arith
low_old aside (suc zero) low = omega arith
low_old aside (suc (suc k)) low = absurd (omega arith)

map_some : (f : ℕ → ℕ) (o : Option ℕ) (x : ℕ) → option_map f o ≡ Some x → (y : ℕ) × (o ≡ Some y) × (f y ≡ x)
map_some f None x e = absurd (cc)
map_some f (Some y) x e = (y, refl, same_Some (f y) x e)

chain_down : (declared : List RegionDecl) (aside : List (Option RegionFault)) (heads parents : List (Option ℕ)) → Known declared aside heads parents
    → (root : ℕ) (chain : List ℕ) (k : ℕ) → IsLeft (marks_of aside) k → Leads parents k chain root
    → (new : List ℕ) × Leads (parents_of (left declared aside)) (new_number aside k) new (new_number aside root)
chain_down declared aside heads parents s root [] k l e = ([], ap (new_number aside) e)
chain_down declared aside heads parents s root (x ∷ chain) k l e =
    let r = chain_down declared aside heads parents s root chain x (parent_left declared aside heads parents s k x e.0) e.1 in
    (new_number aside x ∷ r.0, (parents-left declared aside heads parents s k l ∙ ap (option_map (new_number aside)) e.0, r.1))

chain_up : (declared : List RegionDecl) (aside : List (Option RegionFault)) (heads parents : List (Option ℕ)) → Known declared aside heads parents
    → (root : ℕ) → root < 2 → (chain : List ℕ) (k : ℕ) → IsLeft (marks_of aside) k
    → Leads (parents_of (left declared aside)) (new_number aside k) chain root
    → (old : ℕ) × (old < 2) × ((above : List ℕ) × Leads parents k above old)
chain_up declared aside heads parents s root low [] k l e =
    let less : new_number aside k < 2 = subst (λ (z : ℕ). z < 2) (sym e) low in (k, low_old aside k less, ([], refl))
chain_up declared aside heads parents s root low (x ∷ chain) k l e =
    let y = map_some (new_number aside) (parent_at parents k) x (sym (parents-left declared aside heads parents s k l) ∙ e.0) in
    let r = chain_up declared aside heads parents s root low chain y.0 (parent_left declared aside heads parents s k y.0 y.1)
    (subst (λ (z : ℕ). Leads (parents_of (left declared aside)) z chain root) (sym y.2) e.1) in
    (r.0, r.1, (y.0 ∷ r.2.0, (y.1, r.2.1)))

-- a region that is rooted is rooted among those left
rooted_down : (declared : List RegionDecl) (aside : List (Option RegionFault)) (heads parents : List (Option ℕ)) → Known declared aside heads parents
    → (k : ℕ) → IsLeft (marks_of aside) k → IsRooted parents k → IsRooted (parents_of (left declared aside)) (new_number aside k)
unfolding IsRooted IsUnder
rooted_down declared aside heads parents s k l r =
    (new_number aside r.0, low_new aside r.0 r.1, chain_down declared aside heads parents s r.0 r.2.0 k l r.2.1)

-- and the other way round
rooted_up : (declared : List RegionDecl) (aside : List (Option RegionFault)) (heads parents : List (Option ℕ)) → Known declared aside heads parents
    → (k : ℕ) → IsLeft (marks_of aside) k → IsRooted (parents_of (left declared aside)) (new_number aside k) → IsRooted parents k
unfolding IsRooted IsUnder
rooted_up declared aside heads parents s k l r = chain_up declared aside heads parents s r.0 r.1 r.2.0 k l r.2.1

kind_left : (declared : List RegionDecl) (aside : List (Option RegionFault)) (k : ℕ) → IsLeft (marks_of aside) k
    → slice_get (region_kinds (left declared aside)) (new_number aside k) ≡ slice_get (region_kinds declared) k
kind_left declared aside k l =
    ap (λ (z : List Bool). slice_get z (new_number aside k)) (kinds-left declared aside) ∙ kept_at (region_kinds declared) (marks_of aside) k l

own_kind : (declared : List RegionDecl) (i : ℕ) (d : RegionDecl) → slice_get declared i ≡ Some d
    → kind_at (region_kinds declared) (suc (suc i)) ≡ Some d.is_static
own_kind declared i d at = slice_get-map decl_kind declared i ∙ ap (option_map decl_kind) at

-- the kind of the parent
parent_kind : (declared : List RegionDecl) (aside : List (Option RegionFault)) (heads parents : List (Option ℕ)) → Known declared aside heads parents
    → (i : ℕ) (d : RegionDecl) → slice_get declared i ≡ Some d → IsLeft (marks_of aside) (suc (suc i))
    → (p : ℕ) → parent_at parents (suc (suc i)) ≡ Some p → kind_of (left declared aside) (parent_name d) ≡ kind_at (region_kinds declared) p
unfolding kind_of
parent_kind declared aside heads parents s i d at l p e =
    ap (option_and_then (slice_get (region_kinds (left declared aside))))
    (parent_same declared aside heads parents s i d at l ∙ ap (option_map (new_number aside)) e)
    ∙ kind_left declared aside p (parent_left declared aside heads parents s (suc (suc i)) p e)

parent_none : (declared : List RegionDecl) (aside : List (Option RegionFault)) (heads parents : List (Option ℕ)) → Known declared aside heads parents
    → (i : ℕ) (d : RegionDecl) → slice_get declared i ≡ Some d → IsLeft (marks_of aside) (suc (suc i))
    → parent_at parents (suc (suc i)) ≡ None → kind_of (left declared aside) (parent_name d) ≡ None
unfolding kind_of
parent_none declared aside heads parents s i d at l e =
    ap (option_and_then (slice_get (region_kinds (left declared aside))))
    (parent_same declared aside heads parents s i d at l ∙ ap (option_map (new_number aside)) e)

decl_number : (declared : List RegionDecl) (i : ℕ) (d : RegionDecl) → slice_get declared i ≡ Some d
    → key_at (own_numbers declared) (suc (suc i)) ≡ number_of declared d.name
decl_number declared i d at = own_at declared d.name (suc (suc i)) (slice_get-map decl_name declared i ∙ ap (option_map decl_name) at)

-- the number of a declaration's name among those left
name_left : (declared : List RegionDecl) (aside : List (Option RegionFault)) (heads parents : List (Option ℕ)) → Known declared aside heads parents
    → (i : ℕ) (d : RegionDecl) → slice_get declared i ≡ Some d
    → number_of (left declared aside) d.name ≡ option_map (new_number aside) (head_at heads (key_at (own_numbers declared) (suc (suc i))))
name_left declared aside heads parents s i d at =
    number_left declared aside heads parents s d.name
    ∙ ap (λ (z : Option ℕ). option_map (new_number aside) (head_at heads z)) (sym (decl_number declared i d at))

left_stands : (aside : List (Option RegionFault)) (i : ℕ) → IsLeft aside i → slice_get aside i ≡ Some None
left_stands [] i l = absurd (cc)
left_stands (a ∷ more) zero l = ap (λ (z : Option RegionFault). Some z) l
left_stands (a ∷ more) (suc i) l = left_stands more i l

two_more : (i : ℕ) → suc (suc i) ≡ i + 2
two_more i = omega arith

-- a declaration that is the first left of its name
first_left : (declared : List RegionDecl) (aside : List (Option RegionFault)) (heads parents : List (Option ℕ)) → Known declared aside heads parents
    → (i : ℕ) (d : RegionDecl) → slice_get declared i ≡ Some d → head_at heads (key_at (own_numbers declared) (suc (suc i))) ≡ Some (suc (suc i))
    → number_of (left declared aside) d.name ≡ Some (left_before aside i + 2)
first_left declared aside heads parents s i d at e =
    name_left declared aside heads parents s i d at ∙ ap (option_map (new_number aside)) e
    ∙ ap (λ (z : ℕ). Some z) (two_more (left_before aside i))

first_back : (declared : List RegionDecl) (aside : List (Option RegionFault)) (heads parents : List (Option ℕ)) → Known declared aside heads parents
    → (i : ℕ) (d : RegionDecl) → slice_get declared i ≡ Some d → IsLeft (marks_of aside) (suc (suc i))
    → number_of (left declared aside) d.name ≡ Some (left_before aside i + 2)
    → head_at heads (key_at (own_numbers declared) (suc (suc i))) ≡ Some (suc (suc i))
first_back declared aside heads parents s i d at l e =
    let r = map_some (new_number aside) (head_at heads (key_at (own_numbers declared) (suc (suc i)))) (left_before aside i + 2)
    (sym (name_left declared aside heads parents s i d at) ∙ e) in
    let stays : IsLeft (marks_of aside) r.0 = head_left s.firsts (key_at (own_numbers declared) (suc (suc i))) r.0 r.1 in
    let same : new_number aside r.0 ≡ new_number aside (suc (suc i)) = r.2 ∙ sym (two_more (left_before aside i)) in
    r.1 ∙ ap (λ (z : ℕ). Some z) (before_same (marks_of aside) r.0 (suc (suc i)) stays l same)

-- a sound region's declaration is good among those left
sound_good : (declared : List RegionDecl) (aside : List (Option RegionFault)) (heads parents : List (Option ℕ)) → Known declared aside heads parents
    → (i : ℕ) (d : RegionDecl) → slice_get declared i ≡ Some d → IsLeft (marks_of aside) (suc (suc i))
    → IsSound (region_kinds declared) (own_numbers declared) heads parents (suc (suc i)) → IsGood (left declared aside) (left_before aside i) d
sound_good declared aside heads parents s i d at l sound = (
  first_left declared aside heads parents s i d at sound.first,
  parent_kind declared aside heads parents s i d at l sound.parent sound.linked ∙ sound.kind ∙ own_kind declared i d at,
  subst (λ (z : ℕ). IsRooted (parents_of (left declared aside)) z) (two_more (left_before aside i))
      (rooted_down declared aside heads parents s (suc (suc i)) l sound.rooted),
)

-- a faulty region's declaration has that fault among those left
has_fault : (declared : List RegionDecl) (aside : List (Option RegionFault)) (heads parents : List (Option ℕ)) → Known declared aside heads parents
    → (i : ℕ) (d : RegionDecl) → slice_get declared i ≡ Some d → IsLeft (marks_of aside) (suc (suc i))
    → (why : RegionFault) → HasFault (region_kinds declared) (own_numbers declared) heads parents (suc (suc i)) why
    → DeclFault (left declared aside) (left_before aside i) d (error_of why d.name)
has_fault declared aside heads parents s i d at l fault.Repeated h =
    (refl, λ first. h (first_back declared aside heads parents s i d at l first))
has_fault declared aside heads parents s i d at l fault.UnknownParent h =
    (refl, first_left declared aside heads parents s i d at h.0, parent_none declared aside heads parents s i d at l h.1)
has_fault declared aside heads parents s i d at l fault.Mixed h =
    let p : ℕ = h.1.0 in
    let stays : IsLeft (marks_of aside) p = parent_left declared aside heads parents s (suc (suc i)) p h.1.1 in
    let long : length (marks_of aside) ≤ length (region_kinds declared) = omega (arith, s.long, length-map decl_kind declared) in
    let kind : (b : Bool) × (slice_get (region_kinds declared) p ≡ Some b) = kept_there (region_kinds declared) (marks_of aside) p long stays in (
      refl,
      first_left declared aside heads parents s i d at h.0,
      (
        kind.0,
        parent_kind declared aside heads parents s i d at l p h.1.1 ∙ kind.1,
        λ same. h.1.2 (kind.1 ∙ ap (λ (z : Bool). Some z) same ∙ sym (own_kind declared i d at)),
      ),
    )
has_fault declared aside heads parents s i d at l fault.Cycle h =
    let p : ℕ = h.1.0 in (
      refl,
      first_left declared aside heads parents s i d at h.0,
      parent_kind declared aside heads parents s i d at l p h.1.1 ∙ h.1.2 ∙ own_kind declared i d at,
      λ rooted. h.2 (rooted_up declared aside heads parents s (suc (suc i)) l
          (subst (λ (z : ℕ). IsRooted (parents_of (left declared aside)) z) (sym (two_more (left_before aside i))) rooted)),
    )

decl_from : (declared : List RegionDecl) (aside : List (Option RegionFault)) (p : ℕ) (d : RegionDecl) → length aside ≡ length declared
    → slice_get (left declared aside) p ≡ Some d
    → (j : ℕ) × IsLeft aside j × (left_before aside j ≡ p) × (slice_get declared j ≡ Some d)
decl_from declared aside p d long at =
    kept_from declared aside p d (omega arith) (ap (λ (z : List RegionDecl). slice_get z p) (sym (left-kept declared aside)) ∙ at)

-- the declarations before a faulty one are good
goods : (declared : List RegionDecl) (aside : List (Option RegionFault)) (heads parents : List (Option ℕ)) → Known declared aside heads parents
    → (n : ℕ)
    → ((j : ℕ) → left_before aside j < n → IsLeft (marks_of aside) (suc (suc j))
    → IsSound (region_kinds declared) (own_numbers declared) heads parents (suc (suc j)))
    → AllGood (left declared aside) n
goods declared aside heads parents s n sound p d less at =
    let j = decl_from declared aside p d s.long at in
    let low : left_before aside j.0 < n = omega (arith, j.2) in
    subst (λ (z : ℕ). IsGood (left declared aside) z d) j.2 (sound_good declared aside heads parents s j.0 d j.3 j.1 (sound j.0 low j.1))

-- The first region with a fault is the first faulty declaration of those left.
pub first_faulty : (declared : List RegionDecl) (aside : List (Option RegionFault)) (heads parents : List (Option ℕ))
    → length aside ≡ length declared
    → Heads (own_numbers declared) (None ∷ None ∷ aside) heads
    → Links (parents_of declared) heads (None ∷ None ∷ aside) parents
    → (i : ℕ) (d : RegionDecl) (why : RegionFault) → slice_get declared i ≡ Some d → IsLeft (None ∷ None ∷ aside) (i + 2)
    → ((k : ℕ) → 2 ≤ k → k < i + 2 → IsLeft (None ∷ None ∷ aside) k → IsSound (region_kinds declared) (own_numbers declared) heads parents k)
    → HasFault (region_kinds declared) (own_numbers declared) heads parents (i + 2) why
    → IsFirstFaulty declared aside i why
first_faulty declared aside heads parents long firsts links i d why at l sound faulty =
    let s : Known declared aside heads parents = record { long = long; firsts = firsts; links = links } in
    let stays : IsLeft (marks_of aside) (suc (suc i)) = subst (λ (z : ℕ). IsLeft (marks_of aside) z) (sym (two_more i)) l in
    let here : HasFault (region_kinds declared) (own_numbers declared) heads parents (suc (suc i)) why =
    subst (λ (z : ℕ). HasFault (region_kinds declared) (own_numbers declared) heads parents z why) (sym (two_more i)) faulty in
    record {
      decl = d;
      there = at;
      stands = left_stands aside i stays;
      first = (
        d,
        decl_left declared aside i stays ∙ at,
        goods declared aside heads parents s (left_before aside i)
            (λ j less kept. sound (suc (suc j)) (omega arith) (omega (arith, before_lower aside j i less)) kept),
        has_fault declared aside heads parents s i d at stays why here,
      );
    }

-- Where all regions that are left are sound, the declarations that are left have no fault.
pub all_sound : (declared : List RegionDecl) (aside : List (Option RegionFault)) (heads parents : List (Option ℕ))
    → length aside ≡ length declared
    → Heads (own_numbers declared) (None ∷ None ∷ aside) heads
    → Links (parents_of declared) heads (None ∷ None ∷ aside) parents
    → ((k : ℕ) → 2 ≤ k → IsLeft (None ∷ None ∷ aside) k → IsSound (region_kinds declared) (own_numbers declared) heads parents k)
    → AllGood (left declared aside) (length (left declared aside))
all_sound declared aside heads parents long firsts links sound =
    let s : Known declared aside heads parents = record { long = long; firsts = firsts; links = links } in
    goods declared aside heads parents s (length (left declared aside)) (λ j less kept. sound (suc (suc j)) (omega arith) kept)
