-- Files are one project at most, and files that are one have no cause why they are none.
use Rattle.std.proofs.Common.{◌≡◌, ◌≢◌, ◌⊎◌, ℕ, ◌<◌, ◌≤◌, Bool, true, false, List, [], ◌∷◌, ◌++◌, length, map, get_or, zero, suc, All, Contains, inl, inr, refl, ap, sym, ◌∙◌, subst, arith}
use Rattle.std.specs.Cmp.{IsStrictWeakOrder}
use Rattle.std.specs.Ordering.{nat_cmp, is_eq, is_lt, ordering_reverse}
use Rattle.std.specs.declared.cmp.Ordering.{Ordering}
use Rattle.std.specs.declared.cmp.Ordering.TheVariants.{Less, Equal, Greater}
use Rattle.std.specs.Cmp.Lexicographic.{slice_cmp, nat_list_cmp_total}
use Rattle.std.specs.Str.{bytes_eq}
use Rattle.std.proofs.lemmas.Map.Text.{is_eq-slice_cmp}
use Rattle.std.proofs.lemmas.Map.Keys.{IsDistinct-IsPermutation}
use Rattle.std.proofs.lemmas.Map.Made.{AllPairs-from_IsDistinct, IsDistinct-from_AllPairs}
use Rattle.std.proofs.lemmas.List.{length-map, get_or-map}
use Rattle.std.proofs.lemmas.List.MinMax.{ranks_by}
use Rattle.std.proofs.lemmas.List.Sorted.{sorted_far, IsPermutation-map, IsPermutation-sym, Contains-permutation}
use Rattle.std.proofs.lemmas.List.Elements.{All-contains, All-map, Contains-append_right}
use Rattle.std.proofs.lemmas.Slice.Eq.{bytes_eq-Decides}
use Rattle.project_files.specs.declared.error.FilesError.{FilesError}
use Rattle.project_files.specs.declared.error.FilesError.TheVariants as error
use Rattle.project_files.specs.Project.{AreProject, IsCauseOf, PathsDiffer}
use Rattle.java_tree.specs.declared.file.FileTree.{FileTree}
use Rattle.java_reader.specs.declared.error.ReadError.{ReadError}
use Rattle.java_reader.specs.Reads.{Reads}
use Rattle.bundle.specs.Entry.{Entry}
use Rattle.project_files.specs.Order.{path_before, InOrder}
use Rattle.project_files.specs.Trees.{ClassText, TreeFile, entry_of, IsReadAs, AreReadAs, IsUnread, types_of}
use Rattle.project_files.specs.Repeats.{NoRepeat, FirstRepeat, name_of}

-- ---- one order

paths_order : IsStrictWeakOrder path_before
paths_order = ranks_by nat_list_cmp_total (λ (e : Entry). e.path)

equal_by : (o : Ordering) → is_lt o ≡ false → is_lt (ordering_reverse o) ≡ false → is_eq o ≡ true
equal_by Less a b = cc
equal_by Equal a b = refl
equal_by Greater a b = cc

one_path : (d e : Entry) → path_before d e ≡ false → path_before e d ≡ false → d.path ≡ e.path
one_path d e a b =
    let turned : is_lt (ordering_reverse (slice_cmp nat_cmp d.path e.path)) ≡ false = ap is_lt (sym (nat_list_cmp_total.antisymm e.path d.path)) ∙ b in
    let same = equal_by (slice_cmp nat_cmp d.path e.path) a turned in
    (bytes_eq-Decides d.path e.path).0 (sym (is_eq-slice_cmp d.path e.path) ∙ same)

-- each file comes before all later ones
Rising : List Entry → Type 0
Rising [] = Unit {0}
Rising (e ∷ files) = All (λ d. path_before e d ≡ true) files × Rising files

before_by : (d e : Entry) (b : Bool) → path_before d e ≡ b → path_before e d ≡ false → d.path ≢ e.path → b ≡ true
before_by d e true is later other = refl
before_by d e false is later other = absurd (other (one_path d e is later))

abbrev Far : List Entry → Type 0
Far files = (i j : ℕ) (d : Entry) → i ≤ j → j < length files → path_before (get_or files j d) (get_or files i d) ≡ false

rising_from : (files : List Entry) → Far files → PathsDiffer files → Rising files
unfolding Rising
rising_from [] far distinct = tt
rising_from (e ∷ files) far distinct = (
  λ k d low. head k d low,
  rising_from files (λ i j d up low. far (suc i) (suc j) d (omega arith) (omega arith)) (λ i j d up low. distinct (suc i) (suc j) d (omega arith) (omega arith)),
) where
  head : (k : ℕ) (d : Entry) → k < length files → path_before e (get_or files k d) ≡ true
  head k d low =
      let other : e.path ≢ (get_or files k d).path = λ same. distinct 0 (suc k) d.path (omega arith) (omega (arith, low, length-map files (λ (x : Entry). x.path))) (same ∙ sym (get_or-map (λ (x : Entry). x.path) files k d d.path low)) in
      before_by e (get_or files k d) (path_before e (get_or files k d)) refl (far 0 (suc k) d (omega arith) (omega arith)) other

abbrev Within : List Entry → List Entry → Type 0
Within xs ys = (e : Entry) → Contains xs e → Contains ys e

cons_cases : (x e : Entry) (xs : List Entry) → Contains (x ∷ xs) e → (x ≡ e) ⊎ Contains xs e
cons_cases x e xs (zero, low, is) = inl is
cons_cases x e xs (suc k, low, is) = inr (k, omega arith, is)

there : (x e : Entry) (xs : List Entry) → Contains xs e → Contains (x ∷ xs) e
there x e xs (k, low, is) = (suc k, omega arith, is)

here : (x : Entry) (xs : List Entry) → Contains (x ∷ xs) x
here x xs = (0, omega arith, refl)

one_head : (x y : Entry) (xs ys : List Entry) → All (λ d. path_before x d ≡ true) xs → All (λ d. path_before y d ≡ true) ys → (y ≡ x) ⊎ Contains ys x → (x ≡ y) ⊎ Contains xs y → x ≡ y
one_head x y xs ys a b (inl same) other = sym same
one_head x y xs ys a b (inr among) (inl same) = same
one_head x y xs ys a b (inr among) (inr back) =
    let first : path_before y x ≡ true = All-contains (λ d. path_before y d ≡ true) ys x b among in
    let second : path_before x y ≡ true = All-contains (λ d. path_before x d ≡ true) xs y a back in
    let never : path_before y x ≡ false = paths_order.one_way x y second in cc

rest_within : (x : Entry) (xs ys : List Entry) → All (λ d. path_before x d ≡ true) xs → Within xs (x ∷ ys) → Within xs ys
rest_within x xs ys a within e among = by (cons_cases x e ys (within e among))
  where
    by : (x ≡ e) ⊎ Contains ys e → Contains ys e
    by (inr found) = found
    by (inl same) =
        let above : path_before x e ≡ true = All-contains (λ d. path_before x d ≡ true) xs e a among in
        let P : Entry → Type 0 = λ d. path_before x d ≡ true in
        let itself : path_before x x ≡ true = subst P (sym same) above in
        let never : path_before x x ≡ false = paths_order.one_way x x itself in cc

one_order : (xs ys : List Entry) → Rising xs → Rising ys → Within xs ys → Within ys xs → xs ≡ ys
unfolding Rising
one_order [] [] a b f g = refl
one_order [] (y ∷ ys) a b f g = absurd (empty (g y (here y ys)))
  where
    empty : Contains [] y → ⊥
    empty (k, low, is) = omega arith
one_order (x ∷ xs) [] a b f g = absurd (empty (f x (here x xs)))
  where
    empty : Contains [] x → ⊥
    empty (k, low, is) = omega arith
one_order (x ∷ xs) (y ∷ ys) a b f g =
    let head : x ≡ y = one_head x y xs ys a.0 b.0 (cons_cases y x ys (f x (here x xs))) (cons_cases x y xs (g y (here y ys))) in
    let P : Entry → Type 0 = λ d. Within xs (d ∷ ys) in
    let Q : Entry → Type 0 = λ d. Within ys (d ∷ xs) in
    let tail : xs ≡ ys = one_order xs ys a.1 b.1
    (rest_within x xs ys a.0 (subst P (sym head) (λ e among. f e (there x e xs among))))
    (rest_within y ys xs b.0 (subst Q head (λ e among. g e (there y e ys among)))) in
    rw (head, tail) refl

flips_by : (a b : Bool) → (a ≡ true → b ≡ true) → (b ≡ true → a ≡ true) → a ≡ b
flips_by true b f g = sym (f refl)
flips_by false true f g = g refl
flips_by false false f g = refl

flips : (x y : List ℕ) → bytes_eq x y ≡ bytes_eq y x
flips x y = flips_by (bytes_eq x y) (bytes_eq y x) (λ e. (bytes_eq-Decides y x).1 (sym ((bytes_eq-Decides x y).0 e))) (λ e. (bytes_eq-Decides x y).1 (sym ((bytes_eq-Decides y x).0 e)))

rising : (files sorted : List Entry) → PathsDiffer files → InOrder files sorted → Rising sorted
rising files sorted distinct order =
    let path = λ (e : Entry). e.path in
    let apart : PathsDiffer sorted = AllPairs-from_IsDistinct bytes_eq-Decides (map path sorted)
    (IsDistinct-IsPermutation bytes_eq flips (map path files) (map path sorted) (IsPermutation-map path files sorted order.same) (IsDistinct-from_AllPairs bytes_eq-Decides (map path files) distinct)) in
    rising_from sorted (sorted_far path_before paths_order sorted order.rising) apart

one_sorted : (files a b : List Entry) → PathsDiffer files → InOrder files a → InOrder files b → a ≡ b
one_sorted files a b distinct first second = one_order a b (rising files a distinct first) (rising files b distinct second)
    (λ e among. Contains-permutation files b e second.same (Contains-permutation a files e (IsPermutation-sym files a first.same) among))
    (λ e among. Contains-permutation files a e first.same (Contains-permutation b files e (IsPermutation-sym files b second.same) among))

-- ---- one list of trees

abbrev pub OneTree : Type 0
OneTree = (text : List ℕ) (first second : FileTree) → Reads text first → Reads text second → first ≡ second

abbrev file_with : List ℕ → List ℕ → FileTree → TreeFile
file_with path text tree = record { path = path; text = text; tree = tree }

one_file : OneTree → (f g : TreeFile) → entry_of f ≡ entry_of g → IsReadAs f → IsReadAs g → f ≡ g
one_file one f g same a b =
    let path : f.path ≡ g.path = ap (λ e. e.path) same in
    let text : f.text ≡ g.text = ap (λ e. e.text) same in
    let P : List ℕ → Type 0 = λ t. Reads t f.tree in
    by f.path g.path f.text g.text f.tree g.tree path text (one g.text f.tree g.tree (subst P text a) b)
  where
    by : (p q t u : List ℕ) (x y : FileTree) → p ≡ q → t ≡ u → x ≡ y → file_with p t x ≡ file_with q u y
    by p q t u x y d e h = rw (d, e, h) refl

one_list : OneTree → (a b : List TreeFile) → map entry_of a ≡ map entry_of b → All IsReadAs a → All IsReadAs b → a ≡ b
one_list one [] [] same x y = refl
one_list one [] (g ∷ b) same x y = cc
one_list one (f ∷ a) [] same x y = cc
one_list one (f ∷ a) (g ∷ b) same x y =
    let head : entry_of f ≡ entry_of g = cc in
    let rest : map entry_of a ≡ map entry_of b = cc in
    let first : f ≡ g = one_file one f g head (x 0 f (omega arith)) (y 0 g (omega arith)) in
    let others : a ≡ b = one_list one a b rest (λ k d low. x (suc k) d (omega arith)) (λ k d low. y (suc k) d (omega arith)) in
    rw (first, others) refl

one_reading : OneTree → (files : List Entry) (a b : List TreeFile) → PathsDiffer files → AreReadAs files a → AreReadAs files b → a ≡ b
one_reading one files a b distinct x y = one_list one a b (one_sorted files (map entry_of a) (map entry_of b) distinct x.order y.order) x.each y.each

-- ---- no cause beside a project

pub one_list_of_trees : OneTree → (files : List Entry) (a b : List TreeFile) → PathsDiffer files → AreProject files a → AreProject files b → a ≡ b
one_list_of_trees one files a b distinct x y = one_reading one files a b distinct x.taken.read y.taken.read

read_not_unread : (files : List Entry) (trees : List TreeFile) (path : List ℕ) (why : ReadError) → AreReadAs files trees → IsUnread files path why → ⊥
read_not_unread files trees path why read un =
    let f = un.first in
    let P : Entry → Type 0 = λ e. ((tree : FileTree) → Reads e.text tree → ⊥) → ⊥ in
    let all : All P (map entry_of trees) = All-map P entry_of trees (λ k d low none. none _ (read.each k d low)) in
    let Q : List Entry → Type 0 = λ l. Contains l f.file in
    let sorted : Contains un.sorted f.file = subst Q (sym f.is) (Contains-append_right (map entry_of f.front) (f.file ∷ f.rest) f.file (here f.file f.rest)) in
    let among : Contains files f.file = Contains-permutation un.sorted files f.file (IsPermutation-sym files un.sorted un.order.same) sorted in
    All-contains P (map entry_of trees) f.file all (Contains-permutation files (map entry_of trees) f.file read.order.same among) f.refused.unread

differs : (f : ClassText) (types : List ClassText) (e : ClassText) → NoRepeat (f ∷ types) → Contains types e → name_of f ≡ name_of e → ⊥
differs f types e apart (k, low, is) same =
    apart 0 (suc k) (name_of f) (omega arith) (omega (arith, low, length-map types name_of)) (same ∙ sym (get_or-map name_of types k e (name_of f) low ∙ ap name_of is))

split_apart : (front : List ClassText) (type : ClassText) (rest : List ClassText) (earlier : ClassText) → NoRepeat (front ++ type ∷ rest) → Contains front earlier → name_of earlier ≡ name_of type → ⊥
split_apart [] type rest earlier apart (k, low, is) same = omega arith
split_apart (f ∷ front) type rest earlier apart (zero, low, is) same =
    differs f (front ++ type ∷ rest) type apart (Contains-append_right front (type ∷ rest) type (0, omega arith, refl)) (ap name_of is ∙ same)
split_apart (f ∷ front) type rest earlier apart (suc k, low, is) same =
    split_apart front type rest earlier (λ i j d up end. apart (suc i) (suc j) d (omega arith) (omega arith)) (k, omega arith, is) same

repeat_not_apart : (types : List ClassText) (name first second : List ℕ) → NoRepeat types → FirstRepeat types name first second → ⊥
repeat_not_apart types name first second apart r = split_apart r.front r.type r.rest r.earlier (subst NoRepeat r.is apart) r.among r.same

pub no_cause : OneTree → (files : List Entry) (trees : List TreeFile) (e : FilesError) → PathsDiffer files → AreProject files trees → IsCauseOf files e → e ≡ error.OutOfMemory
no_cause one files trees (error.Limit which) distinct are cause = let none = are.taken.within in cc
no_cause one files trees (error.Unread path why) distinct are cause = absurd (read_not_unread files trees path.now why are.taken.read cause.1)
no_cause one files trees (error.Repeated name first second) distinct are cause =
    let same = one_reading one files trees cause.trees distinct are.taken.read cause.taken.read in
    let P : List TreeFile → Type 0 = λ l. NoRepeat (types_of l) in
    absurd (repeat_not_apart (types_of cause.trees) name first second (subst P same are.apart) cause.holds)
no_cause one files trees error.OutOfMemory distinct are cause = refl
