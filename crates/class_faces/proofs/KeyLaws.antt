-- The keys of a class's units differ.
use Rattle.std.proofs.Common.{◌≡◌, ℕ, zero, suc, ◌+◌, ◌<◌, ◌≤◌, ◌^◌, List, [], ◌∷◌, ◌++◌, length, refl, sym, ◌∙◌, ap, subst, inl, inr, arith, append_assoc, append-nil, length-append, Bool, true, false, cond}
use Rattle.std.specs.Prelude.{◌≢◌, ◌⊎◌, Option, Some, None, codes, decimal, nat_lt, if◌then◌else◌}
use Rattle.std.specs.List.{AllByRecursion}
use Rattle.std.specs.Str.{bytes_eq, IsAscii}
use Rattle.std.specs.Str.Parse.{AllDigits}
use Rattle.std.proofs.lemmas.Bool.{ltb-true, ltb-false}
use Rattle.std.proofs.lemmas.Fmt.{decimal_injective, decimal_is_IsNumeral, IsAscii-decimal}
use Rattle.std.proofs.lemmas.List.Sums.{count_by-le-length}
use Rattle.std.proofs.lemmas.Slice.Eq.{bytes_eq-Decides}
use Rattle.std.proofs.lemmas.Str.{IsAscii-append, IsUtf8-from_ascii, utf8_lossy-IsUtf8}
use Rattle.std.proofs.lemmas.Str.Ascii.{IsAscii-nil}
use Rattle.std.proofs.lemmas.Str.Parse.{digit_from_value}
use Rattle.java_tree.specs.declared.file.ClassTree.{ClassTree}
use Rattle.java_tree.specs.declared.member.MemberTree.{MemberTree}
use Rattle.java_tree.specs.declared.member.MemberTree.TheVariants as member
use Rattle.class_faces.specs.Keys.{Distinct, HasNames, IsAmong, IsCallable, IsNameByte, IsNamed, IsPlain, Lacks, counted, key_count, key_name, key_with, keys_after, member_key, member_keys, repeat_mark, slot_of, text_of, times, unit_keys, written_name}
use Rattle.class_faces.proofs.Counting.{times_more}

-- ---- texts that a sign ends

abbrev Without : ℕ → List ℕ → Type 0
Without sign xs = AllByRecursion (λ b. b ≢ sign) xs

-- it is empty or begins with the sign
abbrev Begins : ℕ → List ℕ → Type 0
Begins sign [] = Unit {0}
Begins sign (b ∷ bs) = b ≡ sign

-- what stands before the first sign, and what from it on
cut : (sign : ℕ) (a b x y : List ℕ) → Without sign a → Without sign b → Begins sign x → Begins sign y → a ++ x ≡ b ++ y → (a ≡ b) × (x ≡ y)
cut sign [] [] x y la lb p q e = (refl, e)
cut sign [] (c ∷ b) [] y la lb p q e = absurd (cc)
cut sign [] (c ∷ b) (d ∷ x) y la lb p q e = let h : c ≡ d = cc in absurd (lb.0 (h ∙ p))
cut sign (c ∷ a) [] x [] la lb p q e = absurd (cc)
cut sign (c ∷ a) [] x (d ∷ y) la lb p q e = let h : c ≡ d = cc in absurd (la.0 (h ∙ q))
cut sign (c ∷ a) (d ∷ b) x y la lb p q e =
    let h : c ≡ d = cc in
    let t : a ++ x ≡ b ++ y = cc in
    let r = cut sign a b x y la.1 lb.1 p q t in
    (λ i. h i ∷ r.0 i, r.1)

after_front : (front xs ys : List ℕ) → front ++ xs ≡ front ++ ys → xs ≡ ys
after_front [] xs ys e = e
after_front (c ∷ front) xs ys e = let t : front ++ xs ≡ front ++ ys = cc in after_front front xs ys t

without_append : (sign : ℕ) (xs ys : List ℕ) → Without sign xs → Without sign ys → Without sign (xs ++ ys)
without_append sign [] ys a b = b
without_append sign (x ∷ xs) ys a b = (a.0, without_append sign xs ys a.1 b)

without_digits : (sign : ℕ) (ds : List ℕ) → 57 < sign → AllDigits 10 ds → Without sign ds
without_digits sign [] high d = tt
without_digits sign (c ∷ cs) high d = ((λ e. omega (arith, digit_from_value c d.0)), without_digits sign cs high d.1)

plain_dot : (name : List ℕ) → IsPlain name → Without 46 name
plain_dot [] p = tt
plain_dot (b ∷ bs) p = (p.0.no_dot, plain_dot bs p.1)

plain_slash : (name : List ℕ) → IsPlain name → Without 47 name
plain_slash [] p = tt
plain_slash (b ∷ bs) p = (p.0.no_slash, plain_slash bs p.1)

plain_tilde : (name : List ℕ) → IsPlain name → Without 126 name
plain_tilde [] p = tt
plain_tilde (b ∷ bs) p = (p.0.no_tilde, plain_tilde bs p.1)

plain_ascii : (name : List ℕ) → IsPlain name → IsAscii name
plain_ascii [] p i = omega arith
plain_ascii (b ∷ bs) p zero = p.0.ascii
plain_ascii (b ∷ bs) p (suc i) = plain_ascii bs p.1 i

more_ascii : (b : ℕ) (bs : List ℕ) → b < 128 → IsAscii bs → IsAscii (b ∷ bs)
more_ascii b bs low ascii zero = low
more_ascii b bs low ascii (suc i) = ascii i

-- ---- names with numbers of parameters

abbrev pub IsFew : Option ℕ → Type 0
IsFew None = Unit {0}
IsFew (Some count) = count < 2 ^ 64

written_tilde : (name : List ℕ) (count : Option ℕ) → IsPlain name → IsFew count → Without 126 (written_name name count)
written_tilde name None p few = plain_tilde name p
written_tilde name (Some count) p few =
    without_append 126 name (47 ∷ decimal count) (plain_tilde name p)
    ((λ e. omega arith), without_digits 126 (decimal count) (omega arith) (decimal_is_IsNumeral count few).0.1)

written_ascii : (name : List ℕ) (count : Option ℕ) → IsPlain name → IsFew count → IsAscii (written_name name count)
written_ascii name None p few = plain_ascii name p
written_ascii name (Some count) p few =
    IsAscii-append name (47 ∷ decimal count) (plain_ascii name p) (more_ascii 47 (decimal count) (omega arith) (IsAscii-decimal count few))

written_same : (a b : List ℕ) (x y : Option ℕ) → IsPlain a → IsPlain b → IsFew x → IsFew y → written_name a x ≡ written_name b y → (a ≡ b) × (x ≡ y)
written_same a b None None p q f g e = (e, refl)
written_same a b None (Some y) p q f g e =
    let r = cut 47 a b [] (47 ∷ decimal y) (plain_slash a p) (plain_slash b q) tt refl (append-nil a ∙ e) in
    let t : [] ≡ 47 ∷ decimal y = r.1 in
    absurd (cc)
written_same a b (Some x) None p q f g e =
    let r = cut 47 a b (47 ∷ decimal x) [] (plain_slash a p) (plain_slash b q) refl tt (e ∙ sym (append-nil b)) in
    let t : 47 ∷ decimal x ≡ [] = r.1 in
    absurd (cc)
written_same a b (Some x) (Some y) p q f g e =
    let r = cut 47 a b (47 ∷ decimal x) (47 ∷ decimal y) (plain_slash a p) (plain_slash b q) refl refl e in
    let t : decimal x ≡ decimal y = (let u : 47 ∷ decimal x ≡ 47 ∷ decimal y = r.1 in cc) in
    (r.0, ap (λ (n : ℕ). Some n) (decimal_injective x y f g t))

-- ---- marks of repetition

mark_begins : (k : ℕ) → Begins 126 (repeat_mark k)
mark_begins k = go (nat_lt k 2)
  where
    go : (b : Bool) → Begins 126 (if b then [] else (codes "~" ++ decimal k))
    go true = tt
    go false = refl

mark_ascii : (k : ℕ) → k < 2 ^ 64 → IsAscii (repeat_mark k)
mark_ascii k few = go (nat_lt k 2)
  where
    go : (b : Bool) → IsAscii (if b then [] else (codes "~" ++ decimal k))
    go true = IsAscii-nil
    go false = more_ascii 126 (decimal k) (omega arith) (IsAscii-decimal k few)

mark_same : (j k : ℕ) → 0 < j → 0 < k → j < 2 ^ 64 → k < 2 ^ 64 → repeat_mark j ≡ repeat_mark k → j ≡ k
mark_same j k p q few few' e = go (nat_lt j 2) (nat_lt k 2) refl refl e
  where
    go : (a b : Bool) → nat_lt j 2 ≡ a → nat_lt k 2 ≡ b → (if a then [] else (codes "~" ++ decimal j)) ≡ (if b then [] else (codes "~" ++ decimal k)) → j ≡ k
    go true true u v w = omega (arith, ltb-true j 2 u, ltb-true k 2 v)
    go true false u v w = absurd (cc)
    go false true u v w = absurd (cc)
    go false false u v w = let t : decimal j ≡ decimal k = cc in decimal_injective j k few few' t

-- ---- one key

lower : (b : ℕ) → 96 < b → b < 123 → IsNameByte b
lower b p q = record { ascii = omega arith; no_dot = λ e. omega arith; no_slash = λ e. omega arith; no_tilde = λ e. omega arith }

pub named_plain : (m : MemberTree) → IsNamed m → IsPlain (key_name m)
named_plain (member.Field f) h = h
named_plain (member.Method m) h = h.plain
named_plain (member.Sig s) h = h.plain
named_plain (member.Ctor c) h = (lower 110 (omega arith) (omega arith), (lower 101 (omega arith) (omega arith), (lower 119 (omega arith) (omega arith), tt)))
named_plain (member.Main m) h =
    (lower 109 (omega arith) (omega arith), (lower 97 (omega arith) (omega arith), (lower 105 (omega arith) (omega arith), (lower 110 (omega arith) (omega arith), tt))))

pub named_few : (m : MemberTree) → IsNamed m → IsFew (key_count m)
named_few (member.Field f) h = tt
named_few (member.Method m) h = h.few
named_few (member.Sig s) h = h.few
named_few (member.Ctor c) h = h
named_few (member.Main m) h = omega arith

-- the slot by the name and the number of parameters
abbrev slot_by : List ℕ → Option ℕ → List ℕ
slot_by name None = name
slot_by name (Some count) = if bytes_eq name (codes "new") then codes "new" else counted name count

callable_slot : (name : List ℕ) (count : ℕ) → IsCallable name count → counted name count ≡ slot_by name (Some count)
callable_slot name count h = go (bytes_eq name (codes "new")) refl
  where
    go : (b : Bool) → bytes_eq name (codes "new") ≡ b → counted name count ≡ (if b then codes "new" else counted name count)
    go true e = absurd (h.no_constructor ((bytes_eq-Decides name (codes "new")).0 e))
    go false e = refl

slot_is : (m : MemberTree) → IsNamed m → slot_of m ≡ slot_by (key_name m) (key_count m)
slot_is (member.Field f) h = refl
slot_is (member.Method m) h = callable_slot m.name.text (length m.params) h
slot_is (member.Sig s) h = callable_slot s.name.text (length s.params) h
slot_is (member.Ctor c) h = refl
slot_is (member.Main m) h = refl

-- the key without the class, and with it
abbrev tail_by : List ℕ → Option ℕ → ℕ → List ℕ
tail_by name count k = written_name name count ++ repeat_mark k

abbrev raw_key : List ℕ → List ℕ → Option ℕ → ℕ → List ℕ
raw_key class name count k = (class ++ 46 ∷ []) ++ tail_by name count k

raw_ascii : (class name : List ℕ) (count : Option ℕ) (k : ℕ) → IsPlain class → IsPlain name → IsFew count → k < 2 ^ 64 → IsAscii (raw_key class name count k)
raw_ascii class name count k p q f few =
    IsAscii-append (class ++ 46 ∷ []) (tail_by name count k) (IsAscii-append class (46 ∷ []) (plain_ascii class p) (more_ascii 46 [] (omega arith) IsAscii-nil))
    (IsAscii-append (written_name name count) (repeat_mark k) (written_ascii name count q f) (mark_ascii k few))

ascii_stays : (name : List ℕ) → IsAscii name → text_of name ≡ name
ascii_stays name ascii = utf8_lossy-IsUtf8 name (IsUtf8-from_ascii name ascii)

key_is : (class name : List ℕ) (count : Option ℕ) (k : ℕ) → IsPlain class → IsPlain name → IsFew count → k < 2 ^ 64 → member_key class name count k ≡ raw_key class name count k
key_is class name count k p q f few = ascii_stays (raw_key class name count k) (raw_ascii class name count k p q f few)

-- a key tells what it is made of
pub key_parts : (class a b : List ℕ) (x y : Option ℕ) (j k : ℕ) → IsPlain class → IsPlain a → IsPlain b → IsFew x → IsFew y → 0 < j → 0 < k → j < 2 ^ 64 → k < 2 ^ 64
    → member_key class a x j ≡ member_key class b y k → (a ≡ b) × (x ≡ y) × (j ≡ k)
key_parts class a b x y j k p q r f g low low' few few' e =
    let raw : raw_key class a x j ≡ raw_key class b y k = sym (key_is class a x j p q f few) ∙ e ∙ key_is class b y k p r g few' in
    let tails : tail_by a x j ≡ tail_by b y k = after_front (class ++ 46 ∷ []) (tail_by a x j) (tail_by b y k) raw in
    let parts = cut 126 (written_name a x) (written_name b y) (repeat_mark j) (repeat_mark k) (written_tilde a x q f) (written_tilde b y r g) (mark_begins j) (mark_begins k) tails in
    let names = written_same a b x y q r f g parts.0 in
    (names.0, names.1, mark_same j k low low' few few' parts.1)

-- a member's key tells its slot and its number
key_tells : (class : List ℕ) (m n : MemberTree) (j k : ℕ) → IsPlain class → IsNamed m → IsNamed n → 0 < j → 0 < k → j < 2 ^ 64 → k < 2 ^ 64
    → key_with class m j ≡ key_with class n k → (slot_of m ≡ slot_of n) × (j ≡ k)
key_tells class m n j k p h g low low' few few' e =
    let parts = key_parts class (key_name m) (key_name n) (key_count m) (key_count n) j k p (named_plain m h) (named_plain n g) (named_few m h) (named_few n g) low low' few few' e in
    (slot_is m h ∙ (λ i. slot_by (parts.0 i) (parts.1 i)) ∙ sym (slot_is n g), parts.2)

-- ---- the keys of the members

same_slot : (slot : List ℕ) → bytes_eq slot slot ≡ true
same_slot slot = (bytes_eq-Decides slot slot).1 refl

-- the key of a member whose slot came so often already doesn't come again
lacks_after : (class : List ℕ) (m : MemberTree) (k : ℕ) (slots : List (List ℕ)) (ms : List MemberTree) → IsPlain class → IsNamed m → AllByRecursion IsNamed ms
    → 0 < k → k ≤ times slots (slot_of m) → length slots + length ms < 2 ^ 64 → Lacks (key_with class m k) (keys_after class slots ms)
lacks_after class m k slots [] p h all low there few = tt
lacks_after class m k slots (n ∷ ns) p h all low there few =
    let within : times slots (slot_of m) ≤ length slots = count_by-le-length (λ s. bytes_eq s (slot_of m)) slots in
    let other : times slots (slot_of n) ≤ length slots = count_by-le-length (λ s. bytes_eq s (slot_of n)) slots in
    let more : times (slots ++ slot_of n ∷ []) (slot_of m) ≡ times slots (slot_of m) + cond (bytes_eq (slot_of n) (slot_of m)) 1 0 = times_more slots (slot_of n) (slot_of m) in
    let long : length (slots ++ slot_of n ∷ []) ≡ length slots + 1 = length-append slots (slot_of n ∷ []) in (
      (λ e.
          let told = key_tells class m n k (times slots (slot_of n) + 1) p h all.0 low (omega arith) (omega arith) (omega arith) e in
          let same : times slots (slot_of m) ≡ times slots (slot_of n) = ap (times slots) told.0 in
          let number : k ≡ times slots (slot_of n) + 1 = told.1 in
          omega arith),
      lacks_after class m k (slots ++ slot_of n ∷ []) ns p h all.1 low (omega arith) (omega arith),
    )

distinct_after : (class : List ℕ) (slots : List (List ℕ)) (ms : List MemberTree) → IsPlain class → AllByRecursion IsNamed ms
    → length slots + length ms < 2 ^ 64 → Distinct (keys_after class slots ms)
distinct_after class slots [] p all few = tt
distinct_after class slots (m ∷ ms) p all few =
    let more : times (slots ++ slot_of m ∷ []) (slot_of m) ≡ times slots (slot_of m) + 1 =
    times_more slots (slot_of m) (slot_of m) ∙ ap (λ (b : Bool). times slots (slot_of m) + cond b 1 0) (same_slot (slot_of m)) in
    let long : length (slots ++ slot_of m ∷ []) ≡ length slots + 1 = length-append slots (slot_of m ∷ []) in (
      lacks_after class m (times slots (slot_of m) + 1) (slots ++ slot_of m ∷ []) ms p all.0 all.1 (omega arith) (omega arith) (omega arith),
      distinct_after class (slots ++ slot_of m ∷ []) ms p all.1 (omega arith),
    )

-- ---- the keys of all units

-- what a key of the class is made of
abbrev IsOf : List ℕ → List ℕ → Type 0
IsOf class key = (tail : List ℕ) × Begins 46 tail × (key ≡ class ++ tail)

abbrev tail_of : MemberTree → ℕ → List ℕ
tail_of m k = tail_by (key_name m) (key_count m) k

is_of : (class : List ℕ) (m : MemberTree) (k : ℕ) → IsPlain class → IsNamed m → k < 2 ^ 64 → key_with class m k ≡ class ++ (46 ∷ tail_of m k)
is_of class m k p h few = key_is class (key_name m) (key_count m) k p (named_plain m h) (named_few m h) few ∙ append_assoc class (46 ∷ []) (tail_of m k)

-- the header's key is no member's
pub header_other : (class name : List ℕ) (count : Option ℕ) (k : ℕ) → IsPlain class → IsPlain name → IsFew count → k < 2 ^ 64 → text_of class ≢ member_key class name count k
header_other class name count k p q f few e =
    let raw : class ≡ class ++ (46 ∷ tail_by name count k) =
    sym (ascii_stays class (plain_ascii class p)) ∙ e ∙ key_is class name count k p q f few ∙ append_assoc class (46 ∷ []) (tail_by name count k) in
    omega (arith, ap length raw, length-append class (46 ∷ tail_by name count k))

header_lacks : (class : List ℕ) (slots : List (List ℕ)) (ms : List MemberTree) → IsPlain class → AllByRecursion IsNamed ms
    → length slots + length ms < 2 ^ 64 → Lacks (text_of class) (keys_after class slots ms)
header_lacks class slots [] p all few = tt
header_lacks class slots (m ∷ ms) p all few =
    let within : times slots (slot_of m) ≤ length slots = count_by-le-length (λ s. bytes_eq s (slot_of m)) slots in
    let long : length (slots ++ slot_of m ∷ []) ≡ length slots + 1 = length-append slots (slot_of m ∷ []) in (
      header_other class (key_name m) (key_count m) (times slots (slot_of m) + 1) p (named_plain m all.0) (named_few m all.0) (omega arith),
      header_lacks class (slots ++ slot_of m ∷ []) ms p all.1 (omega arith),
    )

pub units_distinct : (class : ClassTree) → HasNames class → Distinct (unit_keys class)
units_distinct class h =
    (header_lacks class.name.text [] class.members h.own h.members (omega arith), distinct_after class.name.text [] class.members h.own h.members (omega arith))

among_after : (class : List ℕ) (key : List ℕ) (slots : List (List ℕ)) (ms : List MemberTree) → IsPlain class → AllByRecursion IsNamed ms
    → length slots + length ms < 2 ^ 64 → IsAmong key (keys_after class slots ms) → IsOf class key
among_after class key slots [] p all few among = absurd among
among_after class key slots (m ∷ ms) p all few (inl is) =
    let within : times slots (slot_of m) ≤ length slots = count_by-le-length (λ s. bytes_eq s (slot_of m)) slots in
    (46 ∷ tail_of m (times slots (slot_of m) + 1), refl, is ∙ is_of class m (times slots (slot_of m) + 1) p all.0 (omega arith))
among_after class key slots (m ∷ ms) p all few (inr later) =
    let long : length (slots ++ slot_of m ∷ []) ≡ length slots + 1 = length-append slots (slot_of m ∷ []) in
    among_after class key (slots ++ slot_of m ∷ []) ms p all.1 (omega arith) later

key_of_class : (class : ClassTree) (key : List ℕ) → HasNames class → IsAmong key (unit_keys class) → IsOf class.name.text key
key_of_class class key h (inl is) = ([], tt, is ∙ ascii_stays class.name.text (plain_ascii class.name.text h.own) ∙ sym (append-nil class.name.text))
key_of_class class key h (inr later) = among_after class.name.text key [] class.members h.own h.members (omega arith) later

pub one_class : (a b : ClassTree) (key : List ℕ) → HasNames a → HasNames b → IsAmong key (unit_keys a) → IsAmong key (unit_keys b) → a.name.text ≡ b.name.text
one_class a b key h g one other =
    let (x, starts, is) = key_of_class a key h one in
    let (y, starts', is') = key_of_class b key g other in
    (cut 46 a.name.text b.name.text x y (plain_dot a.name.text h.own) (plain_dot b.name.text g.own) starts starts' (sym is ∙ is')).0
