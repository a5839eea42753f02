-- What `entry_at` reads is an entry as it is written, and an entry as it is written is read.
use Rattle.std.proofs.Common.{◌≡◌, ℕ, ◌<◌, ◌≤◌, Bool, true, false, List, [], ◌∷◌, ◌++◌, length, take, drop, cond, Some, None, Option, refl, ap, sym, ◌∙◌, arith, IsTrue, append_assoc, codes, ltb, subst, ◌&&◌}
use Rattle.std.specs.Option.{option_map, IfSome, IsSomeAnd}
use Rattle.std.specs.Char.{is_ascii_digit}
use Rattle.std.specs.List.{list_all, prefix_len, take_while}
use Rattle.std.specs.Fmt.{decimal}
use Rattle.std.proofs.lemmas.List.{take-append-drop, length-take-le, length-append}
use Rattle.std.proofs.Math.Seq.{drop-append_seam}
use Rattle.std.proofs.lemmas.Bool.{ltb-false, le-ltb}
use Rattle.bundle.specs.Path.{is_path_byte, is_good_path}
use Rattle.bundle.specs.Entry.{Entry, IsEntry, entry_bytes}
use Rattle.bundle.specs.Reading.{◌>>=◌, stripped, number_of, text_at, Line, line_of, after_digits, after_path, after_word, line_at, entry_with, after_line, entry_at}
use Rattle.bundle.proofs.Fronts.{stripped_is, take_while-front, drop_while-front, passes-take_while, take-front}
use Rattle.bundle.proofs.Numbers.{number_is, number_again, decimal_is_digits}

-- a step that gave something took something
pub bind_some : {A B : Type 0} (r : Option A) (f : A → Option B) (y : B) → (r >>= f) ≡ Some y → (x : A) × (r ≡ Some x) × (f x ≡ Some y)
bind_some (Some x) f y e = (x, refl, e)
bind_some None f y e = cc

pub some_is : {A : Type 0} (x y : A) → Some x ≡ Some y → x ≡ y
some_is x y e = cc

when_by : {A : Type 0} (b : Bool) (x y : A) → cond b (Some x) None ≡ Some y → (b ≡ true) × (x ≡ y)
when_by true x y e = (refl, cc)
when_by false x y e = cc

unless_by : {A : Type 0} (b : Bool) (r : Option A) (y : A) → cond b None r ≡ Some y → (b ≡ false) × (r ≡ Some y)
unless_by true r y e = cc
unless_by false r y e = (refl, e)

text_is : (n : ℕ) (bytes text rest : List ℕ) → text_at n bytes ≡ Some (text, rest) → (length text ≡ n) × (bytes ≡ text ++ (10 ∷ rest))
unfolding text_at
text_is n bytes text rest e =
    let held = unless_by (ltb (length bytes) n) (stripped (10 ∷ []) (drop n bytes) >>= λ after. Some (take n bytes, after)) (text, rest) e in
    let step = bind_some (stripped (10 ∷ []) (drop n bytes)) (λ after. Some (take n bytes, after)) (text, rest) held.1 in
    let pair = some_is _ _ step.2 in
    let front : take n bytes ≡ text = ap (λ p. p.0) pair in
    let after : step.0 ≡ rest = ap (λ p. p.1) pair in
    let room : n ≤ length bytes = ltb-false _ _ held.0 in (
      ap length (sym front) ∙ length-take-le n bytes room,
      sym (take-append-drop n bytes) ∙ ap (λ l. l ++ drop n bytes) front ∙ ap (λ l. text ++ l) (stripped_is (10 ∷ []) (drop n bytes) step.0 step.1) ∙ ap (λ l. text ++ (10 ∷ l)) after,
    )

text_again : (text rest : List ℕ) → text_at (length text) (text ++ (10 ∷ rest)) ≡ Some (text, rest)
unfolding text_at
text_again text rest =
    let room : ltb (length (text ++ (10 ∷ rest))) (length text) ≡ false = le-ltb _ _ (omega (arith, length-append text (10 ∷ rest))) in
    rw (room, drop-append_seam text (10 ∷ rest), take-front text (10 ∷ rest)) refl

record IsLine (bytes : List ℕ) (line : Line) : Type 0 where
  good : IsTrue (is_good_path line.0)
  short : line.1 < 1000000000
  whole : bytes ≡ codes "file " ++ (line.0 ++ (codes " " ++ (decimal line.1 ++ (10 ∷ line.2))))

digits_is : (path digits rest : List ℕ) (line : Line) → list_all is_ascii_digit digits ≡ true → after_digits path digits rest ≡ Some line → IsTrue (is_good_path line.0) × (line.1 < 1000000000) × (line.0 ≡ path) × (decimal line.1 ≡ digits) × (line.2 ≡ rest)
digits_is path digits rest line all e =
    let step = bind_some (number_of digits) (line_of path rest) line e in
    let good = when_by (is_good_path path) (path, step.0, rest) line step.2 in
    let number = number_is digits step.0 all step.1 in
    let same : line.0 ≡ path = ap (λ l. l.0) (sym good.1) in
    let P : List ℕ → Type 0 = λ p. IsTrue (is_good_path p) in
    let len : line.1 ≡ step.0 = ap (λ l. l.1) (sym good.1) in
    (subst P (sym same) good.0, rw len number.0, same, ap decimal len ∙ number.1, ap (λ l. l.2) (sym good.1))

same_line : (path digits rest : List ℕ) (line : Line) → line.0 ≡ path → decimal line.1 ≡ digits → line.2 ≡ rest → path ++ (codes " " ++ (digits ++ (10 ∷ rest))) ≡ line.0 ++ (codes " " ++ (decimal line.1 ++ (10 ∷ line.2)))
same_line path digits rest line p d r = ap (λ l. l ++ (codes " " ++ (digits ++ (10 ∷ rest)))) (sym p) ∙ ap (λ l. line.0 ++ (codes " " ++ (l ++ (10 ∷ rest)))) (sym d) ∙ ap (λ l. line.0 ++ (codes " " ++ (decimal line.1 ++ (10 ∷ l)))) (sym r)

line_is : (bytes : List ℕ) (line : Line) → line_at bytes ≡ Some line → IsLine bytes line
unfolding line_at
line_is bytes line e =
    let word = bind_some (stripped (codes "file ") bytes) after_word line e in
    let after = word.0 in
    let path = take_while is_path_byte after in
    let blank = bind_some (stripped (codes " ") (drop (prefix_len is_path_byte after) after)) (after_path path) line word.2 in
    let named = blank.0 in
    let digits = take_while is_ascii_digit named in
    let ended = bind_some (stripped (10 ∷ []) (drop (prefix_len is_ascii_digit named) named)) (after_digits path digits) line blank.2 in
    let facts = digits_is path digits ended.0 line (passes-take_while is_ascii_digit named) ended.2 in
    let numbered : named ≡ digits ++ (10 ∷ ended.0) = sym (take-append-drop (prefix_len is_ascii_digit named) named) ∙ ap (λ l. digits ++ l) (stripped_is (10 ∷ []) _ ended.0 ended.1) in
    let pathed : after ≡ path ++ (codes " " ++ named) = sym (take-append-drop (prefix_len is_path_byte after) after) ∙ ap (λ l. path ++ l) (stripped_is (codes " ") _ named blank.1) in
    record {
      good = facts.0;
      short = facts.1;
      whole = stripped_is (codes "file ") bytes after word.1 ∙ ap (λ l. codes "file " ++ l) (pathed ∙ ap (λ l. path ++ (codes " " ++ l)) numbered
          ∙ same_line path digits ended.0 line facts.2 facts.3 facts.4);
    }

and_both : (a b : Bool) → (a && b) ≡ true → (a ≡ true) × (b ≡ true)
and_both true b e = (refl, e)
and_both false b e = cc

good_parts : (path : List ℕ) → IsTrue (is_good_path path) → list_all is_path_byte path ≡ true
good_parts path good = (and_both _ _ (and_both _ _ (and_both _ _ good).0).0).1

line_again : (path : List ℕ) (n : ℕ) (rest : List ℕ) → IsTrue (is_good_path path) → n < 1000000000 → line_at (codes "file " ++ (path ++ (codes " " ++ (decimal n ++ (10 ∷ rest))))) ≡ Some (path, n, rest)
unfolding line_at
line_again path n rest good small =
    let digits = decimal n ++ (10 ∷ rest) in
    let all = good_parts path good in
    let some = decimal_is_digits n small in
    rw (
      drop_while-front is_path_byte path 32 digits all refl,
      take_while-front is_path_byte path 32 digits all refl,
      drop_while-front is_ascii_digit (decimal n) 10 rest some refl,
      take_while-front is_ascii_digit (decimal n) 10 rest some refl,
      number_again n small,
      good,
    ) refl

abbrev entry_of : List ℕ → List ℕ → Entry
entry_of path text = record { path = path; text = text }

regroup : (path digits text rest : List ℕ) → codes "file " ++ (path ++ (codes " " ++ (digits ++ (10 ∷ (text ++ (10 ∷ rest)))))) ≡ codes "file " ++ (path ++ (codes " " ++ (digits ++ (10 ∷ (text ++ (10 ∷ [])))))) ++ rest
regroup path digits text rest = simp append_assoc

entry_by : (bytes path : List ℕ) (n : ℕ) (text after : List ℕ) (e : Entry) (rest : List ℕ) → IsTrue (is_good_path path) → n < 1000000000 → length text ≡ n → bytes ≡ codes "file " ++ (path ++ (codes " " ++ (decimal n ++ (10 ∷ (text ++ (10 ∷ after)))))) → entry_of path text ≡ e → after ≡ rest → IsEntry e × (bytes ≡ entry_bytes e ++ rest)
entry_by bytes path n text after e rest good short len whole same is =
    let P : Entry × List ℕ → Type 0 = λ p. IsEntry p.0 × (bytes ≡ entry_bytes p.0 ++ p.1) in
    let here : P (entry_of path text, after) = (record { path = good; short = rw len short }, whole ∙ rw (← len) (regroup path (decimal (length text)) text after)) in
    subst P (ap (λ x. (x, after)) same ∙ ap (λ l. (e, l)) is) here

pub entry_is : (bytes : List ℕ) (e : Entry) (rest : List ℕ) → entry_at bytes ≡ Some (e, rest) → IsEntry e × (bytes ≡ entry_bytes e ++ rest)
unfolding entry_at
entry_is bytes e rest is =
    let first = bind_some (line_at bytes) after_line (e, rest) is in
    let line = first.0 in
    let second = bind_some (text_at line.1 line.2) (entry_with line.0) (e, rest) first.2 in
    let text = second.0 in
    let spelled = line_is bytes line first.1 in
    let held = text_is line.1 line.2 text.0 text.1 second.1 in
    let pair = some_is _ _ second.2 in
    let same : entry_of line.0 text.0 ≡ e = ap (λ p. p.0) pair in
    let after : text.1 ≡ rest = ap (λ p. p.1) pair in
    entry_by bytes line.0 line.1 text.0 text.1 e rest spelled.good spelled.short held.0 (spelled.whole ∙ ap (λ l. codes "file " ++ (line.0 ++ (codes " " ++ (decimal line.1 ++ (10 ∷ l))))) held.1) same after

pub entry_again : (e : Entry) (rest : List ℕ) → IsEntry e → entry_at (entry_bytes e ++ rest) ≡ Some (e, rest)
unfolding entry_at
entry_again e rest fits =
    rw (← regroup e.path (decimal (length e.text)) e.text rest) (rw (line_again e.path (length e.text) (e.text ++ (10 ∷ rest)) fits.path fits.short, text_again e.text rest) refl)

-- what an answer that is read says, and that what is written is answered
pub found_law : {X : Type 0} (view : X → Entry × List ℕ) (r : Option X) (bytes : List ℕ) → option_map view r ≡ entry_at bytes → IfSome r (λ x. IsEntry (view x).0 × (bytes ≡ entry_bytes (view x).0 ++ (view x).1))
found_law view None bytes e = tt
found_law view (Some x) bytes e = entry_is bytes (view x).0 (view x).1 (sym e)

pub only_law : {X : Type 0} (view : X → Entry × List ℕ) (r : Option X) (bytes : List ℕ) → option_map view r ≡ entry_at bytes → (e : Entry) (rest : List ℕ) → IsEntry e → bytes ≡ entry_bytes e ++ rest → IsSomeAnd r (λ x. ((view x).0 ≡ e) × ((view x).1 ≡ rest))
only_law view r bytes is e rest fits whole = only_by view r e rest (is ∙ ap entry_at whole ∙ entry_again e rest fits)
  where
    only_by : {X : Type 0} (view : X → Entry × List ℕ) (r : Option X) (e : Entry) (rest : List ℕ) → option_map view r ≡ Some (e, rest) → IsSomeAnd r (λ x. ((view x).0 ≡ e) × ((view x).1 ≡ rest))
    only_by view None e rest is = cc
    only_by view (Some x) e rest is = let same = some_is _ _ is in (ap (λ p. p.0) same, ap (λ p. p.1) same)
