-- Boolean tests that hold.
use Rattle.std.proofs.Common.{◌≡◌, refl, Bool, true, false, ◌&&◌, ◌||◌, if◌then◌else◌}

pub or-left : (a b : Bool) → a ≡ true → (a || b) ≡ true
or-left true b e = refl
or-left false b e = cc

pub or-right : (a b : Bool) → b ≡ true → (a || b) ≡ true
or-right true b e = refl
or-right false b e = e

pub picks : (b j k : Bool) → (j ≡ true → k ≡ true) → (if b then true else j) ≡ true → (if b then true else k) ≡ true
picks true j k h e = refl
picks false j k h e = h e

pub cuts : (b j k : Bool) → (j ≡ true → k ≡ true) → (if b then false else j) ≡ true → (if b then false else k) ≡ true
cuts true j k h e = e
cuts false j k h e = h e

pub picked : (b k : Bool) → k ≡ true → (if b then true else k) ≡ true
picked true k e = refl
picked false k e = e

pub and-false : (b : Bool) → (b && false) ≡ false
and-false true = refl
and-false false = refl

pub false-true : {A : Type 0} → false ≡ true → A
false-true e = cc
