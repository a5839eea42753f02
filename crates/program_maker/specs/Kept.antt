-- What the numbers of a program are kept as.
use Rattle.std.specs.Prelude.{ℕ, List, [], ◌∷◌, Option, Some, None, map}
use Rattle.std.specs.List.{slice_get}
use Rattle.std.specs.Borrow.{Bor}
use Rattle.std.specs.BTreeMap.{BTreeMap}
use Rattle.promise_scrub.specs.declared.surface.Surface.{Surface}
use Rattle.bound_unit.specs.UnitFacts.{UnitFacts}
use Rattle.lowering.specs.Numbers.{Numbers, or_zero}
use Rattle.program_maker.specs.declared.numbers.NameNumbers.{NameNumbers}
use Rattle.program_maker.specs.Seen.{Name}
use Rattle.program_maker.specs.Numbered.{number_at, HasNumbers, AreSeen}
use Rattle.program_maker.specs.Naming.{class_place, field_place, member_names, texts_of}
use Rattle.program_maker.specs.Program.{unit_place}

-- what is lent
abbrev pub surfaces_lent : List (Bor Surface) → List Surface
surfaces_lent list = map (λ (b : Bor Surface). b.now) list

abbrev pub units_lent : List (Bor UnitFacts) → List UnitFacts
units_lent list = map (λ (b : Bor UnitFacts). b.now) list

abbrev pub number_in : Option (BTreeMap (Bor Name) ℕ) → Name → Option ℕ
number_in None name = None
number_in (Some numbers) name = number_at numbers name

abbrev pub numbers_at : List (BTreeMap (Bor Name) ℕ) → Option ℕ → Option (BTreeMap (Bor Name) ℕ)
numbers_at list None = None
numbers_at list (Some i) = slice_get list i

-- the number of a field of the class
abbrev pub field_at : NameNumbers → Name → Name → Option ℕ
field_at n class field = number_in (numbers_at n.fields (number_at n.classes class)) field

abbrev pub numbers_as : NameNumbers → Numbers
numbers_as n = record {
  class = number_at n.classes;
  field = λ (c f : Name). or_zero (field_at n c f);
  member = λ (m : Name). or_zero (number_at n.members.numbers m);
  text = λ (t : Name). or_zero (number_at n.texts.numbers t);
}

-- of each class, in order, the places of its fields
abbrev pub FieldsNumbered : List (BTreeMap (Bor Name) ℕ) → List Surface → Type 0
FieldsNumbered [] [] = Unit {0}
FieldsNumbered [] (s ∷ ss) = ⊥
FieldsNumbered (m ∷ ms) [] = ⊥
FieldsNumbered (m ∷ ms) (s ∷ ss) = HasNumbers m (field_place s.fields) × FieldsNumbered ms ss

-- they are those of these types and units
pub record AreNumbers (n : NameNumbers) (types : List Surface) (added : List UnitFacts) : Type 0 where
  pub classes : HasNumbers n.classes (class_place types)
  pub fields : FieldsNumbered n.fields types
  pub members : AreSeen n.members (member_names types)
  pub texts : AreSeen n.texts (texts_of added)
  pub units : HasNumbers n.units (unit_place added)
