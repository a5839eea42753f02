-- How expressions and statements use temporaries, whatever is asked of each: what an expression gives suits what is done with it.
-- No code is named but one instruction at a time.
use Rattle.std.specs.Prelude.{◌≡◌, ℕ, Bool, true, false, List, [], ◌∷◌, Option, Some, None, reverse}
use Rattle.bound_tree.specs.Claim as claim
use Rattle.bound_tree.specs.declared.tree.UnaryOp.TheVariants as unary
use Rattle.bound_tree.specs.declared.name.ValueType.{ValueType}
use Rattle.bound_tree.specs.declared.unit.Part.{Part}
use Rattle.bound_tree.specs.declared.unit.Part.TheVariants as part
use Rattle.bound_tree.specs.Reading.{statement_of}
use Rattle.bound_tree.specs.Tree.{Term, Terms, Statement, Statements, stamp_of}
use Rattle.bound_tree.specs.Tree as t
use Rattle.bound_tree.specs.Claims.{claim_of, varies_of}
use Rattle.core_model.specs.declared.instr.Op.{Op}
use Rattle.core_types.specs.Slots.{Use, Goes, Leaves, Uses}
use Rattle.lowering.specs.declared.instr.NamedNote.{NamedNote}
use Rattle.lowering.specs.declared.instr.NamedPlain.{NamedPlain}
use Rattle.lowering.specs.declared.instr.NamedPlain.TheVariants as plain
use Rattle.lowering.specs.declared.instr.Constant.{Constant}
use Rattle.lowering.specs.declared.instr.Constant.TheVariants as constant
use Rattle.lowering.specs.Lower.{plainly, classed, claimed, least, constant_of, is_over_all, count, made, has_value}
use Rattle.lowering.specs.Numbers.{Numbers, note_number, plain_number, class_number}

-- what is asked of temporaries of the kind S: what suits what, what the instructions use, and the numbers of names
pub record Kind (S : Type 0) : Type 1 where
  pub Suits : S → S → Type 0
  pub uses : Uses S
  pub numbers : Numbers

-- what a named instruction uses
abbrev pub used : {S : Type 0} → Kind S → NamedNote → NamedPlain → Use S
used K n i = K.uses.use_by (note_number K.numbers n) (plain_number K.numbers n.known i)

-- it takes these and gives those, top first
abbrev pub Turns : {S : Type 0} → Kind S → NamedNote → NamedPlain → List S → List S → Type 0
Turns K n i takes gives = used K n i ≡ Goes takes gives

-- one of two demands
abbrev pub Chosen : Bool → Type 0 → Type 0 → Type 0
Chosen true P Q = P
Chosen false P Q = Q

-- ---- expressions

abbrev pub Pushes : {S : Type 0} → Kind S → ℕ → Constant → S → Type 0
Pushes K p v g = Turns K (plainly p) (plain.Const v) [] (g ∷ [])

-- what an expression gives
abbrev mutual
  pub Gives : {S : Type 0} → Kind S → Term → S → Type 0
  Gives K (t.Const s l) g = Pushes K s.at (constant_of l) g
  Gives K (t.This s) g = Turns K (plainly s.at) (plain.Get 0) [] (g ∷ [])
  Gives K (t.Local s x) g = Turns K (plainly s.at) (plain.Get x) [] (g ∷ [])
  Gives {S} K (t.Field s b f) g =
      (v : S) × (w : S) × Gives K b v × K.Suits v w × Turns K (classed s.at f.class) (plain.Field f.name) (w ∷ []) (g ∷ [])
  Gives K (t.Static s f) g = Turns K (classed s.at f.class) (plain.Static f.class f.name) [] (g ∷ [])
  Gives {S} K (t.New s c es) g =
      (ws : List S) × GivesAll K es ws × Turns K (plainly s.at) (made c (count es)) (reverse ws) (g ∷ [])
  Gives {S} K (t.Call s r m es) g =
      (v : S) × (w : S) × (ws : List S) × Gives K r v × K.Suits v w × GivesAll K es ws
      × Turns K (classed s.at m.class) (plain.Call m.name (count es)) (reverse (w ∷ ws)) (g ∷ [])
  Gives {S} K (t.CallStatic s m es) g =
      (ws : List S) × GivesAll K es ws
      × Turns K (classed s.at m.class) (plain.CallStatic m.class m.name (count es)) (reverse ws) (g ∷ [])
  Gives K (t.Unknown s n es) g = ⊥
  Gives K (t.UnknownField s b n) g = ⊥
  Gives K (t.UnknownCall s r n es) g = ⊥
  Gives {S} K (t.Unary s unary.Not a) g =
      (v : S) × (w : S) × Gives K a v × K.Suits v w × Turns K (plainly s.at) plain.Not (w ∷ []) (g ∷ [])
  Gives {S} K (t.Unary s unary.Negate a) g =
      Chosen (is_over_all a) (Pushes K s.at (constant.Int least) g)
      ((v : S) × (w : S) × Gives K a v × K.Suits v w × Turns K (plainly s.at) plain.Neg (w ∷ []) (g ∷ []))
  Gives {S} K (t.And s a b) g =
      (v : S) × (x : S) × (y : S) × Gives K a v × K.Suits v K.uses.flag × Gives K b x × Pushes K s.at (constant.Boolean false) y
      × ((w : S) → K.Suits g w → K.Suits x w × K.Suits y w)
  Gives {S} K (t.Or s a b) g =
      (v : S) × (x : S) × (y : S) × Gives K a v × K.Suits v K.uses.flag × Gives K b x × Pushes K s.at (constant.Boolean true) y
      × ((w : S) → K.Suits g w → K.Suits x w × K.Suits y w)
  Gives {S} K (t.Binary s o a b) g =
      (v : S) × (left : S) × (x : S) × (right : S) × Gives K a v × K.Suits v left × Gives K b x × K.Suits x right
      × Turns K (plainly s.at) (plain.Op o) (right ∷ left ∷ []) (g ∷ [])

  -- arguments, the first one first, give what suits these
  pub GivesAll : {S : Type 0} → Kind S → Terms → List S → Type 0
  GivesAll K t.no_terms ws = ws ≡ []
  GivesAll {S} K (t.term e es) ws =
      (v : S) × (w : S) × (rest : List S) × Gives K e v × K.Suits v w × GivesAll K es rest × (ws ≡ w ∷ rest)

-- a minus before another expression than the literal 2147483648
abbrev pub Negates : {S : Type 0} → Kind S → ℕ → Term → S → Type 0
Negates {S} K p a g = (v : S) × (w : S) × Gives K a v × K.Suits v w × Turns K (plainly p) plain.Neg (w ∷ []) (g ∷ [])

-- the expression gives what suits this
abbrev pub GivenTo : {S : Type 0} → Kind S → Term → S → Type 0
GivenTo {S} K e w = (v : S) × Gives K e v × K.Suits v w

-- ---- assignments, by their target

abbrev pub Assigns : {S : Type 0} → Kind S → Term → Term → Type 0
Assigns {S} K (t.Local s x) v = (w : S) × GivenTo K v w × Turns K (plainly s.at) (plain.Set x) (w ∷ []) []
Assigns {S} K (t.Field s b f) v =
    (x : S) × (w : S) × GivenTo K b x × GivenTo K v w × Turns K (classed s.at f.class) (plain.PutField f.name) (w ∷ x ∷ []) []
Assigns {S} K (t.Static s f) v =
    (w : S) × GivenTo K v w × Turns K (classed s.at f.class) (plain.PutStatic f.class f.name) (w ∷ []) []
Assigns K to v = ⊥

-- the old value on the left, the new one on the right, and what they give where it is written
abbrev pub Steps : {S : Type 0} → Kind S → ℕ → Op → Term → S → S → Type 0
Steps {S} K p o v old w =
    (left : S) × (right : S) × (sum : S) × K.Suits old left × GivenTo K v right
    × Turns K (plainly p) (plain.Op o) (right ∷ left ∷ []) (sum ∷ []) × K.Suits sum w

abbrev pub Changes : {S : Type 0} → Kind S → Term → Op → Term → Type 0
Changes {S} K (t.Local s x) o v =
    (old : S) × (w : S) × Turns K (plainly s.at) (plain.Get x) [] (old ∷ []) × Steps K s.at o v old w
    × Turns K (plainly s.at) (plain.Set x) (w ∷ []) []
Changes {S} K (t.Field s b f) o v =
    (x : S) × (old : S) × (kept : S) × (w : S) × (base : S) × GivenTo K b x
    × Turns K (classed s.at f.class) (plain.FieldKeep f.name) (x ∷ []) (old ∷ kept ∷ []) × Steps K s.at o v old w
    × Turns K (classed s.at f.class) (plain.PutField f.name) (w ∷ base ∷ []) [] × K.Suits kept base
Changes {S} K (t.Static s f) o v =
    (old : S) × (w : S) × Turns K (classed s.at f.class) (plain.Static f.class f.name) [] (old ∷ []) × Steps K s.at o v old w
    × Turns K (classed s.at f.class) (plain.PutStatic f.class f.name) (w ∷ []) []
Changes K to o v = ⊥

-- ---- statements

-- a call without result
abbrev pub Runs : {S : Type 0} → Kind S → Term → Type 0
Runs {S} K (t.Call s r m es) =
    (w : S) × (ws : List S) × GivenTo K r w × GivesAll K es ws
    × Turns K (classed s.at m.class) (plain.Call m.name (count es)) (reverse (w ∷ ws)) []
Runs {S} K (t.CallStatic s m es) =
    (ws : List S) × GivesAll K es ws × Turns K (classed s.at m.class) (plain.CallStatic m.class m.name (count es)) (reverse ws) []
Runs K e = ⊥

abbrev pub Drops : {S : Type 0} → Kind S → Term → Type 0
Drops {S} K v = (w : S) × GivenTo K v w × Turns K (plainly (stamp_of v).at) plain.Drop (w ∷ []) []

abbrev mutual
  pub Fits : {S : Type 0} → Kind S → (ℕ → Bool) → Statement → Type 0
  Fits K varies (t.Block ss) = FitsAll K varies ss
  Fits {S} K varies (t.Declare p x ty v) = (w : S) × GivenTo K v w × Turns K (plainly p) (plain.Set x) (w ∷ []) []
  Fits K varies (t.Assign to v) = Assigns K to v
  Fits K varies (t.Compound to o v) = Changes K to o v
  Fits K varies (t.Perform v) = Chosen (has_value v) (Drops K v) (Runs K v)
  Fits {S} K varies (t.Start p v) = (w : S) × GivenTo K v w × Turns K (plainly p) plain.Start (w ∷ []) []
  Fits K varies (t.If v a b) = GivenTo K v K.uses.flag × Fits K varies a × Fits K varies b
  Fits K varies (t.While v a) = GivenTo K v K.uses.flag × Fits K varies a
  Fits K varies (t.Sync v a) =
      GivenTo K v (K.uses.monitor (note_number K.numbers (claimed (stamp_of v).first (claim_of varies v)))) × Fits K varies a
  Fits K varies (t.SyncClass p c a) = (K.uses.there (class_number K.numbers c) ≡ true) × Fits K varies a
  Fits K varies (t.Return p) = used K (plainly p) plain.Return ≡ Leaves []
  Fits {S} K varies (t.ReturnValue p v) = (w : S) × GivenTo K v w × (used K (plainly p) plain.ReturnValue ≡ Leaves (w ∷ []))

  pub FitsAll : {S : Type 0} → Kind S → (ℕ → Bool) → Statements → Type 0
  FitsAll K varies t.no_statements = Unit {0}
  FitsAll K varies (t.statement s ss) = Fits K varies s × FitsAll K varies ss

-- ---- units

-- the monitor that a synchronized member holds round its body is there
abbrev pub Enters : {S : Type 0} → Kind S → List ℕ → (synchronized static : Bool) → Type 0
Enters K c false static = Unit {0}
Enters {S} K c true false =
    (g : S) × Turns K (plainly 0) (plain.Get 0) [] (g ∷ [])
    × K.Suits g (K.uses.monitor (note_number K.numbers (claimed 0 (Some (claim.Local 0)))))
Enters K c true true = K.uses.there (class_number K.numbers c) ≡ true

-- the loop of an interface's method asks for a boolean
abbrev pub Loops : {S : Type 0} → Kind S → Type 0
Loops {S} K = (g : S) × Pushes K 0 (constant.Boolean true) g × K.Suits g K.uses.flag

abbrev pub SigFits : {S : Type 0} → Kind S → Option ValueType → Type 0
SigFits K None = Unit {0}
SigFits K (Some ty) = Loops K

abbrev pub PartFits : {S : Type 0} → Kind S → List ℕ → Part → Type 0
PartFits K c (part.Header names) = Unit {0}
PartFits K c (part.Field ty initial) = Unit {0}
PartFits K c (part.Sig params result) = SigFits K result
PartFits K c (part.Body b) =
    Enters K c b.is_synchronized b.is_static × Fits K (varies_of (statement_of b.block)) (statement_of b.block)
