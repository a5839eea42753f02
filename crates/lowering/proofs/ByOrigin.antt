-- What a tree's table tells is how its typed expressions and statements use their operands.
use Rattle.std.proofs.Common.{◌≡◌, refl, ℕ, suc, ◌+◌, Bool, true, false, List, [], ◌∷◌, ◌++◌, Option, Some, None, if◌then◌else◌, reverse, sym, ap, ◌∙◌, subst, arith, codes}
use Rattle.std.proofs.lemmas.List.{reverse-append}
use Rattle.std.specs.Str.{bytes_eq}
use Rattle.core_model.specs.declared.program.Program.{Program}
use Rattle.core_model.specs.declared.instr.Op.{Op}
use Rattle.core_types.specs.Types.{Ty, Types, of_unit}
use Rattle.core_types.specs.Slots.{Use, Goes, Leaves}
use Rattle.core_types.specs.Origins.{Origin, OriginSuits, Operands, operands_of, monitor_origin}
use Rattle.bound_tree.specs.Claim.{Claim}
use Rattle.bound_tree.specs.Claim as claim
use Rattle.bound_tree.specs.declared.name.ValueType.{ValueType}
use Rattle.bound_tree.specs.declared.unit.Part.{Part}
use Rattle.bound_tree.specs.declared.unit.Part.TheVariants as part
use Rattle.bound_tree.specs.declared.tree.UnaryOp.TheVariants as unary
use Rattle.bound_tree.specs.Tree.{Term, Terms, Statement, Statements, stamp_of}
use Rattle.bound_tree.specs.Tree as t
use Rattle.bound_tree.specs.Reading.{statement_of}
use Rattle.bound_tree.specs.Claims.{claim_of, field_claim, value_claim, local_claim, varies_of}
use Rattle.lowering.specs.declared.instr.NamedPlain.TheVariants as plain
use Rattle.lowering.specs.declared.instr.Constant.TheVariants as constant
use Rattle.lowering.specs.Lower.{plainly, monitor_of, least, is_over_all, count, has_value}
use Rattle.lowering.specs.Numbers.{Numbers, known_number}
use Rattle.lowering.specs.Operands.{Kind, Chosen, Negates, used, Pushes, Gives, GivesAll, GivenTo, Assigns, Steps, Changes, Runs, Drops, Fits, FitsAll, Enters, SigFits, PartFits}
use Rattle.lowering.specs.Kinds.{types_asked, origins_asked}
use Rattle.lowering.specs.Origins.{origin, origins_of, Tells, TellsAll, Told, ToldAll, PartTold}

itself : (s : Origin) → OriginSuits s s
itself None = tt
itself (Some m) = refl

unnamed : (w : Origin) → OriginSuits None w → w ≡ None
unnamed None h = refl
unnamed (Some m) h = absurd (let no : ⊥ = cc in no)

one-more : (n : ℕ) → n + 1 ≡ suc n
one-more n = omega arith

counted : (es : Terms) → operands_of (count es) (origins_of es) ≡ origins_of es
counted t.no_terms = refl
counted (t.term e es) =
    ap (λ (n : ℕ). operands_of n (origin e ∷ origins_of es)) (one-more (count es)) ∙ ap (λ (l : List Origin). origin e ∷ l) (counted es)

counted-on : (o : Origin) (es : Terms) → operands_of (count es + 1) (o ∷ origins_of es) ≡ o ∷ origins_of es
counted-on o es =
    ap (λ (n : ℕ). operands_of n (o ∷ origins_of es)) (one-more (count es)) ∙ ap (λ (l : List Origin). o ∷ l) (counted es)

never-empty : {A : Type 0} (x : A) (xs : List A) → reverse (x ∷ xs) ≡ [] → ⊥
never-empty {A = A} x xs h = none (reverse xs) (sym (reverse-append (x ∷ []) xs) ∙ h)
  where
    none : (ys : List A) → ys ++ x ∷ [] ≡ [] → ⊥
    none [] e = cc
    none (y ∷ ys) e = cc

abbrev takes_first : {S : Type 0} → Use S → List S
takes_first (Goes takes gives) = takes
takes_first (Leaves takes) = takes
takes_first _ = []

-- a monitor that is claimed by a local is named by that local
named : (r : Numbers) (varies : ℕ → Bool) (v : Term) → OriginSuits (origin v) (monitor_origin (known_number r (monitor_of (claim_of varies v))))
named r varies (t.This s) = refl
named r varies (t.Local s x) = chosen (varies x)
  where
    chosen : (b : Bool) → OriginSuits (Some x) (monitor_origin (known_number r (monitor_of (value_claim (if b then None else Some x)))))
    chosen true = tt
    chosen false = refl
named r varies (t.Field s b f) = chosen f.is_lock (local_claim varies b)
  where
    chosen : (b : Bool) (o : Option ℕ) → OriginSuits None (monitor_origin (known_number r (monitor_of (field_claim b o f))))
    chosen true None = tt
    chosen true (Some x) = tt
    chosen false o = tt
named r varies (t.Static s f) = chosen f.is_lock
  where
    chosen : (b : Bool) → OriginSuits None (monitor_origin (known_number r (monitor_of (if b then Some (claim.Static f.class f.name) else None))))
    chosen true = tt
    chosen false = tt
named r varies (t.Const s l) = tt
named r varies (t.New s c es) = tt
named r varies (t.Call s e m es) = tt
named r varies (t.CallStatic s m es) = tt
named r varies (t.Unknown s n es) = tt
named r varies (t.UnknownField s b n) = tt
named r varies (t.UnknownCall s e n es) = tt
named r varies (t.Unary s o a) = tt
named r varies (t.And s a b) = tt
named r varies (t.Or s a b) = tt
named r varies (t.Binary s o a b) = tt

module _ (p : Program) (T : Types) (O : Operands) (u : ℕ) (r : Numbers) where
  abbrev TK : Kind Ty
  TK = types_asked p T (of_unit T u) r

  abbrev OK : Kind Origin
  OK = origins_asked p T O u r

  -- `new`: of `Object` there are no arguments
  makes : (q : ℕ) (c : List ℕ) (es : Terms) (ts : List Ty) (g : Ty) (b : Bool)
      → GivesAll TK es ts → used TK (plainly q) (if b then plain.MakePlain else plain.Make c (count es)) ≡ Goes (reverse ts) (g ∷ [])
      → O u q ≡ origins_of es
      → used OK (plainly q) (if b then plain.MakePlain else plain.Make c (count es)) ≡ Goes (reverse (origins_of es)) (None ∷ [])
  makes q c t.no_terms ts g true h e o = refl
  makes q c (t.term x xs) ts g true h e o =
      absurd (never-empty h.1 h.2 (ap reverse (sym h.6) ∙ sym (ap takes_first e)))
  makes q c es ts g false h e o = rw (o, counted es) refl

  both : (g : Origin) → (w : Origin) → OriginSuits None w → OriginSuits g w × OriginSuits None w
  both g w s = subst (λ (v : Origin). OriginSuits g v × OriginSuits None v) (sym (unnamed w s)) (tt, tt)

  negated : (q : ℕ) (a : Term) (g : Ty) (b : Bool)
      → Chosen b (Pushes TK q (constant.Int least) g) (Negates TK q a g)
      → ((v : Ty) → Gives TK a v → Gives OK a (origin a))
      → Chosen b (Pushes OK q (constant.Int least) None) (Negates OK q a None)
  negated q a g true h go = refl
  negated q a g false h go = (origin a, None, go h.0 h.2, tt, refl)

  mutual
    gives : (e : Term) (g : Ty) → Gives TK e g → Tells (O u) e → Gives OK e (origin e)
    gives (t.Const s l) g h o = refl
    gives (t.This s) g h o = refl
    gives (t.Local s x) g h o = refl
    gives (t.Field s b f) g h o = (origin b, origin b, gives b h.0 h.2 o.1, itself (origin b), rw o.0 refl)
    gives (t.Static s f) g h o = refl
    gives (t.New s c es) g h o =
        (origins_of es, gives_all es h.0 h.1 o.1, makes s.at c es h.0 g (bytes_eq c (codes "Object")) h.1 h.2 o.0)
    gives (t.Call s e m es) g h o = (
      origin e,
      origin e,
      origins_of es,
      gives e h.0 h.3 o.1,
      itself (origin e),
      gives_all es h.2 h.5 o.2,
      rw (o.0, counted-on (origin e) es, h.6) refl,
    )
    gives (t.CallStatic s m es) g h o = (origins_of es, gives_all es h.0 h.1 o.1, rw (o.0, counted es, h.2) refl)
    gives (t.Unknown s n es) g h o = absurd h
    gives (t.UnknownField s b n) g h o = absurd h
    gives (t.UnknownCall s e n es) g h o = absurd h
    gives (t.Unary s unary.Not a) g h o = (origin a, None, gives a h.0 h.2 o, tt, refl)
    gives (t.Unary s unary.Negate a) g h o = negated s.at a g (is_over_all a) h (λ (v : Ty) (i : Gives TK a v). gives a v i o)
    gives (t.And s a b) g h o = (origin a, origin b, None, gives a h.0 h.3 o.0, tt, gives b h.1 h.5 o.1, refl, both (origin b))
    gives (t.Or s a b) g h o = (origin a, origin b, None, gives a h.0 h.3 o.0, tt, gives b h.1 h.5 o.1, refl, both (origin b))
    gives (t.Binary s i a b) g h o = (origin a, None, origin b, None, gives a h.0 h.4 o.0, tt, gives b h.2 h.6 o.1, tt, refl)

    gives_all : (es : Terms) (ts : List Ty) → GivesAll TK es ts → TellsAll (O u) es → GivesAll OK es (origins_of es)
    gives_all t.no_terms ts h o = refl
    gives_all (t.term e es) ts h o =
        (origin e, origin e, origins_of es, gives e h.0 h.3 o.0, itself (origin e), gives_all es h.2 h.5 o.1, refl)

  any : (e : Term) (w : Ty) → GivenTo TK e w → Tells (O u) e → GivenTo OK e None
  any e w h o = (origin e, gives e h.0 h.1 o, tt)

  own : (e : Term) (w : Ty) → GivenTo TK e w → Tells (O u) e → GivenTo OK e (origin e)
  own e w h o = (origin e, gives e h.0 h.1 o, itself (origin e))

  assigns : (to v : Term) → Assigns TK to v → Tells (O u) to → Tells (O u) v → Assigns OK to v
  assigns (t.Local s x) v h o i = (None, any v h.0 h.1 i, refl)
  assigns (t.Field s b f) v h o i = (origin b, None, own b h.0 h.2 o.1, any v h.1 h.3 i, rw o.0 refl)
  assigns (t.Static s f) v h o i = (None, any v h.0 h.1 i, refl)
  assigns (t.Const s x) v h o i = absurd h
  assigns (t.This s) v h o i = absurd h
  assigns (t.New s c es) v h o i = absurd h
  assigns (t.Call s e m es) v h o i = absurd h
  assigns (t.CallStatic s m es) v h o i = absurd h
  assigns (t.Unknown s n es) v h o i = absurd h
  assigns (t.UnknownField s b n) v h o i = absurd h
  assigns (t.UnknownCall s e n es) v h o i = absurd h
  assigns (t.Unary s j a) v h o i = absurd h
  assigns (t.And s a b) v h o i = absurd h
  assigns (t.Or s a b) v h o i = absurd h
  assigns (t.Binary s j a b) v h o i = absurd h

  stepped : (q : ℕ) (j : Op) (v : Term) (old w : Ty) → Steps TK q j v old w → Tells (O u) v → Steps OK q j v None None
  stepped q j v old w h o = (None, None, None, tt, any v h.1 h.4 o, refl, tt)

  changes : (to : Term) (j : Op) (v : Term) → Changes TK to j v → Tells (O u) to → Tells (O u) v → Changes OK to j v
  changes (t.Local s x) j v h o i = (Some x, None, refl, (None, None, None, tt, any v h.3.1 h.3.4 i, refl, tt), refl)
  changes (t.Field s b f) j v h o i =
      (origin b, None, origin b, None, origin b, own b h.0 h.5 o.1, rw o.0 refl, stepped s.at j v h.1 h.3 h.7 i, rw o.0 refl, itself (origin b))
  changes (t.Static s f) j v h o i = (None, None, refl, stepped s.at j v h.0 h.1 h.3 i, refl)
  changes (t.Const s x) j v h o i = absurd h
  changes (t.This s) j v h o i = absurd h
  changes (t.New s c es) j v h o i = absurd h
  changes (t.Call s e m es) j v h o i = absurd h
  changes (t.CallStatic s m es) j v h o i = absurd h
  changes (t.Unknown s n es) j v h o i = absurd h
  changes (t.UnknownField s b n) j v h o i = absurd h
  changes (t.UnknownCall s e n es) j v h o i = absurd h
  changes (t.Unary s k a) j v h o i = absurd h
  changes (t.And s a b) j v h o i = absurd h
  changes (t.Or s a b) j v h o i = absurd h
  changes (t.Binary s k a b) j v h o i = absurd h

  runs : (v : Term) → Runs TK v → Tells (O u) v → Runs OK v
  runs (t.Call s e m es) h o =
      (origin e, origins_of es, own e h.0 h.2 o.1, gives_all es h.1 h.3 o.2, rw (o.0, counted-on (origin e) es, h.4) refl)
  runs (t.CallStatic s m es) h o = (origins_of es, gives_all es h.0 h.1 o.1, rw (o.0, counted es, h.2) refl)
  runs (t.Const s x) h o = absurd h
  runs (t.This s) h o = absurd h
  runs (t.Local s x) h o = absurd h
  runs (t.Field s b f) h o = absurd h
  runs (t.Static s f) h o = absurd h
  runs (t.New s c es) h o = absurd h
  runs (t.Unknown s n es) h o = absurd h
  runs (t.UnknownField s b n) h o = absurd h
  runs (t.UnknownCall s e n es) h o = absurd h
  runs (t.Unary s j a) h o = absurd h
  runs (t.And s a b) h o = absurd h
  runs (t.Or s a b) h o = absurd h
  runs (t.Binary s j a b) h o = absurd h

  performs : (v : Term) (b : Bool) → Chosen b (Drops TK v) (Runs TK v) → Tells (O u) v → Chosen b (Drops OK v) (Runs OK v)
  performs v true h o = (None, any v h.0 h.1 o, refl)
  performs v false h o = runs v h o

  module _ (varies : ℕ → Bool) where
    mutual
      fits : (s : Statement) → Fits TK varies s → Told (O u) s → Fits OK varies s
      fits (t.Block ss) h o = fits_all ss h o
      fits (t.Declare q x ty v) h o = (None, any v h.0 h.1 o, refl)
      fits (t.Assign to v) h o = assigns to v h o.0 o.1
      fits (t.Compound to j v) h o = changes to j v h o.0 o.1
      fits (t.Perform v) h o = performs v (has_value v) h o
      fits (t.Start q v) h o = (origin v, own v h.0 h.1 o.1, rw o.0 refl)
      fits (t.If v a b) h o = (any v TK.uses.flag h.0 o.0, fits a h.1 o.1, fits b h.2 o.2)
      fits (t.While v a) h o = (any v TK.uses.flag h.0 o.0, fits a h.1 o.1)
      fits (t.Sync v a) h o = ((origin v, gives v h.0.0 h.0.1 o.0, named r varies v), fits a h.1 o.1)
      fits (t.SyncClass q c a) h o = (h.0, fits a h.1 o)
      fits (t.Return q) h o = refl
      fits (t.ReturnValue q v) h o = (None, any v h.0 h.1 o, refl)

      fits_all : (ss : Statements) → FitsAll TK varies ss → ToldAll (O u) ss → FitsAll OK varies ss
      fits_all t.no_statements h o = tt
      fits_all (t.statement s ss) h o = (fits s h.0 o.0, fits_all ss h.1 o.1)

  enters : (c : List ℕ) (sync static : Bool) → Enters TK c sync static → Enters OK c sync static
  enters c false static h = tt
  enters c true false h = (Some 0, refl, refl)
  enters c true true h = h

  loops : (result : Option ValueType) → SigFits TK result → SigFits OK result
  loops None h = tt
  loops (Some ty) h = (None, refl, tt)

  pub part-fits : (c : List ℕ) (q : Part) → PartFits TK c q → PartTold (O u) q → PartFits OK c q
  part-fits c (part.Header names) h o = tt
  part-fits c (part.Field ty initial) h o = tt
  part-fits c (part.Sig params result) h o = loops result h
  part-fits c (part.Body b) h o =
      (enters c b.is_synchronized b.is_static h.0, fits (varies_of (statement_of b.block)) (statement_of b.block) h.1 o)
