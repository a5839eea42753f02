-- A local that is set is that of no temporary that waits.
use Rattle.std.proofs.Common.{◌≡◌, refl, ℕ, true, List, [], ◌∷◌, None, sym, ap, ◌∙◌, subst}
use Rattle.core_model.specs.Code.{Code, Done, Do, If, While, Enter, EnterClass, Exit, ◌⧺◌}
use Rattle.core_model.specs.declared.instr.Plain.{Plain}
use Rattle.core_model.specs.declared.instr.Plain.TheVariants as plain
use Rattle.core_model.specs.declared.program.Program.{Program}
use Rattle.core_laws.specs.Places.{Along, Always, again}
use Rattle.core_laws.specs.Marks.{Unmarked}
use Rattle.core_types.specs.Types.{Types}
use Rattle.core_types.specs.Slots.{need_by, FitsBy}
use Rattle.core_types.specs.Origins.{Origin, OriginSuits, Operands, by_origin, origins, sets_apart, is_apart}
use Rattle.core_types.proofs.Codes.{need_by-append}
use Rattle.lowering.specs.Bare.{SetsBare, BareBy}

module _ (p : Program) (T : Types) (O : Operands) (u : ℕ) where
  set-apart : (i : Plain) (k : Code) → SetsBare i (need_by (by_origin p T O u) k []) → sets_apart i (origins p T O u k) ≡ true
  set-apart (plain.Set x) k h = rw h refl
  set-apart (plain.Const v) k h = refl
  set-apart (plain.Get x) k h = refl
  set-apart plain.Drop k h = refl
  set-apart (plain.Field f) k h = refl
  set-apart (plain.FieldKeep f) k h = refl
  set-apart (plain.PutField f) k h = refl
  set-apart (plain.Static c f) k h = refl
  set-apart (plain.PutStatic c f) k h = refl
  set-apart (plain.Make c a) k h = refl
  set-apart plain.MakePlain k h = refl
  set-apart (plain.Call m a) k h = refl
  set-apart (plain.CallStatic c m a) k h = refl
  set-apart (plain.Op o) k h = refl
  set-apart plain.Neg k h = refl
  set-apart plain.Not k h = refl
  set-apart plain.Start k h = refl
  set-apart plain.Return k h = refl
  set-apart plain.ReturnValue k h = refl

  abbrev Apart : Code → Type 0
  Apart k = is_apart p T O u k ≡ true

  abbrev Ns : Code → List Origin
  Ns k = need_by (by_origin p T O u) k []

  joined : (s k : Code) → need_by (by_origin p T O u) s (Ns k) ≡ Ns (s ⧺ k)
  joined s k = sym (need_by-append OriginSuits (by_origin p T O u) s k [])

  apart : (s k : Code) → Unmarked s → FitsBy OriginSuits (by_origin p T O u) s (Ns k) → BareBy (by_origin p T O u) s (Ns k) → Along Apart s k
  apart Done k m f h = tt
  apart (Do n i s) k m f h =
      (set-apart i (s ⧺ k) (subst (SetsBare i) (joined s k) h.0), apart s k m f.1 h.1)
  apart (If n a b s) k m f h = (
    refl,
    apart a (s ⧺ k) m.0 (subst (FitsBy OriginSuits (by_origin p T O u) a) (joined s k) f.1) (subst (BareBy (by_origin p T O u) a) (joined s k) h.0),
    apart b (s ⧺ k) m.1 (subst (FitsBy OriginSuits (by_origin p T O u) b) (joined s k) f.2) (subst (BareBy (by_origin p T O u) b) (joined s k) h.1),
    apart s k m.2 f.3 h.2,
  )
  apart (While n c b s) k m f h =
      let same : need_by (by_origin p T O u) s (Ns k) ≡ Ns (s ⧺ k) = joined s k in
      let turn : Ns (again n c b (s ⧺ k)) ≡ None ∷ Ns (s ⧺ k) =
      ap (λ (l : List Origin). None ∷ l)
      (need_by-append OriginSuits (by_origin p T O u) b (While n c b Done) (Ns (s ⧺ k))
      ∙ subst (λ (l : List Origin). need_by (by_origin p T O u) b l ≡ l) same f.1) in (
        refl,
        refl,
        apart c (again n c b (s ⧺ k)) m.0
            (subst (FitsBy OriginSuits (by_origin p T O u) c) (sym turn) (subst (λ (l : List Origin). FitsBy OriginSuits (by_origin p T O u) c (None ∷ l)) same f.2))
            (subst (BareBy (by_origin p T O u) c) (sym turn) (subst (λ (l : List Origin). BareBy (by_origin p T O u) c (None ∷ l)) same h.0)),
        apart b (While n c b (s ⧺ k)) m.1 (subst (FitsBy OriginSuits (by_origin p T O u) b) same f.3) (subst (BareBy (by_origin p T O u) b) same h.1),
        apart s k m.2 f.4 h.2,
      )
  apart (Enter n b s) k m f h =
      let same : need_by (by_origin p T O u) s (Ns k) ≡ Ns (s ⧺ k) = joined s k in (
        refl,
        (λ (r : ℕ). (apart b (Exit n r (s ⧺ k)) m.0 (subst (FitsBy OriginSuits (by_origin p T O u) b) same f.0) (subst (BareBy (by_origin p T O u) b) same h.0), refl)),
        apart s k m.1 f.1 h.1,
      )
  apart (EnterClass n c b s) k m f h =
      let same : need_by (by_origin p T O u) s (Ns k) ≡ Ns (s ⧺ k) = joined s k in (
        refl,
        (apart b (Exit n c (s ⧺ k)) m.0 (subst (FitsBy OriginSuits (by_origin p T O u) b) same f.1) (subst (BareBy (by_origin p T O u) b) same h.0), refl),
        apart s k m.1 f.2 h.1,
      )
  apart (Exit n r s) k m f h = absurd m

  pub always-apart : (s : Code) → Unmarked s → FitsBy OriginSuits (by_origin p T O u) s [] → BareBy (by_origin p T O u) s [] → Always Apart s
  always-apart s m f h = apart s Done m f h
