-- What a tree that is built keeps.
use Rattle.std.proofs.Common.{◌≡◌, ℕ, zero, suc, ◌+◌, ◌<◌, List, [], ◌∷◌, length, get_or, map, refl, sym, ◌∙◌, ap, subst, arith}
use Rattle.std.specs.Prelude.{Option, Some, None, option_and_then, find}
use Rattle.std.specs.List.{slice_get}
use Rattle.std.specs.Str.{bytes_eq}
use Rattle.std.specs.BTreeMap.{BTreeMap}
use Rattle.std.proofs.lemmas.Grind.{common_steps}
use Rattle.region_tree.specs.declared.chain_state.ChainState.{ChainState}
use Rattle.region_tree.specs.declared.decl.RegionDecl.{RegionDecl}
use Rattle.region_tree.specs.declared.decl.FieldPut.{FieldPut}
use Rattle.region_tree.specs.Chains.{parent_at, IsRooted}
use Rattle.region_tree.specs.Marks.{mark_at, rank_of, Known}
use Rattle.region_tree.specs.Regions.{number_of, parent_number, parents_of, region_names, field_region}
use Rattle.region_tree.specs.Faults.{AllGood}
use Rattle.region_tree.specs.Names.{number_at, Numbered, Places}
use Rattle.region_tree.proofs.Numbers.{number_below, names-parents}
use Rattle.region_tree.proofs.Rooted.{rooted_falls}

read_map : {X : Type 0} (f : X → Option ℕ) (xs : List X) (j x : ℕ) → get_or (map f xs) j None ≡ Some x
    → (d : X) × (j < length xs) × (slice_get xs j ≡ Some d) × (f d ≡ Some x)
read_map f [] j x e = absurd (cc)
read_map f (y ∷ xs) zero x e = (y, omega arith, refl, e)
read_map f (y ∷ xs) (suc j) x e = let r = read_map f xs j x e in (r.0, omega (arith, r.1), r.2, r.3)

-- a region with a parent is declared
pub parent_decl : (declared : List RegionDecl) (k x : ℕ) → parent_at (parents_of declared) k ≡ Some x
    → (j : ℕ) × (d : RegionDecl) × (k ≡ j + 2) × (j < length declared) × (slice_get declared j ≡ Some d) × (parent_number declared d ≡ Some x)
parent_decl declared zero x e = absurd (cc)
parent_decl declared (suc zero) x e = absurd (cc)
parent_decl declared (suc (suc j)) x e = let r = read_map (parent_number declared) declared j x e in (j, r.0, omega arith, r.1, r.2, r.3)

pub parents_within : (declared : List RegionDecl) (parents : List (Option ℕ)) → parents ≡ parents_of declared → (k x : ℕ) → parent_at parents k ≡ Some x
    → x < length parents
parents_within declared parents is k x e =
    let r = parent_decl declared k x (ap (λ (p : List (Option ℕ)). parent_at p k) (sym is) ∙ e) in
    omega (arith, number_below declared _ x r.5, names-parents declared, ap length is)

pub tree_falls : (declared : List RegionDecl) (parents : List (Option ℕ)) (marks : List ChainState) (next : ℕ) → parents ≡ parents_of declared
    → Known parents marks next → AllGood declared (length declared) → (k x : ℕ) → parent_at parents k ≡ Some x
    → rank_of (mark_at marks x) < rank_of (mark_at marks k)
tree_falls declared parents marks next is known good k x e =
    let r = parent_decl declared k x (ap (λ (p : List (Option ℕ)). parent_at p k) (sym is) ∙ e) in
    let rooted : IsRooted parents k =
    subst (λ (p : List (Option ℕ)). IsRooted p k) (sym is) (subst (λ (z : ℕ). IsRooted (parents_of declared) z) (sym r.2) (good r.0 r.1 r.3 r.4).2) in
    let long : length (parents_of declared) ≡ length declared + 2 = grind (arith, common_steps) in
    rooted_falls parents marks next k x known (omega (arith, known.marked.long, ap length is, long, r.2, r.3)) (omega (arith, r.2)) rooted e

pub numbered_within : (declared : List RegionDecl) (parents : List (Option ℕ)) (numbers : BTreeMap (List ℕ) ℕ) → parents ≡ parents_of declared
    → Numbered numbers declared → (name : List ℕ) (k : ℕ) → number_at numbers name ≡ Some k → k < length parents
numbered_within declared parents numbers is n name k e =
    omega (arith, number_below declared name k (sym (n.numbered name) ∙ e), names-parents declared, ap length is)

placed_number : (declared : List RegionDecl) (o : Option FieldPut) (k : ℕ) → option_and_then (λ put. number_of declared (field_region put)) o ≡ Some k
    → k < length (region_names declared)
placed_number declared None k e = absurd (cc)
placed_number declared (Some put) k e = number_below declared (field_region put) k e

pub placed_within : (declared : List RegionDecl) (puts : List FieldPut) (parents : List (Option ℕ)) (places : BTreeMap (List ℕ) ℕ) → parents ≡ parents_of declared
    → Places places declared puts → (field : List ℕ) (k : ℕ) → number_at places field ≡ Some k → k < length parents
placed_within declared puts parents places is p field k e =
    omega (arith, placed_number declared (find (λ put. bytes_eq put.field field) puts) k (sym (p.placed field) ∙ e), names-parents declared, ap length is)
