-- The findings of places are the same where the same is shown of what is asked at them.
use Rattle.std.proofs.Common.{◌≡◌, ℕ, suc, add-one, Bool, true, false, cond, List, [], ◌∷◌, ◌++◌, map, refl, sym, ◌∙◌, ap, subst}
use mathlib.Core.Bool.{◌&&◌}
use Rattle.std.specs.Prelude.{Option, None, codes, is_some}
use Rattle.std.specs.List.{flat_map}
use Rattle.bound_tree.specs.Claim.{Claim}
use Rattle.bound_tree.specs.declared.unit.BoundTree.{BoundTree}
use Rattle.bound_tree.specs.declared.unit.Part.{Part}
use Rattle.bound_tree.specs.declared.unit.Part.TheVariants as part
use Rattle.bound_tree.specs.declared.name.FieldName.{FieldName}
use Rattle.bound_tree.specs.Claims.{claims_of}
use Rattle.bound_tree.specs.Places.{Place, What, Reads, Writes, Calls, Makes, Starts, Locks, Flows}
use Rattle.bound_tree.specs.Tree.{Terms, no_terms, term}
use Rattle.lowering.specs.Lower.{count}
use Rattle.result_records.specs.declared.code.FindingCode.{FindingCode}
use Rattle.result_records.specs.declared.code.FindingCode.TheVariants as code
use Rattle.result_records.specs.declared.finding.Finding.{Finding}
use Rattle.views.specs.Face.{Face}
use Rattle.views.specs.Looks.{field_in, member_key, standing_in}
use Rattle.lock_findings.specs.declared.lock.Need.{Need}
use Rattle.lock_findings.specs.declared.own.Own.{Own}
use Rattle.lock_findings.specs.declared.role.Role.TheVariants as role
use Rattle.lock_findings.specs.Held.{base_of}
use Rattle.lock_findings.specs.LockFindings.{place_findings, role_findings, unique_findings}
use Rattle.lock_findings.specs.Rows.{access_finding, access_findings, call_findings, count_of, rows}
use Rattle.bound_unit.specs.Asked.{called_names, place_names, what_names}
use Rattle.bound_unit.specs.Names.{Faces, Name, member_names}
use Rattle.lock_check.specs.Judged.{promises_of}
use Rattle.lock_check.specs.Locks.{guards}
use Rattle.lock_check.specs.Needs.{needs, params_at}
use Rattle.lock_check.specs.Roles.{aboves, field_word, is_main, part_role, role_of, unique_value}
use Rattle.lock_check.specs.SameNeeds.{Same, needs_same, same_first, same_left, same_rest, same_right}

count-same : (es : Terms) → count_of es ≡ count es
count-same no_terms = refl
count-same (term e es) = ap suc (count-same es) ∙ sym (add-one (count es))

called_same : (F G : Faces) (class name : Name) (es : Terms) → Same F G (called_names F class name (count es)) → needs F class name (count_of es) ≡ needs G class name (count_of es)
called_same F G class name es s =
    let one : F class ≡ G class = same_first F G class _ s in
    needs_same F G class (member_key class name (count_of es)) one
    (subst (λ (n : ℕ). Same F G (member_names (F class) (member_key class name n))) (sym (count-same es)) (same_rest F G class _ s))

access_same : (F G : Faces) (c : FindingCode) (own : Own) (claims : List Claim) (at : ℕ) (f : FieldName) (base : Option ℕ) → F f.class ≡ G f.class
    → access_findings (promises_of F) c own claims at f base ≡ access_findings (promises_of G) c own claims at f base
access_same F G c own claims at f base is =
    ap (λ (shown : Option Face). cond f.is_final [] (map (access_finding c own claims at f base) (guards shown f.class f.name))) is

rows_same : (F G : Faces) (own : Own) (varies : ℕ → Bool) (claims : List Claim) (at : ℕ) (w : What) → Same F G (what_names F w)
    → rows (promises_of F) own varies claims at w ≡ rows (promises_of G) own varies claims at w
rows_same F G own varies claims at (Reads f owner) s = access_same F G code.UnguardedRead own claims at f (base_of varies owner) (same_first F G f.class [] s)
rows_same F G own varies claims at (Writes f owner) s = access_same F G code.UnguardedWrite own claims at f (base_of varies owner) (same_first F G f.class [] s)
rows_same F G own varies claims at (Calls m owner es) s =
    ap (λ (ns : List Need). call_findings own varies claims at m.name (base_of varies owner) es ns) (called_same F G m.class m.name es s)
rows_same F G own varies claims at (Makes c es) s =
    ap (λ (ns : List Need). call_findings own varies claims at c None es ns) (called_same F G c (codes "new") es s)
rows_same F G own varies claims at (Starts v) s = refl
rows_same F G own varies claims at (Locks v) s = refl
rows_same F G own varies claims at (Flows v goal) s = refl

place_same : (F G : Faces) (own : Own) (varies : ℕ → Bool) (p : Place) → Same F G (place_names F p)
    → place_findings (promises_of F) own varies p ≡ place_findings (promises_of G) own varies p
place_same F G own varies p s =
    ap (λ (fs : List Finding). cond p.faulty [] fs) (rows_same F G own varies (claims_of varies p.around) p.at p.what s)

pub places_same : (F G : Faces) (own : Own) (varies : ℕ → Bool) (ps : List Place) → Same F G (flat_map (place_names F) ps)
    → flat_map (place_findings (promises_of F) own varies) ps ≡ flat_map (place_findings (promises_of G) own varies) ps
places_same F G own varies [] s = refl
places_same F G own varies (p ∷ ps) s =
    ap (λ (fs : List Finding). fs ++ flat_map (place_findings (promises_of F) own varies) ps)
    (place_same F G own varies p (same_left F G (place_names F p) (flat_map (place_names F) ps) s))
    ∙ ap (λ (fs : List Finding). place_findings (promises_of G) own varies p ++ fs)
    (places_same F G own varies ps (same_right F G (place_names F p) (flat_map (place_names F) ps) s))

-- what is found for the role that the unit has
pub roles_same : (F G : Faces) (own : Own) (key : Name) (tree : BoundTree) → F tree.class ≡ G tree.class
    → role_findings (promises_of F) own (role_of F key tree) ≡ role_findings (promises_of G) own (role_of F key tree)
roles_same F G own key tree is = go tree.part
  where
    field : (b : Bool) → role_findings (promises_of F) own (cond b (role.UniqueField tree.class (field_word tree.class key) (unique_value key)) role.Plain)
        ≡ role_findings (promises_of G) own (cond b (role.UniqueField tree.class (field_word tree.class key) (unique_value key)) role.Plain)
    field true =
        ap (λ (shown : Option Face). unique_findings own (field_word tree.class key) (unique_value key) (guards shown tree.class (field_word tree.class key))) is
    field false = refl

    body : (b : Bool) → role_findings (promises_of F) own (cond b role.Main (role.Method (aboves F key tree)))
        ≡ role_findings (promises_of G) own (cond b role.Main (role.Method (aboves F key tree)))
    body true = refl
    body false = refl

    go : (p : Part) → role_findings (promises_of F) own (part_role F key tree p) ≡ role_findings (promises_of G) own (part_role F key tree p)
    go (part.Header names) = refl
    go (part.Field ty initial) = field (is_some (standing_in (F tree.class) (unique_value key)) && is_some (field_in (F tree.class) (field_word tree.class key)))
    go (part.Sig params result) = refl
    go (part.Body b) = body (is_main (params_at F tree.class key))
