-- One more type.
use Rattle.std.proofs.Common.{◌≡◌, ◌≢◌, ℕ, zero, suc, ◌+◌, ◌<◌, arith, List, [], ◌∷◌, ◌++◌, length, get_or, map, take, refl, sym, ap, ◌∙◌, subst, append_assoc, append-nil}
use Rattle.std.specs.Prelude.{Option, Some, None, All, IsTrue, ◌↔◌, Bool, true, false, fold}
use Rattle.std.specs.Borrow.{Bor}
use Rattle.std.specs.List.{AllZip, Contains, flat_map}
use Rattle.std.proofs.lemmas.List.{flat_map_more, length-append, map-append, take_more}
use Rattle.std.proofs.lemmas.List.Elements.{All-push}
use Rattle.std.proofs.lemmas.List.Sums.{fold-append}
use Rattle.desk_base.specs.declared.key.PromiseKey.{PromiseKey}
use Rattle.judged_form.specs.Form.{IsJudged}
use Rattle.promise_scrub.specs.Surfaces.{Surface}
use Rattle.promise_scrub.specs.declared.surface.Surface.{Surface as Face}
use Rattle.project_files.specs.declared.reading.ReadFile.{ReadFile}
use Rattle.project_files.specs.Kept.{tree_file}
use Rattle.project_files.specs.Repeats.{NoRepeat, name_of}
use Rattle.project_files.specs.Trees.{ClassText, TreeFile, class_in, types_of}
use Rattle.views.specs.Face.{surface_named}
use Rattle.views.specs.Filed.{with_surface}
use Rattle.project_surfaces.specs.Fit.{FirstUnfit, IsFit}
use Rattle.project_surfaces.specs.Gathered.{AreGathered, IsFace, SurfacesOf, UnfitOf, all_keys, filed}
use Rattle.project_surfaces.specs.Keys.{keys_of}
use Rattle.project_surfaces.specs.declared.gather.ProjectSurfaces.{ProjectSurfaces}
use Rattle.project_surfaces.proofs.Absent.{absent}
use Rattle.project_surfaces.proofs.Named.{named_face, not_before, other_names}
use Rattle.project_surfaces.proofs.Zipped.{zip_push}

-- ---- the form

pub unfit_stays : (types : List ClassText) (t : ClassText) (path : Bor (List ℕ)) → UnfitOf types (Some path) → UnfitOf (types ++ t ∷ []) (Some path)
unfit_stays types t path first = record {
  front = first.front;
  type = first.type;
  rest = first.rest ++ t ∷ [];
  is = ap (λ l. l ++ t ∷ []) first.is ∙ append_assoc first.front (first.type ∷ first.rest) (t ∷ []);
  fit = first.fit;
  unfit = first.unfit;
  named = first.named;
}

pub fit_more : (types : List ClassText) (t : ClassText) (face : Face) → Surface t.class face → IsJudged face → UnfitOf types None → UnfitOf (types ++ t ∷ []) None
fit_more types t face is judged all = All-push IsFit types t all (record { face = face; surface = is; judged = judged })

pub unfit_first : (types : List ClassText) (t : ClassText) (face : Face) (path : Bor (List ℕ)) → ((a b : Face) → Surface t.class a → Surface t.class b → a ≡ b) → t.path ≡ path.now
    → Surface t.class face → ¬ (IsJudged face) → UnfitOf types None → UnfitOf (types ++ t ∷ []) (Some path)
unfit_first types t face path one placed is unjudged all = record {
  front = types;
  type = t;
  rest = [];
  is = refl;
  fit = all;
  unfit = λ fit. unjudged (subst IsJudged (one fit.face face fit.surface is) fit.judged);
  named = sym placed;
}

-- ---- the surfaces

new_name : (types : List ClassText) (t : ClassText) (face : Face) (old : List Face) (keys : List PromiseKey) → Surface t.class face → NoRepeat (types ++ t ∷ []) → SurfacesOf types old keys
    → surface_named old face.name ≡ None
new_name types t face old keys is apart so =
    let others = other_names types so.faces (name_of t) so.each (λ d among. not_before types t d apart among) in
    let none = absent so.faces [] (name_of t) refl others in
    ap (λ (l : List Face). surface_named l face.name) so.in_order ∙ (ap (surface_named (filed so.faces)) (named_face t.class face is) ∙ none)

pub surfaces_more : (types : List ClassText) (t : ClassText) (face : Face) (old new : List Face) (keys more : List PromiseKey) → Surface t.class face → NoRepeat (types ++ t ∷ [])
    → (surface_named old face.name ≡ None → new ≡ with_surface old face) → more ≡ keys ++ keys_of face → SurfacesOf types old keys → SurfacesOf (types ++ t ∷ []) new more
surfaces_more types t face old new keys more is apart put told so = record {
  faces = so.faces ++ face ∷ [];
  each = zip_push IsFace types so.faces t face so.each is;
  in_order = put (new_name types t face old keys is apart so) ∙ (ap (λ (l : List Face). with_surface l face) so.in_order ∙ sym (fold-append with_surface [] so.faces (face ∷ [])));
  promises = told ∙ (ap (λ l. l ++ keys_of face) so.promises ∙ flat_map_more keys_of [] so.faces face);
}

-- ---- types of files

same_front : {X : Type 0} (xs ys : List X) (i : ℕ) (d : X) → i < length xs → get_or (xs ++ ys) i d ≡ get_or xs i d
same_front [] ys i d low = absurd (omega arith)
same_front (x ∷ xs) ys zero d low = refl
same_front (x ∷ xs) ys (suc i) d low = same_front xs ys i d (omega arith)

-- where no name of types is used twice, none of the first of them is
pub no_repeat_front : (front rest : List ClassText) → NoRepeat (front ++ rest) → NoRepeat front
no_repeat_front front rest apart = λ i j d less end.
    let names = map name_of front in
    let whole : map name_of (front ++ rest) ≡ names ++ map name_of rest = map-append name_of front rest in
    let long : length (map name_of (front ++ rest)) ≡ length names + length (map name_of rest) = ap length whole ∙ length-append names (map name_of rest) in
    let at : (k : ℕ) → k < length names → get_or (map name_of (front ++ rest)) k d ≡ get_or names k d =
    λ k low. ap (λ (l : List (List ℕ)). get_or l k d) whole ∙ same_front names (map name_of rest) k d low in
    λ same. apart i j d less (omega arith) (at i (omega arith) ∙ (same ∙ sym (at j end)))

pub types_step : (read : List ReadFile) (i : ℕ) (r : ReadFile) (old new : ProjectSurfaces) → i < length read → r ≡ get_or read i r
    → ((types : List ClassText) → NoRepeat (types ++ map (class_in (tree_file r)) (tree_file r).tree.types) → AreGathered types old → AreGathered (types ++ map (class_in (tree_file r)) (tree_file r).tree.types) new)
    → (NoRepeat (types_of (map tree_file (take i read))) → AreGathered (types_of (map tree_file (take i read))) old)
    → NoRepeat (types_of (map tree_file (take (i + 1) read))) → AreGathered (types_of (map tree_file (take (i + 1) read))) new
types_step read i r old new low is step so apart =
    let P : List ClassText → Type 0 = λ (types : List ClassText). AreGathered types new in
    let front = map tree_file (take i read) in
    let more = map (class_in (tree_file r)) (tree_file r).tree.types in
    let all : map tree_file (take (i + 1) read) ≡ front ++ tree_file r ∷ [] =
    ap (map tree_file) (take_more read i r low ∙ ap (λ x. take i read ++ x ∷ []) (sym is)) ∙ map-append tree_file (take i read) (r ∷ []) in
    let types : types_of front ++ more ≡ types_of (map tree_file (take (i + 1) read)) =
    flat_map_more (λ (g : TreeFile). map (class_in g) g.tree.types) [] front (tree_file r) ∙ ap types_of (sym all) in
    let differ = subst NoRepeat (sym types) apart in
    subst P types (step (types_of front) differ (so (no_repeat_front (types_of front) more differ)))
