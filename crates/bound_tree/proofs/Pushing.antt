-- A way that is put before a flow.
use Rattle.std.proofs.Common.{◌≡◌, refl, ℕ, List, [], ◌∷◌, ◌++◌, sym, ap, ◌∙◌}
use Rattle.bound_tree.specs.Flows.{Flow, End, Names, Sets, Leaves, Either, Again}
use Rattle.bound_tree.specs.Ways.{way_layer, way_of, flow_from, whole}
use Rattle.bound_tree.specs.declared.way.Way.{Way}
use Rattle.bound_tree.specs.declared.way.Way.TheVariants as w
use Rattle.bound_tree.specs.declared.way.Way.TheOpen.{Way-F}
use Rattle.bound_tree.specs.declared.way.Way.TheFolds.{fold-roll-Way}

pub onto-last : (ws : List Way) (v : Way) (k : Flow) → flow_from (ws ++ v ∷ []) k ≡ way_of v (flow_from ws k)
onto-last [] v k = refl
onto-last (x ∷ ws) v k = onto-last ws v (way_of x k)

pub way_of-Names : (x p : ℕ) (k : Flow) → way_of (w.Names x p) k ≡ Names x p k
unfolding way_of
way_of-Names x p k = ap (λ (v : Way). way_of v k) (sym (w.rolls-Names x p)) ∙ ap (λ (g : Flow → Flow). g k) (fold-roll-Way (Flow → Flow) way_layer (Way-F.Names x p))

pub way_of-Sets : (x : ℕ) (k : Flow) → way_of (w.Sets x) k ≡ Sets x k
unfolding way_of
way_of-Sets x k = ap (λ (v : Way). way_of v k) (sym (w.rolls-Sets x)) ∙ ap (λ (g : Flow → Flow). g k) (fold-roll-Way (Flow → Flow) way_layer (Way-F.Sets x))

pub way_of-Leaves : (k : Flow) → way_of w.Leaves k ≡ Leaves k
unfolding way_of
way_of-Leaves k = ap (λ (v : Way). way_of v k) (sym w.rolls-Leaves) ∙ ap (λ (g : Flow → Flow). g k) (fold-roll-Way (Flow → Flow) way_layer Way-F.Leaves)

pub way_of-Either : (a b : List Way) (k : Flow) → way_of (w.Either a b) k ≡ Either (whole a) (whole b) k
unfolding way_of
way_of-Either a b k = ap (λ (v : Way). way_of v k) (sym (w.rolls-Either a b)) ∙ ap (λ (g : Flow → Flow). g k) (fold-roll-Way (Flow → Flow) way_layer (Way-F.Either a b))

pub way_of-Again : (a : List Way) (k : Flow) → way_of (w.Again a) k ≡ Again (whole a) k
unfolding way_of
way_of-Again a k = ap (λ (v : Way). way_of v k) (sym (w.rolls-Again a)) ∙ ap (λ (g : Flow → Flow). g k) (fold-roll-Way (Flow → Flow) way_layer (Way-F.Again a))

-- what a push leaves
pub pushed : (new ws : List Way) (v : Way) → new ≡ ws ++ v ∷ [] → whole new ≡ way_of v (whole ws)
pushed new ws v e = ap whole e ∙ onto-last ws v End
