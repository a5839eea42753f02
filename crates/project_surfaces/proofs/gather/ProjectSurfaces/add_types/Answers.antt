use Rattle.std.proofs.Common.{[], ◌∷◌, ◌++◌, map, sym, take, take_all, ◌∙◌, subst, List}
use Rattle.java_tree.specs.declared.file.ClassTree.{ClassTree}
use Rattle.project_files.specs.Kept.{tree_file}
use Rattle.project_files.specs.Repeats.{NoRepeat}
use Rattle.project_files.specs.Trees.{ClassText, class_in}
use Rattle.project_files.proofs.Lists.{put_more}
use Rattle.project_surfaces.specs.Gathered.{AreGathered}
use Rattle.project_surfaces.proofs.More.{no_repeat_front}
use Rattle.project_surfaces.proofs.gather.ProjectSurfaces.add_types.Goals as goal

pub loop-class-preserved : goal.loop-class-preserved
loop-class-preserved c types apart gathered =
    let file = tree_file c.args.read.now in
    let classes = c.as_slice-class-items.result.now in
    let i = c.loop-class.class-index in
    let front = types ++ map (class_in file) (take i classes) in
    let P : List ClassText → Type 0 = λ l. AreGathered l c.add.new.self in
    let all = put_more (class_in file) types classes i c.class-item.result c.loop-class-test.true c.class-item.is in
    let differ = subst NoRepeat (sym all) apart in
    subst P all (c.in_ok-add.ensures front differ (c.loop-class.invariant types (no_repeat_front front (class_in file c.class-item.result ∷ []) differ) gathered))

pub returns : goal.returns
returns c types apart gathered =
    let file = tree_file c.args.read.now in
    let P : List ClassTree → Type 0 = λ l. NoRepeat (types ++ map (class_in file) l) → AreGathered (types ++ map (class_in file) l) c.loop-class.self in
    subst P (take_all c.loop-class.class-index c.as_slice-class-items.result.now c.loop-class-test.false ∙ c.as_slice-class-items.ensures) (λ differ. c.loop-class.invariant types differ gathered) apart
