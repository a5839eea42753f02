use Rattle.std.proofs.Common.{◌++◌, map, take, take_all, ◌∙◌, subst, List}
use Rattle.java_tree.specs.declared.file.ClassTree.{ClassTree}
use Rattle.project_files.specs.Trees.{ClassText}
use Rattle.project_files.specs.Trees.{class_in}
use Rattle.project_files.specs.Kept.{tree_file, AreNamed}
use Rattle.project_files.proofs.Lists.{put_more}
use Rattle.project_files.proofs.repeats.TypeNames.add_types.Goals as goal

pub loop-class-preserved : goal.loop-class-preserved
loop-class-preserved c = record {
  named = λ types named.
      let file = tree_file c.args.read.now in
      let classes = c.as_slice-class-items.result.now in
      let i = c.loop-class.class-index in
      let P : List ClassText → Type 0 = λ l. AreNamed l c.add.new.self in
      subst P (put_more (class_in file) types classes i c.class-item.result c.loop-class-test.true c.class-item.is)
      (c.in_ok-add.ensures.named (types ++ map (class_in file) (take i classes)) (c.loop-class.invariant.named types named));
  none = λ e. c.loop-class.invariant.none (c.in_ok-add.ensures.none e);
}

pub returns-clause-named : goal.returns-clause-named
returns-clause-named c types named =
    let file = tree_file c.args.read.now in
    let P : List ClassTree → Type 0 = λ l. AreNamed (types ++ map (class_in file) l) c.loop-class.self in
    subst P (take_all c.loop-class.class-index c.as_slice-class-items.result.now c.loop-class-test.false ∙ c.as_slice-class-items.ensures) (c.loop-class.invariant.named types named)
