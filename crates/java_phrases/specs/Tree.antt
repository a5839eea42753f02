-- The tree's names, passed on from one place. Behind the name of a type without recursion stand its
-- variants, as in `Kind.Name`.
pub use Rattle.desk_base.specs.declared.span.Span.{Span}
pub use Rattle.java_tree.specs.declared.kind.Kind.{Kind}
pub use Rattle.java_tree.specs.declared.token.Token.{Token}
pub use Rattle.java_tree.specs.declared.token.Lexeme.{Lexeme}
pub use Rattle.java_tree.specs.declared.member.Annot.{Annot}
pub use Rattle.java_tree.specs.declared.member.AnnotLayer.{AnnotLayer}
pub use Rattle.java_tree.specs.declared.member.InnerAnnot.{InnerAnnot}
pub use Rattle.java_tree.specs.declared.member.Elements.{Elements}
pub use Rattle.java_tree.specs.declared.member.Elem.{Elem}
pub use Rattle.java_tree.specs.declared.member.Mod.{Mod}
pub use Rattle.java_tree.specs.declared.member.ModWord.{ModWord}
pub use Rattle.java_tree.specs.declared.member.Ty.{Ty}
pub use Rattle.java_tree.specs.declared.member.Param.{Param}
pub use Rattle.java_tree.specs.declared.member.Init.{Init}
pub use Rattle.java_tree.specs.declared.member.Field.{Field}
pub use Rattle.java_tree.specs.declared.member.Sig.{Sig}
pub use Rattle.java_tree.specs.declared.member.Method.{Method}
pub use Rattle.java_tree.specs.declared.member.Ctor.{Ctor}
pub use Rattle.java_tree.specs.declared.member.Main.{Main}
pub use Rattle.java_tree.specs.declared.member.MemberTree.{MemberTree}
pub use Rattle.java_tree.specs.declared.expr.BinaryOp.{BinaryOp}
pub use Rattle.java_tree.specs.declared.expr.Expr.{Expr, out-Expr, roll-Expr}
pub use Rattle.java_tree.specs.declared.expr.Expr.TheOpen.{Expr-F}
pub use Rattle.java_tree.specs.declared.stmt.Action.{Action}
pub use Rattle.java_tree.specs.declared.stmt.AssignOp.{AssignOp}
pub use Rattle.java_tree.specs.declared.stmt.StepOp.{StepOp}
pub use Rattle.java_tree.specs.declared.stmt.ForFirst.{ForFirst}
pub use Rattle.java_tree.specs.declared.stmt.Local.{Local}
pub use Rattle.java_tree.specs.declared.stmt.Monitor.{Monitor}
pub use Rattle.java_tree.specs.declared.stmt.Stmt.{Stmt, out-Stmt, roll-Stmt, roll-out-Stmt}
pub use Rattle.java_tree.specs.declared.stmt.Block.{Block, out-Block, roll-Block, roll-out-Block, out-roll-Block}
pub use Rattle.java_tree.specs.declared.stmt.BlockItem.{BlockItem, out-BlockItem, roll-BlockItem, roll-out-BlockItem}
pub use Rattle.java_tree.specs.declared.stmt.BlockItem.TheOpen.{Stmt-F, BlockItem-F, Block-F}
pub use Rattle.java_tree.specs.declared.file.TypeKind.{TypeKind}
pub use Rattle.java_tree.specs.declared.file.Package.{Package}
pub use Rattle.java_tree.specs.declared.file.Import.{Import}
pub use Rattle.java_tree.specs.declared.file.ClassTree.{ClassTree}
pub use Rattle.java_tree.specs.declared.file.FileTree.{FileTree}
