pub mod Moves
pub mod MovedExpr
pub mod MovedStmt
pub mod MovedAnnot
pub mod MovedMember
pub mod MovedFile
pub mod Alike
pub mod Numbers
pub mod Kept
pub mod Parts
pub mod Units
pub mod Files
pub mod PlainExpr
pub mod PlainStmt
pub mod PlainShapes
pub mod PlainBody
mod Search
