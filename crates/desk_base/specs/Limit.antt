-- The limits: how each is printed, and the greatest number that is allowed.
use Rattle.std.specs.Prelude.{ℕ, List, codes}
use Rattle.desk_base.specs.declared.limit.LimitName.{LimitName}
use Rattle.desk_base.specs.declared.limit.LimitName.TheVariants as limit

abbrev pub limit_text : LimitName → List ℕ
limit_text limit.FileBytes = codes "file bytes"
limit_text limit.Files = codes "files"
limit_text limit.TextBytes = codes "text bytes"
limit_text limit.NameBytes = codes "name bytes"
limit_text limit.Promises = codes "promises"
limit_text limit.Findings = codes "findings"
limit_text limit.Links = codes "links"
limit_text limit.Vouches = codes "vouches"
limit_text limit.WhoBytes = codes "who bytes"
limit_text limit.ReasonBytes = codes "reason bytes"
limit_text limit.LineBytes = codes "line bytes"
limit_text limit.ScriptBytes = codes "script bytes"
limit_text limit.BundleBytes = codes "bundle bytes"
limit_text limit.HeadBytes = codes "head bytes"
limit_text limit.BodyBytes = codes "body bytes"
limit_text limit.Headers = codes "headers"

abbrev pub limit_max : LimitName → ℕ
limit_max limit.FileBytes = 262144
limit_max limit.Files = 4096
limit_max limit.TextBytes = 16777216
limit_max limit.NameBytes = 64
limit_max limit.Promises = 65536
limit_max limit.Findings = 65536
limit_max limit.Links = 1048576
limit_max limit.Vouches = 65536
limit_max limit.WhoBytes = 64
limit_max limit.ReasonBytes = 1024
limit_max limit.LineBytes = 2097152
limit_max limit.ScriptBytes = 1073741824
limit_max limit.BundleBytes = 20971520
limit_max limit.HeadBytes = 16384
limit_max limit.BodyBytes = 2097152
limit_max limit.Headers = 64
