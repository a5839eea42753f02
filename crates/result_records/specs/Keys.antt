-- How the keys of promises and of findings are written.
use Rattle.std.specs.Prelude.{ℕ, List, [], ◌∷◌, ◌++◌, codes, decimal}
use Rattle.desk_base.specs.Key.{name_text}
use Rattle.desk_base.specs.declared.key.PromiseName.{PromiseName}
use Rattle.desk_base.specs.declared.key.PromiseName.TheVariants as kind
use Rattle.desk_base.specs.declared.key.PromiseKey.{PromiseKey}
use Rattle.result_records.specs.Code.{code_bytes}
use Rattle.result_records.specs.declared.finding.FindingKey.{FindingKey}

-- a detail with the blank before it; an empty one has no blank
abbrev pub detail_part : List ℕ → List ℕ
detail_part [] = []
detail_part (c ∷ cs) = codes " " ++ c ∷ cs

-- `TARGET NAME DETAIL`
abbrev pub promise_parts : List ℕ → List ℕ → List ℕ → List ℕ
promise_parts target name detail = target ++ codes " " ++ name ++ detail_part detail

-- a promise of the kind: `Program` stands for the project and is written as its name alone
abbrev pub promise_of_kind : PromiseName → List ℕ → List ℕ → List ℕ
promise_of_kind kind.Program target detail = name_text kind.Program
promise_of_kind name target detail = promise_parts target (name_text name) detail

-- how the key of a promise is written
abbrev pub promise_bytes : PromiseKey → List ℕ
promise_bytes key = promise_of_kind key.name key.target key.detail

-- how the key of a finding is written: `CODE#NUMBER UNIT > PROMISE`
abbrev pub key_bytes : FindingKey → List ℕ
key_bytes key =
    code_bytes key.code ++ codes "#" ++ decimal key.number ++ codes " " ++ key.unit
    ++ codes " > " ++ promise_bytes key.on
