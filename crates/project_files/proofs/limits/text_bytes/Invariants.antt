use Rattle.std.proofs.Common.{◌≡◌, ◌-◌, ◌^◌, min, length, take}
use Rattle.std.specs.List.{sum_by}
use Rattle.project_files.proofs.limits.text_bytes.Given as goal

-- the bytes of the texts so far
abbrev pub invariant-loop-file : goal.invariant-loop-file
invariant-loop-file l = l.total ≡ min (sum_by (λ f. length f.text.now) (take l.file-index l.files)) (2 ^ 64 - 1)
