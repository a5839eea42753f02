-- The findings at one place of a unit: a function of what is done there and of the claims that stand
-- around it.
use Rattle.std.specs.Prelude.{ℕ, zero, suc, not, Bool, true, false, List, [], Option, Some, None, map, codes, length, if◌then◌else◌}
use Rattle.std.specs.Str.Lossy.{utf8_lossy}
use Rattle.desk_base.specs.declared.key.PromiseKey.{PromiseKey}
use Rattle.result_records.specs.declared.code.FindingCode.{FindingCode}
use Rattle.result_records.specs.declared.code.FindingCode.TheVariants as code
use Rattle.result_records.specs.declared.finding.Finding.{Finding}
use Rattle.result_records.specs.declared.finding.FindingLink.{FindingLink}
use Rattle.bound_tree.specs.Claim.{Claim}
use Rattle.bound_tree.specs.declared.name.FieldName.{FieldName}
use Rattle.bound_tree.specs.declared.name.MemberName.{MemberName}
use Rattle.bound_tree.specs.Tree.{Term, Terms, no_terms, term}
use Rattle.bound_tree.specs.Places.{What, Reads, Writes, Calls, Makes, Starts, Locks, Flows}
use Rattle.bound_tree.specs.Claims.{local_claim}
use Rattle.lock_findings.specs.declared.lock.Guard.{Guard}
use Rattle.lock_findings.specs.declared.lock.Need.{Need}
use Rattle.lock_findings.specs.declared.lock.Base.{Base}
use Rattle.lock_findings.specs.declared.lock.Base.TheVariants as for
use Rattle.lock_findings.specs.declared.own.Own.{Own}
use Rattle.lock_findings.specs.Promises.{Promises}
use Rattle.lock_findings.specs.Held.{is_held, is_held_if_any, base_of}
use Rattle.lock_findings.specs.Ways.{ways}

-- a finding of the unit that isn't numbered yet
abbrev pub finding : FindingCode → Own → PromiseKey → ℕ → List ℕ → List (List FindingLink) → Finding
finding kind own on place subject alternatives = record {
  key = record { code = kind; number = 0; unit = own.key; on = on };
  place = place;
  subject = subject;
  alternatives = alternatives;
}

-- ---- reads and writes

-- of a field in the region of a lock
abbrev pub access_finding : FindingCode → Own → List Claim → ℕ → FieldName → Option ℕ → Guard → Finding
access_finding kind own claims at field base guard =
    finding kind own guard.key at (utf8_lossy field.name)
    (ways own guard.lock base (is_held claims guard.holder guard.lock.class base) true)

-- one for each lock in whose region the field is, unless it is final
abbrev pub access_findings : Promises → FindingCode → Own → List Claim → ℕ → FieldName → Option ℕ → List Finding
access_findings promises kind own claims at field base =
    if field.is_final then [] else map (access_finding kind own claims at field base) (promises.guards field.class field.name)

-- ---- calls

abbrev pub argument_base : (ℕ → Bool) → Terms → ℕ → Option ℕ
argument_base varies no_terms i = None
argument_base varies (term e es) zero = local_claim varies e
argument_base varies (term e es) (suc i) = argument_base varies es i

-- what the caller puts in the place of the callee's base: its receiver, or the argument of that number
abbrev pub actual_base : (ℕ → Bool) → (receiver : Option ℕ) → Terms → Base → Option ℕ
actual_base varies receiver args for.Nobody = None
actual_base varies receiver args for.This = receiver
actual_base varies receiver args (for.Param i) = argument_base varies args i

abbrev pub call_finding_for : Own → List Claim → ℕ → List ℕ → Need → Option ℕ → Finding
call_finding_for own claims at subject need base =
    finding code.UnlockedCall own need.key at (utf8_lossy subject)
    (ways own need.lock base (is_held_if_any claims need.holder need.lock.class base) (not need.lock.is_static))

abbrev pub call_finding : Own → (ℕ → Bool) → List Claim → ℕ → List ℕ → Option ℕ → Terms → Need → Finding
call_finding own varies claims at subject receiver args need =
    call_finding_for own claims at subject need (actual_base varies receiver args need.base)

-- one for each lock that the callee requires
abbrev pub call_findings : Own → (ℕ → Bool) → List Claim → ℕ → List ℕ → Option ℕ → Terms → List Need → List Finding
call_findings own varies claims at subject receiver args needs =
    map (call_finding own varies claims at subject receiver args) needs

-- ---- a place

abbrev pub count_of : Terms → ℕ
count_of no_terms = 0
count_of (term e es) = suc (count_of es)

abbrev pub method_findings : Promises → Own → (ℕ → Bool) → List Claim → ℕ → MemberName → Option ℕ → Terms → List Finding
method_findings promises own varies claims at method receiver args =
    call_findings own varies claims at method.name receiver args (promises.needs method.class method.name (count_of args))

-- A `new` has no receiver in the caller: its object isn't there yet.
abbrev pub new_findings : Promises → Own → (ℕ → Bool) → List Claim → ℕ → List ℕ → Terms → List Finding
new_findings promises own varies claims at class args =
    call_findings own varies claims at class None args (promises.needs class (codes "new") (count_of args))

abbrev pub rows : Promises → Own → (ℕ → Bool) → List Claim → ℕ → What → List Finding
rows promises own varies claims at (Reads field owner) =
    access_findings promises code.UnguardedRead own claims at field (base_of varies owner)
rows promises own varies claims at (Writes field owner) =
    access_findings promises code.UnguardedWrite own claims at field (base_of varies owner)
rows promises own varies claims at (Calls method owner args) =
    method_findings promises own varies claims at method (base_of varies owner) args
rows promises own varies claims at (Makes class args) = new_findings promises own varies claims at class args
rows promises own varies claims at (Starts value) = []
rows promises own varies claims at (Locks monitor) = []
rows promises own varies claims at (Flows value goal) = []
