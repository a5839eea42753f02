use Rattle.std.proofs.Common.{◌≡◌, ◌∙◌, ℕ, List, ap, sym, get_or, length, arith, []}
use Rattle.std.specs.Prelude.{unwrap_or}
use Rattle.std.proofs.lemmas.Option.{slice_get_read}
use Rattle.class_faces.specs.Keys.{member_keys}
use Rattle.binder.proofs.Keys.{keys_long}
use Rattle.binder.proofs.unit.member_key.Goals as goal

pub bounds-as_slice-number : goal.bounds-as_slice-number
bounds-as_slice-number c =
    let long : length c.as_slice.result.now ≡ length c.args.class.now.members = ap length (c.as_slice.ensures ∙ c.in_ok-keys.ensures) ∙ keys_long c.args.class.now in
    omega (arith, long, c.requires)

pub returns : goal.returns
returns c =
    let keys : c.as_slice.result.now ≡ member_keys c.args.class.now = c.as_slice.ensures ∙ c.in_ok-keys.ensures in
    let is : c.index-as_slice-number.result ≡ get_or (member_keys c.args.class.now) c.args.number c.index-as_slice-number.result =
    c.index-as_slice-number.is ∙ ap (λ (ks : List (List ℕ)). get_or ks c.args.number c.index-as_slice-number.result) keys in
    c.in_ok-clone.ensures.cases
    ∙ sym (ap (λ o. unwrap_or o []) (slice_get_read (member_keys c.args.class.now) (length c.args.class.now.members) c.args.number c.index-as_slice-number.result
    (sym (keys_long c.args.class.now)) c.requires is))
