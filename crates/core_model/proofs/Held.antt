-- The holders of the classes, one by one and all at once.
use Rattle.std.proofs.Common.{◌≡◌, ℕ, ◌+◌, List, [], ◌∷◌, ◌++◌, length, sym, ap, ◌∙◌, arith, append_assoc, append-nil, length-append}
use Rattle.core_model.specs.Begin.{with_holder, all_held, holders_from, static_fresh, all_fresh}
use Rattle.core_model.specs.Objects.{new_object, initial_values, static_initials}
use Rattle.core_model.specs.declared.start.Holders.{Holders}
use Rattle.core_model.specs.declared.program.ClassInfo.{ClassInfo}
use Rattle.core_model.specs.declared.object.Obj.{Obj}
use Rattle.core_model.specs.declared.object.ObjKind.TheVariants as kind

pub held-next : (h : Holders) (cs : List ClassInfo) → (all_held h cs).next ≡ h.next + all_fresh cs
held-next h [] = omega arith
held-next h (info ∷ cs) = omega (arith, held-next (with_holder h info) cs)

pub held-objects : (h : Holders) (cs : List ClassInfo) → (all_held h cs).objects ≡ h.objects ++ holders_from (length h.objects) h.next cs
held-objects h [] = sym (append-nil h.objects)
held-objects h (info ∷ cs) =
    let one : Obj = new_object (kind.Holder (length h.objects)) (initial_values h.next (static_initials info.fields)) in
    let longer : length (h.objects ++ one ∷ []) ≡ length h.objects + 1 = omega (arith, length-append h.objects (one ∷ [])) in
    held-objects (with_holder h info) cs
    ∙ ap (λ (n : ℕ). (h.objects ++ one ∷ []) ++ holders_from n (h.next + static_fresh info) cs) longer
    ∙ append_assoc h.objects (one ∷ []) (holders_from (length h.objects + 1) (h.next + static_fresh info) cs)
