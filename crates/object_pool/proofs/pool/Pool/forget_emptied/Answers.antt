use Rattle.std.proofs.Common.{◌≡◌, IsNone, ap, sym, refl, subst, ◌∙◌}
use Rattle.std.specs.List.{filter}
use Rattle.std.specs.List.Sorted.{IsStrictlySortedBy}
use Rattle.std.specs.Map.{lookup, keys_of}
use Rattle.object_pool.specs.Objects.{is_key, key_cmp, exists, settled, slot_at}
use Rattle.object_pool.specs.Stored.{Entries, IsSound, slots_in, is_stored}
use Rattle.object_pool.proofs.SlotLemmas.{kept_or_not}
use Rattle.object_pool.proofs.Sweeps.{stored_only, swept_sound, swept_same, view_swept, filter_twice, absent_still}
use Rattle.object_pool.proofs.pool.Pool.forget_emptied.Goals as goal

left : (c : goal.After-note) → c.retain_existing.new.self ≡ stored_only c.self.inside.objects
left c = c.retain_existing.ensures.entries

pub invariant_of-self : goal.invariant_of-self
invariant_of-self c =
    let P : Entries → Type 0 = λ es. IsSound c.self.inside.region c.self.inside.frame es in
    let sorted = subst (λ es. IsStrictlySortedBy key_cmp (keys_of es)) (left c) c.retain_existing.ensures.in_order in
    subst P (sym (left c)) (swept_sound c.self.inside.region _ _ c.self.invariant sorted)

pub returns-clause-objects : goal.returns-clause-objects
returns-clause-objects c =
    let before = ap (λ p. p.slots) c.self.view_is in
    ap (filter (λ e. exists e.1)) (ap (slots_in c.self.inside.region) (left c) ∙ view_swept c.self.inside.region _ c.self.invariant.held)
    ∙ (filter_twice (λ e. exists e.1) (slots_in c.self.inside.region c.self.inside.objects) ∙ ap (filter (λ e. exists e.1)) before)

pub returns-clause-all : goal.returns-clause-all
returns-clause-all c q =
    ap (λ es. settled (slot_at (slots_in c.self.inside.region es) q)) (left c)
    ∙ (swept_same c.self.inside.region q _ c.self.invariant.in_order c.self.invariant.held ∙ ap (λ z. settled (slot_at z q)) (ap (λ p. p.slots) c.self.view_is))

pub returns-clause-absent : goal.returns-clause-absent
returns-clause-absent c k none =
    let region = c.self.inside.region in
    let es = c.self.inside.objects in
    let before : IsNone (lookup (is_key k) es) = kept_or_not region es _ (is_key k) (ap (λ p. p.slots) c.self.view_is) ∙ none in
    let after : IsNone (lookup (is_key k) c.retain_existing.new.self) = subst (λ z. IsNone (lookup (is_key k) z)) (sym (left c)) (absent_still (is_key k) (λ e. is_stored e.1) es before) in
    sym (kept_or_not region c.retain_existing.new.self _ (is_key k) refl) ∙ after
