use Rattle.std.proofs.Common.{◌≡◌, Some, ap, refl, sym, ◌∙◌, unwrap_or}
use Rattle.std.specs.Map.{lookup, set_value}
use Rattle.object_pool.specs.Objects.{PoolView, is_key, slot_at, nothing}
use Rattle.object_pool.specs.Stored.{slots_in, object_in}
use Rattle.object_pool.specs.Lending.{with_parts}
use Rattle.object_pool.proofs.FrameSums.{view_of}
use Rattle.object_pool.proofs.SlotLemmas.{entry_there, slot_there, kept_there, parts_sound, parts_view}
use Rattle.object_pool.proofs.pool.Pool.parts_mut.Goals as goal

pub get_mut-object-requires : goal.get_mut-object-requires
get_mut-object-requires c = entry_there c.self.inside.region c.self.inside.objects _ (is_key c.args.key.now) (ap (λ p. p.slots) c.self.view_is) c.requires

pub invariant_of-self-lent : goal.invariant_of-self-lent
invariant_of-self-lent c w =
    let es = c.self.inside.objects in
    let o = c.get_mut-object.result.now in
    let found : lookup (is_key c.args.key.now) es ≡ Some o = c.get_mut-object.ensures.value in
    parts_sound _ _ es c.self.invariant _ o found w

pub returns : goal.returns
returns c =
    let region = c.self.inside.region in
    let key = c.args.key.now in
    let es = c.self.inside.objects in
    let o = c.get_mut-object.result.now in
    let found : lookup (is_key key) es ≡ Some o = c.get_mut-object.ensures.value in
    let kept : slot_at c.args.self.now.slots key ≡ object_in region o = slot_there region es _ key o (ap (λ p. p.slots) c.self.view_is) found in (
      (
        refl,
        λ w.
            let here : slot_at (slots_in region es) key ≡ object_in region o = ap (λ z. unwrap_or z nothing) (kept_there region _ es c.self.invariant (is_key key) o found) in
            let now : slots_in region (set_value (is_key key) es (record o { parts = w })) ≡ set_value (is_key key) (slots_in region es) (record (slot_at (slots_in region es) key) { attrs = w.attrs; rows = w.rows }) =
            parts_view region _ es c.self.invariant (is_key key) o found w ∙ ap (λ z. set_value (is_key key) (slots_in region es) (record z { attrs = w.attrs; rows = w.rows })) (sym here) in
            let before : view_of region es ≡ c.args.self.now = c.self.view_is in
            ap (λ z. let v : PoolView = record (view_of region es) { slots = z } in v) now ∙ ap (λ p. with_parts p key w) before,
      ),
      record { lends = tt; attrs = ap (λ z. z.attrs) (sym kept); rows = ap (λ z. z.rows) (sym kept) },
    )
