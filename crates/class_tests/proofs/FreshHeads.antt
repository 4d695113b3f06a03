-- Heads in a pool without objects.
use Rattle.std.proofs.Common.{◌≡◌, [], refl, sym, ap, ◌∙◌, subst}
use Rattle.rgw_types.specs.declared.pool_key.Key.{Key}
use Rattle.object_pool.specs.declared.place.Place.{Place}
use Rattle.object_pool.specs.Objects.{PoolView, object_at, settled, slot_at}
use Rattle.object_pool.specs.Places.{object_of}
use Rattle.object_words.specs.Heads.{Head, no_head}
use Rattle.cls_head.specs.Heads.{IsHead}

pub fresh_head : (p : PoolView) (key : Key) (place : Place) → p.slots ≡ [] → object_of place ≡ object_at p key → (h : Head) × IsHead (object_of place) h
fresh_head p key place none is =
    let fresh = is ∙ ap (λ slots. settled (slot_at slots key)) none in
    (no_head, subst (λ o. IsHead o no_head) (sym fresh) (record { bytes = refl; attrs = refl; rows = refl; bounds = refl }))
