use Rattle.std.proofs.Common.{◌≡◌, ◌+◌, ◌-◌, ◌<◌, [], ap, ap₂, ◌∙◌, refl, arith}
use Rattle.std.specs.Int.{div_ceil}
use Rattle.std.specs.Map.{set_value}
use Rattle.object_pool.specs.Objects.{Object, dropped, frames_of, is_key, slot_at, with_object}
use Rattle.object_pool.proofs.EntryLemmas.{set_value_twice}
use Rattle.object_pool.proofs.FrameSums.{no_frames_of_none, same_pool}
use Rattle.object_pool.proofs.PlaceLemmas.{done}
use Rattle.object_pool.proofs.Touches.{at_key, same_sum, still_there}
use Rattle.object_pool.proofs.pool.Pool.drop_object.Goals as goal

pub parts_mut-requires : goal.parts_mut-requires
parts_mut-requires c = c.put_bytes.ensures.there

pub returns-clause-after : goal.returns-clause-after
returns-clause-after c =
    let old = c.args.self.now in
    let mid = c.put_bytes.new.self in
    let key = c.args.key.now in
    let o = slot_at old.slots key in
    let none = no_frames_of_none old.frame in
    let emptied : Object = record o { bytes = [] } in
    let put : mid ≡ with_object old key emptied (old.free - div_ceil 0 old.frame + frames_of old.frame o) =
    done c.put_bytes.result (old.free < div_ceil 0 old.frame) (λ few. omega (arith, few, none)) c.put_bytes.ensures.refused c.put_bytes.ensures.ok in
    let there : slot_at mid.slots key ≡ emptied = ap (λ p. slot_at p.slots key) put ∙ at_key old.slots key c.requires emptied in
    let cleared : c.clear.new.self ≡ record { attrs = []; rows = record { rows = []; rooms = []; spare = o.rows.spare } } =
    c.clear.ensures ∙ (λ i. record { attrs = []; rows = record { rows = []; rooms = []; spare = (c.parts_mut.ensures.rows i).spare } }) ∙ (λ i. record { attrs = []; rows = record { rows = []; rooms = []; spare = (there i).rows.spare } }) in
    let object : record (slot_at mid.slots key) { attrs = c.clear.new.self.attrs; rows = c.clear.new.self.rows } ≡ dropped o =
    λ i. record { bytes = (there i).bytes; attrs = (cleared i).attrs; rows = (cleared i).rows } in
    same_pool _ _
    (ap (λ p. p.frame) put)
    (ap (λ p. p.frames) put)
    (ap (λ p. p.free) put ∙ omega (arith, none))
    (ap₂ (set_value (is_key key)) (ap (λ p. p.slots) put) object ∙ set_value_twice (is_key key) old.slots emptied (dropped o))

pub returns-clause-there : goal.returns-clause-there
returns-clause-there c = still_there c.put_bytes.new.self.slots c.args.key.now c.put_bytes.ensures.there _

pub returns-clause-sum : goal.returns-clause-sum
returns-clause-sum c =
    let mid = c.put_bytes.new.self in
    same_sum mid c.args.key.now (record (slot_at mid.slots c.args.key.now) { attrs = c.clear.new.self.attrs; rows = c.clear.new.self.rows }) c.put_bytes.ensures.there refl c.put_bytes.ensures.sum
