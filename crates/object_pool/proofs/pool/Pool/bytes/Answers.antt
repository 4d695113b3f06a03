use Rattle.std.proofs.Common.{◌≡◌, ◌≤◌, ap, sym, length, ◌++◌, take, drop, ◌∙◌, arith}
use Rattle.frame_region.specs.Region.{bytes_of}
use Rattle.object_pool.specs.Objects.{is_key}
use Rattle.object_pool.proofs.Counts.{part_of_size}
use Rattle.object_pool.proofs.SlotLemmas.{entry_there, slot_there, held_of}
use Rattle.object_pool.proofs.pool.Pool.bytes.Goals as goal

pub stored_at-object-requires : goal.stored_at-object-requires
stored_at-object-requires c = entry_there c.self.inside.region _ _ (is_key c.args.key.now) (ap (λ p. p.slots) c.self.view_is) c.requires

pub read-requires-clause-owned : goal.read-requires-clause-owned
read-requires-clause-owned c = (held_of c.self.inside.region _ _ (is_key c.args.key.now) _ c.self.invariant c.stored_at-object.ensures).owned

pub read-requires-clause-range : goal.read-requires-clause-range
read-requires-clause-range c =
    let held = held_of c.self.inside.region _ _ (is_key c.args.key.now) _ c.self.invariant c.stored_at-object.ensures in
    let len = ap length c.as_mut_slice.ensures.value in
    omega (arith, held.owned.sized, held.fits, c.min-first.ensures, c.min-length.ensures, len, c.in_ok-bytes.ensures.len)

pub returns : goal.returns
returns c =
    let held = held_of c.self.inside.region _ _ (is_key c.args.key.now) _ c.self.invariant c.stored_at-object.ensures in
    let kept = slot_there c.self.inside.region _ _ c.args.key.now _ (ap (λ p. p.slots) c.self.view_is) c.stored_at-object.ensures in
    let region = c.self.inside.region in
    let o = c.stored_at-object.result.now in
    let fits : o.size ≤ length (bytes_of region o.run) = omega (arith, held.owned.sized, held.fits) in
    let slice = ap length c.as_mut_slice.ensures.value in
    let len : length c.in_ok-bytes.bytes.items ≡ c.min-length.result = sym slice ∙ (c.as_mut_slice.ensures.len ∙ c.in_ok-bytes.ensures.len) in
    let read : c.read.new.out ≡ take c.min-length.result (drop c.min-first.result (bytes_of region o.run)) = c.read.ensures ∙ ap (λ n. take n (drop c.min-first.result (bytes_of region o.run))) (slice ∙ len) in
    let given : c.from_vec.result ≡ take c.min-length.result (c.read.new.out ++ drop (length c.read.new.out) c.in_ok-bytes.bytes.items) = c.from_vec.ensures ∙ ap (λ n. take n (c.read.new.out ++ drop (length c.read.new.out) c.in_ok-bytes.bytes.items)) c.in_ok-bytes.ensures.len in
    part_of_size (bytes_of region o.run) o.size c.args.start c.args.count c.min-first.result c.min-length.result c.read.new.out c.in_ok-bytes.bytes.items c.from_vec.result fits c.min-first.ensures c.min-length.ensures len read given
    ∙ ap (λ z. take c.args.count (drop c.args.start z.bytes)) (sym kept)
