use Rattle.std.proofs.Common.{◌≡◌, ◌≤◌, ap, ap₂, sym, subst, length, take, Some, is_some, ◌∙◌, arith}
use Rattle.std.specs.Int.{div_ceil}
use Rattle.std.specs.Map.{lookup, set_value}
use Rattle.frame_region.specs.Region.{Run, RegionView, bytes_of, Owns, Apart, Keeps}
use Rattle.object_pool.specs.declared.object.Stored.{Stored}
use Rattle.object_pool.specs.Objects.{is_key, HasFrameSum, frames_of, slot_at}
use Rattle.object_pool.specs.Stored.{IsSound, IsHeld, slots_in, object_in}
use Rattle.object_pool.proofs.Counts.{count_fits, first_of_overwritten}
use Rattle.object_pool.proofs.FrameSums.{view_of, frame_sum, frames_are, same_pool}
use Rattle.object_pool.proofs.Replacements.{Replaces, replaced_sound, replaced_view}
use Rattle.object_pool.proofs.Touches.{still_there}
use Rattle.object_pool.proofs.SlotLemmas.{entry_there, slot_there, held_of}
use Rattle.object_pool.proofs.pool.Pool.put_bytes.Goals as goal

pub returns-in-Err-clause-sum : goal.returns-in-Err-clause-sum
returns-in-Err-clause-sum c =
    let same : c.take.new.self ≡ c.self.inside.region = c.in-Err.ensures.err in
    let P : RegionView → Type 0 = λ r. HasFrameSum (view_of r c.self.inside.objects) in
    subst P (sym same) (frame_sum _ c.self.inside.frame _ c.self.invariant)

pub get_mut-object-requires : goal.get_mut-object-requires
get_mut-object-requires c = entry_there c.self.inside.region c.self.inside.objects _ (is_key c.args.key.now) (ap (λ p. p.slots) c.self.view_is) c.requires

-- the old run is still owned once the new one is taken and written
pub give-requires : goal.give-requires
give-requires c =
    let o = c.get_mut-object.result.now in
    let found : lookup (is_key c.args.key.now) c.self.inside.objects ≡ Some o = c.get_mut-object.ensures.value in
    let held = held_of c.self.inside.region _ _ (is_key c.args.key.now) o c.self.invariant found in
    let taken = c.in-Ok.ensures.others o.run held.owned in
    subst (λ r. Owns c.write.new.self r) (sym c.replace-old.ensures.value) (c.write.ensures.others o.run taken.2.owned taken.0).owned

found : (c : goal.After-give) → lookup (is_key c.args.key.now) c.self.inside.objects ≡ Some c.get_mut-object.result.now
found c = c.get_mut-object.ensures.value

held : (c : goal.After-give) → IsHeld c.self.inside.region c.get_mut-object.result.now
held c = held_of c.self.inside.region _ _ (is_key c.args.key.now) _ c.self.invariant (found c)

-- giving the old run back keeps what is apart from it
give_keeps : (c : goal.After-give) → (other : Run) → Owns c.write.new.self other → Apart c.get_mut-object.result.now.run other → Keeps c.write.new.self c.give.new.self other
give_keeps c other owned apart = c.give.ensures.others other owned (subst (λ r. Apart r other) (sym c.replace-old.ensures.value) apart)

new_kept : (c : goal.After-give) → Keeps c.write.new.self c.give.new.self c.in-Ok.run'
new_kept c = give_keeps c c.in-Ok.run' c.write.ensures.owned (c.in-Ok.ensures.others c.get_mut-object.result.now.run (held c).owned).1

replaces : (c : goal.After-give) → Replaces c.self.inside.region c.give.new.self c.get_mut-object.result.now.run c.in-Ok.run'
replaces c =
    let o = c.get_mut-object.result.now in
    let old = ap (λ r. r.count) c.replace-old.ensures.value in
    record {
      frame = c.give.ensures.frame ∙ (c.write.ensures.frame ∙ c.in-Ok.ensures.frame);
      frames = c.give.ensures.frames ∙ (c.write.ensures.frames ∙ c.in-Ok.ensures.frames);
      free = omega (arith, old, c.give.ensures.free, c.write.ensures.free, c.in-Ok.ensures.free, c.in-Ok.ensures.count);
      owned = (new_kept c).owned;
      keeps = λ other owned apart.
          let taken = c.in-Ok.ensures.others other owned in
          let written = c.write.ensures.others other taken.2.owned taken.0 in
          let given = give_keeps c other written.owned apart in
          record { owned = given.owned; bytes = given.bytes ∙ (written.bytes ∙ taken.2.bytes) };
      apart = λ other owned. let taken = c.in-Ok.ensures.others other owned in (taken.0, taken.1);
    }

count : (c : goal.After-give) → c.in-Ok.run'.count ≡ div_ceil (length c.args.bytes.now) c.self.inside.frame
count c =
    let sound = c.self.invariant in
    let small : c.unwrap_or-needed.result ≤ 4194304 = omega (arith, c.in-Ok.ensures.free, sound.sum, sound.not_too_many) in
    c.in-Ok.ensures.count ∙ (count_fits c.try_from.result _ _ c.try_from.ensures c.unwrap_or-needed.ensures small ∙ c.div_ceil-frames.ensures)

new_object : (c : goal.After-give) → Stored
new_object c = record { run = c.in-Ok.run'; size = length c.args.bytes.now; parts = c.get_mut-object.result.now.parts }

abbrev with_run : (c : goal.After-give) → Run → Stored
with_run c r = record { run = r; size = length c.args.bytes.now; parts = c.get_mut-object.result.now.parts }

written : (c : goal.After-give) → set_value (is_key c.args.key.now) c.self.inside.objects (with_run c c.replace-old.new.dest) ≡ set_value (is_key c.args.key.now) c.self.inside.objects (new_object c)
unfolding new_object
written c = ap (λ r. set_value (is_key c.args.key.now) c.self.inside.objects (with_run c r)) c.replace-old.ensures.after

sound_now : (c : goal.After-give) → IsSound c.give.new.self c.self.inside.frame (set_value (is_key c.args.key.now) c.self.inside.objects (new_object c))
unfolding new_object
sound_now c = replaced_sound c.self.inside.region c.give.new.self _ _ c.self.invariant (is_key c.args.key.now) c.get_mut-object.result.now (found c) c.in-Ok.run' (length c.args.bytes.now) (replaces c) (count c)

pub invariant_of-self-2 : goal.invariant_of-self-2
invariant_of-self-2 c = subst (λ es. IsSound c.give.new.self c.self.inside.frame es) (sym (written c)) (sound_now c)

pub returns-clause-sum : goal.returns-clause-sum
returns-clause-sum c = subst (λ es. HasFrameSum (view_of c.give.new.self es)) (sym (written c)) (frame_sum c.give.new.self c.self.inside.frame _ (sound_now c))

-- the bytes in the new run are those that were put
bytes_now : (c : goal.After-give) → take (length c.args.bytes.now) (bytes_of c.give.new.self c.in-Ok.run') ≡ c.args.bytes.now
bytes_now c =
    ap (take (length c.args.bytes.now)) ((new_kept c).bytes ∙ c.write.ensures.written) ∙ first_of_overwritten _ c.args.bytes.now

pub returns-clause-ok : goal.returns-clause-ok
unfolding new_object
returns-clause-ok c =
    let region = c.self.inside.region in
    let old = c.args.self.now in
    let key = c.args.key.now in
    let o = c.get_mut-object.result.now in
    let slots = ap (λ p. p.slots) c.self.view_is in
    let kept : slot_at old.slots key ≡ object_in region o = slot_there region _ old.slots key o slots (found c) in
    let frame : region.frame ≡ old.frame = ap (λ p. p.frame) c.self.view_is in
    let free : region.free ≡ old.free = ap (λ p. p.free) c.self.view_is in
    let needed : c.in-Ok.run'.count ≡ div_ceil (length c.args.bytes.now) old.frame = count c ∙ ap (div_ceil (length c.args.bytes.now)) (sym c.self.invariant.frame_is ∙ frame) in
    let given : frames_of old.frame (slot_at old.slots key) ≡ o.run.count = ap₂ frames_of (sym frame) kept ∙ frames_are region o (held c) in
    let object : object_in c.give.new.self (new_object c) ≡ record (slot_at old.slots key) { bytes = c.args.bytes.now } =
    λ i. record { bytes = bytes_now c i; attrs = (sym kept i).attrs; rows = (sym kept i).rows } in
    let seen : slots_in c.give.new.self (set_value (is_key key) c.self.inside.objects (new_object c)) ≡ set_value (is_key key) old.slots (record (slot_at old.slots key) { bytes = c.args.bytes.now }) =
    replaced_view region c.give.new.self _ _ c.self.invariant (is_key key) o (found c) c.in-Ok.run' (length c.args.bytes.now) (replaces c) (count c) ∙ ap₂ (set_value (is_key key)) slots object in
    same_pool _ _
    ((replaces c).frame ∙ frame)
    ((replaces c).frames ∙ ap (λ p. p.frames) c.self.view_is)
    (omega (arith, (replaces c).free, c.in-Ok.ensures.free, c.in-Ok.ensures.count, free, needed, given))
    (ap (slots_in c.give.new.self) (written c) ∙ seen)

pub returns-clause-there : goal.returns-clause-there
returns-clause-there c = ap (λ z. is_some (lookup (is_key c.args.key.now) z)) (ap (λ p. p.slots) (returns-clause-ok c)) ∙ still_there c.args.self.now.slots c.args.key.now c.requires _
