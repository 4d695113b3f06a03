use Rattle.std.proofs.Common.{◌≡◌, ◌≤◌, ◌+◌, ◌++◌, take, drop, length, slice_range, ◌∙◌, ap, arith}
use Rattle.std.proofs.lemmas.List.{with_items_is}
use Rattle.http_intake.proofs.Held.{held_same, held_more}
use Rattle.http_intake.proofs.buffer.Buffer.fill.Goals as goal

pub returns-clause-read : goal.returns-clause-read
returns-clause-read g c =
    let old = c.self.inside in
    let moved = c.make_room-start in
    let read = c.read_behind-read in
    let count = c.in_ok-count.count in
    let next = take count (drop moved.result.1 read.new.bytes) in
    let bytes = with_items_is old.bytes read.new.bytes (omega arith) in
    let within : moved.result.1 ≤ length read.new.bytes = omega arith in
    let same = held_same moved.new.bytes read.new.bytes moved.result.0 moved.result.1 read.ensures.front in
    let kept : slice_range moved.new.bytes moved.result.0 moved.result.1 ≡ c.args.self.now =
    moved.ensures.kept ∙ ap (λ l. slice_range l old.start old.end) c.as_mut_slice-bytes.ensures.value ∙ c.self.view_is in (
      next,
      c.in_ok-count.ensures.read,
      ap (λ l. slice_range l moved.result.0 (moved.result.1 + count)) bytes
          ∙ held_more read.new.bytes moved.result.0 moved.result.1 count moved.ensures.ordered within
          ∙ ap (λ l. l ++ next) (same ∙ kept),
    )
