use Rattle.std.proofs.Common.{◌≡◌, ◌≤◌, length, Some, refl, sym, ap, ◌∙◌, subst, arith, append-nil}
use Rattle.omap_pages.specs.Contents.{KeepsOtherRooms, room_at}
use Rattle.omap_pages.specs.Rows.{value_at}
use Rattle.omap_pages.specs.Rows as rows
use Rattle.object_pool.specs.Places.{rows_of}
use Rattle.object_words.specs.Entries.{no_entry}
use Rattle.class_words.proofs.WorksLemmas.{works_on_rows}
use Rattle.cls_index.specs.Rows.{KeepsToName}
use Rattle.cls_index.proofs.RawLemmas.{raw_first}
use Rattle.cls_index.proofs.RowLemmas.{blank_bytes, blank_fits, first_bytes, front_taken, front_within, keeps_then, length-first}
use Rattle.cls_index.proofs.rows.put_first.Goals as goal

pub write_tagged-len-requires : goal.write_tagged-len-requires
write_tagged-len-requires c = (no_entry, blank_fits, sym blank_bytes, refl)

pub slice_bounds-out-end : goal.slice_bounds-out-end
slice_bounds-out-end c =
    let w = c.write_tagged-len.ensures in
    front_within _ (first_bytes c.args.tag.now) _ _ (w.written no_entry blank_fits (sym blank_bytes) refl) (w.len no_entry blank_fits (sym blank_bytes) refl)

pub slice_bounds-splice-end : goal.slice_bounds-splice-end
slice_bounds-splice-end c =
    let w = c.write_tagged-len.ensures in
    let len = w.len no_entry blank_fits (sym blank_bytes) refl in
    len ∙ sym (ap length (front_taken _ (first_bytes c.args.tag.now) _ _ (w.written no_entry blank_fits (sym blank_bytes) refl) len))

pub splice-requires : goal.splice-requires
splice-requires c =
    let b = rows_of c.put_row.new.self in
    let value = c.in_ok-value.value in
    let long : length value ≡ 334 = ap length c.in_ok-value.ensures in
    let here = subst (λ k. value_at b.rows k ≡ Some value) c.in_ok-key.ensures c.in_ok-put_row.ensures.at_key in
    let room = subst (λ k. length value ≤ room_at b.rooms k) c.in_ok-key.ensures c.in_ok-put_row.ensures.fits in
    let w = c.write_tagged-len.ensures in
    let bytes = front_taken _ (first_bytes c.args.tag.now) _ _ (w.written no_entry blank_fits (sym blank_bytes) refl) (w.len no_entry blank_fits (sym blank_bytes) refl) in
    (value, here, omega (arith, long), omega (arith, long, room, ap length bytes, length-first c.args.tag.now))

pub returns-clause-only : goal.returns-clause-only
returns-clause-only c =
    let name = c.args.name.now in
    let o = rows_of c.args.shard.now in
    let d = rows_of c.put_row.new.self in
    let put : KeepsToName c.args.shard.now c.put_row.new.self name = record {
      works = works_on_rows c.args.shard.now c.put_row.new.self c.put_row.ensures.change;
      others = subst (rows.KeepsOthers o.rows d.rows) c.in_ok-key.ensures c.in_ok-put_row.ensures.others;
      rooms = subst (KeepsOtherRooms o d) c.in_ok-key.ensures c.in_ok-put_row.ensures.other_rooms;
      spare = c.put_row.ensures.spare;
    } in
    keeps_then _ _ _ name put c.splice.ensures.only

pub returns-clause-ok : goal.returns-clause-ok
returns-clause-ok c =
    let b = rows_of c.put_row.new.self in
    let value = c.in_ok-value.value in
    let long : length value ≡ 334 = ap length c.in_ok-value.ensures in
    let here = subst (λ k. value_at b.rows k ≡ Some value) c.in_ok-key.ensures c.in_ok-put_row.ensures.at_key in
    let room = subst (λ k. length value ≤ room_at b.rooms k) c.in_ok-key.ensures c.in_ok-put_row.ensures.fits in
    let w = c.write_tagged-len.ensures in
    let bytes = front_taken _ (first_bytes c.args.tag.now) _ _ (w.written no_entry blank_fits (sym blank_bytes) refl) (w.len no_entry blank_fits (sym blank_bytes) refl) in
    record {
      row = c.splice.ensures.row value here ∙ ap Some (raw_first value _ 334 (sym long) ∙ append-nil _ ∙ bytes);
      entry = w.fits no_entry blank_fits refl;
      room = omega (arith, long, room, c.splice.ensures.room);
    }
