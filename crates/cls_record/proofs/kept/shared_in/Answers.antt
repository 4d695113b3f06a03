use Rattle.std.proofs.Common.{◌≡◌, ◌-◌, not, Bool, true, false, Some, length, take, drop, refl, sym, ap, ◌∙◌, arith}
use Rattle.std.proofs.lemmas.Bool.{true≢false}
use Rattle.std.proofs.lemmas.List.{length-drop, take_all}
use Rattle.std.proofs.lemmas.Slice.Eq.{bytes_eq-Decides}
use Rattle.index_entry.specs.Numbers.{number_bytes}
use Rattle.index_entry.proofs.PieceLemmas.{length-number_bytes, taken}
use Rattle.cls_record.specs.BucketRows.{shared_bytes}
use Rattle.cls_record.proofs.BucketLemmas.{found_shared, other_shared, row_read}
use Rattle.cls_record.proofs.kept.shared_in.Goals as goal

pub slice_bounds-ne-count : goal.slice_bounds-ne-count
slice_bounds-ne-count c = let r = row_read c.args.row.now c.requires.0 c.requires.2 in omega (arith, r.long)

pub slice_bounds-ne-start : goal.slice_bounds-ne-start
slice_bounds-ne-start c = let r = row_read c.args.row.now c.requires.0 c.requires.2 in omega (arith, r.long)

pub slice_bounds-number_in-end : goal.slice_bounds-number_in-end
slice_bounds-number_in-end c = let r = row_read c.args.row.now c.requires.0 c.requires.2 in omega (arith, r.long)

not_false : (b : Bool) → not b ≡ false → b ≡ true
not_false true e = refl
not_false false e = absurd (true≢false e)

pub returns-then-ne : goal.returns-then-ne
returns-then-ne c old b is here shared part =
    let bytes = c.args.row.now in
    let kept = take (length bytes - 51) (drop 51 bytes) in
    let whole = take_all (length bytes - 51) (drop 51 bytes) (omega (arith, length-drop 51 bytes)) ∙ (row_read bytes old here).at_51 in
    sym (other_shared old b (λ e. true≢false (sym c.if-ne.true ∙ c.ne.ensures ∙ ap not ((bytes_eq-Decides kept c.args.part.now).1 (whole ∙ e ∙ sym part)))))

pub returns : goal.returns
returns c old b is here shared part =
    let bytes = c.args.row.now in
    let kept = take (length bytes - 51) (drop 51 bytes) in
    let r = row_read bytes old here in
    let whole = take_all (length bytes - 51) (drop 51 bytes) (omega (arith, length-drop 51 bytes)) ∙ r.at_51 in
    let alike = (bytes_eq-Decides kept c.args.part.now).0 (not_false _ (sym c.ne.ensures ∙ c.if-ne.false)) in
    let same : shared_bytes old ≡ shared_bytes b = sym whole ∙ alike ∙ part in
    ap Some (c.number_in.ensures.once old.shared is.shared_fits (taken bytes 10 8 (number_bytes old.shared) r.more r.at_10 (length-number_bytes old.shared)))
    ∙ sym (found_shared old b is.shared_part shared same)
