use Rattle.std.proofs.Common.{◌≡◌, ◌+◌, ◌++◌, ◌∷◌, [], length, drop, sym, ap, ◌∙◌, subst, arith}
use Rattle.std.specs.Str.{IsUtf8}
use Rattle.object_words.specs.RowsOf.{row_view}
use Rattle.index_entry.specs.Numbers.{number_bytes, short_bytes}
use Rattle.index_entry.specs.Layouts.{IsWritten, row_bytes}
use Rattle.index_entry.proofs.PieceLemmas.{IsPut, next_long, put_as, put_long, put_more}
use Rattle.index_entry.proofs.EntryLemmas.{exists_bytes, length-live_bytes, live_flat, row_most}
use Rattle.index_entry.proofs.entry.put_row.Goals as goal

pub returns-clause-bounds : goal.returns-clause-bounds
returns-clause-bounds c =
    let w : IsWritten (row_view c.row.inside) = record {
      bounds = c.row.invariant;
      size_fits = omega arith;
      micros_fits = omega arith;
      etag_long = c.put_etag-at.ensures.long;
      etag_fits = c.put_etag-at.ensures.fits;
      kind_text = subst IsUtf8 (c.as_str-kind.ensures ∙ c.as_text.ensures.text) c.as_str-kind.utf8;
    } in
    subst IsWritten c.row.view_is w

pub returns-clause-most : goal.returns-clause-most
returns-clause-most c = row_most c.args.row.now (returns-clause-bounds c)

pub returns-clause-written : goal.returns-clause-written
unfolding number_bytes short_bytes
returns-clause-written c p q long here =
    let r1 = c.to_be_bytes.result in
    let r2 = c.to_be_bytes-2.result in
    let r3 = c.row.inside.stamp.zone ∷ [] in
    let r4 = c.row.inside.etag in
    let r5 = c.to_be_bytes-3.result in
    let r6 = c.as_bytes.result.now in
    let d2 = r1 ++ r2 in
    let d3 = d2 ++ r3 in
    let d4 = d3 ++ r4 in
    let d5 = d4 ++ r5 in
    let g1 = c.put-at.ensures.written p q long here in
    let l1 = put_long p r1 c.args.at _ long c.put-at.ensures.end in
    let l2 = next_long p r1 r2 _ _ l1 c.put-at-2.ensures.end in
    let l3 = next_long p d2 r3 _ _ l2 c.put-at-3.ensures.end in
    let l4 = next_long p d3 r4 _ _ l3 c.put_etag-at.ensures.end in
    let l5 = next_long p d4 r5 _ _ l4 c.put-at-4.ensures.end in
    let g2 = put_more p q r1 r2 _ (c.put-at-2.ensures.written (p ++ r1) (drop (length r1) q) l1 g1) in
    let g3 = put_more p q d2 r3 _ (c.put-at-3.ensures.written (p ++ d2) (drop (length d2) q) l2 g2) in
    let g4 = put_more p q d3 r4 _ (c.put_etag-at.ensures.written (p ++ d3) (drop (length d3) q) l3 g3) in
    let g5 = put_more p q d4 r5 _ (c.put-at-4.ensures.written (p ++ d4) (drop (length d4) q) l4 g4) in
    let g6 = put_more p q d5 r6 _ (c.put.ensures.written (p ++ d5) (drop (length d5) q) l5 g5) in
    let row = row_view c.row.inside in
    let kind : r6 ≡ row.kind = c.as_bytes.ensures.value ∙ c.as_str-kind.ensures ∙ c.as_text.ensures.text in
    let kind_len : r5 ≡ short_bytes (length row.kind) = c.to_be_bytes-3.ensures ∙ ap (λ k. short_bytes (length k)) (c.as_str-kind.ensures ∙ c.as_text.ensures.text) in
    let size : r1 ≡ number_bytes row.size = c.to_be_bytes.ensures in
    let micros : r2 ≡ number_bytes row.stamp.micros = c.to_be_bytes-2.ensures in
    let flat = live_flat r1 r2 r4 r5 r6 row.stamp.zone ∙ (λ i. size i ++ (micros i ++ (row.stamp.zone ∷ (row.etag ++ (kind_len i ++ kind i))))) in
    let done = flat ∙ sym (exists_bytes row c.if-not-row.false) in
    subst (λ r. IsPut p q (row_bytes r) c.put.new.out) c.row.view_is (put_as p q (d5 ++ r6) (row_bytes row) _ done g6)

pub returns-clause-end : goal.returns-clause-end
unfolding number_bytes short_bytes
returns-clause-end c =
    let row = row_view c.row.inside in
    let kind = ap length (c.as_bytes.ensures.value ∙ c.as_str-kind.ensures ∙ c.as_text.ensures.text) in
    let whole : length (row_bytes row) ≡ 35 + length row.kind = ap length (exists_bytes row c.if-not-row.false) ∙ length-live_bytes row c.put_etag-at.ensures.long in
    let end : c.put.result ≡ c.args.at + length (row_bytes row) =
    omega (
      arith,
      whole,
      kind,
      c.put-at.ensures.end,
      c.put-at-2.ensures.end,
      c.put-at-3.ensures.end,
      c.put_etag-at.ensures.end,
      c.put_etag-at.ensures.long,
      c.put-at-4.ensures.end,
      c.put.ensures.end,
      ap length c.to_be_bytes.ensures,
      ap length c.to_be_bytes-2.ensures,
      ap length c.to_be_bytes-3.ensures,
    ) in
    subst (λ r. c.put.result ≡ c.args.at + length (row_bytes r)) c.row.view_is end
