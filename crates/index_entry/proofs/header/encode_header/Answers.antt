use Rattle.std.proofs.Common.{◌≡◌, ◌/◌, ◌%◌, ◌^◌, ◌++◌, ◌∷◌, [], replicate, length, drop, refl, ap, ◌∙◌, arith, append-nil}
use Rattle.std.proofs.lemmas.List.{drop_all}
use Rattle.index_entry.specs.Numbers.{number_bytes}
use Rattle.index_entry.specs.Headers.{fate_number, header_bytes, hold_number}
use Rattle.index_entry.proofs.PieceLemmas.{next_long, put_as, put_long, put_more}
use Rattle.index_entry.proofs.HeaderLemmas.{header_flat, header_long}
use Rattle.index_entry.proofs.header.encode_header.Goals as goal

pub returns-clause-bounds : goal.returns-clause-bounds
returns-clause-bounds c = record {
  objects_fit = omega arith;
  bytes_fit = omega arith;
  tags_fit = omega arith;
  last_fits = omega arith;
  fence_fits = omega arith;
  hold_fits = omega (arith, c.hold_parts-hold_kind.ensures.number);
  fate_fits = omega (arith, c.fate_parts-fate_kind.ensures.number);
}

pub returns-clause-form : goal.returns-clause-form
unfolding number_bytes
returns-clause-form c =
    let h = c.args.header.now in
    let q = replicate 68 0 in
    let r1 = 237 ∷ 1 ∷ [] in
    let d1 = r1 in
    let r2 = c.to_be_bytes.result in
    let d2 = d1 ++ r2 in
    let r3 = c.to_be_bytes-2.result in
    let d3 = d2 ++ r3 in
    let r4 = c.to_be_bytes-3.result in
    let d4 = d3 ++ r4 in
    let r5 = c.to_be_bytes-4.result in
    let d5 = d4 ++ r5 in
    let r6 = c.to_be_bytes-5.result in
    let d6 = d5 ++ r6 in
    let r7 = c.to_be_bytes-6.result in
    let d7 = d6 ++ r7 in
    let r8 = c.hold_parts-hold_kind.result.0 ∷ [] in
    let d8 = d7 ++ r8 in
    let r9 = c.to_be_bytes-7.result in
    let d9 = d8 ++ r9 in
    let r10 = c.fate_parts-fate_kind.result.0 ∷ [] in
    let d10 = d9 ++ r10 in
    let r11 = c.to_be_bytes-8.result in
    let d11 = d10 ++ r11 in
    let g1 = c.put-at.ensures.written [] q refl refl in
    let l1 = put_long [] r1 0 _ refl c.put-at.ensures.end in
    let l2 = next_long [] d1 r2 _ _ l1 c.put-at-2.ensures.end in
    let g2 = put_more [] q d1 r2 _ (c.put-at-2.ensures.written d1 (drop (length d1) q) l1 g1) in
    let l3 = next_long [] d2 r3 _ _ l2 c.put-at-3.ensures.end in
    let g3 = put_more [] q d2 r3 _ (c.put-at-3.ensures.written d2 (drop (length d2) q) l2 g2) in
    let l4 = next_long [] d3 r4 _ _ l3 c.put-at-4.ensures.end in
    let g4 = put_more [] q d3 r4 _ (c.put-at-4.ensures.written d3 (drop (length d3) q) l3 g3) in
    let l5 = next_long [] d4 r5 _ _ l4 c.put-at-5.ensures.end in
    let g5 = put_more [] q d4 r5 _ (c.put-at-5.ensures.written d4 (drop (length d4) q) l4 g4) in
    let l6 = next_long [] d5 r6 _ _ l5 c.put-at-6.ensures.end in
    let g6 = put_more [] q d5 r6 _ (c.put-at-6.ensures.written d5 (drop (length d5) q) l5 g5) in
    let l7 = next_long [] d6 r7 _ _ l6 c.put-at-7.ensures.end in
    let g7 = put_more [] q d6 r7 _ (c.put-at-7.ensures.written d6 (drop (length d6) q) l6 g6) in
    let l8 = next_long [] d7 r8 _ _ l7 c.put-at-8.ensures.end in
    let g8 = put_more [] q d7 r8 _ (c.put-at-8.ensures.written d7 (drop (length d7) q) l7 g7) in
    let l9 = next_long [] d8 r9 _ _ l8 c.put-at-9.ensures.end in
    let g9 = put_more [] q d8 r9 _ (c.put-at-9.ensures.written d8 (drop (length d8) q) l8 g8) in
    let l10 = next_long [] d9 r10 _ _ l9 c.put-at-10.ensures.end in
    let g10 = put_more [] q d9 r10 _ (c.put-at-10.ensures.written d9 (drop (length d9) q) l9 g9) in
    let g11 = put_more [] q d10 r11 _ (c.put.ensures.written d10 (drop (length d10) q) l10 g10) in
    let objects : r2 ≡ number_bytes h.objects = c.to_be_bytes.ensures in
    let high : r3 ≡ number_bytes (h.bytes / 2 ^ 64) = c.to_be_bytes-2.ensures in
    let low : r4 ≡ number_bytes (h.bytes % 2 ^ 64) = c.to_be_bytes-3.ensures in
    let tags : r5 ≡ number_bytes h.tags = c.to_be_bytes-4.ensures in
    let last : r6 ≡ number_bytes h.last = c.to_be_bytes-5.ensures in
    let fence : r7 ≡ number_bytes h.fence = c.to_be_bytes-6.ensures in
    let hold_kind = c.hold_parts-hold_kind.ensures.kind in
    let fate_kind = c.fate_parts-fate_kind.ensures.kind in
    let hold_number' : r9 ≡ number_bytes (hold_number h.hold) = c.to_be_bytes-7.ensures ∙ ap number_bytes c.hold_parts-hold_kind.ensures.number in
    let fate_number' : r11 ≡ number_bytes (fate_number h.fate) = c.to_be_bytes-8.ensures ∙ ap number_bytes c.fate_parts-fate_kind.ensures.number in
    let flat : d11 ≡ header_bytes h = header_flat 237 1 r2 r3 r4 r5 r6 r7 c.hold_parts-hold_kind.result.0 r9 c.fate_parts-fate_kind.result.0 r11 ∙
    (λ i. 237 ∷ 1 ∷ (objects i ++ (high i ++ (low i ++ (tags i ++ (last i ++ (fence i ++ (hold_kind i ∷ (hold_number' i ++ (fate_kind i ∷ fate_number' i)))))))))) in
    let put = put_as [] q d11 (header_bytes h) _ flat g11 in
    put ∙ ap (λ z. header_bytes h ++ z) (drop_all (length (header_bytes h)) q (omega (arith, header_long (header_bytes h) h refl))) ∙ append-nil (header_bytes h)
