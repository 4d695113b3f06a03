use Rattle.std.proofs.Common.{rules, ◌≡◌, ◌++◌, ◌∷◌, [], length, drop, refl, sym, ap, ◌∙◌, arith}
use Rattle.object_words.specs.declared.log.LogWhat.TheVariants.{Shard}
use Rattle.index_entry.specs.Numbers.{number_bytes, word_bytes}
use Rattle.index_entry.specs.LogRows.{what_bytes}
use Rattle.index_entry.proofs.PieceLemmas.{next_long, put_as, put_long, put_more}
use Rattle.index_entry.proofs.LogRowLemmas.{length-shard_bytes, shard_flat}
use Rattle.index_entry.proofs.log_row.write_shard_row.Goals as goal

written_len : (c : goal.After-put) → c.put.result ≡ length (what_bytes (Shard c.args.container c.args.instance c.args.shard c.args.bucket.now))
unfolding number_bytes word_bytes
written_len c =
    omega (
      arith,
      c.put-at.ensures.end,
      c.put-at-2.ensures.end,
      c.put-at-3.ensures.end,
      c.put-at-4.ensures.end,
      c.put.ensures.end,
      length-shard_bytes c.args.container c.args.instance c.args.shard c.args.bucket.now,
      ap length c.to_be_bytes.ensures,
      ap length c.to_be_bytes-2.ensures,
      ap length c.to_be_bytes-3.ensures,
      ap length (c.as_bytes.ensures.value ∙ c.as_str-name.ensures ∙ c.as_text.ensures.text),
    )

written : (c : goal.After-put) → c.put.new.out ≡ what_bytes (Shard c.args.container c.args.instance c.args.shard c.args.bucket.now) ++ drop c.put.result c.args.out.now
unfolding number_bytes word_bytes
written c =
    let q = c.args.out.now in
    let row = what_bytes (Shard c.args.container c.args.instance c.args.shard c.args.bucket.now) in
    let r1 = 236 ∷ 1 ∷ 1 ∷ [] in
    let r2 = c.to_be_bytes.result in
    let r3 = c.to_be_bytes-2.result in
    let r4 = c.to_be_bytes-3.result in
    let r5 = c.as_bytes.result.now in
    let d2 = r1 ++ r2 in
    let d3 = d2 ++ r3 in
    let d4 = d3 ++ r4 in
    let g1 = c.put-at.ensures.written [] q refl refl in
    let l1 = put_long [] r1 0 _ refl c.put-at.ensures.end in
    let l2 = next_long [] r1 r2 _ _ l1 c.put-at-2.ensures.end in
    let l3 = next_long [] d2 r3 _ _ l2 c.put-at-3.ensures.end in
    let l4 = next_long [] d3 r4 _ _ l3 c.put-at-4.ensures.end in
    let g2 = put_more [] q r1 r2 _ (c.put-at-2.ensures.written r1 (drop (length r1) q) l1 g1) in
    let g3 = put_more [] q d2 r3 _ (c.put-at-3.ensures.written d2 (drop (length d2) q) l2 g2) in
    let g4 = put_more [] q d3 r4 _ (c.put-at-4.ensures.written d3 (drop (length d3) q) l3 g3) in
    let g5 = put_more [] q d4 r5 _ (c.put.ensures.written d4 (drop (length d4) q) l4 g4) in
    let container : r2 ≡ number_bytes c.args.container = c.to_be_bytes.ensures in
    let instance : r3 ≡ number_bytes c.args.instance = c.to_be_bytes-2.ensures in
    let shard : r4 ≡ word_bytes c.args.shard = c.to_be_bytes-3.ensures in
    let name : r5 ≡ c.args.bucket.now = c.as_bytes.ensures.value ∙ c.as_str-name.ensures ∙ c.as_text.ensures.text in
    let flat : d4 ++ r5 ≡ row = shard_flat 236 1 1 r2 r3 r4 r5 ∙ (λ i. 236 ∷ 1 ∷ 1 ∷ (container i ++ (instance i ++ (shard i ++ name i)))) in
    put_as [] q (d4 ++ r5) row _ flat g5 ∙ ap (λ n. row ++ drop n q) (sym (written_len c))

pub returns : goal.returns
returns c = record {
  len = written_len c;
  most = search rules;
  written = written c;
  bounds = search rules;
}
