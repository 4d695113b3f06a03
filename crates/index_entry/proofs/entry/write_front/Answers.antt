use Rattle.std.proofs.Common.{◌≡◌, ◌++◌, ◌∷◌, [], length, drop, refl, sym, ap, ◌∙◌, arith}
use Rattle.object_words.specs.Rows.{RowView}
use Rattle.index_entry.specs.Numbers.{number_bytes}
use Rattle.index_entry.specs.Layouts.{flag, front_bytes, row_bytes}
use Rattle.index_entry.proofs.PieceLemmas.{next_long, put_as, put_long, put_more}
use Rattle.index_entry.proofs.EntryLemmas.{flag_byte, front_flat, length-front_bytes}
use Rattle.index_entry.proofs.entry.write_front.Goals as goal

pub returns-clause-len : goal.returns-clause-len
unfolding number_bytes
returns-clause-len c =
    omega (
      arith,
      c.put-at.ensures.end,
      c.put-at-2.ensures.end,
      c.put-at-3.ensures.end,
      c.put_row-at.ensures.end,
      c.put.ensures.end,
      length-front_bytes c.args.version c.args.revision c.args.row.now c.args.tags,
      ap length c.to_be_bytes.ensures,
      ap length c.to_be_bytes-2.ensures,
      ap length c.to_be_bytes-3.ensures,
    )

pub returns-clause-written : goal.returns-clause-written
unfolding number_bytes
returns-clause-written c =
    let q = c.args.out.now in
    let r1 = 238 ∷ 1 ∷ c.from.result ∷ [] in
    let r2 = c.to_be_bytes.result in
    let r3 = c.to_be_bytes-2.result in
    let r4 = row_bytes c.args.row.now in
    let r5 = c.to_be_bytes-3.result in
    let d2 = r1 ++ r2 in
    let d3 = d2 ++ r3 in
    let d4 = d3 ++ r4 in
    let g1 = c.put-at.ensures.written [] q refl refl in
    let l1 = put_long [] r1 0 _ refl c.put-at.ensures.end in
    let l2 = next_long [] r1 r2 _ _ l1 c.put-at-2.ensures.end in
    let l3 = next_long [] d2 r3 _ _ l2 c.put-at-3.ensures.end in
    let l4 = next_long [] d3 r4 _ _ l3 c.put_row-at.ensures.end in
    let g2 = put_more [] q r1 r2 _ (c.put-at-2.ensures.written r1 (drop (length r1) q) l1 g1) in
    let g3 = put_more [] q d2 r3 _ (c.put-at-3.ensures.written d2 (drop (length d2) q) l2 g2) in
    let g4 = put_more [] q d3 r4 _ (c.put_row-at.ensures.written d3 (drop (length d3) q) l3 g3) in
    let g5 = put_more [] q d4 r5 _ (c.put.ensures.written d4 (drop (length d4) q) l4 g4) in
    let exists : c.from.result ≡ flag c.args.row.now.exists = c.from.ensures ∙ flag_byte c.row.inside.exists ∙ ap (λ (r : RowView). flag r.exists) c.row.view_is in
    let version : r2 ≡ number_bytes c.args.version = c.to_be_bytes.ensures in
    let revision : r3 ≡ number_bytes c.args.revision = c.to_be_bytes-2.ensures in
    let tags : r5 ≡ number_bytes c.args.tags = c.to_be_bytes-3.ensures in
    let flat : d4 ++ r5 ≡ front_bytes c.args.version c.args.revision c.args.row.now c.args.tags = front_flat r2 r3 r4 r5 238 1 c.from.result ∙ (λ i. 238 ∷ 1 ∷ exists i ∷ (version i ++ (revision i ++ (r4 ++ tags i)))) in
    let put = put_as [] q (d4 ++ r5) (front_bytes c.args.version c.args.revision c.args.row.now c.args.tags) _ flat g5 in
    put ∙ ap (λ n. front_bytes c.args.version c.args.revision c.args.row.now c.args.tags ++ drop n q) (sym (returns-clause-len c))
