use Rattle.std.proofs.Common.{◌≡◌, ◌++◌, ◌∷◌, [], length, drop, refl, ap, ◌∙◌, arith}
use Rattle.index_entry.proofs.PieceLemmas.{put_as, put_long, put_more}
use Rattle.index_entry.proofs.log_row.put_name.Goals as goal

pub returns-clause-written : goal.returns-clause-written
returns-clause-written g c =
    let q = c.args.out.now in
    let r1 = 236 ∷ 1 ∷ c.args.kind ∷ [] in
    let r2 = c.as_bytes.result.now in
    let row = 236 ∷ 1 ∷ c.args.kind ∷ c.args.name.now in
    let g1 = c.put-at.ensures.written [] q refl refl in
    let l1 = put_long [] r1 0 _ refl c.put-at.ensures.end in
    let g2 = put_more [] q r1 r2 _ (c.put.ensures.written r1 (drop (length r1) q) l1 g1) in
    let name : r2 ≡ c.args.name.now = c.as_bytes.ensures.value ∙ c.as_str-name.ensures ∙ c.as_text.ensures.text in
    let put = put_as [] q (r1 ++ r2) row _ (ap (λ z. r1 ++ z) name) g2 in
    let end : length row ≡ c.put.result = omega (arith, c.put-at.ensures.end, c.put.ensures.end, ap length name) in
    put ∙ ap (λ n. row ++ drop n q) end
