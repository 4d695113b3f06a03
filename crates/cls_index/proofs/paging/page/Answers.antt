use Rattle.std.proofs.Common.{◌≡◌, None, take, nat_le, length, sym, ap, ◌∙◌}
use Rattle.std.proofs.lemmas.Float.{T_from_true}
use Rattle.object_pool.specs.Places.{rows_of}
use Rattle.object_words.specs.Refusals.{fate_refusal}
use Rattle.object_words.specs.ShardCalls.{entries_after}
use Rattle.index_entry.specs.declared.header.ShardHeader.{ShardHeader}
use Rattle.cls_index.proofs.PageLemmas.{page_rows, same_end}
use Rattle.cls_index.proofs.paging.page.Goals as goal

pub entries_in-requires : goal.entries_in-requires
entries_in-requires c =
    let s = c.requires.0 in
    let after = c.args.after.now in
    let p = page_rows (rows_of c.args.shard.now) s after c.later_of-start.result.now c.args.limit c.in-Ok.page.rows c.requires.1.rows (T_from_true _ c.look_up.ensures) c.later_of-start.ensures c.in-Ok.ensures.rows in
    (take c.args.limit (entries_after s after), c.into_vec.ensures ∙ p.rows, p.named)

pub returns : goal.returns
returns c s is =
    let after = c.args.after.now in
    let p = page_rows (rows_of c.args.shard.now) s after c.later_of-start.result.now c.args.limit c.in-Ok.page.rows is.rows (T_from_true _ c.look_up.ensures) c.later_of-start.ensures c.in-Ok.ensures.rows in
    let rows = c.in-Ok-entries_in.ensures (take c.args.limit (entries_after s after)) (c.into_vec.ensures ∙ p.rows) p.named in
    let end : c.in-Ok.page.end ≡ nat_le (length (entries_after s after)) c.args.limit = same_end c.in-Ok.page.end _ c.args.limit c.in-Ok.ensures.end ∙ ap (λ n. nat_le n c.args.limit) p.count in
    let serves : fate_refusal s.fate ≡ None = ap (λ (h : ShardHeader). fate_refusal h.fate) (sym (c.header_at-header.ensures s is)) ∙ c.in_default.ensures.ok in
    (serves, λ i. record { rows = rows i; end = end i; clock = c.args.clock }, is)
