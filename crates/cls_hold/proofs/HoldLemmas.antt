-- A shard under another hold and another fence.
use Rattle.std.proofs.Common.{◌≡◌, ℕ, ◌≤◌, Option, Some, IsSome, unwrap_or, refl, sym, ap, ◌∙◌, subst}
use Rattle.omap_pages.specs.Contents.{Contents}
use Rattle.object_pool.specs.Objects.{Object}
use Rattle.object_words.specs.declared.shard.Hold.{Hold}
use Rattle.object_words.specs.Shards.{Shard, sum_over, tag_count}
use Rattle.index_entry.specs.declared.header.ShardHeader.{ShardHeader}
use Rattle.index_entry.specs.Headers.{IsHeader, header_bytes}
use Rattle.class_words.specs.Shards.{HasRows, IsShard, header_of}

rows_held : (c : Contents) (s : Shard) (hold : Hold) (fence : ℕ) → HasRows c s → HasRows c (record s { hold = hold; fence = fence })
rows_held c s hold fence has = record { rows = has.rows; named = has.named; entry = has.entry; room = has.room; log = has.log }

pub held_shard : (o d : Object) (s : Shard) (h : ShardHeader) (hold : Hold) (fence : ℕ) → IsShard o s → h ≡ record (header_of s) { hold = hold; fence = fence } → IsHeader h
    → d.bytes ≡ o.bytes → d.attrs ≡ header_bytes h → d.rows ≡ o.rows → IsShard d (record s { hold = hold; fence = fence })
held_shard o d s h hold fence is told fits bytes attrs rows = record {
  bytes = bytes ∙ is.bytes;
  attrs = attrs ∙ ap header_bytes told;
  header = subst IsHeader told fits;
  rows = subst (λ c. HasRows c (record s { hold = hold; fence = fence })) (sym rows) (rows_held o.rows s hold fence is.rows);
  spare = subst (λ (c : Contents). sum_over tag_count s ≤ c.spare) (sym rows) is.spare;
}
