use Rattle.std.proofs.Common.{◌≡◌, suc, ◌+◌, ◌-◌, ◌<◌, length, get_or, Some, sym, ap, ◌∙◌, subst, arith}
use Rattle.object_pool.specs.Places.{rows_of}
use Rattle.object_words.specs.Tags.{is_due}
use Rattle.index_entry.specs.declared.entry.EntryFront.{EntryFront}
use Rattle.index_entry.specs.Layouts.{front_of}
use Rattle.class_words.specs.Shards.{HasEntry}
use Rattle.cls_index.specs.Rows.{KeepsToName}
use Rattle.cls_index.proofs.RowLemmas.{keeps_then, tags_in}
use Rattle.cls_index.proofs.DueLemmas.{due, left_at, left_long, not_due, step_gone, step_kept, tags_left}
use Rattle.cls_index.proofs.tags.take_due.Goals.{then-tag_of-moment, else-tag_of-moment}
use Rattle.cls_index.proofs.tags.take_due.Goals as goal

pub loop-taken-preserved : goal.loop-taken-preserved
loop-taken-preserved c = elim c.if-tag_of-moment.branch [
  | then-tag_of-moment w ↦ record {
    only = subst (λ p. KeepsToName c.args.shard.now p c.args.name.now) (sym w.shard-is) (keeps_then _ _ _ c.args.name.now c.loop-taken.invariant.only w.take_tag.ensures.only);
    entry = λ e has read.
        let ts = e.tags in
        let m = c.args.moment in
        let taken = c.loop-taken.taken in
        let place = c.args.front.now.tags - 1 - taken in
        let inv = c.loop-taken.invariant.entry e has read in
        let count = tags_in c.args.front.now e read in
        let some : place < length ts = omega (arith, count) in
        let before : length ts - taken ≡ suc place = omega (arith, count) in
        let after : length ts - (taken + 1) ≡ place = omega (arith, count) in
        let now = subst (λ n. HasEntry (rows_of c.loop-taken.shard) c.args.name.now (Some (record e { tags = tags_left m n ts }))) before inv.0 in
        let long = left_long m place ts some in
        let d = c.tag_of.result in
        let seen : get_or ts place d ≡ d = sym (c.tag_of.ensures (record e { tags = tags_left m (suc place) ts }) now long d ∙ left_at m place ts d some) in
        let front = inv.1 ∙ ap (λ n. front_of (record e { tags = tags_left m n ts })) before in
        let gone = w.take_tag.ensures.entry (record e { tags = tags_left m (suc place) ts }) now front long in
        let step = step_gone (rows_of w.take_tag.new.shard) c.args.name.now e m taken place c.loop-taken.left d some before after inv.1 (ap (is_due m) seen ∙ due m d w.if-tag_of-moment.true) gone in
        (subst (λ p. HasEntry (rows_of p) c.args.name.now (Some (record e { tags = tags_left m (length ts - (taken + 1)) ts }))) (sym w.shard-is) step.0, w.left-is ∙ step.1);
    few = let n = ap (λ (f : EntryFront). f.tags) w.left-is in let s = ap (λ (f : EntryFront). f.tags_start) w.left-is in omega (arith, n, s, c.loop-taken.invariant.few);
  }
  | else-tag_of-moment w ↦ record {
    only = subst (λ p. KeepsToName c.args.shard.now p c.args.name.now) (sym w.shard-is) c.loop-taken.invariant.only;
    entry = λ e has read.
        let ts = e.tags in
        let m = c.args.moment in
        let taken = c.loop-taken.taken in
        let place = c.args.front.now.tags - 1 - taken in
        let inv = c.loop-taken.invariant.entry e has read in
        let count = tags_in c.args.front.now e read in
        let some : place < length ts = omega (arith, count) in
        let before : length ts - taken ≡ suc place = omega (arith, count) in
        let after : length ts - (taken + 1) ≡ place = omega (arith, count) in
        let now = subst (λ n. HasEntry (rows_of c.loop-taken.shard) c.args.name.now (Some (record e { tags = tags_left m n ts }))) before inv.0 in
        let long = left_long m place ts some in
        let d = c.tag_of.result in
        let seen : get_or ts place d ≡ d = sym (c.tag_of.ensures (record e { tags = tags_left m (suc place) ts }) now long d ∙ left_at m place ts d some) in
        let step = step_kept (rows_of c.loop-taken.shard) c.args.name.now e m taken place c.loop-taken.left d some before after inv.1 (ap (is_due m) seen ∙ not_due m d w.if-tag_of-moment.false) inv.0 in
        (subst (λ p. HasEntry (rows_of p) c.args.name.now (Some (record e { tags = tags_left m (length ts - (taken + 1)) ts }))) (sym w.shard-is) step.0, w.left-is ∙ step.1);
    few = let n = ap (λ (f : EntryFront). f.tags) w.left-is in let s = ap (λ (f : EntryFront). f.tags_start) w.left-is in omega (arith, n, s, c.loop-taken.invariant.few);
  }
]
