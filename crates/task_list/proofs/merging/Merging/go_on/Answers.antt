use Rattle.std.proofs.Common.{◌<◌, refl, subst}
use Rattle.task_list.specs.Stages.{MergingFits}
use Rattle.task_list.specs.Merges.{cursors_of}
use Rattle.task_list.proofs.Merged.{first_page}
use Rattle.task_list.proofs.Telling.{told_asked}
use Rattle.task_list.proofs.merging.Merging.go_on.Goals as goal

pub returns-then-self-shards-clause-passes : goal.returns-then-self-shards-clause-passes
returns-then-self-shards-clause-passes c = record {
  fits = λ zone events f.
      let m = c.args.self.now in
      let k = c.args.command.now in
      let low = subst (λ n. m.unread < n) c.get-shards.ensures.value c.if-self-shards.true in
      let none = f.waits low in
      (first_page zone k m (record { shard = m.unread; after = c.in_ok-after.after }) events (subst (λ u. MergingFits zone k m u events) none f) low refl c.in_ok-after.ensures _ refl, none);
  told = λ t a.
      let m = c.args.self.now in
      told_asked m.row (cursors_of m.merge) m.unread _ m.used_up (record { shard = m.unread; after = c.in_ok-after.after }) t refl refl a;
}
