use Rattle.std.proofs.Common.{◌++◌, ap, ◌∙◌}
use Rattle.rgw_types.specs.Pairs.{is_risen}
use Rattle.task_container.specs.Rows.{merged}
use Rattle.task_container.proofs.Metadata.{merged_rises}
use Rattle.task_container.proofs.merging.merge.Goals as goal

pub unwrap-requires : goal.unwrap-requires
unwrap-requires c =
    let items =
    c.in_ok-push_merged.ensures
    ∙ ap (λ xs. xs ++ merged c.as_slice.result.now c.as_slice-2.result.now) c.new-items.ensures.items
    ∙ ap (λ k. merged k c.as_slice-2.result.now) c.as_slice.ensures.pairs
    ∙ ap (merged c.args.kept.now) c.as_slice-2.ensures.pairs in
    c.from_vec.ensures.risen.1 (ap is_risen items ∙ merged_rises c.args.kept.now c.args.sent.now c.as_slice.ensures.risen c.as_slice-2.ensures.risen)
