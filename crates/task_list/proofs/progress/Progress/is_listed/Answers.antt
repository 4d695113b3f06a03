use Rattle.std.proofs.Common.{◌≡◌, ◌-◌, List, Some, None, length, slice_get, sym, ◌∙◌, ap, subst}
use Rattle.list_words.specs.declared.row.ListedRow.{ListedRow}
use Rattle.task_list.specs.Progresses.{rows_in, is_listed}
use Rattle.task_list.proofs.Placing.{by_last, by_none}
use Rattle.task_list.proofs.progress.Progress.is_listed.Goals as goal

pub returns-in-Some : goal.returns-in-Some
returns-in-Some c =
    let rows = rows_in c.args.self.now in
    let at = subst (λ (xs : List ListedRow). Some c.in-Some.row.now ≡ slice_get xs (length xs - 1)) c.as_slice.ensures c.in-Some.ensures.value in
    c.is_of_subdir.ensures ∙ by_last rows c.in-Some.row.now c.in-Subdir.subdir.now at ∙ ap (is_listed rows) (sym c.in-Subdir.is)

pub returns-in-None : goal.returns-in-None
returns-in-None c =
    let rows = rows_in c.args.self.now in
    let at = subst (λ (xs : List ListedRow). None ≡ slice_get xs (length xs - 1)) c.as_slice.ensures c.in-None.ensures.value in
    by_none rows c.in-Subdir.subdir.now at ∙ ap (is_listed rows) (sym c.in-Subdir.is)
