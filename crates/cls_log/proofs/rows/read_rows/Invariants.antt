use Rattle.std.proofs.Common.{◌≡◌, List, take}
use Rattle.std.specs.List.{AllByRecursion}
use Rattle.object_words.specs.declared.log.LogRow.{LogRow}
use Rattle.class_words.specs.LogRows.{log_rows}
use Rattle.cls_log.specs.LogObjects.{IsFit}
use Rattle.cls_log.proofs.rows.read_rows.Given as goal

abbrev pub invariant-loop-row : goal.invariant-loop-row
invariant-loop-row l = (kept : List LogRow) → AllByRecursion IsFit kept → l.rows ≡ log_rows kept → l.read ≡ take l.row-index kept
