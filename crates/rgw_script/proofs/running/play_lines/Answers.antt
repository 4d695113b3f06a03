use Rattle.std.proofs.Common.{arith, refl, ap, ◌∙◌, subst, length, ◌+◌, ◌++◌}
use Rattle.std.proofs.lemmas.Result.{err_from_is_err_and}
use Rattle.script_lines.specs.declared.reader.Next.TheVariants.{Line, End, TooLong}
use Rattle.std.specs.Io.KnownBytes.{IsAtEnd}
use Rattle.rgw_script.specs.Plays.{PlaysOne}
use Rattle.rgw_script.specs.Printing.{CountsWrite}
use Rattle.rgw_script.specs.Runs.{LeavesText}
use Rattle.rgw_script.specs.Stages.{scene_of}
use Rattle.rgw_script.specs.declared.fault.ScriptFault.TheVariants.{OutOfMemory}
use Rattle.rgw_script.proofs.Reading.{given_more}
use Rattle.rgw_script.proofs.Lines.{so_far_none, finds_as, played_on, played_through, left_text, left_long, left_unread, left_at_once, unread_so, long_so, counts_write, counts_unread, counts_ok, read_well, text_was_read, refusal_was_read, fit_more}
use Rattle.rgw_script.proofs.running.play_lines.Goals as goal

pub returns-in_err-reader-clause-runs : goal.returns-in_err-reader-clause-runs
returns-in_err-reader-clause-runs g c =
    let p = err_from_is_err_and c.from_residual.result c.from_residual.ensures.1 in
    rw (p.1, p.2) (left_at_once c.args.settings.now (scene_of c.args.script.now c.args.realm.now.history) (g.S.Source.left c.args.input.now) (g.K.Sink.taken c.args.output.now) c.args.realm.now.history refl)

pub returns-in_err-reader-clause-cause : goal.returns-in_err-reader-clause-cause
returns-in_err-reader-clause-cause g c =
    let p = err_from_is_err_and c.from_residual.result c.from_residual.ensures.1 in
    rw (p.1, p.2) (counts_write (g.S.Source.faults c.args.input.now) (g.S.Source.faults c.args.input.now) (g.K.Sink.faults c.args.output.now) (g.K.Sink.faults c.args.output.now) OutOfMemory (λ e. absurd (cc)) refl refl)

pub lines-init : goal.lines-init
lines-init g c = (
  c.requires.holds,
  so_far_none c.args.settings.now (scene_of c.args.script.now c.args.realm.now.history) (g.S.Source.left c.args.input.now) (g.K.Sink.taken c.args.output.now) c.in_ok-reader.reader c.in_ok-reader.ensures,
  omega (arith, c.requires.next),
  refl,
  refl,
)

pub overflow_add-number : goal.overflow_add-number
overflow_add-number g c =
    let so = c.lines.invariant.1 in
    let few = fit_more so.texts c.lines.reader.given c.lines.number so.count so.counts in
    omega (arith, few)

pub returns-in_err-next-clause-runs : goal.returns-in_err-next-clause-runs
returns-in_err-next-clause-runs g c =
    let so = c.lines.invariant.1 in
    let found = c.in_err-next.ensures.found in
    let p = err_from_is_err_and c.from_residual-in_err-next.result c.from_residual-in_err-next.ensures.1 in
    rw (p.1, p.2) (left_unread c.args.settings.now (scene_of c.args.script.now c.args.realm.now.history) (scene_of c.lines.script c.lines.realm.history)
    (g.S.Source.left c.args.input.now) (g.S.Source.left c.lines.input) (g.S.Source.left c.next.new.source) (g.K.Sink.taken c.args.output.now) (g.K.Sink.taken c.lines.output)
    c.lines.reader c.next.new.self c.lines.number so found.0 found.1 c.lines.realm.history _ (unread_so (scene_of c.lines.script c.lines.realm.history) (c.lines.reader.waits ++ found.0) (IsAtEnd (g.S.Source.left c.next.new.source)) c.lines.reader c.next.new.self
    (g.K.Sink.taken c.lines.output) c.lines.realm.history c.in_err-next.field-0.0 refl found.2))

pub returns-in_err-next-clause-cause : goal.returns-in_err-next-clause-cause
returns-in_err-next-clause-cause g c =
    let p = err_from_is_err_and c.from_residual-in_err-next.result c.from_residual-in_err-next.ensures.1 in
    rw (p.1, p.2) (counts_unread (g.S.Source.faults c.lines.input) (g.S.Source.faults c.next.new.source) (g.K.Sink.faults c.args.output.now) (g.K.Sink.faults c.lines.output) (g.S.Source.faults c.args.input.now)
    c.in_err-next.field-0.0 c.in_err-next.ensures.cause c.lines.invariant.3 c.lines.invariant.4)

pub returns-in-End-clause-runs : goal.returns-in-End-clause-runs
returns-in-End-clause-runs g c =
    let so = c.lines.invariant.1 in
    let found = c.in_ok-next.ensures.found in
    let finds = finds_as _ _ _ _ _ End c.in-End.is found.2 in
    played_through c.args.settings.now (scene_of c.args.script.now c.args.realm.now.history) (scene_of c.lines.script c.lines.realm.history)
    (g.S.Source.left c.args.input.now) (g.S.Source.left c.lines.input) (g.S.Source.left c.next.new.source) (g.K.Sink.taken c.args.output.now) (g.K.Sink.taken c.lines.output)
    c.lines.reader c.next.new.self c.lines.number so found.0 found.1 c.lines.realm.history refl finds.0 finds.1

pub returns-in-End-clause-cause : goal.returns-in-End-clause-cause
returns-in-End-clause-cause g c = counts_ok _ _ _ _ (read_well _ _ _ _ c.in_ok-next.ensures.cause c.lines.invariant.3) c.lines.invariant.4

pub returns-in-TooLong-clause-runs : goal.returns-in-TooLong-clause-runs
returns-in-TooLong-clause-runs g c =
    let so = c.lines.invariant.1 in
    let found = c.in_ok-next.ensures.found in
    let finds = finds_as _ _ _ _ _ TooLong c.in-TooLong.is found.2 in
    left_long c.args.settings.now (scene_of c.args.script.now c.args.realm.now.history) (scene_of c.lines.script c.lines.realm.history)
    (g.S.Source.left c.args.input.now) (g.S.Source.left c.lines.input) (g.S.Source.left c.next.new.source) (g.K.Sink.taken c.args.output.now) (g.K.Sink.taken c.lines.output)
    c.lines.reader c.next.new.self c.lines.number so found.0 found.1 (g.K.Sink.taken c.refuse.new.output) c.lines.realm.history c.refuse.result finds.0
    (long_so (scene_of c.lines.script c.lines.realm.history) (c.lines.number + 1) (g.K.Sink.taken c.lines.output) (g.K.Sink.taken c.refuse.new.output) c.lines.realm.history c.refuse.result refl c.refuse.ensures.refused)

pub returns-in-TooLong-clause-cause : goal.returns-in-TooLong-clause-cause
returns-in-TooLong-clause-cause g c =
    counts_write _ _ _ _ c.refuse.result (refusal_was_read _ _ _ c.refuse.result c.refuse.ensures.refused) (read_well _ _ _ _ c.in_ok-next.ensures.cause c.lines.invariant.3)
    (subst (λ n. CountsWrite n (g.K.Sink.faults c.refuse.new.output) c.refuse.result) c.lines.invariant.4 c.refuse.ensures.cause)

pub play_text-requires-clause-room : goal.play_text-requires-clause-room
play_text-requires-clause-room g c =
    let so = c.lines.invariant.1 in
    let few = fit_more so.texts c.lines.reader.given c.lines.number so.count so.counts in
    omega (arith, few, c.lines.invariant.2)

pub play_text-requires-clause-short : goal.play_text-requires-clause-short
play_text-requires-clause-short g c =
    let finds = finds_as _ _ _ _ _ Line c.in-Line.is c.in_ok-next.ensures.found.2 in
    let more = given_more _ c.lines.reader c.next.new.self _ finds in
    let same = ap length c.line.ensures in
    omega (arith, more.2, same)

pub lines-smaller : goal.lines-smaller
lines-smaller g c =
    let finds = finds_as _ _ _ _ _ Line c.in-Line.is c.in_ok-next.ensures.found.2 in
    let more = given_more _ c.lines.reader c.next.new.self _ finds in
    omega (arith, more.0, more.1)

pub lines-preserved : goal.lines-preserved
lines-preserved g c =
    let so = c.lines.invariant.1 in
    let found = c.in_ok-next.ensures.found in
    let finds = finds_as _ _ _ _ _ Line c.in-Line.is found.2 in
    let played = c.in_ok-play_text-in-Line.ensures.played in (
      c.in_ok-play_text-in-Line.ensures.holds,
      played_on c.args.settings.now (scene_of c.args.script.now c.args.realm.now.history) (scene_of c.lines.script c.lines.realm.history)
          (g.S.Source.left c.args.input.now) (g.S.Source.left c.lines.input) (g.S.Source.left c.next.new.source) (g.K.Sink.taken c.args.output.now) (g.K.Sink.taken c.lines.output)
          c.lines.reader c.next.new.self c.lines.number so found.0 found.1 (g.K.Sink.taken c.play_text.new.output) (scene_of c.play_text.new.script c.play_text.new.realm.history) played.0 finds
          (subst (λ t. PlaysOne c.args.settings.now (scene_of c.lines.script c.lines.realm.history) t (scene_of c.play_text.new.script c.play_text.new.realm.history) played.0) c.line.ensures played.1) played.2,
      (let up = c.in_ok-play_text-in-Line.ensures.next in let low = c.lines.invariant.2 in omega (arith, up, low)),
      read_well _ _ _ _ c.in_ok-next.ensures.cause c.lines.invariant.3,
      c.in_ok-play_text-in-Line.ensures.kept ∙ c.lines.invariant.4,
    )

pub returns-in_err-play_text-in-Line-clause-runs : goal.returns-in_err-play_text-in-Line-clause-runs
returns-in_err-play_text-in-Line-clause-runs g c =
    let so = c.lines.invariant.1 in
    let found = c.in_ok-next.ensures.found in
    let finds = finds_as _ _ _ _ _ Line c.in-Line.is found.2 in
    let p = err_from_is_err_and c.from_residual-in_err-play_text-in-Line.result c.from_residual-in_err-play_text-in-Line.ensures.1 in
    rw (p.1, p.2) (left_text c.args.settings.now (scene_of c.args.script.now c.args.realm.now.history) (scene_of c.lines.script c.lines.realm.history)
    (g.S.Source.left c.args.input.now) (g.S.Source.left c.lines.input) (g.S.Source.left c.next.new.source) (g.K.Sink.taken c.args.output.now) (g.K.Sink.taken c.lines.output)
    c.lines.reader c.next.new.self c.lines.number so found.0 found.1 (g.K.Sink.taken c.play_text.new.output) c.play_text.new.realm.history c.in_err-play_text-in-Line.field-0.0 finds
    (subst (λ t. LeavesText c.args.settings.now (scene_of c.lines.script c.lines.realm.history) (c.lines.number + 1) t (g.K.Sink.taken c.lines.output) (g.K.Sink.taken c.play_text.new.output) c.play_text.new.realm.history c.in_err-play_text-in-Line.field-0.0) c.line.ensures c.in_err-play_text-in-Line.ensures.left))

pub returns-in_err-play_text-in-Line-clause-cause : goal.returns-in_err-play_text-in-Line-clause-cause
returns-in_err-play_text-in-Line-clause-cause g c =
    let p = err_from_is_err_and c.from_residual-in_err-play_text-in-Line.result c.from_residual-in_err-play_text-in-Line.ensures.1 in
    rw (p.1, p.2) (counts_write _ _ _ _ c.in_err-play_text-in-Line.field-0.0 (text_was_read c.args.settings.now (scene_of c.lines.script c.lines.realm.history) (c.lines.number + 1) c.line.result.now (g.K.Sink.taken c.lines.output) (g.K.Sink.taken c.play_text.new.output)
    c.play_text.new.realm.history c.in_err-play_text-in-Line.field-0.0 c.in_err-play_text-in-Line.ensures.left)
    (read_well _ _ _ _ c.in_ok-next.ensures.cause c.lines.invariant.3)
    (subst (λ n. CountsWrite n (g.K.Sink.faults c.play_text.new.output) c.in_err-play_text-in-Line.field-0.0) c.lines.invariant.4 c.in_err-play_text-in-Line.ensures.cause))
