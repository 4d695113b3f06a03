use Rattle.std.proofs.Common.{[], ◌++◌, take, refl, ◌∙◌, arith}
use Rattle.call_service.proofs.Passing.{give_more, short_behind, end_behind, none_given}
use Rattle.call_service.proofs.body.drop_body.Goals as goal

pub pieces-init : goal.pieces-init
pieces-init g c = record {
  room = c.requires.room;
  kept = refl;
  sound = c.requires.sound;
  faults = refl;
  so_far = ([], none_given c.args.intake.now (g.S.Source.left c.args.source.now) c.requires.sound);
}

pub returns-in-Ended-clause-dropped : goal.returns-in-Ended-clause-dropped
returns-in-Ended-clause-dropped g c =
    let so_far = c.pieces.invariant.so_far in (
      so_far.0 ++ [],
      end_behind c.args.intake.now c.pieces.intake (g.S.Source.left c.args.source.now) (g.S.Source.left c.pieces.source) (g.S.Source.left c.next_piece.new.source) so_far.0 c.next_piece.new.intake [] c.in-Ended.end so_far.1 c.in-Ended.ensures.passed,
    )

pub returns-in-Failed-clause-err : goal.returns-in-Failed-clause-err
returns-in-Failed-clause-err g c =
    let so_far = c.pieces.invariant.so_far in
    short_behind c.args.intake.now c.pieces.intake (g.S.Source.left c.args.source.now) (g.S.Source.left c.pieces.source) (g.S.Source.left c.next_piece.new.source) so_far.0 so_far.1 c.in-Failed.ensures.passed

pub pieces-preserved : goal.pieces-preserved
pieces-preserved g c =
    let so_far = c.pieces.invariant.so_far in
    let gives = c.in-Bytes.ensures.passed.0 in
    let piece = take c.in-Bytes.field-0 c.next_piece.new.buffer in
    record {
      room = omega (arith, c.pieces.invariant.room, c.next_piece.ensures.kept);
      kept = c.next_piece.ensures.kept ∙ c.pieces.invariant.kept;
      sound = gives.failed;
      faults = c.in-Bytes.ensures.cause ∙ c.pieces.invariant.faults;
      so_far = (
        so_far.0 ++ piece,
        give_more c.args.intake.now c.pieces.intake (g.S.Source.left c.args.source.now) (g.S.Source.left c.pieces.source) (g.S.Source.left c.next_piece.new.source) so_far.0 piece c.next_piece.new.intake so_far.1 gives,
      );
    }
