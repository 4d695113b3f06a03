use Rattle.std.proofs.Common.{false, refl, ap}
use Rattle.std.proofs.KnownBytes.{Appends-nil}
use Rattle.http_model.specs.declared.reply.BadRequest.TheVariants as Word
use Rattle.call_words.specs.Streams.{at_cut}
use Rattle.gateway.specs.Turns.{end_for}
use Rattle.gateway.proofs.Refusing.{refused_ended, refused_left}
use Rattle.gateway.proofs.turn.end_heads.Goals as goal

pub returns-in-Cut-clause-ended : goal.returns-in-Cut-clause-ended
returns-in-Cut-clause-ended g c = (at_cut false, ap end_for c.in-Cut.is, refl, Appends-nil (g.K.Sink.taken c.args.sink.now))

pub returns-in-BadHead-clause-ended : goal.returns-in-BadHead-clause-ended
returns-in-BadHead-clause-ended g c =
    refused_ended c.args.fault Word.Head false (g.K.Sink.taken c.args.sink.now) (g.K.Sink.taken c.refuse.new.sink) c.refuse.result (ap end_for c.in-BadHead.is) c.refuse.ensures.ok

pub returns-in-BadHead-clause-left : goal.returns-in-BadHead-clause-left
returns-in-BadHead-clause-left g c =
    refused_left c.args.fault Word.Head false (g.K.Sink.taken c.args.sink.now) (g.K.Sink.taken c.refuse.new.sink) c.refuse.result (ap end_for c.in-BadHead.is) c.refuse.ensures.err

pub returns-in-HeadTooLarge-clause-ended : goal.returns-in-HeadTooLarge-clause-ended
returns-in-HeadTooLarge-clause-ended g c =
    refused_ended c.args.fault Word.Size false (g.K.Sink.taken c.args.sink.now) (g.K.Sink.taken c.refuse-in-HeadTooLarge.new.sink) c.refuse-in-HeadTooLarge.result (ap end_for c.in-HeadTooLarge.is) c.refuse-in-HeadTooLarge.ensures.ok

pub returns-in-HeadTooLarge-clause-left : goal.returns-in-HeadTooLarge-clause-left
returns-in-HeadTooLarge-clause-left g c =
    refused_left c.args.fault Word.Size false (g.K.Sink.taken c.args.sink.now) (g.K.Sink.taken c.refuse-in-HeadTooLarge.new.sink) c.refuse-in-HeadTooLarge.result (ap end_for c.in-HeadTooLarge.is) c.refuse-in-HeadTooLarge.ensures.err

pub returns-in-BadFraming-clause-ended : goal.returns-in-BadFraming-clause-ended
returns-in-BadFraming-clause-ended g c =
    refused_ended c.args.fault Word.Framing c.in-BadFraming.bodiless (g.K.Sink.taken c.args.sink.now) (g.K.Sink.taken c.refuse-in-BadFraming.new.sink) c.refuse-in-BadFraming.result (ap end_for c.in-BadFraming.is) c.refuse-in-BadFraming.ensures.ok

pub returns-in-BadFraming-clause-left : goal.returns-in-BadFraming-clause-left
returns-in-BadFraming-clause-left g c =
    refused_left c.args.fault Word.Framing c.in-BadFraming.bodiless (g.K.Sink.taken c.args.sink.now) (g.K.Sink.taken c.refuse-in-BadFraming.new.sink) c.refuse-in-BadFraming.result (ap end_for c.in-BadFraming.is) c.refuse-in-BadFraming.ensures.err
