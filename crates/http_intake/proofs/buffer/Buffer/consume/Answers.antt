use Rattle.std.proofs.Common.{◌∙◌, ap, drop}
use Rattle.http_intake.proofs.Held.{held_less}
use Rattle.http_intake.proofs.buffer.Buffer.consume.Goals as goal

pub returns : goal.returns
returns c =
    let held = c.self.inside in
    held_less held.bytes.items held.start held.end c.args.count ∙ ap (drop c.args.count) c.self.view_is
