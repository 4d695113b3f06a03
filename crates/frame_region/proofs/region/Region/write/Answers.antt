use Rattle.std.proofs.Common.{rules}
use Rattle.frame_region.proofs.Written.{path_of_run, IsSound-after_write, HasWritten-after_write}
use Rattle.frame_region.proofs.region.Region.write.Goals as goal

pub write_run-requires-clause-path : goal.write_run-requires-clause-path
write_run-requires-clause-path c =
    let r = c.self.inside in
    path_of_run r.cells r.first_free r.free c.self.invariant c.args.self.now c.args.run.now c.self.view_is c.requires.owned

pub invariant_of-self : goal.invariant_of-self
invariant_of-self c =
    let r = c.self.inside in
    IsSound-after_write r.cells r.first_free r.free c.self.invariant c.args.self.now c.args.run.now c.self.view_is c.requires.owned c.write_run.new.self c.args.start c.args.bytes.now c.write_run.ensures.frame c.write_run.ensures.links c.write_run.ensures.written c.write_run.ensures.others

pub returns : goal.returns
returns c =
    let r = c.self.inside in
    let has = HasWritten-after_write r.cells r.first_free r.free c.self.invariant c.args.self.now c.args.run.now c.self.view_is c.requires.owned c.write_run.new.self c.args.start c.args.bytes.now c.write_run.ensures.frame c.write_run.ensures.links c.write_run.ensures.written c.write_run.ensures.others in
    record {
      owned = has.owned;
      written = has.bytes;
      free = search rules;
      others = has.others;
      after = has.after;
      sum = has.sum;
      frame = search rules;
      frames = search rules;
    }
