use Rattle.std.proofs.Common.{arith, rules}
use Rattle.frame_region.proofs.Filled.{length-links_in}
use Rattle.frame_region.specs.Held.{links_in, bytes_in}
use Rattle.frame_region.proofs.Taking.{taken_path}
use Rattle.frame_region.proofs.Taken.{HasTaken-none, IsSound-after_take, HasTaken-after_take}
use Rattle.frame_region.proofs.region.Region.take.Goals as goal

pub returns-then-n-eq0 : goal.returns-then-n-eq0
returns-then-n-eq0 c =
    let r = c.self.inside in
    let taken = HasTaken-none r.cells r.first_free r.free c.self.invariant c.args.self.now c.self.view_is 4294967295 c.args.n (omega (arith, length-links_in r.cells, r.cells.numbered)) c.if-n-eq0.true in
    record {
      refused = search rules;
      told = search rules;
      err = search rules;
      count = search rules;
      owned = taken.owned;
      zero = taken.zero;
      free = search rules;
      others = taken.others;
      after = taken.after;
      sum = taken.sum;
      frame = search rules;
      frames = search rules;
    }

pub clear_path-last-requires-clause-path : goal.clear_path-last-requires-clause-path
clear_path-last-requires-clause-path c =
    let r = c.self.inside in
    taken_path r.cells.frame (links_in r.cells) (bytes_in r.cells) r.first_free r.free c.self.invariant c.args.n (omega (arith, length-links_in r.cells, r.cells.numbered)) (omega (arith, length-links_in r.cells, r.cells.numbered))

pub invariant_of-self : goal.invariant_of-self
invariant_of-self c =
    let r = c.self.inside in
    IsSound-after_take r.cells c.clear_path-last.new.self c.set_link.new.self r.first_free r.free c.self.invariant c.args.n c.clear_path-last.result c.link-self-inside.result 4294967295 (omega (arith, length-links_in r.cells, r.cells.numbered)) (omega (arith, length-links_in r.cells, r.cells.numbered)) (omega (arith, length-links_in r.cells, r.cells.numbered)) c.clear_path-last.ensures.last c.clear_path-last.ensures.zero c.clear_path-last.ensures.others c.clear_path-last.ensures.frame c.clear_path-last.ensures.links c.link-self-inside.ensures c.set_link.ensures.links c.set_link.ensures.frame c.set_link.ensures.bytes

pub returns : goal.returns
returns c =
    let r = c.self.inside in
    let taken = HasTaken-after_take r.cells c.clear_path-last.new.self c.set_link.new.self r.first_free r.free c.self.invariant c.args.n c.clear_path-last.result c.link-self-inside.result 4294967295 (omega (arith, length-links_in r.cells, r.cells.numbered)) (omega (arith, length-links_in r.cells, r.cells.numbered)) (omega (arith, length-links_in r.cells, r.cells.numbered)) c.clear_path-last.ensures.last c.clear_path-last.ensures.zero c.clear_path-last.ensures.others c.clear_path-last.ensures.frame c.clear_path-last.ensures.links c.link-self-inside.ensures c.set_link.ensures.links c.set_link.ensures.frame c.set_link.ensures.bytes c.args.self.now c.self.view_is in
    record {
      refused = search rules;
      told = search rules;
      err = search rules;
      count = search rules;
      owned = taken.owned;
      zero = taken.zero;
      free = search rules;
      others = taken.others;
      after = taken.after;
      sum = taken.sum;
      frame = search rules;
      frames = search rules;
    }
