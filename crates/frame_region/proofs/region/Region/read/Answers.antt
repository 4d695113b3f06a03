use Rattle.std.proofs.Common.{List, ℕ, length, take, drop, ap, sym, ◌∙◌}
use Rattle.frame_region.specs.Held.{links_in, bytes_in}
use Rattle.frame_region.proofs.Filled.{filled_in}
use Rattle.frame_region.proofs.Owned.{path_out}
use Rattle.frame_region.proofs.Views.{owned_out}
use Rattle.frame_region.proofs.region.Region.read.Goals as goal

pub read_run-requires-clause-walk : goal.read_run-requires-clause-walk
read_run-requires-clause-walk c =
    let r = c.self.inside in
    let run = c.args.run.now in
    let out = owned_out r.cells.frame (links_in r.cells) (bytes_in r.cells) r.first_free r.free c.self.invariant r.cells.not_empty (filled_in r.cells) c.args.self.now run c.self.view_is c.requires.owned in
    (path_out r.cells.frame (links_in r.cells) (bytes_in r.cells) r.first_free r.free c.self.invariant r.cells.not_empty (filled_in r.cells) run.first run.count out.0).within

pub returns : goal.returns
returns c =
    let r = c.self.inside in
    let out = owned_out r.cells.frame (links_in r.cells) (bytes_in r.cells) r.first_free r.free c.self.invariant r.cells.not_empty (filled_in r.cells) c.args.self.now c.args.run.now c.self.view_is c.requires.owned in
    c.read_run.ensures ∙ ap (λ (bytes : List ℕ). take (length c.args.out.now) (drop c.args.start bytes)) (sym out.1)
