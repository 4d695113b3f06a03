use Rattle.std.proofs.Common.{◌≡◌, ℕ, ◌+◌, ◌-◌, ◌<◌, None, set, ap, sym, subst, ◌∙◌, arith, rules}
use Rattle.frame_region.proofs.Filled.{length-links_in}
use Rattle.frame_region.specs.Held.{links_in}
use Rattle.frame_region.specs.Cells.{after}
use Rattle.frame_region.specs.Region.{Run, Owns, KeepsOthers, with_run}
use Rattle.frame_region.proofs.Given.{given_fits, HasGiven-none, IsWalk-given, IsSound-after_give, HasGiven-after_give}
use Rattle.frame_region.proofs.region.Region.give.Goals as goal

pub overflow_add-self : goal.overflow_add-self
overflow_add-self c =
    let r = c.self.inside in
    let run : Run = record { first = c.run.inside.first; count = c.run.inside.count } in
    let owned : Owns c.args.self.now run = subst (Owns c.args.self.now) (sym c.run.view_is) c.requires in
    omega (arith, length-links_in r.cells, r.cells.numbered, given_fits r.cells r.first_free r.free c.self.invariant c.args.self.now run c.self.view_is owned)

pub returns-then-count-eq0 : goal.returns-then-count-eq0
returns-then-count-eq0 c =
    let r = c.self.inside in
    let run : Run = record { first = c.run.inside.first; count = c.run.inside.count } in
    let owned : Owns c.args.self.now run = subst (Owns c.args.self.now) (sym c.run.view_is) c.requires in
    let given = HasGiven-none r.cells r.first_free r.free c.self.invariant c.args.self.now run c.self.view_is owned c.if-count-eq0.true in
    record {
      free = search rules;
      others = subst (KeepsOthers c.args.self.now _) c.run.view_is given.others;
      after = given.after ∙ ap (λ (v : Run). with_run c.args.self.now v None (c.args.self.now.free + v.count)) c.run.view_is;
      sum = given.sum;
      frame = search rules;
      frames = search rules;
    }

pub cell_after-last-requires : goal.cell_after-last-requires
cell_after-last-requires c =
    let r = c.self.inside in
    let run : Run = record { first = c.run.inside.first; count = c.run.inside.count } in
    let owned : Owns c.args.self.now run = subst (Owns c.args.self.now) (sym c.run.view_is) c.requires in
    let some : 0 < run.count = omega (arith, c.if-count-eq0.false) in
    λ i below. IsWalk-given r.cells r.first_free r.free c.self.invariant c.args.self.now run c.self.view_is owned some i (omega arith)

pub set_link-requires : goal.set_link-requires
set_link-requires c =
    let r = c.self.inside in
    let run : Run = record { first = c.run.inside.first; count = c.run.inside.count } in
    let owned : Owns c.args.self.now run = subst (Owns c.args.self.now) (sym c.run.view_is) c.requires in
    let some : 0 < run.count = omega (arith, c.if-count-eq0.false) in
    rw c.cell_after-last.ensures (IsWalk-given r.cells r.first_free r.free c.self.invariant c.args.self.now run c.self.view_is owned some (run.count - 1) (omega arith))

pub invariant_of-self-2 : goal.invariant_of-self-2
invariant_of-self-2 c =
    let r = c.self.inside in
    let run : Run = record { first = c.run.inside.first; count = c.run.inside.count } in
    let owned : Owns c.args.self.now run = subst (Owns c.args.self.now) (sym c.run.view_is) c.requires in
    let some : 0 < run.count = omega (arith, c.if-count-eq0.false) in
    let links : (links_in c.set_link.new.self) ≡ set (links_in r.cells) (after (links_in r.cells) run.first (run.count - 1)) r.first_free =
    c.set_link.ensures.links ∙ ap (λ (i : ℕ). set (links_in r.cells) i r.first_free) (c.cell_after-last.ensures) in
    IsSound-after_give r.cells r.first_free r.free c.self.invariant c.args.self.now run c.self.view_is owned some c.set_link.new.self c.set_link.ensures.frame links c.set_link.ensures.bytes

pub returns : goal.returns
returns c =
    let r = c.self.inside in
    let run : Run = record { first = c.run.inside.first; count = c.run.inside.count } in
    let owned : Owns c.args.self.now run = subst (Owns c.args.self.now) (sym c.run.view_is) c.requires in
    let some : 0 < run.count = omega (arith, c.if-count-eq0.false) in
    let links : (links_in c.set_link.new.self) ≡ set (links_in r.cells) (after (links_in r.cells) run.first (run.count - 1)) r.first_free =
    c.set_link.ensures.links ∙ ap (λ (i : ℕ). set (links_in r.cells) i r.first_free) (c.cell_after-last.ensures) in
    let given = HasGiven-after_give r.cells r.first_free r.free c.self.invariant c.args.self.now run c.self.view_is owned some c.set_link.new.self c.set_link.ensures.frame links c.set_link.ensures.bytes in
    record {
      free = search rules;
      others = subst (KeepsOthers c.args.self.now _) c.run.view_is given.others;
      after = given.after ∙ ap (λ (v : Run). with_run c.args.self.now v None (c.args.self.now.free + v.count)) c.run.view_is;
      sum = given.sum;
      frame = search rules;
      frames = search rules;
    }
