use Rattle.std.proofs.Common.{◌≡◌, Option, Some, ap, sym, ◌∙◌}
use Rattle.std.specs.Option.{option_copied}
use Rattle.slab.specs.Slab.{get}
use Rattle.object_pool.specs.declared.shelf.Kept.{Kept}
use Rattle.object_pool.proofs.shelf.is_at.Goals as goal

pub returns-in-Some : goal.returns-in-Some
returns-in-Some c told =
    let x = c.in-Some.found.now in
    let at : get c.args.kept.now c.args.number ≡ Some x = sym c.get.ensures ∙ ap option_copied c.in-Some.is in
    record { object = x.object; there = at ∙ ap (λ k. let p : Option Kept = Some (record { key = k; object = x.object }) in p) (c.is.ensures.0 told) }
