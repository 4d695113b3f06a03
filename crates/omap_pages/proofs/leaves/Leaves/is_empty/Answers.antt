use Rattle.std.proofs.Common.{◌≡◌, length, sym, ap, ◌∙◌, arith}
use Rattle.std.proofs.lemmas.List.{nil_from_length}
use Rattle.std.proofs.lemmas.Bool.Decides.{nat_tests}
use Rattle.omap_pages.specs.Leaves.{flat}
use Rattle.omap_pages.proofs.LeavesLemmas.{flat_nil}
use Rattle.omap_pages.proofs.leaves.Leaves.is_empty.Goals as goal

pub returns : goal.returns
returns c =
    let ls = c.self.inside.leaves.items in
    let same : ls ≡ c.args.self.now.leaves = ap (λ d. d.leaves) c.self.view_is in (
      λ yes.
          let none : length ls ≡ 0 = grind (arith, nat_tests) in
          ap flat (sym same ∙ nil_from_length ls none),
      λ nil.
          let none = flat_nil ls c.self.invariant.0 (ap flat same ∙ nil) in
          grind (arith, nat_tests),
    )
