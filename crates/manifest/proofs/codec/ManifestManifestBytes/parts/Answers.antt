use Rattle.std.proofs.Common.{sym, ap, ◌∙◌, arith}
use Rattle.manifest.specs.Ranges.{parts_of, bytes_along}
use Rattle.manifest.proofs.CoverLemmas.{covered, nothing_covered, whole_covered}
use Rattle.manifest.proofs.RangeLemmas.{AreMade, parts_between, parts_of_nothing, made_within, made_in_order}
use Rattle.manifest.proofs.codec.ManifestManifestBytes.parts.Goals as goal

pub returns-then-count-eq0-clause-pieces : goal.returns-then-count-eq0-clause-pieces
returns-then-count-eq0-clause-pieces c =
    c.from_vec.ensures ∙ c.new.ensures.items ∙ sym (parts_of_nothing c.args.self.now c.args.start)
    ∙ ap (parts_of c.args.self.now c.args.start) (sym c.if-count-eq0.true)

pub returns-then-count-eq0-clause-whole : goal.returns-then-count-eq0-clause-whole
returns-then-count-eq0-clause-whole c front all contents cut =
    ap (bytes_along contents) (c.from_vec.ensures ∙ c.new.ensures.items)
    ∙ sym (nothing_covered c.args.self.now (sym all ∙ c.if-count-eq0.true) contents cut)

made : (c : goal.After-from_vec-2) → AreMade c.args.self.now c.args.start c.args.count c.from_vec-2.result
made c = record {
  filled = omega arith;
  inside = c.requires;
  bounds = c.in_ok-pieces.ensures.bounds;
  made = c.from_vec-2.ensures ∙ c.in_ok-pieces.ensures.pieces;
}

pub returns-clause-pieces : goal.returns-clause-pieces
returns-clause-pieces c =
    (made c).made ∙ sym (parts_between c.args.self.now c.args.start c.args.count (omega (arith, c.in_ok-pieces.ensures.bounds.stripe_low)) (omega arith) c.requires)

pub returns-clause-within : goal.returns-clause-within
returns-clause-within c = made_within _ _ _ _ (made c)

pub returns-clause-in_order : goal.returns-clause-in_order
returns-clause-in_order c = made_in_order _ _ _ _ (made c)

pub returns-clause-covers : goal.returns-clause-covers
returns-clause-covers c contents cut =
    ap (bytes_along contents) (returns-clause-pieces c)
    ∙ covered c.args.self.now c.args.start c.args.count (omega (arith, c.in_ok-pieces.ensures.bounds.stripe_low)) contents cut

pub returns-clause-whole : goal.returns-clause-whole
returns-clause-whole c front all contents cut =
    ap (bytes_along contents) (returns-clause-pieces c)
    ∙ whole_covered c.args.self.now c.args.start c.args.count (omega (arith, c.in_ok-pieces.ensures.bounds.stripe_low)) front all contents cut
