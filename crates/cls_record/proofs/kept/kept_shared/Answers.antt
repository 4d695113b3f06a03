use Rattle.std.proofs.Common.{◌∙◌, sym, ap}
use Rattle.cls_record.specs.RootObjects.{same_shared}
use Rattle.cls_record.proofs.RootLemmas.{kept_row, no_row}
use Rattle.object_pool.specs.Places.{object_of}
use Rattle.cls_record.proofs.kept.kept_shared.Goals as goal

pub shared_in-requires : goal.shared_in-requires
shared_in-requires c =
    let k = kept_row (object_of c.args.root.now) c.requires.root.0 c.args.name.now c.in-Some.row.now c.requires.root.1 c.requires.name c.in-Some.ensures.value in
    (k.bucket, k.is, k.bytes)

pub returns-in-Some : goal.returns-in-Some
returns-in-Some c r b is shared part =
    let k = kept_row (object_of c.args.root.now) r c.args.name.now c.in-Some.row.now is c.requires.name c.in-Some.ensures.value in
    c.shared_in.ensures k.bucket b k.is k.bytes shared part ∙ ap (λ f. same_shared f b) (sym k.here)

pub returns-in-None : goal.returns-in-None
returns-in-None c r b is shared part = ap (λ f. same_shared f b) (sym (no_row (object_of c.args.root.now) r c.args.name.now is c.requires.name c.in-None.ensures.value))
