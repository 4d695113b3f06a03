use Rattle.std.proofs.Common.{◌∙◌, sym, ap}
use Rattle.object_pool.specs.Places.{object_of}
use Rattle.object_words.specs.Roots.{version_of}
use Rattle.cls_record.proofs.RootLemmas.{kept_row, no_row}
use Rattle.cls_record.proofs.kept.kept_version.Goals as goal

pub version_in-requires : goal.version_in-requires
version_in-requires c =
    let k = kept_row (object_of c.args.root.now) c.requires.root.0 c.args.name.now c.in-Some.row.now c.requires.root.1 c.requires.name c.in-Some.ensures.value in
    (k.bucket, k.is, k.bytes)

pub returns-in-Some : goal.returns-in-Some
returns-in-Some c r is =
    let k = kept_row (object_of c.args.root.now) r c.args.name.now c.in-Some.row.now is c.requires.name c.in-Some.ensures.value in
    c.version_in.ensures k.bucket k.is k.bytes ∙ ap version_of (sym k.here)

pub returns-in-None : goal.returns-in-None
returns-in-None c r is = ap version_of (sym (no_row (object_of c.args.root.now) r c.args.name.now is c.requires.name c.in-None.ensures.value))
