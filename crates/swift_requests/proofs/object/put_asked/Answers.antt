use Rattle.std.proofs.Common.{◌≡◌, rules, None}
use Rattle.swift_requests.specs.Refusals.{put_refusal}
use Rattle.swift_requests.proofs.Refusals.{put_passed, etag_text, meta_texts}
use Rattle.swift_requests.proofs.object.put_asked.Goals as goal

pub kind-requires-clause-texts : goal.kind-requires-clause-texts
kind-requires-clause-texts c =
    let none : put_refusal c.args.largest c.args.head.now ≡ None = search rules in (put_passed c.args.largest c.args.head.now none).1

pub kind-requires-clause-sizes : goal.kind-requires-clause-sizes
kind-requires-clause-sizes c =
    let none : put_refusal c.args.largest c.args.head.now ≡ None = search rules in (put_passed c.args.largest c.args.head.now none).2

pub into_pairs-requires : goal.into_pairs-requires
into_pairs-requires c =
    let none : put_refusal c.args.largest c.args.head.now ≡ None = search rules in
    rw (c.in_ok-metadata.ensures, c.as_slice.ensures) (meta_texts c.args.head.now (put_passed c.args.largest c.args.head.now none).1)

pub sent_etag-requires : goal.sent_etag-requires
sent_etag-requires c =
    let none : put_refusal c.args.largest c.args.head.now ≡ None = search rules in
    etag_text c.args.head.now (put_passed c.args.largest c.args.head.now none).1

pub conditions-requires : goal.conditions-requires
conditions-requires c =
    let none : put_refusal c.args.largest c.args.head.now ≡ None = search rules in (put_passed c.args.largest c.args.head.now none).0
