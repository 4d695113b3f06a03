use Rattle.std.proofs.Common.{◌≡◌, ◌-◌, Some, length, take, drop, get_or, sym, ap, ◌∙◌, arith, length-append}
use Rattle.manifest.specs.Layouts.{encoding}
use Rattle.object_words.specs.Heads.{Head, etag_of, manifest_of}
use Rattle.cls_head.specs.Layouts.{content_bytes, texts_bytes, texts_of}
use Rattle.cls_head.proofs.TextLemmas.{number_long}
use Rattle.cls_head.proofs.HeadLemmas.{IsLive, begun, behind_etag, behind_manifest, behind_one, changed, etag_taken, live, manifest_taken, some_bytes}
use Rattle.cls_head.proofs.front.read_front.Goals as goal

pub number-version-requires : goal.number-version-requires
number-version-requires c =
    let h = c.requires.0 in
    let s = changed c.args.attrs.now h.version h.slot c.requires.1 c.requires.2 (some_bytes _ (sym c.if-is_empty.ensures)) in
    number_long _ _ _ (begun _ _ _ _ _ s.here)

pub number-micros-requires : goal.number-micros-requires
number-micros-requires c =
    let h = c.requires.0 in
    let s = changed c.args.attrs.now h.version h.slot c.requires.1 c.requires.2 (some_bytes _ (sym c.if-is_empty.ensures)) in
    number_long _ _ _ (c.number-version.ensures.rest _ _ (begun _ _ _ _ _ s.here))

pub split_at-requires-2 : goal.split_at-requires-2
split_at-requires-2 c =
    let h = c.requires.0 in
    let l = live c.args.attrs.now h.version h.slot c.requires.1 c.requires.2 c.if-attrs-ne-LIVE.false in
    let zone = c.number-micros.ensures.rest _ _ (c.number-version.ensures.rest _ _ (begun _ _ _ _ _ l.here)) in
    let behind = c.split_at.ensures.back ∙ behind_etag _ l.new l.fits (behind_one _ _ _ zone) in
    omega (arith, ap length behind, length-append (encoding l.new.manifest) (texts_bytes l.new))

pub returns-clause-stamp : goal.returns-clause-stamp
returns-clause-stamp c h is here =
    let s = changed c.args.attrs.now h.version h.slot is here (some_bytes _ (sym c.if-is_empty.ensures)) in
    let behind = c.number-version.ensures.rest _ _ (begun _ _ _ _ _ s.here) in
    let micros = c.number-micros.ensures.value _ _ s.stamp_fits.0 behind in
    let zone = ap (λ z. get_or z 0 0) (c.number-micros.ensures.rest _ _ behind) in
    let stamp : Some (record { micros = c.number-micros.result.0; zone = get_or c.number-micros.result.1.now 0 0 }) ≡ Some s.stamp =
    λ i. Some (record { micros = micros i; zone = zone i }) in
    stamp ∙ sym s.seen

content : (c : goal.After-decode) (h : Head) (l : IsLive c.args.attrs.now h.version h.slot)
    → take (length c.number-micros.result.1.now - 1) (drop 1 c.number-micros.result.1.now) ≡ content_bytes l.new
content c h l = behind_one _ _ _ (c.number-micros.ensures.rest _ _ (c.number-version.ensures.rest _ _ (begun _ _ _ _ _ l.here)))

pub returns-clause-etag : goal.returns-clause-etag
returns-clause-etag c h is here =
    let l = live c.args.attrs.now h.version h.slot is here c.if-attrs-ne-LIVE.false in
    ap Some (c.copy_from_slice.ensures.after ∙ c.split_at.ensures.front ∙ etag_taken _ l.new l.fits (content c h l)) ∙ ap etag_of (sym l.slot_is)

pub returns-clause-manifest : goal.returns-clause-manifest
returns-clause-manifest c h is here =
    let l = live c.args.attrs.now h.version h.slot is here c.if-attrs-ne-LIVE.false in
    let behind = c.split_at.ensures.back ∙ behind_etag _ l.new l.fits (content c h l) in
    c.decode.ensures.exact l.new.manifest l.fits.manifest (c.split_at-2.ensures.front ∙ manifest_taken _ l.new behind) ∙ ap manifest_of (sym l.slot_is)

pub returns-clause-texts : goal.returns-clause-texts
returns-clause-texts c h is here =
    let l = live c.args.attrs.now h.version h.slot is here c.if-attrs-ne-LIVE.false in
    let behind = c.split_at.ensures.back ∙ behind_etag _ l.new l.fits (content c h l) in
    c.split_at-2.ensures.back ∙ behind_manifest _ l.new behind ∙ ap texts_of (sym l.slot_is)
