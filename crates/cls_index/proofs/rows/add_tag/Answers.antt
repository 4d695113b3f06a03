use Rattle.std.proofs.Common.{◌≡◌, ◌∷◌, [], ◌++◌, Some, OnOk, refl, sym, ap, ◌∙◌, subst}
use Rattle.object_pool.specs.Places.{rows_of}
use Rattle.object_words.specs.Numbers.{next}
use Rattle.object_words.specs.Entries.{EntryView, entry_of}
use Rattle.index_entry.specs.Layouts.{entry_bytes}
use Rattle.class_words.specs.Shards.{HasEntry}
use Rattle.cls_index.proofs.RowLemmas.{bare, front_taken}
use Rattle.cls_index.proofs.rows.add_tag.Goals as goal

pub put_tagged-requires : goal.put_tagged-requires
put_tagged-requires c =
    let found = c.requires.0 in
    let b = bare (rows_of c.args.shard.now) c.args.name.now _ c.unwrap-front.result found c.requires.1 c.in-Some.ensures.value
    (λ e fits here. sym c.unwrap-front.ensures ∙ c.front_in.ensures.exact e fits here) c.if-front-gt0.false in
    let w = c.write_tagged-len.ensures in
    let e = entry_of found in (
      _,
      record e { revision = c.saturating_add-revision.result; tags = c.args.tag.now ∷ [] },
      sym c.in-Some.ensures.value,
      b.long,
      w.fits e b.fits b.none,
      front_taken _ (entry_bytes (record e { revision = c.saturating_add-revision.result; tags = c.args.tag.now ∷ [] })) _ _ (w.written e b.fits b.written b.none) (w.len e b.fits b.written b.none),
      refl,
    )

pub returns-clause-ok : goal.returns-clause-ok
returns-clause-ok c found has below =
    let b = bare (rows_of c.args.shard.now) c.args.name.now _ c.unwrap-front.result found has c.in-Some.ensures.value
    (λ e fits here. sym c.unwrap-front.ensures ∙ c.front_in.ensures.exact e fits here) c.if-front-gt0.false in
    let w = c.write_tagged-len.ensures in
    let e = entry_of found in
    let t = c.args.tag.now in
    let put = c.put_tagged.ensures.ok _ (record e { revision = c.saturating_add-revision.result; tags = t ∷ [] }) (sym c.in-Some.ensures.value) b.long (w.fits e b.fits b.none)
    (front_taken _ (entry_bytes (record e { revision = c.saturating_add-revision.result; tags = t ∷ [] })) _ _ (w.written e b.fits b.written b.none) (w.len e b.fits b.written b.none)) refl in
    let revision : c.saturating_add-revision.result ≡ next e.revision = c.saturating_add-revision.ensures ∙ b.revision in
    let tags : t ∷ [] ≡ e.tags ++ t ∷ [] = ap (λ ts. ts ++ t ∷ []) (sym b.none) in
    let same : record e { revision = c.saturating_add-revision.result; tags = t ∷ [] } ≡ record e { revision = next e.revision; tags = e.tags ++ t ∷ [] } = λ i. record e { revision = revision i; tags = tags i } in
    subst (λ (x : EntryView). OnOk c.put_tagged.result (HasEntry (rows_of c.put_tagged.new.shard) c.args.name.now (Some x))) same put
