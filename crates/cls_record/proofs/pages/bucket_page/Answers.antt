use Rattle.std.proofs.Common.{[], refl, ap, ◌∙◌, subst}
use Rattle.std.proofs.lemmas.Float.{T_from_true}
use Rattle.std.proofs.lemmas.Result.{IfOk-weaker}
use Rattle.object_pool.specs.Places.{object_of}
use Rattle.object_words.specs.Pages.{bucket_names}
use Rattle.class_words.specs.Pages.{StartsAt}
use Rattle.cls_record.specs.Pages.{keys_below}
use Rattle.cls_record.specs.RootObjects.{accounts_start}
use Rattle.cls_record.proofs.PageLemmas.{bucket_rows}
use Rattle.cls_record.proofs.pages.bucket_page.Goals as goal

pub names_below-requires : goal.names_below-requires
names_below-requires c =
    let q = c.requires in
    let after = c.args.after.now in
    let start = c.later_of-start.result.now in
    let p = bucket_rows (object_of c.args.root.now) q.0 q.1 after start c.args.limit c.in-Ok.page.rows (T_from_true _ c.look_up.ensures) (subst (λ a. StartsAt a start) c.as_bytes.ensures c.later_of-start.ensures) c.in-Ok.ensures.rows in
    ([], bucket_names q.0 after c.args.limit, refl, p.named, ap (keys_below accounts_start) c.into_vec.ensures ∙ p.keys)

pub returns : goal.returns
returns c =
    IfOk-weaker c.names_below.result _ _ (λ names is r root.
    let after = c.args.after.now in
    let start = c.later_of-start.result.now in
    let p = bucket_rows (object_of c.args.root.now) r root after start c.args.limit c.in-Ok.page.rows (T_from_true _ c.look_up.ensures) (subst (λ a. StartsAt a start) c.as_bytes.ensures c.later_of-start.ensures) c.in-Ok.ensures.rows in
    is [] (bucket_names r after c.args.limit) refl p.named (ap (keys_below accounts_start) c.into_vec.ensures ∙ p.keys)) c.names_below.ensures
