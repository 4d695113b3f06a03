use Rattle.std.proofs.Common.{◌≡◌, ◌^◌, ◌<◌, length, take, ap, ◌∙◌, subst}
use Rattle.std.proofs.lemmas.Float.{T_from_true}
use Rattle.std.proofs.lemmas.Result.{IfOk-weaker}
use Rattle.omap_pages.specs.Rows.{rows_after}
use Rattle.object_pool.specs.Places.{object_of, rows_of}
use Rattle.object_words.specs.Pages.{account_names}
use Rattle.cls_record.specs.Pages.{keys_below}
use Rattle.cls_record.specs.RootObjects.{account_front, account_key, accounts_start}
use Rattle.cls_record.proofs.PageLemmas.{account_rows, front_long}
use Rattle.cls_record.proofs.pages.account_page.Goals as goal

pub names_below-requires : goal.names_below-requires
names_below-requires c =
    let q = c.requires in
    let account = c.args.account.now in
    let after = c.args.after.now in
    let start_is : c.in_ok-start.start ≡ account_key account after = c.in_ok-start.ensures.form ∙ (λ i. account_key (c.as_str.ensures i) (c.as_bytes.ensures i)) in
    let end_is : c.in_ok-end.end ≡ account_key account accounts_start = c.in_ok-end.ensures.form ∙ ap (λ a. account_key a accounts_start) c.as_str-2.ensures in
    let fits : length account < 2 ^ 64 = subst (λ a. length a < 2 ^ 64) c.as_str.ensures c.in_ok-start.ensures.fits in
    let rows = c.in-Ok.ensures.rows ∙ ap (λ k. take c.args.limit (rows_after (rows_of c.args.root.now).rows k)) (c.as_slice-2.ensures ∙ start_is) in
    let p = account_rows (object_of c.args.root.now) q.0 q.1 account fits after c.args.limit c.in-Ok.page.rows (T_from_true _ c.look_up.ensures) rows in
    let keys = (λ i. keys_below ((c.as_slice-3.ensures ∙ end_is) i) (c.into_vec.ensures i)) ∙ p.keys in
    let long = front_long account c.in_ok-end.end c.len.result c.len.ensures end_is in
    (account_front account, account_names q.0 account after c.args.limit, long, p.named, keys)

pub returns : goal.returns
returns c =
    IfOk-weaker c.names_below.result _ _ (λ names is r root.
    let account = c.args.account.now in
    let after = c.args.after.now in
    let start_is : c.in_ok-start.start ≡ account_key account after = c.in_ok-start.ensures.form ∙ (λ i. account_key (c.as_str.ensures i) (c.as_bytes.ensures i)) in
    let end_is : c.in_ok-end.end ≡ account_key account accounts_start = c.in_ok-end.ensures.form ∙ ap (λ a. account_key a accounts_start) c.as_str-2.ensures in
    let fits : length account < 2 ^ 64 = subst (λ a. length a < 2 ^ 64) c.as_str.ensures c.in_ok-start.ensures.fits in
    let rows = c.in-Ok.ensures.rows ∙ ap (λ k. take c.args.limit (rows_after (rows_of c.args.root.now).rows k)) (c.as_slice-2.ensures ∙ start_is) in
    let p = account_rows (object_of c.args.root.now) r root account fits after c.args.limit c.in-Ok.page.rows (T_from_true _ c.look_up.ensures) rows in
    let keys = (λ i. keys_below ((c.as_slice-3.ensures ∙ end_is) i) (c.into_vec.ensures i)) ∙ p.keys in
    let long = front_long account c.in_ok-end.end c.len.result c.len.ensures end_is in
    is (account_front account) (account_names r account after c.args.limit) long p.named keys) c.names_below.ensures
