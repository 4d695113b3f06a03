use Rattle.std.proofs.Common.{◌≡◌, ◌∷◌, [], ◌++◌, false, true, sym, ap, ◌∙◌, subst, arith}
use Rattle.std.specs.Ordering.{is_lt}
use Rattle.std.specs.Vec.Iter.{into_iter_items}
use Rattle.omap_pages.specs.Rows.{key_cmp}
use Rattle.cls_record.specs.Pages.{keys_below}
use Rattle.cls_record.proofs.PageLemmas.{IsRead, all_read, first_left, read_more, read_to_end}
use Rattle.cls_record.proofs.pages.names_below.Goals as goal

pub rows-init : goal.rows-init
rows-init c front names long named here = record {
  left = names;
  split = ap (λ l. l ++ names) (sym c.in_ok-names.ensures.items);
  here = here;
  named = named;
}

pub name_behind-requires : goal.name_behind-requires
name_behind-requires c =
    let q = c.requires in
    let end = c.args.end.now in
    let read = c.rows.invariant q.0 q.1 q.2 q.3 (ap (keys_below end) c.into_iter-rest.ensures.rest ∙ q.4) in
    let below : is_lt (key_cmp c.in-Some.key end) ≡ true = ap (λ k. is_lt (key_cmp k end)) (sym c.as_slice.ensures) ∙ sym c.is_below.ensures ∙ c.if-not-is_below.false in
    let first = first_left q.0 end q.1 c.rows.names.items _ _ _ read c.in-Some.ensures.items below in
    (q.0, first.name, q.2, first.is_name, c.as_slice-in-Some.ensures ∙ first.key_is)

pub rows-preserved : goal.rows-preserved
rows-preserved c front names long named here =
    let end = c.args.end.now in
    let read = c.rows.invariant front names long named here in
    let below : is_lt (key_cmp c.in-Some.key end) ≡ true = ap (λ k. is_lt (key_cmp k end)) (sym c.as_slice.ensures) ∙ sym c.is_below.ensures ∙ c.if-not-is_below.false in
    let first = first_left front end names c.rows.names.items _ _ _ read c.in-Some.ensures.items below in
    let name = c.in_ok-name.ensures front first.name long (c.as_slice-in-Some.ensures ∙ first.key_is) in
    subst (λ l. IsRead front end names l (into_iter_items c.next.new.self)) (sym (c.in_ok-push.ensures.items ∙ ap (λ x. c.rows.names.items ++ x ∷ []) name))
    (read_more front end names c.rows.names.items read.left _ _ read.split first)

pub returns-then-not-is_below : goal.returns-then-not-is_below
returns-then-not-is_below c front names long named here =
    let end = c.args.end.now in
    let read = c.rows.invariant front names long named (ap (keys_below end) c.into_iter-rest.ensures.rest ∙ here) in
    let past : is_lt (key_cmp c.in-Some.key end) ≡ false = ap (λ k. is_lt (key_cmp k end)) (sym c.as_slice.ensures) ∙ sym c.is_below.ensures ∙ c.if-not-is_below.true in
    c.from_vec.ensures ∙ read_to_end front end names c.rows.names.items _ _ _ read c.in-Some.ensures.items past

pub returns : goal.returns
returns c front names long named here =
    let end = c.args.end.now in
    let read = c.rows.invariant front names long named (ap (keys_below end) c.into_iter-rest.ensures.rest ∙ here) in
    c.from_vec-2.ensures ∙ all_read front end names c.rows.names.items _ read (omega (arith, c.rows.rest.rest.ok.0, c.in_default.ensures.cases.0))
