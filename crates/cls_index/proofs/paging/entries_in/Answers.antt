use Rattle.std.proofs.Common.{◌∷◌, [], ◌++◌, sym, ap, ◌∙◌, subst, arith}
use Rattle.std.specs.Vec.Iter.{into_iter_items}
use Rattle.cls_index.proofs.PageLemmas.{IsRead, all_read, first_left, read_more}
use Rattle.cls_index.proofs.paging.entries_in.Goals as goal

pub rows-init : goal.rows-init
rows-init c es here all = record {
  left = es;
  split = ap (λ l. l ++ es) (sym c.in_ok-entries.ensures.items);
  written = here;
  named = all;
}

pub name_in-requires : goal.name_in-requires
name_in-requires c =
    let read = c.rows.invariant c.requires.0 (c.into_iter-rest.ensures.rest ∙ c.requires.1) c.requires.2 in
    (first_left _ _ _ _ _ read c.in-Some.ensures.items).named

pub read_entry-requires : goal.read_entry-requires
read_entry-requires c =
    let read = c.rows.invariant c.requires.0 (c.into_iter-rest.ensures.rest ∙ c.requires.1) c.requires.2 in
    let first = first_left _ _ _ _ _ read c.in-Some.ensures.items in
    (first.entry, first.fits, c.as_slice.ensures ∙ first.bytes)

pub rows-preserved : goal.rows-preserved
rows-preserved c es here all =
    let read = c.rows.invariant es here all in
    let first = first_left _ _ _ _ _ read c.in-Some.ensures.items in
    let entry = c.in_ok-entry.ensures first.entry first.fits (c.as_slice.ensures ∙ first.bytes) ∙ ap (λ n. (n, first.entry)) c.name_in.ensures in
    subst (λ l. IsRead es l (into_iter_items c.next.new.self)) (sym (c.in_ok-push.ensures.items ∙ ap (λ x. c.rows.entries.items ++ x ∷ []) entry))
    (read_more es c.rows.entries.items _ _ read.left read.split first)

pub returns : goal.returns
returns c es here all =
    let read = c.rows.invariant es (c.into_iter-rest.ensures.rest ∙ here) all in
    c.from_vec.ensures ∙ all_read es c.rows.entries.items _ read (omega (arith, c.rows.rest.rest.ok.0, c.in_default.ensures.cases.0))
