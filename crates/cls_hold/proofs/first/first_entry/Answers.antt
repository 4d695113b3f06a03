use Rattle.std.proofs.Common.{◌∙◌, arith}
use Rattle.std.proofs.lemmas.Float.{T_from_true}
use Rattle.object_pool.specs.Places.{rows_of}
use Rattle.object_words.specs.Names.{entries}
use Rattle.cls_hold.proofs.FirstLemmas.{first_page, popped}
use Rattle.cls_hold.proofs.first.first_entry.Goals as goal

pub returns : goal.returns
returns c s is =
    let top = c.as_slice-2.ensures ∙ c.log_key-last.ensures in
    let page = first_page (rows_of c.args.shard.now) s _ _ is.rows (T_from_true _ c.look_up.ensures) top c.in_ok-page.ensures.rows in
    popped (entries s.entries) c.into_vec-rows.result.items c.pop.new.self.items _ c.pop.result (c.into_vec-rows.ensures ∙ page) (omega (arith, c.into_vec-rows.result.ok.0)) c.pop.ensures.items c.pop.ensures.rest
