use Rattle.std.proofs.Common.{◌∙◌, arith, rules}
use Rattle.std.proofs.lemmas.Result.{IfOk-weaker}
use Rattle.swift_words.proofs.PathLemmas.{parts_step, parts_cut, parts_full}
use Rattle.swift_words.proofs.path.parts_of.Goals as goal

pub returns-in_default : goal.returns-in_default
returns-in_default c =
    IfOk-weaker c.with_last.result _ _
    (λ parts h. h ∙ parts_cut c.loop-rest.parts.items c.loop-rest.rest.now _ (search rules) c.loop-rest.invariant) c.with_last.ensures

pub loop-rest-preserved : goal.loop-rest-preserved
loop-rest-preserved c =
    parts_step c.loop-rest.parts.items c.push.new.self.items c.in-Some.part c.loop-rest.rest.now c.in-Some.after.now _
    (omega (arith, c.loop-rest.parts.ok.0, c.len.ensures)) c.in_ok-push.ensures.items (search rules) (search rules) (search rules)
    c.loop-rest.invariant

pub returns : goal.returns
returns c =
    IfOk-weaker c.with_last-2.result _ _
    (λ parts h. h ∙ parts_full c.loop-rest.parts.items c.loop-rest.rest.now _ (omega (arith, c.loop-rest.parts.ok.0, c.len.ensures)) c.loop-rest.invariant) c.with_last-2.ensures
