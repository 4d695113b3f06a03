use Rattle.std.proofs.Common.{◌≡◌, ℕ, ◌-◌, ◌<◌, List, take, drop, length, replicate, refl, sym, ap, ◌∙◌, subst, arith, IfOk}
use Rattle.std.proofs.lemmas.List.{length-replicate}
use Rattle.script_words.specs.Bodies.{body_bytes}
use Rattle.script_player.specs.Plays.{TakesNext}
use Rattle.script_player.proofs.Feeding.{takes_if, next_letters}
use Rattle.script_player.proofs.put.feed_piece.Goals as goal

pub returns-in-Word-clause-taken : goal.returns-in-Word-clause-taken
returns-in-Word-clause-taken c =
    let all = c.as_slice.result.now in
    let is : body_bytes c.args.body.now ≡ all = ap body_bytes c.in-Word.is ∙ sym c.as_slice.ensures in
    let more : c.args.at < length all = subst (λ l. c.args.at < length l) is c.requires.more in
    subst (λ l. IfOk c.feed.result (TakesNext l c.args.at c.args.task.now c.feed.new.self)) (sym is)
    (takes_if all (take (length all - c.args.at) (drop c.args.at all)) c.args.at (length all - c.args.at) c.args.task.now c.feed.new.self c.feed.result more (omega (arith, more)) refl c.feed.ensures.taken c.feed.ensures.task)

pub returns-in-Times-clause-taken : goal.returns-in-Times-clause-taken
returns-in-Times-clause-taken c =
    let all : List ℕ = replicate c.in-Times.times 120 in
    let is : body_bytes c.args.body.now ≡ all = ap body_bytes c.in-Times.is in
    let more : c.args.at < length all = subst (λ l. c.args.at < length l) is c.requires.more in
    let long = length-replicate {A = ℕ} c.in-Times.times 120 in
    let count = c.min-count.ensures in
    subst (λ l. IfOk c.feed-in-Times.result (TakesNext l c.args.at c.args.task.now c.feed-in-Times.new.self)) (sym is)
    (takes_if all _ c.args.at c.min-count.result c.args.task.now c.feed-in-Times.new.self c.feed-in-Times.result more (omega (arith, more, long, count))
    (next_letters 120 65536 c.in-Times.times c.args.at c.min-count.result (omega (arith, count)) (omega (arith, count))) c.feed-in-Times.ensures.taken c.feed-in-Times.ensures.task)
