use Rattle.std.proofs.Common.{◌≡◌, ◌+◌, ◌-◌, ◌*◌, ◌/◌, length, drop, sym, ap, ◌∙◌, arith}
use Rattle.std.proofs.lemmas.List.{length-drop, get_or-drop}
use Rattle.index_entry.proofs.TagLemmas.{length-tags_bytes, some_tags}
use Rattle.index_entry.proofs.entry.has_tags.Goals as goal
use Rattle.index_entry.proofs.entry.has_tags.Goals.{then-rest-ne0-via-then-rest-ne0, then-rest-ne0-via-else-rest-ne0+then-rest-count}

pub returns-then-rest-ne0-clause-exact : goal.returns-then-rest-ne0-clause-exact
returns-then-rest-ne0-clause-exact c tags fit rise count here =
    let long : length c.args.bytes.now - c.args.start ≡ 16 * length tags = sym (length-drop c.args.start c.args.bytes.now) ∙ ap length here ∙ length-tags_bytes tags in
    elim c.then-rest-ne0.branch [
      | then-rest-ne0-via-then-rest-ne0 w ↦ absurd (omega (arith, w.if-rest-ne0.true, long))
      | then-rest-ne0-via-else-rest-ne0+then-rest-count w ↦ absurd (omega (arith, w.if-rest-count.true, long, count))
    ]

pub returns-clause-found : goal.returns-clause-found
returns-clause-found c rising =
    let n = (length c.args.bytes.now - c.args.start) / 16 in
    let t = some_tags n (drop c.args.start c.args.bytes.now)
    (λ i. omega (arith, c.type_inv.bytes (c.args.start + i), get_or-drop c.args.start c.args.bytes.now i 0))
    (length-drop c.args.start c.args.bytes.now ∙ omega arith) in
    (t.tags, t.fit, sym (c.is_rising.ensures t.tags t.fit t.count t.here) ∙ rising, omega (arith, t.count), t.here)
