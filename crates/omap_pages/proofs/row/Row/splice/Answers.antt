use Rattle.std.proofs.Common.{◌≡◌, ◌+◌, ◌<◌, ◌++◌, length, ap, ◌∙◌, arith}
use Rattle.std.specs.List.{splice, remove_range}
use Rattle.std.proofs.lemmas.Bool.Decides.{nat_tests}
use Rattle.std.proofs.lemmas.List.{take_all, take-append-drop}
use Rattle.omap_pages.proofs.Splices.{remove_range-splice, splice-splice}
use Rattle.omap_pages.proofs.row.Row.splice.Goals as goal

-- all bytes were written over, and what is left of the place is cut away
pub returns-then-is_empty-clause-value : goal.returns-then-is_empty-clause-value
returns-then-is_empty-clause-value c =
    let start = c.args.start in
    let n = c.min-shared.result in
    let xs = c.self.inside.value.items in
    let over = c.split_at.result.0.now in
    let same : xs ≡ c.args.self.now.1.value = ap (λ r. r.1.value) c.self.view_is in
    let written = c.overwrite.ensures.items ∙ ap (λ m. splice xs start (start + m) over) c.split_at.ensures.front_len in
    let none : length c.split_at.result.1.now ≡ 0 = grind (arith, nat_tests) in
    let whole : over ≡ c.args.bytes.now = c.split_at.ensures.front ∙ take_all n c.args.bytes.now (omega arith) in
    c.drop.ensures.items ∙ c.drain.ensures.kept
    ∙ ap (λ v. remove_range v (start + n) (start + c.args.count)) written
    ∙ remove_range-splice xs over start n c.split_at.ensures.front_len (omega (arith, ap length same)) (start + c.args.count) (omega arith)
    ∙ (λ i. splice (same i) start (start + c.args.count) (whole i))

-- the place is written over, and the rest of the bytes is put in after it
pub returns-else-is_empty-clause-value : goal.returns-else-is_empty-clause-value
returns-else-is_empty-clause-value c =
    let start = c.args.start in
    let n = c.min-shared.result in
    let xs = c.self.inside.value.items in
    let over = c.split_at.result.0.now in
    let same : xs ≡ c.args.self.now.1.value = ap (λ r. r.1.value) c.self.view_is in
    let written = c.overwrite.ensures.items ∙ ap (λ m. splice xs start (start + m) over) c.split_at.ensures.front_len in
    let some : 0 < length c.split_at.result.1.now = grind (arith, nat_tests) in
    let filled : n ≡ c.args.count = omega arith in
    let whole : over ++ c.split_at.result.1.now ≡ c.args.bytes.now = (λ i. c.split_at.ensures.front i ++ c.split_at.ensures.back i) ∙ take-append-drop n c.args.bytes.now in
    c.insert_reserved.ensures.items
    ∙ ap (λ v. splice v (start + n) (start + n) c.split_at.result.1.now) written
    ∙ splice-splice xs over start n c.split_at.ensures.front_len (omega (arith, ap length same)) c.split_at.result.1.now
    ∙ (λ i. splice (same i) start (start + filled i) (whole i))
