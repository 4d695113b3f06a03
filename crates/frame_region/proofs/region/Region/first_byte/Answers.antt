use Rattle.std.proofs.Common.{◌≡◌, ◌+◌, ◌*◌, ◌<◌, ◌≤◌, ℕ, [], ◌∷◌, List, length, take, drop, slice_index_or, refl, ap, sym, ◌∙◌, arith}
use Rattle.std.proofs.lemmas.List.{length-take-le}
use native.Mathlib.Nat.{mul-pos}
use Rattle.frame_region.specs.Region.{Run, Owns, bytes_of}
use Rattle.frame_region.specs.Held.{links_in, bytes_in}
use Rattle.frame_region.specs.Cells.{bytes_along}
use Rattle.frame_region.proofs.Filled.{filled_in, length-links_in}
use Rattle.frame_region.proofs.Owned.{path_out}
use Rattle.frame_region.proofs.PathLemmas.{length-bytes_along, take-drop-bytes_along}
use Rattle.frame_region.proofs.Views.{owned_out}
use Rattle.frame_region.proofs.region.Region.first_byte.Goals as goal

one_byte : (bytes : List ℕ) → length bytes ≡ 1 → slice_index_or bytes 0 0 ∷ [] ≡ bytes
one_byte [] one = absurd (omega arith)
one_byte (byte ∷ []) one = refl
one_byte (byte ∷ other ∷ bytes) one = absurd (omega arith)

pub returns-then-frame-self : goal.returns-then-frame-self
returns-then-frame-self c run owned first some =
    let r = c.self.inside in
    let links = links_in r.cells in
    let out = owned_out r.cells.frame links (bytes_in r.cells) r.first_free r.free c.self.invariant r.cells.not_empty (filled_in r.cells) c.args.self.now run c.self.view_is owned in
    let within = (path_out r.cells.frame links (bytes_in r.cells) r.first_free r.free c.self.invariant r.cells.not_empty (filled_in r.cells) run.first run.count out.0).within in
    let low : run.first < length links = within 0 some in
    absurd (omega (arith, low, first, length-links_in r.cells, c.if-frame-self.true))

pub copy_out-requires-clause-cell : goal.copy_out-requires-clause-cell
copy_out-requires-clause-cell c = omega (arith, length-links_in c.self.inside.cells, c.if-frame-self.false)

pub returns : goal.returns
returns c run owned first some =
    let r = c.self.inside in
    let frame = r.cells.frame in
    let links = links_in r.cells in
    let bytes = bytes_in r.cells in
    let filled = filled_in r.cells in
    let out = owned_out frame links bytes r.first_free r.free c.self.invariant r.cells.not_empty filled c.args.self.now run c.self.view_is owned in
    let within = (path_out frame links bytes r.first_free r.free c.self.invariant r.cells.not_empty filled run.first run.count out.0).within in
    let all = bytes_along frame links bytes run.first run.count in
    let front : take 1 (drop (0 * frame + 0) all) ≡ take 1 (drop (run.first * frame + 0) bytes) =
    take-drop-bytes_along frame links bytes filled run.first run.count 0 0 1 within some (omega (arith, r.cells.not_empty)) in
    let none : 0 * frame + 0 ≡ 0 = omega arith in
    let read : take 1 all ≡ c.copy_out.new.out =
    ap (λ n. take 1 (drop n all)) (sym none) ∙ front ∙ ap (λ n. take 1 (drop (n * frame + 0) bytes)) first ∙ sym c.copy_out.ensures in
    let enough : 1 ≤ length all = omega (arith, length-bytes_along frame links bytes filled run.first run.count within, mul-pos some r.cells.not_empty) in
    let one : length c.copy_out.new.out ≡ 1 = ap length (sym read) ∙ length-take-le 1 all enough in
    one_byte c.copy_out.new.out one ∙ sym read ∙ ap (take 1) (sym out.1)
