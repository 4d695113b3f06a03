-- Texts that open a chunk, and texts that open none.
use Rattle.std.proofs.Common.{◌≡◌, ◌≢◌, ℕ, true, false, List, [], ◌∷◌, length, drop, refl, sym, ap, ◌∙◌, subst, arith}
use Rattle.std.specs.Prelude.{Option, Some, None, IfSome, IfNone}
use Rattle.std.proofs.lemmas.List.{length-drop, length-append}
use Rattle.httparse.specs.Grammar.{ChunkLine, print_chunk_line}
use Rattle.httparse.specs.Spans.{IsChunkLineAt}
use Rattle.httparse.proofs.ChunkLemmas.{chunk_line_unique}
use Rattle.http_chunks.specs.Chunks.{SaysSize, SaysOpening}

-- a chunk line at the front is not all of the text
pub no_more : (line : List ℕ) (len size : ℕ) (l : ChunkLine) → IsChunkLineAt line len size l → len ≢ length line → (other : ℕ) → ¬ (SaysSize line other)
no_more line len size l at less other says =
    let same = chunk_line_unique line l says.0 (drop len line) [] at.reads says.1 in
    less (omega (arith, ap length same.1, length-drop len line, at.len_is, ap length at.reads.1, length-append (print_chunk_line l) (drop len line)))

-- ---- behind another chunk or not

pub first_opens : (text : List ℕ) (found : Option ℕ) → IfSome found (SaysSize text) → IfSome found (SaysOpening false text)
first_opens text None says = says
first_opens text (Some size) says = (text, refl, says)

pub first_opens_none : (text : List ℕ) (found : Option ℕ) → IfNone found ((size : ℕ) → ¬ (SaysSize text size)) → IfNone found ((size : ℕ) → ¬ (SaysOpening false text size))
first_opens_none text None none = λ size says. none size (subst (λ l. SaysSize l size) (sym says.1) says.2)
first_opens_none text (Some size) none = none

pub next_opens : (text line : List ℕ) (found : Option ℕ) → text ≡ 13 ∷ 10 ∷ line → IfSome found (SaysSize line) → IfSome found (SaysOpening true text)
next_opens text line None is says = says
next_opens text line (Some size) is says = (line, is, says)

pub same_line : (a b : List ℕ) → 13 ∷ 10 ∷ a ≡ 13 ∷ 10 ∷ b → a ≡ b
same_line a b e = cc

pub next_opens_none : (text line : List ℕ) (found : Option ℕ) → text ≡ 13 ∷ 10 ∷ line → IfNone found ((size : ℕ) → ¬ (SaysSize line size)) → IfNone found ((size : ℕ) → ¬ (SaysOpening true text size))
next_opens_none text line None is none = λ size says. none size (subst (λ l. SaysSize l size) (same_line says.0 line (sym says.1 ∙ is)) says.2)
next_opens_none text line (Some size) is none = none
