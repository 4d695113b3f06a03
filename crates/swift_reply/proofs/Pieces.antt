-- Pieces that were added one after another, as the text of a reply.
use Rattle.std.proofs.Common.{◌≡◌, ℕ, Bool, true, false, cond, List, [], ◌++◌, refl, ap, ◌∙◌, append_assoc, append-nil}
use Rattle.http_model.specs.declared.reply.ReplyForm.{ReplyForm}
use Rattle.http_model.specs.Replies.{written_body}

-- a piece more
more : (a b o t p : List ℕ) → b ≡ a ++ p → a ≡ o ++ t → b ≡ o ++ (t ++ p)
more a b o t p e so_far = e ∙ ap (λ l. l ++ p) so_far ∙ append_assoc o t p

-- a status line, four groups of fields, the empty line and no body
pub stored : (o o₁ o₂ o₃ o₄ o₅ o₆ s a b c d e : List ℕ)
    → o₁ ≡ o ++ s → o₂ ≡ o₁ ++ a → o₃ ≡ o₂ ++ b → o₄ ≡ o₃ ++ c → o₅ ≡ o₄ ++ d → o₆ ≡ o₅ ++ e
    → o₆ ≡ o ++ ((s ++ (a ++ (b ++ (c ++ d))) ++ e) ++ [])
stored o o₁ o₂ o₃ o₄ o₅ o₆ s a b c d e e₁ e₂ e₃ e₄ e₅ e₆ =
    more o₅ o₆ o ((((s ++ a) ++ b) ++ c) ++ d) e e₆
    (more o₄ o₅ o (((s ++ a) ++ b) ++ c) d e₅ (more o₃ o₄ o ((s ++ a) ++ b) c e₄ (more o₂ o₃ o (s ++ a) b e₃ (more o₁ o₂ o s a e₂ e₁))))
    ∙ simp (append_assoc, append-nil)

-- a status line, three groups of fields, the empty line and no body
pub same : (o o₁ o₂ o₃ o₄ o₅ s a b c e : List ℕ)
    → o₁ ≡ o ++ s → o₂ ≡ o₁ ++ a → o₃ ≡ o₂ ++ b → o₄ ≡ o₃ ++ c → o₅ ≡ o₄ ++ e
    → o₅ ≡ o ++ ((s ++ (a ++ (b ++ c)) ++ e) ++ [])
same o o₁ o₂ o₃ o₄ o₅ s a b c e e₁ e₂ e₃ e₄ e₅ =
    more o₄ o₅ o (((s ++ a) ++ b) ++ c) e e₅ (more o₃ o₄ o ((s ++ a) ++ b) c e₄ (more o₂ o₃ o (s ++ a) b e₃ (more o₁ o₂ o s a e₂ e₁)))
    ∙ simp (append_assoc, append-nil)

-- five fields
pub five : (o o₁ o₂ o₃ o₄ o₅ a b c d f : List ℕ)
    → o₁ ≡ o ++ a → o₂ ≡ o₁ ++ b → o₃ ≡ o₂ ++ c → o₄ ≡ o₃ ++ d → o₅ ≡ o₄ ++ f
    → o₅ ≡ o ++ (a ++ (b ++ (c ++ (d ++ f))))
five o o₁ o₂ o₃ o₄ o₅ a b c d f e₁ e₂ e₃ e₄ e₅ =
    more o₄ o₅ o (((a ++ b) ++ c) ++ d) f e₅ (more o₃ o₄ o ((a ++ b) ++ c) d e₄ (more o₂ o₃ o (a ++ b) c e₃ (more o₁ o₂ o a b e₂ e₁)))
    ∙ simp append_assoc

-- the line of a field with two values between texts
pub lined : (o o₁ o₂ o₃ o₄ o₅ a b c d e : List ℕ)
    → o₁ ≡ o ++ a → o₂ ≡ o₁ ++ b → o₃ ≡ o₂ ++ c → o₄ ≡ o₃ ++ d → o₅ ≡ o₄ ++ e
    → o₅ ≡ o ++ (a ++ ((b ++ c ++ d) ++ e))
lined o o₁ o₂ o₃ o₄ o₅ a b c d e e₁ e₂ e₃ e₄ e₅ = five o o₁ o₂ o₃ o₄ o₅ a b c d e e₁ e₂ e₃ e₄ e₅ ∙ simp append_assoc

-- two groups of fields and the empty line
pub ended : (o o₁ o₂ o₃ m g e : List ℕ) → o₁ ≡ o ++ m → o₂ ≡ o₁ ++ g → o₃ ≡ o₂ ++ e → o₃ ≡ o ++ ((m ++ g) ++ e)
ended o o₁ o₂ o₃ m g e e₁ e₂ e₃ = more o₂ o₃ o (m ++ g) e e₃ (more o₁ o₂ o m g e₂ e₁)

-- a status line, five fields, further ones and the empty line
pub shown : (o o₁ o₂ o₃ s a b c d f g e : List ℕ)
    → o₁ ≡ o ++ s → o₂ ≡ o₁ ++ (a ++ (b ++ (c ++ (d ++ f)))) → o₃ ≡ o₂ ++ (g ++ e)
    → o₃ ≡ o ++ (s ++ (a ++ (b ++ (c ++ (d ++ (f ++ g))))) ++ e)
shown o o₁ o₂ o₃ s a b c d f g e e₁ e₂ e₃ =
    more o₂ o₃ o (s ++ (a ++ (b ++ (c ++ (d ++ f))))) (g ++ e) e₃ (more o₁ o₂ o s (a ++ (b ++ (c ++ (d ++ f)))) e₂ e₁)
    ∙ simp append_assoc

-- the same with one field more
pub spanned : (o o₁ o₂ o₃ o₄ s a b c d f r g e : List ℕ)
    → o₁ ≡ o ++ s → o₂ ≡ o₁ ++ (a ++ (b ++ (c ++ (d ++ f)))) → o₃ ≡ o₂ ++ r → o₄ ≡ o₃ ++ (g ++ e)
    → o₄ ≡ o ++ (s ++ (a ++ (b ++ (c ++ (d ++ (f ++ (r ++ g)))))) ++ e)
spanned o o₁ o₂ o₃ o₄ s a b c d f r g e e₁ e₂ e₃ e₄ =
    more o₃ o₄ o ((s ++ (a ++ (b ++ (c ++ (d ++ f))))) ++ r) (g ++ e) e₄
    (more o₂ o₃ o (s ++ (a ++ (b ++ (c ++ (d ++ f))))) r e₃ (more o₁ o₂ o s (a ++ (b ++ (c ++ (d ++ f)))) e₂ e₁))
    ∙ simp append_assoc

-- a status line, two fields, two groups of fields, the empty line, and a body
pub refused : (o o₁ o₂ o₃ o₄ o₅ o₆ s a b g k e t : List ℕ)
    → o₁ ≡ o ++ s → o₂ ≡ o₁ ++ (a ++ b) → o₃ ≡ o₂ ++ g → o₄ ≡ o₃ ++ k → o₅ ≡ o₄ ++ e → o₆ ≡ o₅ ++ t
    → o₆ ≡ o ++ ((s ++ (a ++ (b ++ (g ++ k))) ++ e) ++ t)
refused o o₁ o₂ o₃ o₄ o₅ o₆ s a b g k e t e₁ e₂ e₃ e₄ e₅ e₆ =
    more o₅ o₆ o ((((s ++ (a ++ b)) ++ g) ++ k) ++ e) t e₆
    (more o₄ o₅ o (((s ++ (a ++ b)) ++ g) ++ k) e e₅ (more o₃ o₄ o ((s ++ (a ++ b)) ++ g) k e₄ (more o₂ o₃ o (s ++ (a ++ b)) g e₃
    (more o₁ o₂ o s (a ++ b) e₂ e₁))))
    ∙ simp append_assoc

-- the same without a challenge
pub broken : (o o₁ o₂ o₃ o₄ o₅ s a b k e t : List ℕ)
    → o₁ ≡ o ++ s → o₂ ≡ o₁ ++ (a ++ b) → o₃ ≡ o₂ ++ k → o₄ ≡ o₃ ++ e → o₅ ≡ o₄ ++ t
    → o₅ ≡ o ++ ((s ++ (a ++ (b ++ k)) ++ e) ++ t)
broken o o₁ o₂ o₃ o₄ o₅ s a b k e t e₁ e₂ e₃ e₄ e₅ =
    more o₄ o₅ o (((s ++ (a ++ b)) ++ k) ++ e) t e₅
    (more o₃ o₄ o ((s ++ (a ++ b)) ++ k) e e₄ (more o₂ o₃ o (s ++ (a ++ b)) k e₃
    (more o₁ o₂ o s (a ++ b) e₂ e₁)))
    ∙ simp append_assoc

nothing : (bodiless : Bool) (none : List ℕ) → none ≡ [] → cond bodiless [] none ≡ []
nothing true none e = refl
nothing false none e = e

-- no body is written as none
pub written_nothing : (form : ReplyForm) → written_body form [] ≡ []
written_nothing form = nothing form.bodiless [] refl

-- a status line, one group of fields, the empty line and no body
pub done : (o o₁ o₂ o₃ s k e : List ℕ)
    → o₁ ≡ o ++ s → o₂ ≡ o₁ ++ k → o₃ ≡ o₂ ++ e
    → o₃ ≡ o ++ ((s ++ k ++ e) ++ [])
done o o₁ o₂ o₃ s k e e₁ e₂ e₃ = more o₂ o₃ o (s ++ k) e e₃ (more o₁ o₂ o s k e₂ e₁) ∙ simp (append_assoc, append-nil)

-- the same with a field
pub empty : (o o₁ o₂ o₃ o₄ s a k e : List ℕ)
    → o₁ ≡ o ++ s → o₂ ≡ o₁ ++ a → o₃ ≡ o₂ ++ k → o₄ ≡ o₃ ++ e
    → o₄ ≡ o ++ ((s ++ (a ++ k) ++ e) ++ [])
empty o o₁ o₂ o₃ o₄ s a k e e₁ e₂ e₃ e₄ =
    more o₃ o₄ o ((s ++ a) ++ k) e e₄ (more o₂ o₃ o (s ++ a) k e₃ (more o₁ o₂ o s a e₂ e₁))
    ∙ simp (append_assoc, append-nil)

-- a status line, two fields, four groups of fields, the empty line and no body
pub counted : (o o₁ o₂ o₃ o₄ o₅ o₆ o₇ o₈ s a b m r w k e : List ℕ)
    → o₁ ≡ o ++ s → o₂ ≡ o₁ ++ a → o₃ ≡ o₂ ++ b → o₄ ≡ o₃ ++ m → o₅ ≡ o₄ ++ r → o₆ ≡ o₅ ++ w → o₇ ≡ o₆ ++ k → o₈ ≡ o₇ ++ e
    → o₈ ≡ o ++ ((s ++ (a ++ (b ++ (m ++ (r ++ (w ++ k))))) ++ e) ++ [])
counted o o₁ o₂ o₃ o₄ o₅ o₆ o₇ o₈ s a b m r w k e e₁ e₂ e₃ e₄ e₅ e₆ e₇ e₈ =
    more o₇ o₈ o ((((((s ++ a) ++ b) ++ m) ++ r) ++ w) ++ k) e e₈
    (more o₆ o₇ o (((((s ++ a) ++ b) ++ m) ++ r) ++ w) k e₇ (more o₅ o₆ o ((((s ++ a) ++ b) ++ m) ++ r) w e₆
    (more o₄ o₅ o (((s ++ a) ++ b) ++ m) r e₅ (more o₃ o₄ o ((s ++ a) ++ b) m e₄ (more o₂ o₃ o (s ++ a) b e₃ (more o₁ o₂ o s a e₂ e₁))))))
    ∙ simp (append_assoc, append-nil)
