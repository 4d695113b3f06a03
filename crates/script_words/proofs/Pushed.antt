-- Pieces at the end of a buffer.
use Rattle.std.proofs.Common.{◌≡◌, List, ℕ, ◌++◌, Result, Ok, Err, OnOk, sym, ap, ◌∙◌, append_assoc}
use Rattle.std.specs.Prelude.{is_ok, if◌then◌else◌}

-- a piece that was added unless memory was wanting
pub added : {T E : Type 0} (result : Result T E) (new out piece : List ℕ) → new ≡ (if is_ok result then out ++ piece else out) → OnOk result (new ≡ out ++ piece)
added (Ok x) new out piece is = is
added (Err e) new out piece is = tt

-- two texts, each with a number behind it
pub two_counted : {T E : Type 0} (result : Result T E) (new middle out text number next last : List ℕ)
    → OnOk result (new ≡ middle ++ (next ++ last)) → middle ≡ out ++ (text ++ number)
    → OnOk result (new ≡ out ++ (text ++ number ++ next ++ last))
two_counted (Ok x) new middle out text number next last second first =
    second ∙ ap (λ m. m ++ (next ++ last)) first ∙ append_assoc out (text ++ number) (next ++ last)
    ∙ ap (λ l. out ++ l) (sym (append_assoc (text ++ number) next last))
two_counted (Err e) new middle out text number next last second first = tt
