-- A call that took nothing, and then another.
use Rattle.std.proofs.Common.{ℕ, List, ◌++◌, None, Some, Result, Ok, Err, ap, ◌∙◌, sym}
use Rattle.std.specs.declared.option.Option.{Option}
use Rattle.std.specs.Io.KnownBytes.{Keeps, Consumes, Appends, ReadConsumes, WriteAppends}
use Rattle.std.proofs.KnownBytes.{Keeps-trans}

pub Consumes-after_kept : (a b c : Option (List ℕ)) (bs : List ℕ) → Keeps a b → Consumes b c bs → Consumes a c bs
Consumes-after_kept None b c bs p q = tt
Consumes-after_kept (Some x) None c bs p q = absurd p
Consumes-after_kept (Some x) (Some y) None bs p q = absurd q
Consumes-after_kept (Some x) (Some y) (Some z) bs p q = sym p ∙ q

pub Appends-after_kept : (a b c : Option (List ℕ)) (bs : List ℕ) → Keeps a b → Appends b c bs → Appends a c bs
Appends-after_kept None b c bs p q = tt
Appends-after_kept (Some x) None c bs p q = absurd p
Appends-after_kept (Some x) (Some y) None bs p q = absurd q
Appends-after_kept (Some x) (Some y) (Some z) bs p q = q ∙ ap (λ l. l ++ bs) p

-- the other is a read
pub ReadConsumes-after_kept : {E : Type 0} (a b c : Option (List ℕ)) (r : Result ℕ E) (buf : List ℕ) → Keeps a b → ReadConsumes b c r buf → ReadConsumes a c r buf
ReadConsumes-after_kept a b c (Ok n) buf p q = (Consumes-after_kept a b c _ p q.0, q.1)
ReadConsumes-after_kept a b c (Err e) buf p q = Keeps-trans a b c p q

-- the other is a write
pub WriteAppends-after_kept : {E : Type 0} (a b c : Option (List ℕ)) (r : Result ℕ E) (buf : List ℕ) → Keeps a b → WriteAppends b c r buf → WriteAppends a c r buf
WriteAppends-after_kept a b c (Ok n) buf p q = Appends-after_kept a b c _ p q
WriteAppends-after_kept a b c (Err e) buf p q = Keeps-trans a b c p q
