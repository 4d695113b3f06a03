-- A piece that a sink takes part by part.
use Rattle.std.proofs.Common.{◌≡◌, ℕ, ◌+◌, ◌-◌, ◌≤◌, List, length, take, drop, subst, sym}
use Rattle.std.proofs.Math.Seq.{take-add}
use Rattle.std.proofs.lemmas.List.{take_rest}
use Rattle.std.specs.declared.option.Option.{Option}
use Rattle.std.specs.Io.KnownBytes.{Appends}
use Rattle.std.proofs.KnownBytes.{Appends-trans}

-- the sink took the first `done` bytes of a piece, and no write has failed
pub record HasTaken (old new : Option (List ℕ)) (bytes : List ℕ) (done before now : ℕ) : Type 0 where
  pub within : done ≤ length bytes
  pub taken : Appends old new (take done bytes)
  pub good : now ≡ before

-- after the first m bytes, the next n
pub Appends-take-add : (old mid new : Option (List ℕ)) (bytes : List ℕ) (m n : ℕ)
    → Appends old mid (take m bytes) → Appends mid new (take n (take (length bytes - m) (drop m bytes))) → Appends old new (take (m + n) bytes)
Appends-take-add old mid new bytes m n first next =
    let plain : Appends mid new (take n (drop m bytes)) = subst (λ rest. Appends mid new (take n rest)) (take_rest bytes m) next in
    subst (Appends old new) (sym (take-add m n bytes)) (Appends-trans old mid new _ _ first plain)
