-- The search for the end of a line in bytes that come in pieces.
use Rattle.std.proofs.Common.{◌≡◌, ℕ, ◌≤◌, List, ◌++◌, length, Option, sym, ap, ◌∙◌, subst, append_assoc}
use Rattle.std.proofs.KnownBytes.{Consumes-trans}
use Rattle.std.specs.Io.KnownBytes.{Consumes}
use Rattle.script_lines.specs.declared.reader.TheConstants.{LINE_LIMIT}
use Rattle.script_lines.specs.declared.front.Front.TheVariants.{Part}
use Rattle.script_lines.specs.Lines.{IsUnbroken}
use Rattle.script_lines.specs.Fronts.{IsFront}
use Rattle.script_lines.proofs.Breaks.{unbroken-front}

-- the bytes that waited and those that were read are the line so far and the rest
pub record Searches (before now : Option (List ℕ)) (waits line rest : List ℕ) (first faults : ℕ) (same : Type 0) : Type 0 where
  pub more : List ℕ
  pub read : Consumes before now more
  pub bytes : waits ++ more ≡ line ++ rest
  pub one : IsUnbroken line
  pub short : length line ≤ LINE_LIMIT
  pub unread : ¬ (IsUnbroken waits) → same
  pub kept : faults ≡ first

-- all that was at hand is a part of one line, and more was read
pub goes_on : (before mid after : Option (List ℕ)) (waits line rest longer none next : List ℕ) (given first faults later : ℕ) (same still : Type 0)
    → Searches before mid waits line rest first faults same → IsFront given (line ++ rest) longer none Part
    → Consumes mid after next → later ≡ faults → Searches before after waits longer next first later still
goes_on before mid after waits line rest longer none next given first faults later same still so_far part read kept =
    let all : waits ++ so_far.more ≡ longer = so_far.bytes ∙ part.0 in record {
      more = so_far.more ++ next;
      read = Consumes-trans before mid after so_far.more next so_far.read read;
      bytes = sym (append_assoc waits so_far.more next) ∙ ap (λ l. l ++ next) all;
      one = part.2;
      short = part.3.0;
      unread = λ broken. absurd (broken (unbroken-front waits so_far.more (subst IsUnbroken (sym all) part.2)));
      kept = kept ∙ so_far.kept;
    }
