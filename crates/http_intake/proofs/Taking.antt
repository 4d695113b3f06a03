-- The head at the front of bytes.
use Rattle.std.proofs.Common.{◌≡◌, ℕ, ◌≤◌, Bool, List, [], ◌∷◌, ◌++◌, length, take, drop, None, refl, sym, arith, take-append-drop, length-take-le}
use Rattle.httparse.specs.Grammar.{RequestHead}
use Rattle.http_model.specs.declared.head.Head.{Head}
use Rattle.http_model.specs.declared.reading.HeadFault.{HeadFault}
use Rattle.http_model.specs.declared.reading.HeadFault.TheVariants as Read
use Rattle.http_model.specs.declared.reading.TheConstants.{HEAD_LIMIT}
use Rattle.http_model.specs.Heads.{IsHeadText, IsTree, SaysHead, framing_in, BeginsWithText, BeginsWith}
use Rattle.http_model.specs.Forms.{is_bodiless}
use Rattle.http_intake.specs.Faults.{fault_of_head}
use Rattle.http_intake.specs.Reading.{HasNoNext}

-- the first n bytes are the text of a head, within the limit
abbrev pub HasText : List ℕ → ℕ → Type 0
HasText bytes n = (n ≤ length bytes) × (n ≤ HEAD_LIMIT) × IsHeadText (take n bytes)

begins : (bytes : List ℕ) (n : ℕ) → HasText bytes n → BeginsWithText bytes (take n bytes) (drop n bytes)
begins bytes n found = record {
  is_text = found.2;
  fits = omega (arith, found.1, length-take-le n bytes found.0);
  whole = sym (take-append-drop n bytes);
}

pub head_there : (bytes : List ℕ) (n : ℕ) (head : Head) → HasText bytes n → SaysHead (take n bytes) head → BeginsWith bytes head (drop n bytes)
head_there bytes n head found says = (take n bytes, begins bytes n found, says)

pub no_head_there : (bytes : List ℕ) (n : ℕ) (ended : Type 0) (fault : HeadFault) → HasText bytes n
    → (fault ≡ Read.BadHead → (tree : RequestHead) → ¬ (IsTree (take n bytes) tree))
    → ((bodiless : Bool) → fault ≡ Read.BadFraming bodiless → (tree : RequestHead) × IsTree (take n bytes) tree × (framing_in tree ≡ None) × (is_bodiless tree.method ≡ bodiless))
    → HasNoNext bytes ended (fault_of_head fault)
no_head_there bytes n ended Read.OutOfMemory found bad_head bad_framing = tt
no_head_there bytes n ended Read.BadHead found bad_head bad_framing = (take n bytes, drop n bytes, begins bytes n found, bad_head refl)
no_head_there bytes n ended (Read.BadFraming b) found bad_head bad_framing = let tree = bad_framing b refl in (take n bytes, drop n bytes, begins bytes n found, tree.0, tree.1, tree.2, tree.3)

-- bytes with none behind them
pub no_front : (bytes more : List ℕ) → bytes ++ more ≡ [] → bytes ≡ []
no_front [] more none = refl
no_front (b ∷ bytes) more none = cc
