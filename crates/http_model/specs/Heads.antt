-- The head of a request (RFC 9112, sections 2.2, 3 and 5): where its text ends, and what it says.
use Rattle.std.specs.Prelude.{◌≡◌, ◌⊎◌, ℕ, ◌<◌, ◌≤◌, ◌||◌, ◌==◌, List, [], ◌∷◌, ◌++◌, length, map, take, Option, Some, if◌then◌else◌}
use Rattle.httparse.specs.Grammar.{RequestHead, Field as FieldLine, field_value, ReadsRequest}
use Rattle.http_model.specs.declared.field.Field.{Field}
use Rattle.http_model.specs.declared.head.Framing.{Framing}
use Rattle.http_model.specs.declared.head.Head.{Head}
use Rattle.http_model.specs.declared.reading.TheConstants.{HEAD_LIMIT, FIELD_LIMIT}
use Rattle.http_model.specs.Framings.{framing_of}

-- ---- where the text ends

-- the bytes from the first that is neither CR nor LF
abbrev pub skip_breaks : List ℕ → List ℕ
skip_breaks [] = []
skip_breaks (b ∷ bytes) = if (b == 13) || (b == 10) then skip_breaks bytes else b ∷ bytes

-- these are the last bytes
abbrev pub EndsIn : List ℕ → List ℕ → Type 0
EndsIn bytes last = (front : List ℕ) × (bytes ≡ front ++ last)

-- The text ends in an empty line, not counting the empty lines in front of everything. A line ends in CR LF or in LF
-- alone.
abbrev pub EndsHead : List ℕ → Type 0
EndsHead text = EndsIn (skip_breaks text) (10 ∷ 10 ∷ []) ⊎ EndsIn (skip_breaks text) (10 ∷ 13 ∷ 10 ∷ [])

-- no front of the bytes ends a head
abbrev pub HasNoHeadText : List ℕ → Type 0
HasNoHeadText bytes = (n : ℕ) → ¬ (EndsHead (take n bytes))

-- the text goes up to and with the first empty line, and no further
pub record IsHeadText (text : List ℕ) : Type 0 where
  pub ends : EndsHead text
  pub first : (n : ℕ) → n < length text → ¬ (EndsHead (take n text))

-- ---- what it says

-- the text, all of it, is this head
pub record IsTree (text : List ℕ) (tree : RequestHead) : Type 0 where
  pub reads : ReadsRequest text tree []
  pub few : length tree.fields ≤ FIELD_LIMIT

-- a field, with the blanks round its value dropped
abbrev pub field_of : FieldLine → Field
field_of line = record { name = line.name; value = field_value line }

abbrev pub fields_of : RequestHead → List Field
fields_of tree = map field_of tree.fields

-- how the body behind a head is framed, if its fields tell
abbrev pub framing_in : RequestHead → Option Framing
framing_in tree = framing_of tree.minor (fields_of tree)

abbrev pub head_of : RequestHead → Framing → Head
head_of tree framing =
    record { method = tree.method; target = tree.target; minor = tree.minor; fields = fields_of tree; framing = framing }

-- the text says this head
pub record SaysHead (text : List ℕ) (head : Head) : Type 0 where
  pub tree : RequestHead
  pub is_tree : IsTree text tree
  pub framed : framing_in tree ≡ Some head.framing
  pub head_is : head ≡ head_of tree head.framing

-- ---- at the front of bytes

-- the bytes begin with this text of a head, and rest follows
pub record BeginsWithText (bytes text rest : List ℕ) : Type 0 where
  pub is_text : IsHeadText text
  pub fits : length text ≤ HEAD_LIMIT
  pub whole : bytes ≡ text ++ rest

-- the bytes begin with this head, and rest follows
abbrev pub BeginsWith : List ℕ → Head → List ℕ → Type 0
BeginsWith bytes head rest = (text : List ℕ) × BeginsWithText bytes text rest × SaysHead text head
