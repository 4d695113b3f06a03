-- The parts of a target (RFC 3986, sections 2.1 and 3.3), which escapes write, and the names among them.
use Rattle.std.specs.Prelude.{◌≡◌, ◌≢◌, ℕ, Bool, true, false, not, ◌&&◌, ◌||◌, ◌==◌, List, [], ◌∷◌, length, Option, Some, None, nat_le, nat_lt, slice_index}
use Rattle.std.specs.List.{list_all, position_or_len, before_first, after_first}
use Rattle.std.specs.Option.{option_or}
use Rattle.std.specs.Char.{is_ascii_hexdigit}
use Rattle.std.specs.Str.{is_utf8}
use Rattle.percent_encoding.specs.Percent.{percent_decode}
use Rattle.swift_words.specs.declared.fault.WordFault.{WordFault}
use Rattle.swift_words.specs.declared.fault.WordFault.TheVariants.{OutOfMemory, BadEscape, BadUtf8, BadName}

-- ---- faults

-- no fault where the test holds
abbrev pub fault_unless : Bool → WordFault → Option WordFault
fault_unless true fault = None
fault_unless false fault = Some fault

-- the fault that is answered is the first one; want of memory may come at any place
abbrev pub Tells : Option WordFault → WordFault → Type 0
Tells first fault = fault ≢ OutOfMemory → first ≡ Some fault

-- ---- bytes cut at a mark, as they were sent

-- some byte is the mark
abbrev pub has_mark : ℕ → List ℕ → Bool
has_mark mark bytes = nat_lt (position_or_len (λ b. b == mark) bytes) (length bytes)

-- what stands before the first mark, or all where there is none
abbrev pub before_mark : ℕ → List ℕ → List ℕ
before_mark mark bytes = before_first (λ b. b == mark) bytes

-- what stands after the first mark, or nothing where there is none
abbrev pub after_mark : ℕ → List ℕ → List ℕ
after_mark mark bytes = after_first (λ b. b == mark) bytes

-- ---- words

-- two hexadecimal digits stand at the front
abbrev pub begins_with_digits : List ℕ → Bool
begins_with_digits bytes = is_ascii_hexdigit (slice_index bytes 0) && is_ascii_hexdigit (slice_index bytes 1)

-- each `%` has two hexadecimal digits after it
unfoldable pub has_whole_escapes : List ℕ → Bool
has_whole_escapes [] = true
has_whole_escapes (b ∷ bytes) = (not (b == 37) || begins_with_digits bytes) && has_whole_escapes bytes

-- the first fault of a part: an escape, then what the part stands for
unfoldable pub word_fault : List ℕ → Option WordFault
word_fault part =
    option_or (fault_unless (has_whole_escapes part) BadEscape) (fault_unless (is_utf8 (percent_decode part)) BadUtf8)

-- ---- names

-- the most bytes of the name of a container, and of an object
abbrev pub container_limit : ℕ
container_limit = 256

abbrev pub object_limit : ℕ
object_limit = 1024

-- 1 to so many bytes, none of which is 0
unfoldable pub is_name : ℕ → List ℕ → Bool
is_name most name = nat_lt 0 (length name) && (nat_le (length name) most && list_all (λ b. not (b == 0)) name)

-- the first fault of a part that is a name
abbrev pub name_fault : ℕ → List ℕ → Option WordFault
name_fault most part = option_or (word_fault part) (fault_unless (is_name most (percent_decode part)) BadName)
