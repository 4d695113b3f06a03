-- The place that Destination and X-Copy-From name: a container and an object (the OpenStack Object Storage API v1, COPY).
use Rattle.std.specs.Prelude.{ℕ, ◌==◌, List, [], ◌∷◌, Option, Some, if◌then◌else◌}
use Rattle.std.specs.Option.{option_or}
use Rattle.percent_encoding.specs.Percent.{percent_decode}
use Rattle.swift_words.specs.declared.fault.WordFault.{WordFault}
use Rattle.swift_words.specs.declared.fault.WordFault.TheVariants.{NotPath}
use Rattle.swift_words.specs.Parts.{has_mark, before_mark, after_mark, name_fault, container_limit, object_limit}

-- one slash may stand in front
abbrev pub without_slash : List ℕ → List ℕ
without_slash [] = []
without_slash (b ∷ bytes) = if b == 47 then bytes else b ∷ bytes

-- the container ends at the first slash, and the object is all the rest, as they were sent
abbrev pub container_part : List ℕ → List ℕ
container_part value = before_mark 47 (without_slash value)

abbrev pub object_part : List ℕ → List ℕ
object_part value = after_mark 47 (without_slash value)

-- the first fault of a place: no slash ends the container, then the container's name, then the object's
unfoldable pub place_fault : List ℕ → Option WordFault
place_fault value =
    if has_mark 47 (without_slash value)
    then option_or (name_fault container_limit (container_part value)) (name_fault object_limit (object_part value))
    else Some NotPath

-- the container and the object that a value without a fault names
unfoldable pub place_of : List ℕ → List ℕ × List ℕ
place_of value = (percent_decode (container_part value), percent_decode (object_part value))
