-- The fault of a place whose container has none.
use Rattle.std.proofs.Common.{◌≡◌, ℕ, true, List, None}
use Rattle.swift_words.specs.declared.fault.WordFault.{WordFault}
use Rattle.swift_words.specs.Parts.{Tells, has_mark, before_mark, after_mark, name_fault}
use Rattle.swift_words.specs.Places.{without_slash, place_fault}

pub fault_of_object : (value rest container object : List ℕ) (fault : WordFault) → rest ≡ without_slash value
    → has_mark 47 rest ≡ true → container ≡ before_mark 47 rest → object ≡ after_mark 47 rest
    → name_fault 256 container ≡ None → Tells (name_fault 1024 object) fault → Tells (place_fault value) fault
unfolding place_fault
fault_of_object value rest container object fault is mark at_container at_object none told other =
    let none_there = rw (at_container, is) at none in
    let told_there = rw (at_object, is) at (told other) in
    let mark_there = rw is at mark in
    rw (mark_there, none_there) told_there
