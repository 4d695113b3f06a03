-- The changes of a name that are under way (developer documents of the bucket index: pending operations).
use Rattle.std.specs.Prelude.{ℕ, ◌==◌, ◌&&◌, not, Bool, true, nat_lt, nat_le, List, [], ◌∷◌, ◌++◌, if◌then◌else◌, filter}
use Rattle.std.specs.List.{list_any}
use Rattle.object_words.specs.declared.entry.Tag.{Tag}
use Rattle.object_words.specs.declared.entry.Guard.{Guard}
use Rattle.object_words.specs.Numbers.{moment_later}

-- the tag that a prepare event of this number gives, which lives so long
abbrev pub tag_of : ℕ → ℕ → ℕ → Tag
tag_of number clock life = record { tag = number; deadline = moment_later clock life }

-- what a change under the tag names
abbrev pub guard_of : Tag → Guard
guard_of t = record { tag = t.tag; deadline = t.deadline }

-- each number is below the next
abbrev pub tags_rise : List Tag → Bool
tags_rise [] = true
tags_rise (t ∷ []) = true
tags_rise (t ∷ u ∷ ts) = nat_lt t.tag u.tag && tags_rise (u ∷ ts)

-- the tag of this number is there
abbrev pub has_tag : ℕ → List Tag → Bool
has_tag tag tags = list_any (λ t. t.tag == tag) tags

-- the newest tag comes last
abbrev pub with_tag : Tag → List Tag → List Tag
with_tag t tags = tags ++ t ∷ []

-- the tags without the one of this number
abbrev pub without_tag : ℕ → List Tag → List Tag
without_tag tag [] = []
without_tag tag (t ∷ ts) = if t.tag == tag then ts else (t ∷ without_tag tag ts)

-- the moment is not below the deadline
abbrev pub is_due : ℕ → Tag → Bool
is_due moment t = nat_le t.deadline moment

-- some tag is due at the moment
abbrev pub has_due : ℕ → List Tag → Bool
has_due moment tags = list_any (is_due moment) tags

-- the tags without those that are due
abbrev pub tags_due_taken : ℕ → List Tag → List Tag
tags_due_taken moment tags = filter (λ t. not (is_due moment t)) tags
