-- One piece more of a query.
use Rattle.std.proofs.Common.{◌≡◌, ℕ, ◌+◌, ◌<◌, eqb, Bool, true, false, cond, ◌||◌, List, [], ◌∷◌, length, map, filter, get_or, drop, Option, Some, None, refl, sym, ap, ◌∙◌, codes}
use Rattle.std.specs.List.{list_any}
use Rattle.std.proofs.lemmas.Bool.{false≢true}
use Rattle.std.proofs.lemmas.List.{drop_more}
use Rattle.percent_encoding.specs.Percent.{percent_decode}
use Rattle.swift_words.specs.declared.fault.WordFault.{WordFault}
use Rattle.swift_words.specs.declared.query.Sent.{Sent}
use Rattle.swift_words.specs.Parts.{Tells}
use Rattle.swift_words.specs.Queries.{blank_for_plus, value_part, piece_fault, pieces_fault, is_named, values_of, last_or}
use Rattle.swift_words.specs.SentValues.{after_piece, Follows, LeadsTo, IsSentBy}

-- ---- values

last_after : (name : List ℕ) (kept : Option (List ℕ)) (piece : List ℕ) (left : List (List ℕ))
    → last_or kept (values_of name (piece ∷ left)) ≡ last_or (after_piece name piece kept) (values_of name left)
last_after name kept piece left = by_test (is_named name piece) refl
  where
    by_test : (test : Bool) → is_named name piece ≡ test
        → last_or kept (map (λ p. percent_decode (value_part p)) (cond test (piece ∷ filter (is_named name) left) (filter (is_named name) left)))
        ≡ last_or (cond test (Some (percent_decode (value_part piece))) kept) (values_of name left)
    by_test true is = refl
    by_test false is = refl

pub leads_on : (old new : Sent) (piece : List ℕ) (left all : List (List ℕ)) → Follows old new piece → LeadsTo old (piece ∷ left) all
    → LeadsTo new left all
leads_on old new piece left all step before = record {
  limit = rw (step.limit) (sym (last_after (codes "limit") old.limit piece left) ∙ before.limit);
  marker = rw (step.marker) (sym (last_after (codes "marker") old.marker piece left) ∙ before.marker);
  end_marker = rw (step.end_marker) (sym (last_after (codes "end_marker") old.end_marker piece left) ∙ before.end_marker);
  prefix = rw (step.prefix) (sym (last_after (codes "prefix") old.prefix piece left) ∙ before.prefix);
  delimiter = rw (step.delimiter) (sym (last_after (codes "delimiter") old.delimiter piece left) ∙ before.delimiter);
  format = rw (step.format) (sym (last_after (codes "format") old.format piece left) ∙ before.format);
}

pub sent_at_end : (here : Sent) (left all : List (List ℕ)) → left ≡ [] → LeadsTo here left all → IsSentBy here all
sent_at_end here left all none before =
    let at_end = rw none at before in
    record {
      limit = at_end.limit;
      marker = at_end.marker;
      end_marker = at_end.end_marker;
      prefix = at_end.prefix;
      delimiter = at_end.delimiter;
      format = at_end.format;
    }

-- ---- faults

pub fault_here : (piece : List ℕ) (left : List (List ℕ)) (fault : WordFault) → Tells (piece_fault piece) fault
    → Tells (pieces_fault (piece ∷ left)) fault
unfolding pieces_fault
fault_here piece left fault told other = rw (told other) refl

pub fault_later : (piece : List ℕ) (left : List (List ℕ)) → piece_fault piece ≡ None → pieces_fault (piece ∷ left) ≡ pieces_fault left
unfolding pieces_fault
fault_later piece left none = rw none refl

pub fault_at_end : (left : List (List ℕ)) → left ≡ [] → pieces_fault left ≡ None
unfolding pieces_fault
fault_at_end left none = rw none refl

-- ---- a loop over the pieces

-- the next of them stands in front of those that are left
pub next_piece : (all : List (List ℕ)) (n : ℕ) (piece : List ℕ) → (n < length all) × (piece ≡ get_or all n piece)
    → drop n all ≡ piece ∷ drop (n + 1) all
next_piece all n piece h = drop_more all n piece h.0 ∙ ap (λ p. p ∷ drop (n + 1) all) (sym h.1)

-- ---- blanks

one_byte : (b : ℕ) (value : List ℕ) (rest : List ℕ) (test : Bool) → eqb b 43 ≡ test → (test || list_any (λ b. eqb b 43) value) ≡ false
    → (list_any (λ b. eqb b 43) value ≡ false → rest ≡ value) → (cond test 32 b ∷ rest) ≡ (b ∷ value)
one_byte b value rest true is some hypothesis = absurd (false≢true (sym some))
one_byte b value rest false is none hypothesis = ap (λ bytes. b ∷ bytes) (hypothesis none)

-- where no byte is `+` nothing changes
pub no_plus : (value : List ℕ) → list_any (λ b. eqb b 43) value ≡ false → map blank_for_plus value ≡ value
no_plus [] none = refl
no_plus (b ∷ value) none =
    one_byte b value (map blank_for_plus value) (eqb b 43) refl none (λ none_later. no_plus value none_later)
