-- A search for the end of a head in bytes that come in pieces.
use Rattle.std.proofs.Common.{◌≡◌, ◌≢◌, ◌⊎◌, inl, inr, ◌∷◌, ℕ, ◌<◌, ◌≤◌, min, List, [], ◌++◌, length, take, sym, ap, ◌∙◌, refl, subst, append_assoc, arith}
use Rattle.std.proofs.lemmas.List.{append-nil, length-append, length-take, nil_from_length, take_all}
use Rattle.std.proofs.KnownBytes.{Consumes-nil, Consumes-trans}
use Rattle.std.specs.declared.option.Option.{Option}
use Rattle.http_model.specs.declared.reading.TheConstants.{HEAD_LIMIT}
use Rattle.http_model.specs.Heads.{skip_breaks, HasNoHeadText}
use Rattle.http_model.specs.Streams.{IsBlank, IsCutHead, IsOversized}
use Rattle.http_chunks.specs.declared.place.Place.{Place}
use Rattle.http_chunks.specs.declared.place.Place.TheVariants.{Before, Inside, Fresh, Return, Behind, Line}
use Rattle.http_intake.specs.Reading.{Reads}
use Rattle.http_intake.specs.Scan.{IsBehind, Scanned}
use Rattle.http_intake.proofs.ScanSteps.{scanned_none}

-- the bytes so far, of which the first were scanned
pub record Searches (old new : Option (List ℕ)) (before bytes : List ℕ) (seen : ℕ) (place : Place) (first now : ℕ) : Type 0 where
  pub read : Reads old new before bytes
  pub within : seen ≤ length bytes
  pub few : seen ≤ HEAD_LIMIT
  pub scanned : Scanned (take seen bytes) place
  pub kept : now ≡ first

pub searches_start : (source : Option (List ℕ)) (bytes : List ℕ) (faults : ℕ) → Searches source source bytes bytes 0 Before faults faults
searches_start source bytes faults = record {
  read = ([], Consumes-nil source, sym (append-nil bytes));
  within = omega arith;
  few = omega arith;
  scanned = scanned_none;
  kept = refl;
}

-- one read, and then another
pub reads_on : (old mid new : Option (List ℕ)) (before bytes next : List ℕ) → Reads old mid before bytes → Reads mid new bytes next → Reads old new before next
reads_on old mid new before bytes next read more =
    (read.0 ++ more.0, Consumes-trans old mid new read.0 more.0 read.1 more.1, more.2 ∙ ap (λ l. l ++ more.0) read.2 ∙ append_assoc before read.0 more.0)

-- the input ended
pub nothing_more : (old new : Option (List ℕ)) (bytes next : List ℕ) → Reads old new bytes next → length next ≡ length bytes → next ≡ bytes
nothing_more old new bytes next read same =
    let none : read.0 ≡ [] = nil_from_length read.0 (omega (arith, same, ap length read.2, length-append bytes read.0)) in
    read.2 ∙ ap (λ l. bytes ++ l) none ∙ append-nil bytes

-- all that a head may have was scanned, and more is there
pub too_many : (bytes : List ℕ) (n : ℕ) (place : Place) → n ≡ min (length bytes) HEAD_LIMIT → length (take n bytes) < length bytes → Scanned (take n bytes) place → IsOversized bytes
too_many bytes n place is more scanned =
    let all : n ≡ HEAD_LIMIT = omega (arith, is, more, length-take n bytes) in
    (omega (arith, is, more, length-take n bytes), subst (λ m. HasNoHeadText (take m bytes)) all scanned.open_so_far)

-- all that is there was scanned
pub all_scanned : (bytes : List ℕ) (n : ℕ) (place : Place) → n ≡ min (length bytes) HEAD_LIMIT → length bytes ≤ length (take n bytes) → Scanned (take n bytes) place → IsCutHead bytes
all_scanned bytes n place is all scanned =
    let few : length bytes ≤ n = omega (arith, all, length-take n bytes) in
    (omega (arith, is, few), subst HasNoHeadText (take_all n bytes few) scanned.open_so_far)

-- only empty lines came
pub blank_so_far : (bytes : List ℕ) (n : ℕ) → n ≡ min (length bytes) HEAD_LIMIT → length bytes ≤ length (take n bytes) → Scanned (take n bytes) Before → IsBlank bytes
blank_so_far bytes n is all scanned =
    let few : length bytes ≤ n = omega (arith, all, length-take n bytes) in
    (omega (arith, is, few), ap skip_breaks (sym (take_all n bytes few)) ∙ scanned.behind)

ends_in_some : (bytes front last : List ℕ) → bytes ≡ front ++ last → 0 < length last → bytes ≢ []
ends_in_some bytes front last is some none = omega (arith, some, ap length (sym is ∙ none), length-append front last)

some_text : (text : List ℕ) (place : Place) → IsBehind text place → place ≢ Before → text ≢ []
some_text text Before behind other = absurd (other refl)
some_text text Inside behind other = behind.0
some_text text Fresh behind other = ends_in_some text behind.0 (10 ∷ []) behind.1 (omega arith)
some_text text Return behind other = ends_in_some text behind.0 (10 ∷ 13 ∷ []) behind.1 (omega arith)
some_text text Behind behind other = absurd behind
some_text text Line behind other = absurd behind

-- more than empty lines came
pub begun_so_far : (bytes : List ℕ) (n : ℕ) (place : Place) → n ≡ min (length bytes) HEAD_LIMIT → length bytes ≤ length (take n bytes) → Scanned (take n bytes) place → place ≢ Before
    → (skip_breaks bytes ≢ []) × IsCutHead bytes
begun_so_far bytes n place is all scanned other =
    let few : length bytes ≤ n = omega (arith, all, length-take n bytes) in
    let some = some_text (skip_breaks (take n bytes)) place scanned.behind other in
    (subst (λ (l : List ℕ). skip_breaks l ≢ []) (take_all n bytes few) some, all_scanned bytes n place is all scanned)

pub not_before : (place : Place) → ((place ≡ Inside) ⊎ ((place ≡ Fresh) ⊎ ((place ≡ Return) ⊎ ((place ≡ Behind) ⊎ (place ≡ Line))))) → place ≢ Before
not_before place (inl is) before = cc
not_before place (inr (inl is)) before = cc
not_before place (inr (inr (inl is))) before = cc
not_before place (inr (inr (inr (inl is)))) before = cc
not_before place (inr (inr (inr (inr is)))) before = cc
