-- The lines of an input, read one by one, are its lines.
use Rattle.std.proofs.Common.{◌≡◌, ◌≢◌, ◌⊎◌, inl, inr, ℕ, ◌+◌, ◌<◌, ◌≤◌, List, [], ◌∷◌, ◌++◌, length, Option, None, Some, refl, sym, ap, ◌∙◌, subst, arith, append_assoc, length-append}
use Rattle.std.specs.Io.KnownBytes.{Consumes, IsAtEnd}
use Rattle.std.specs.List.{AllByRecursion}
use Rattle.std.proofs.KnownBytes.{Consumes-nil, Consumes-trans}
use Rattle.std.proofs.lemmas.List.{append-nil}
use Rattle.script_lines.specs.Lines.{IsUnbroken, lines_of}
use Rattle.script_lines.specs.Reading.{ReaderState, TakesLine, TakesLast, BeginsTooLong}
use Rattle.script_lines.specs.declared.reader.TheConstants.{LINE_LIMIT, INPUT_LIMIT}
use Rattle.script_lines.proofs.LineLemmas.{goes_first, is_last}
use Rattle.rgw_script.specs.Runs.{with_breaks, IsShort, IsWithin, ReadsAll, ReadsSome, IsNext}

-- ---- lists

texts_both : (Is : List ℕ → Type 0) (xs ys : List (List ℕ)) → AllByRecursion Is xs → AllByRecursion Is ys → AllByRecursion Is (xs ++ ys)
texts_both Is [] ys p q = q
texts_both Is (x ∷ xs) ys p q = (p.0, texts_both Is xs ys p.1 q)

breaks_more : (texts : List (List ℕ)) (line rest : List ℕ) → with_breaks texts ++ (line ++ 10 ∷ rest) ≡ with_breaks (texts ++ line ∷ []) ++ rest
breaks_more [] line rest = sym (append_assoc line (10 ∷ []) rest)
breaks_more (text ∷ texts) line rest =
    append_assoc text (10 ∷ with_breaks texts) (line ++ 10 ∷ rest)
    ∙ ap (λ l. text ++ 10 ∷ l) (breaks_more texts line rest)
    ∙ sym (append_assoc text (10 ∷ with_breaks (texts ++ line ∷ [])) rest)

pub breaks_length : (texts : List (List ℕ)) (line : List ℕ) → length (with_breaks (texts ++ line ∷ [])) ≡ length (with_breaks texts) + (length line + 1)
breaks_length [] line = length-append line (10 ∷ []) ∙ omega arith
breaks_length (text ∷ texts) line =
    let one = length-append text (10 ∷ with_breaks (texts ++ line ∷ [])) in
    let two = length-append text (10 ∷ with_breaks texts) in
    let rest = breaks_length texts line in
    omega (arith, one, two, rest)

lines_front : (texts : List (List ℕ)) (rest : List ℕ) → AllByRecursion IsUnbroken texts → lines_of (with_breaks texts ++ rest) ≡ texts ++ lines_of rest
lines_front [] rest unbroken = refl
lines_front (text ∷ texts) rest unbroken =
    ap lines_of (append_assoc text (10 ∷ with_breaks texts) rest)
    ∙ goes_first text (with_breaks texts ++ rest) unbroken.0
    ∙ ap (λ l. text ∷ l) (lines_front texts rest unbroken.1)

-- ---- sizes

-- where the input tells what is left of it: what was read has as many bytes as the lines that were given, with what waits
abbrev SizeIs : Option (List ℕ) → List ℕ → List ℕ → ℕ → Type 0
SizeIs None read rest given = Unit {0}
SizeIs (Some all) read rest given = length read ≡ given + length rest

within_of : (first : Option (List ℕ)) (read rest : List ℕ) (given : ℕ) → SizeIs first read rest given → given ≤ INPUT_LIMIT → IsWithin first read rest
within_of None read rest given size few = tt
within_of (Some all) read rest given size few = omega (arith, size, few)

size_line : (first : Option (List ℕ)) (read rest : List ℕ) (old new : ReaderState) → TakesLine rest old new → SizeIs first read rest old.given → SizeIs first read new.waits new.given
size_line None read rest old new takes size = tt
size_line (Some all) read rest old new takes size =
    let long = ap length takes.bytes ∙ length-append new.line (10 ∷ new.waits) in omega (arith, size, long, takes.given)

size_last : (first : Option (List ℕ)) (read rest : List ℕ) (old new : ReaderState) → TakesLast rest old new → SizeIs first read rest old.given → SizeIs first read new.waits new.given
size_last None read rest old new takes size = tt
size_last (Some all) read rest old new takes size =
    let long = ap length takes.bytes in
    let none : length new.waits ≡ 0 = ap length takes.none_waits in
    omega (arith, size, long, none, takes.given)

-- these lines were read, and they have so many bytes
pub record ReadsSo (left left' : Option (List ℕ)) (texts : List (List ℕ)) (rest : List ℕ) (given : ℕ) : Type 0 where
  pub some : ReadsSome left left' texts rest
  pub size : SizeIs left some.read rest given

-- ---- one read more

-- Where the input tells what is left of it, nothing comes behind its end.
pub read_on : (first left left' : Option (List ℕ)) (texts : List (List ℕ)) (waits more : List ℕ) (given : ℕ) → given ≤ INPUT_LIMIT → ReadsSo first left texts waits given → Consumes left left' more
    → ReadsSo first left' texts (waits ++ more) given
read_on None left left' texts waits more given few reads consumed = record {
  some = record {
    read = with_breaks texts ++ (waits ++ more);
    consumed = tt;
    unbroken = reads.some.unbroken;
    short = reads.some.short;
    within = tt;
    fronts = inl refl;
  };
  size = tt;
}
read_on (Some xs) left left' texts waits more given few reads consumed =
    elim reads.some.fronts [
      | inl front ↦
          let read = reads.some.read in
          let one = length-append read more in
          let two = length-append waits more in
          let size = reads.size in
          let size' : length (read ++ more) ≡ given + length (waits ++ more) = omega (arith, size, one, two) in
          record {
            some = record {
              read = read ++ more;
              consumed = Consumes-trans (Some xs) left left' read more reads.some.consumed consumed;
              unbroken = reads.some.unbroken;
              short = reads.some.short;
              within = within_of (Some xs) (read ++ more) (waits ++ more) given size' few;
              fronts = inl (ap (λ l. l ++ more) front ∙ append_assoc (with_breaks texts) waits more);
            };
            size = size';
          }
      | inr last ↦
          let over = ends left left' reads.some.consumed last.2 consumed in
          let read = reads.some.read in
          let two = length-append waits more in
          let none : length more ≡ 0 = ap length over.0 in
          let size = reads.size in
          let size' : length read ≡ given + length (waits ++ more) = omega (arith, size, two, none) in
          record {
            some = record {
              read = read;
              consumed = subst (Consumes (Some xs) left') (append-nil read) (subst (λ m. Consumes (Some xs) left' (read ++ m)) over.0
                  (Consumes-trans (Some xs) left left' read more reads.some.consumed consumed));
              unbroken = reads.some.unbroken;
              short = reads.some.short;
              within = within_of (Some xs) read (waits ++ more) given size' few;
              fronts = inr (last.0, ap (λ l. l ++ more) last.1 ∙ over.0, over.1);
            };
            size = size';
          }
    ] where
      none_more : (ys zs : List ℕ) → [] ≡ ys ++ zs → (ys ≡ []) × (zs ≡ [])
      none_more [] zs is = (refl, sym is)
      none_more (y ∷ ys) zs is = absurd (cc)

      ends : (a b : Option (List ℕ)) → Consumes (Some xs) a reads.some.read → IsAtEnd a → Consumes a b more → (more ≡ []) × IsAtEnd b
      ends None b all at_end consumed = absurd all
      ends (Some ys) None all at_end consumed = absurd consumed
      ends (Some ys) (Some zs) all at_end consumed = none_more more zs (sym at_end ∙ consumed)

-- ---- what is found

nothing_within : (left : Option (List ℕ)) → IsWithin left [] []
nothing_within None = tt
nothing_within (Some all) = omega arith

pub nothing_some : (left : Option (List ℕ)) → ReadsSome left left [] []
nothing_some left = record { read = []; consumed = Consumes-nil left; unbroken = tt; short = tt; within = nothing_within left; fronts = inl refl }

nothing_sized : (left : Option (List ℕ)) → SizeIs left [] [] 0
nothing_sized None = tt
nothing_sized (Some all) = refl

pub nothing_read : (left : Option (List ℕ)) → ReadsSo left left [] [] 0
nothing_read left = record {
  some = record { read = []; consumed = Consumes-nil left; unbroken = tt; short = tt; within = nothing_within left; fronts = inl refl };
  size = nothing_sized left;
}

-- the input ended
pub all_read : (first left : Option (List ℕ)) (texts : List (List ℕ)) (rest : List ℕ) → ReadsSome first left texts rest → rest ≡ [] → IsAtEnd left → ReadsAll first left texts
all_read first left texts rest reads none ended = record {
  read = reads.read;
  consumed = reads.consumed;
  ended = ended;
  lines = elim reads.fronts [
    | inl front ↦ sym (ap lines_of (front ∙ ap (λ l. with_breaks texts ++ l) none) ∙ lines_front texts [] reads.unbroken ∙ append-nil texts)
    | inr last ↦ last.0
  ];
  short = reads.short;
  within = subst (IsWithin first reads.read) none reads.within;
}

module _ (first left : Option (List ℕ)) (texts : List (List ℕ)) (rest : List ℕ) (old new : ReaderState) (reads : ReadsSo first left texts rest old.given) where
  -- a line with its line feed
  pub line_read : TakesLine rest old new → ReadsSo first left (texts ++ new.line ∷ []) new.waits new.given
  line_read takes =
      let size = size_line first reads.some.read rest old new takes reads.size in
      record {
        some = record {
          read = reads.some.read;
          consumed = reads.some.consumed;
          unbroken = texts_both IsUnbroken texts (new.line ∷ []) reads.some.unbroken (takes.one, tt);
          short = texts_both IsShort texts (new.line ∷ []) reads.some.short (takes.short, tt);
          within = within_of first reads.some.read new.waits new.given size takes.within;
          fronts = elim reads.some.fronts [
            | inl front ↦ inl (front ∙ ap (λ l. with_breaks texts ++ l) takes.bytes ∙ breaks_more texts new.line new.waits)
            | inr last ↦ absurd (not_empty new.line (sym last.1 ∙ takes.bytes))
          ];
        };
        size = size;
      } where
        not_empty : (line : List ℕ) → [] ≡ line ++ 10 ∷ new.waits → ⊥
        not_empty [] is = cc
        not_empty (b ∷ line) is = cc

  pub line_next : TakesLine rest old new → IsNext left rest new.line
  line_next takes = record { unbroken = takes.one; short = takes.short; begins = inl (new.waits, takes.bytes) }

  -- a last line without one
  pub last_read : TakesLast rest old new → IsAtEnd left → ReadsSo first left (texts ++ new.line ∷ []) new.waits new.given
  last_read takes ended =
      let size = size_last first reads.some.read rest old new takes reads.size in
      record {
        some = record {
          read = reads.some.read;
          consumed = reads.some.consumed;
          unbroken = texts_both IsUnbroken texts (new.line ∷ []) reads.some.unbroken (takes.one, tt);
          short = texts_both IsShort texts (new.line ∷ []) reads.some.short (takes.short, tt);
          within = within_of first reads.some.read new.waits new.given size takes.within;
          fronts = elim reads.some.fronts [
            | inl front ↦ inr (
              sym (ap lines_of (front ∙ ap (λ l. with_breaks texts ++ l) takes.bytes) ∙ lines_front texts new.line reads.some.unbroken
                  ∙ ap (λ l. texts ++ l) (is_last new.line takes.one takes.some)),
              takes.none_waits,
              ended,
            )
            | inr last ↦ absurd (takes.some (sym takes.bytes ∙ last.1))
          ];
        };
        size = size;
      }

  pub last_next : TakesLast rest old new → IsAtEnd left → IsNext left rest new.line
  last_next takes ended = record { unbroken = takes.one; short = takes.short; begins = inr (takes.bytes, takes.some, ended) }

-- more lines were given by then
pub longer_too : (given other : ℕ) (rest : List ℕ) → given ≤ other → BeginsTooLong given rest → BeginsTooLong other rest
longer_too given other rest few long = record {
  front = long.front;
  rest = long.rest;
  bytes = long.bytes;
  one = long.one;
  long = elim long.long [
    | inl line ↦ inl line
    | inr input ↦ inr (elim input [
      | inl most ↦ inl (omega (arith, most, few))
      | inr last ↦ inr (omega (arith, last.0, few), last.1)
    ])
  ];
}

-- ---- counts

-- how many lines there were, and how many bytes they have
pub record Counts (texts : List (List ℕ)) (given : ℕ) : Type 0 where
  pub many : length texts ≤ given
  pub few : given ≤ length (with_breaks texts)
  pub within : given ≤ INPUT_LIMIT

pub counts_line : (texts : List (List ℕ)) (rest : List ℕ) (old new : ReaderState) → Counts texts old.given → TakesLine rest old new → Counts (texts ++ new.line ∷ []) new.given
counts_line texts rest old new counts takes =
    let size = length-append texts (new.line ∷ []) in
    let bytes = breaks_length texts new.line in
    record {
      many = omega (arith, counts.many, takes.given, size);
      few = omega (arith, counts.few, takes.given, bytes);
      within = takes.within;
    }

some_bytes : (line : List ℕ) → line ≢ [] → 1 ≤ length line
some_bytes [] some = absurd (some refl)
some_bytes (b ∷ line) some = omega arith

pub counts_last : (texts : List (List ℕ)) (rest : List ℕ) (old new : ReaderState) → Counts texts old.given → TakesLast rest old new → Counts (texts ++ new.line ∷ []) new.given
counts_last texts rest old new counts takes =
    let size = length-append texts (new.line ∷ []) in
    let bytes = breaks_length texts new.line in
    let some = some_bytes new.line takes.some in
    record {
      many = omega (arith, counts.many, takes.given, size, some);
      few = omega (arith, counts.few, takes.given, bytes);
      within = takes.within;
    }

pub given_more : (rest : List ℕ) (old new : ReaderState) (ended : Type 0) → (TakesLine rest old new ⊎ (TakesLast rest old new × ended)) → (old.given < new.given) × (new.given ≤ INPUT_LIMIT) × (length new.line ≤ LINE_LIMIT)
given_more rest old new ended takes =
    elim takes [
      | inl line ↦ (omega (arith, line.given), line.within, line.short)
      | inr last ↦ let some = some_bytes new.line last.0.some in (omega (arith, last.0.given, some), last.0.within, last.0.short)
    ]
