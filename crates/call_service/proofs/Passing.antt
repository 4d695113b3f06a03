-- A body, piece by piece.
use Rattle.std.proofs.Common.{◌≡◌, inl, inr, ℕ, ◌+◌, ◌<◌, ◌≤◌, Bool, true, false, List, [], ◌++◌, length, take, Option, None, Ok, Err, refl, sym, ap, ◌∙◌, subst, append_assoc, length-append, arith}
use Rattle.std.proofs.lemmas.List.{length-take-le, append-nil}
use Rattle.std.proofs.KnownBytes.{Consumes-nil, Consumes-trans}
use Rattle.std.specs.Io.KnownBytes.{Consumes, IsAtEnd}
use Rattle.http_chunks.specs.declared.body.BodyEnd.{BodyEnd}
use Rattle.http_chunks.specs.declared.body.BodyEnd.TheVariants as End
use Rattle.http_intake.specs.declared.fault.IntakeFault.{IntakeFault}
use Rattle.http_intake.specs.declared.fault.IntakeFault.TheVariants as Fault
use Rattle.http_intake.specs.Grammar.{IsBroken, Gives, IsWrong, GoesWrong, ReadsBody}
use Rattle.http_intake.specs.Intake.{IntakeState, IsUnchunked, IsWhole, is_line_due, GivesBody, GivesChunk}
use Rattle.http_intake.proofs.BodyGrammar.{gives_none, gives_trans}
use Rattle.http_intake.proofs.Given.{never_due}
use Rattle.http_intake.proofs.WrongBodies.{never_wrong}
use Rattle.swift_requests.specs.declared.body.BodyUse.{BodyUse}
use Rattle.swift_requests.specs.declared.body.BodyUse.TheVariants.{Unread}
use Rattle.call_words.specs.Bodies.{Fate, read_whole, broken_off, unread, Suits}
use Rattle.call_words.specs.Calls.{body_at}
use Rattle.call_service.specs.Bodies.{most_due, most_due_by, HasGiven, HasGivenAll, BreaksIn, FallsShort, FallsBehind, FailsIn, HasFate, HasComeTo, HasCome, ReadsTo, DropsBody}
use Rattle.call_service.specs.Serving.{body_of}

-- ---- one call

most_by : (b : Bool) (i : IntakeState) → most_due_by b i ≤ i.body_left + i.room
most_by false i = omega arith
most_by true i = omega arith

-- what is due falls by what was given
due_by : (b : Bool) (old new : IntakeState) (a c : Option (List ℕ)) (was out : List ℕ) (n : ℕ) → old.chunked ≡ b
    → (is_line_due old was ≡ false → GivesBody a c old new out (Ok n)) → n + (new.body_left + new.room) ≡ old.body_left + old.room
    → n + most_due new ≤ most_due old
due_by false old new a c was out n is given all =
    let gives = given (never_due old was is) in
    let before : most_due old ≡ old.body_left = ap (λ b. most_due_by b old) is in
    let after : most_due new ≡ new.body_left = ap (λ b. most_due_by b new) (gives.chunked ∙ is) in
    omega (arith, before, after, gives.due)
due_by true old new a c was out n is given all =
    let before : most_due old ≡ old.body_left + old.room = ap (λ b. most_due_by b old) is in
    let after = most_by new.chunked new in
    omega (arith, before, after, all)

-- a call gives no more than there is room for
fits_by : (line : Bool) (old new : IntakeState) (a b : Option (List ℕ)) (was out : List ℕ) (n : ℕ) → is_line_due old was ≡ line
    → (is_line_due old was ≡ false → GivesBody a b old new out (Ok n)) → (is_line_due old was ≡ true → GivesChunk a b old new out (Ok n))
    → n ≤ length out
fits_by false old new a b was out n is given chunk = (given is).fits
fits_by true old new a b was out n is given chunk = in_chunk (chunk is)
  where
    in_chunk : GivesChunk a b old new out (Ok n) → n ≤ length out
    in_chunk (inl (size, middle, between, some, opens, gives)) = gives.fits
    in_chunk (inr (inl (none, opens))) = let zero_is : n ≡ 0 = cc in omega (arith, zero_is)
    in_chunk (inr (inr (fault, clash, opens))) = absurd (cc)

-- what the intake says of the bytes that it gave
pub has_given : (old new : IntakeState) (a b : Option (List ℕ)) (was out : List ℕ) (n : ℕ)
    → (is_line_due old was ≡ false → GivesBody a b old new out (Ok n)) → (is_line_due old was ≡ true → GivesChunk a b old new out (Ok n))
    → ReadsBody a b old new out (Ok n) → new.failed ≡ None
    → HasGiven old new a b (take n out) × (n ≤ length out)
has_given old new a b was out n given chunk reads sound =
    let due = due_by old.chunked old new a b was out n refl given reads.3 in
    let fits = fits_by (is_line_due old was) old new a b was out n refl given chunk in
    let size = length-take-le n out fits in (
      record {
        more = reads.0;
        read = reads.1;
        gives = reads.2;
        due = omega (arith, due, size);
        failed = sound;
        largest = reads.4;
      },
      fits,
    )

pub has_given_all : (old new : IntakeState) (a b : Option (List ℕ)) (was out : List ℕ)
    → (is_line_due old was ≡ false → GivesBody a b old new out (Ok 0)) → (is_line_due old was ≡ true → GivesChunk a b old new out (Ok 0))
    → ReadsBody a b old new out (Ok 0) → IsWhole new → HasGivenAll old new a b []
has_given_all old new a b was out given chunk reads whole =
    record { has_given = (has_given old new a b was out 0 given chunk reads whole.0).0; whole = whole.1 }

pub none_given : (old : IntakeState) (a : Option (List ℕ)) → old.failed ≡ None → HasGiven old old a a []
none_given old a sound = record {
  more = [];
  read = Consumes-nil a;
  gives = subst (λ l. Gives old old l []) (sym (append-nil old.buffer)) (gives_none old);
  due = omega arith;
  failed = sound;
  largest = refl;
}

-- nothing was given yet
pub falls_here : (old : IntakeState) (a b : Option (List ℕ)) → old.failed ≡ None → FallsShort old a b → FallsBehind old a b []
falls_here old a b sound falls = record { between = old; left = a; has_given = none_given old a sound; falls = falls }

cut_behind : (old new : IntakeState) (a b : Option (List ℕ)) (out : List ℕ) → old.failed ≡ None → ReadsBody a b old new out (Err Fault.Cut) → FallsBehind old a b [] × IsAtEnd b
cut_behind old new a b out sound reads = (falls_here old a b sound (record { more = reads.0; read = reads.1; broken = reads.2.0 }), reads.2.1)

pub is_cut_in : (old new : IntakeState) (a b : Option (List ℕ)) (out : List ℕ) (fault : IntakeFault) → fault ≡ Fault.Cut → old.failed ≡ None → ReadsBody a b old new out (Err fault) → FallsBehind old a b [] × IsAtEnd b
is_cut_in old new a b out fault is sound reads = cut_behind old new a b out sound (subst (λ f. ReadsBody a b old new out (Err f)) is reads)

pub fails_in : (old new : IntakeState) (a b : Option (List ℕ)) (out : List ℕ) → ReadsBody a b old new out (Err Fault.ReadFault) → FailsIn old a b
fails_in old new a b out reads = record { more = reads.0; read = reads.1; broken = reads.2 }

pub bad_chunk_in : (old new : IntakeState) (a b : Option (List ℕ)) (out : List ℕ) → ReadsBody a b old new out (Err Fault.BadChunk) → BreaksIn old a b End.BadChunk []
bad_chunk_in old new a b out reads = record { more = reads.0; read = reads.1; wrong = reads.2 }

pub too_large_in : (old new : IntakeState) (a b : Option (List ℕ)) (out : List ℕ) → ReadsBody a b old new out (Err Fault.BodyTooLarge) → BreaksIn old a b End.TooLarge []
too_large_in old new a b out reads = record { more = reads.0; read = reads.1; wrong = reads.2 }

-- ---- several calls

-- a body that was left
pub left_given : (old new : IntakeState) (a b : Option (List ℕ)) → old.failed ≡ None → new ≡ old → Consumes a b [] → HasGiven old new a b []
left_given old new a b sound same read =
    subst (λ n. HasGiven old n a b []) (sym same) (record {
      more = [];
      read = read;
      gives = subst (λ l. Gives old old l []) (sym (append-nil old.buffer)) (gives_none old);
      due = omega arith;
      failed = sound;
      largest = refl;
    })

-- a body of that fate came so far
has_come_to : (fate : Fate) (old new : IntakeState) (a b : Option (List ℕ)) (body : List ℕ) → old.failed ≡ None → HasFate fate old new a b body → HasComeTo (body_at fate body).end old new a b body
has_come_to read_whole old new a b body sound has = has
has_come_to (broken_off why) old new a b body sound has = (why, has)
has_come_to unread old new a b body sound has = subst (HasGiven old new a b) (sym has.0) (left_given old new a b sound has.1 has.2)

-- the bytes of a body of that fate
bytes_at : (fate : Fate) (old new : IntakeState) (a b : Option (List ℕ)) (body : List ℕ) → HasFate fate old new a b body → (body_at fate body).bytes ≡ body
bytes_at read_whole old new a b body has = refl
bytes_at (broken_off why) old new a b body has = refl
bytes_at unread old new a b body has = sym has.0

-- or it is left
pub fate_come : (plan : BodyUse) (fate : Fate) (old new : IntakeState) (a b : Option (List ℕ)) (body : List ℕ) → Suits plan fate → old.failed ≡ None → HasFate fate old new a b body → HasCome plan old new a b (body_at fate body)
fate_come Unread unread old new a b body suits sound has = ((refl, has.1, has.2), refl)
fate_come Unread fate old new a b body suits sound has = absurd suits
fate_come plan fate old new a b body suits sound has =
    subst (HasComeTo (body_at fate body).end old new a b) (sym (bytes_at fate old new a b body has)) (has_come_to fate old new a b body sound has)

-- nothing was read yet
pub none_come : (plan : BodyUse) (old : IntakeState) (a : Option (List ℕ)) → old.failed ≡ None → HasCome plan old old a a (body_of [])
none_come Unread old a sound = ((refl, refl, Consumes-nil a), refl)
none_come plan old a sound = none_given old a sound

module _ (start now : IntakeState) (a b c : Option (List ℕ)) (given more : List ℕ) where
  pub give_more : (next : IntakeState) → HasGiven start now a b given → HasGiven now next b c more → HasGiven start next a c (given ++ more)
  give_more next x y = record {
    more = x.more ++ y.more;
    read = Consumes-trans a b c x.more y.more x.read y.read;
    gives = subst (λ l. Gives start next l (given ++ more)) (append_assoc start.buffer x.more y.more)
        (gives_trans start now next (start.buffer ++ x.more) y.more given more x.gives y.gives);
    due = omega (arith, length-append given more, y.due, x.due);
    failed = y.failed;
    largest = y.largest ∙ x.largest;
  }

  pub give_all : (next : IntakeState) → HasGiven start now a b given → HasGivenAll now next b c more → HasGivenAll start next a c (given ++ more)
  give_all next x y = record { has_given = give_more next x y.has_given; whole = y.whole }

module _ (start now : IntakeState) (a b c : Option (List ℕ)) (given : List ℕ) where
  pub break_behind : (why : BodyEnd) (came : List ℕ) → HasGiven start now a b given → BreaksIn now b c why came → BreaksIn start a c why (given ++ came)
  break_behind why came x y = record {
    more = x.more ++ y.more;
    read = Consumes-trans a b c x.more y.more x.read y.read;
    wrong = subst (λ l. GoesWrong start l why (given ++ came)) (append_assoc start.buffer x.more y.more) (x.gives.wrong y.more why came y.wrong);
  }

  pub short_behind : HasGiven start now a b given → FallsShort now b c → FallsShort start a c
  short_behind x y = record {
    more = x.more ++ y.more;
    read = Consumes-trans a b c x.more y.more x.read y.read;
    broken = subst (λ l. IsBroken start l End.Cut) (append_assoc start.buffer x.more y.more) (x.gives.broken y.more End.Cut y.broken);
  }

  pub fall_behind : (more : List ℕ) → HasGiven start now a b given → FallsBehind now b c more → FallsBehind start a c (given ++ more)
  fall_behind more x y = record {
    between = y.between;
    left = y.left;
    has_given = give_more start now a b y.left given more y.between x y.has_given;
    falls = y.falls;
  }

  pub end_behind : (next : IntakeState) (more : List ℕ) (end : BodyEnd) → HasGiven start now a b given → ReadsTo now next b c more end → ReadsTo start next a c (given ++ more) end
  end_behind next more End.Whole x y = give_all start now a b c given more next x y
  end_behind next more End.Cut x y = (fall_behind more x y.0, y.1)
  end_behind next more End.BadChunk x y = break_behind End.BadChunk more x y
  end_behind next more End.TooLarge x y = break_behind End.TooLarge more x y

-- what a body that fell short behind some bytes is in all
pub falls_short : (old : IntakeState) (a b : Option (List ℕ)) (given : List ℕ) → FallsBehind old a b given → FallsShort old a b
falls_short old a b given x = short_behind old x.between a x.left b given x.has_given x.falls

-- a piece that was given leaves less
pub some_left : (old new : IntakeState) (a b : Option (List ℕ)) (out : List ℕ) (n : ℕ) → HasGiven old new a b (take n out) → n ≤ length out → 0 < n → most_due new < most_due old
some_left old new a b out n x fits some = omega (arith, x.due, length-take-le n out fits, some)

-- a body whose chunks went wrong broke off
pub breaks_so : (old new : IntakeState) (a b : Option (List ℕ)) (end : BodyEnd) → IsWrong end → DropsBody old new a b end → (came : List ℕ) × BreaksIn old a b end came
breaks_so old new a b End.Whole wrong drops = absurd wrong
breaks_so old new a b End.Cut wrong drops = absurd wrong
breaks_so old new a b End.BadChunk wrong drops = drops
breaks_so old new a b End.TooLarge wrong drops = drops

-- a body that is not in chunks does not break off so
pub unbroken : (old new : IntakeState) (a b : Option (List ℕ)) (end : BodyEnd) → IsUnchunked old → IsWrong end → DropsBody old new a b end → ⊥
unbroken old new a b end plain wrong drops =
    let breaks = breaks_so old new a b end wrong drops in
    never_wrong old (old.buffer ++ breaks.1.more) end breaks.0 plain breaks.1.wrong
