-- Known bytes that grew by a front of a text.
use Rattle.std.proofs.Common.{ℕ, List, [], ◌++◌, take, drop, Option, refl, sym, ap, ◌∙◌, append_assoc, take-append-drop}
use Rattle.std.proofs.lemmas.List.{append-nil}
use Rattle.std.proofs.KnownBytes.{Appends-nil, Appends-trans}
use Rattle.std.specs.Io.KnownBytes.{Appends}
use Rattle.gw_io.specs.Outside.{AppendsProperPrefix}
use Rattle.call_service.specs.Serving.{AppendsFront}

pub front_of_prefix : (old new : Option (List ℕ)) (bytes : List ℕ) → AppendsProperPrefix old new bytes → AppendsFront old new bytes
front_of_prefix old new bytes x =
    record { front = take x.0 bytes; rest = drop x.0 bytes; grown = x.2; whole = sym (take-append-drop x.0 bytes) }

pub no_front : (old : Option (List ℕ)) (bytes : List ℕ) → AppendsFront old old bytes
no_front old bytes = record { front = []; rest = bytes; grown = Appends-nil old; whole = refl }

pub all_front : (old new : Option (List ℕ)) (bytes more : List ℕ) → Appends old new bytes → AppendsFront old new (bytes ++ more)
all_front old new bytes more x = record { front = bytes; rest = more; grown = x; whole = refl }

pub whole_front : (old new : Option (List ℕ)) (bytes : List ℕ) → Appends old new bytes → AppendsFront old new bytes
whole_front old new bytes x = record { front = bytes; rest = []; grown = x; whole = sym (append-nil bytes) }

pub front_longer : (old new : Option (List ℕ)) (bytes more : List ℕ) → AppendsFront old new bytes → AppendsFront old new (bytes ++ more)
front_longer old new bytes more x = record {
  front = x.front;
  rest = x.rest ++ more;
  grown = x.grown;
  whole = ap (λ l. l ++ more) x.whole ∙ append_assoc x.front x.rest more;
}

pub front_behind : (old mid new : Option (List ℕ)) (bytes more : List ℕ) → Appends old mid bytes → AppendsFront mid new more → AppendsFront old new (bytes ++ more)
front_behind old mid new bytes more x y = record {
  front = bytes ++ y.front;
  rest = y.rest;
  grown = Appends-trans old mid new bytes y.front x y.grown;
  whole = ap (λ l. bytes ++ l) y.whole ∙ sym (append_assoc bytes y.front y.rest);
}
