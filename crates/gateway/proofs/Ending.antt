-- The end of a connection, where no further head is read.
use Rattle.std.proofs.Common.{◌≡◌, inl, ℕ, ◌≤◌, false, List, [], ◌∷◌, ◌++◌, Option, Some, None, Result, Ok, Err, refl, sym, ap, ◌∙◌, subst, append-nil, arith}
use Rattle.std.specs.Prelude.{IfOk, IfErr}
use Rattle.std.proofs.KnownBytes.{Consumes-nil, Appends-nil}
use Rattle.std.specs.Io.KnownBytes.{Consumes, Appends, IsAtEnd}
use Rattle.gw_io.specs.Ends.{EndsState}
use Rattle.http_intake.specs.Intake.{IntakeState}
use Rattle.http_intake.specs.Reading.{HasNoNext}
use Rattle.http_intake.specs.declared.fault.IntakeFault.{IntakeFault}
use Rattle.http_intake.specs.declared.fault.IntakeFault.TheVariants as intake
use Rattle.http_model.specs.declared.reply.BadRequest.TheVariants as Word
use Rattle.http_model.specs.Heads.{skip_breaks}
use Rattle.http_model.specs.Streams.{IsCutHead}
use Rattle.realm_model.specs.Doors.{DoorView}
use Rattle.realm_model.specs.declared.event.Event.{Event}
use Rattle.realm_door.specs.Steps.{next_count}
use Rattle.swift_auth.specs.Users.{UserView}
use Rattle.call_words.specs.Streams.{CallsEnd, at_clean, at_close, at_cut, at_bad, IsEnd}
use Rattle.call_service.specs.Serving.{side, WritesAtFault, HasServeCause}
use Rattle.call_service.specs.declared.fault.ServeFault.{ServeFault}
use Rattle.call_service.specs.declared.fault.ServeFault.TheVariants as faults
use Rattle.http_intake.specs.Faults.{CountsFaults}
use Rattle.gateway.specs.declared.turn.Turn.{Turn}
use Rattle.gateway.specs.Texts.{end_text, end_replies, connection_end}
use Rattle.gateway.specs.Calls.{Place, site_in, MayBegin}
use Rattle.gateway.specs.Serving.{ReadsOut, IsOpen, IsTidy, BreaksOff, RepliesTo, ServesFrom, FailsReading, LeavesHead, StopsFrom, LeavesAt}
use Rattle.gateway.specs.Turns.{ComesTo, WritesFew, EndsHeads, end_for, EndsSo, LeavesSo}
use Rattle.gateway.proofs.Growing.{advances_none, new_actor, new_moments}
use Rattle.gateway.proofs.Turning.{none_settled, same_left}

pub heads_end : (all : List ℕ) (ended : Type 0) (fault : IntakeFault) → HasNoNext all ended fault → EndsHeads fault
heads_end all ended intake.OutOfMemory x = tt
heads_end all ended intake.ReadFault x = tt
heads_end all ended intake.Cut x = tt
heads_end all ended intake.BadHead x = tt
heads_end all ended intake.HeadTooLarge x = tt
heads_end all ended (intake.BadFraming b) x = tt
heads_end all ended intake.BadChunk x = x
heads_end all ended intake.BodyTooLarge x = x

-- where the input ends there, it ends inside a head
abbrev IsCutAtHead : List ℕ → CallsEnd → Type 0
IsCutAtHead bytes (at_cut continued) = IsCutHead bytes
IsCutAtHead bytes e = Unit {0}

-- the end that the cause makes is that of the bytes
end_comes : (largest : ℕ) (users : List UserView) (all : List ℕ) (after : Option (List ℕ)) (fault : IntakeFault) (e : CallsEnd) → HasNoNext all (IsAtEnd after) fault → end_for fault ≡ Some e → IsEnd largest users all e × ReadsOut e after × IsCutAtHead all e
end_comes largest users all after intake.OutOfMemory e x is = absurd (cc)
end_comes largest users all after intake.ReadFault e x is = absurd (cc)
end_comes largest users all after intake.Cut e x is = let same : at_cut false ≡ e = cc in subst (λ f. IsEnd largest users all f × ReadsOut f after × IsCutAtHead all f) same ((x.0, inl x.1), x.2, x.1)
end_comes largest users all after intake.BadHead e x is = let same : at_bad Word.Head false ≡ e = cc in subst (λ f. IsEnd largest users all f × ReadsOut f after × IsCutAtHead all f) same ((x, refl), tt, tt)
end_comes largest users all after intake.HeadTooLarge e x is = let same : at_bad Word.Size false ≡ e = cc in subst (λ f. IsEnd largest users all f × ReadsOut f after × IsCutAtHead all f) same ((x, refl), tt, tt)
end_comes largest users all after (intake.BadFraming b) e x is = let same : at_bad Word.Framing b ≡ e = cc in subst (λ f. IsEnd largest users all f × ReadsOut f after × IsCutAtHead all f) same (x, tt, tt)
end_comes largest users all after intake.BadChunk e x is = absurd x
end_comes largest users all after intake.BodyTooLarge e x is = absurd x

-- bytes of a cut head are those of an input that may end there, without a text
open_blank : (largest : ℕ) (users : List UserView) (bytes blank : List ℕ) → skip_breaks bytes ≡ blank → IsCutHead bytes → (e : CallsEnd) × IsOpen e × IsEnd largest users bytes e × (end_text e ≡ []) × IsCutAtHead bytes e
open_blank largest users bytes [] is cut = (at_clean, tt, (cut.0, is), refl, tt)
open_blank largest users bytes (b ∷ rest) is cut = (at_cut false, tt, (λ none. let clash : ◌∷◌ b rest ≡ [] = sym is ∙ none in absurd (cc), inl cut), refl, cut)

few_replies : (e : CallsEnd) → end_replies e ≤ 1
few_replies at_clean = omega arith
few_replies at_close = omega arith
few_replies (at_cut continued) = omega arith
few_replies (at_bad word bodiless) = omega arith

module _ (tells alone : Type 0) (place : Place) (k : ℕ) (d : DoorView) (old_intake new_intake : IntakeState) (old new : EndsState) (may : tells → MayBegin place.settings d) (more : List ℕ)
    (consumed : Consumes old.left new.left more) (told : Appends old.told new.told []) where
  idle_tidy : (e : CallsEnd) → IsTidy tells d d.pass (next_count d) [] e
  idle_tidy at_clean = (refl, λ is. refl)
  idle_tidy at_close = (refl, λ is. refl)
  idle_tidy (at_cut continued) = λ is. sym (new_moments place.settings d (may is))
  idle_tidy (at_bad word bodiless) = (refl, λ is. refl)

  idle_amid : (e : CallsEnd) → IsCutAtHead (old_intake.buffer ++ more) e → BreaksOff tells place k (old_intake.buffer ++ more) [] d d.pass (next_count d) new.left e
  idle_amid at_clean cut = tt
  idle_amid at_close cut = tt
  idle_amid (at_cut continued) cut = (old_intake.buffer ++ more, refl, inl (cut, λ is. (new_actor place.settings d (may is)).events))
  idle_amid (at_bad word bodiless) cut = tt

  end_replied : (e : CallsEnd) → IsEnd place.settings.largest place.users (old_intake.buffer ++ more) e → IsCutAtHead (old_intake.buffer ++ more) e → Appends old.taken new.taken (end_text e)
      → RepliesTo tells alone place k old_intake.buffer d d old new [] e
  end_replied e ends cut written = record {
    read = more;
    consumed = consumed;
    asked = tt;
    stream = ends;
    written = written;
    last = next_count d;
    moments = [];
    later = [];
    asked_clock = told;
    told = refl;
    tidy = idle_tidy e;
    amid = idle_amid e cut;
    settled = λ is. none_settled alone (site_in place) d d (same_left alone (site_in place) d d (may is) refl);
  }

  pub end_served : (e : CallsEnd) → IsEnd place.settings.largest place.users (old_intake.buffer ++ more) e → IsCutAtHead (old_intake.buffer ++ more) e → ReadsOut e new.left → Appends old.taken new.taken (end_text e)
      → ServesFrom tells alone place k old_intake.buffer d d old new (end_replies e) (connection_end [] e)
  end_served e ends cut out written = record {
    calls = [];
    stream_end = e;
    replied = end_replied e ends cut written;
    read_out = out;
    counted = omega arith;
    ended = refl;
  }

  end_failed : IsCutHead (old_intake.buffer ++ more) → Appends old.taken new.taken [] → FailsReading tells alone place k old_intake.buffer d d old new
  end_failed cut quiet =
      let all = old_intake.buffer ++ more in
      let o = open_blank place.settings.largest place.users all (skip_breaks all) refl cut in
      record {
        calls = [];
        stream_end = o.0;
        replied = end_replied o.0 o.2 o.4 (subst (Appends old.taken new.taken) (sym o.3) quiet);
        waits = o.1;
      }

  module _ (found : List Event) where
    head_left : (fault : ServeFault) → LeavesHead (side d old_intake old) (side d new_intake new) fault → StopsFrom tells alone place k found (side d old_intake old) (side d new_intake new) fault
    head_left fault left = record {
      calls = [];
      between = side d old_intake old;
      read = [];
      consumed = Consumes-nil old.left;
      asked = tt;
      front = append-nil old_intake.buffer;
      written = Appends-nil old.taken;
      moments = [];
      asked_clock = Appends-nil old.told;
      told = refl;
      reached = λ is. advances_none place.settings d (may is);
      settled = λ is. none_settled alone (site_in place) d d (same_left alone (site_in place) d d (may is) refl);
      left = inl left;
    }

    end_left : (cause : IntakeFault) (fault : ServeFault) → HasNoNext (old_intake.buffer ++ more) (IsAtEnd new.left) cause → LeavesSo old.taken new.taken cause fault
        → LeavesAt tells alone place k found (side d old_intake old) (side d new_intake new) fault
    end_left cause faults.OutOfMemory none (other, quiet) = head_left faults.OutOfMemory (more, consumed, record { door = refl; untold = told }, quiet)
    end_left cause faults.ReadFault none (same, quiet) =
        end_failed (subst (HasNoNext (old_intake.buffer ++ more) (IsAtEnd new.left)) same none) quiet
    end_left cause faults.WriteFault none (word, bodiless, is, front) =
        head_left faults.WriteFault
        (more, consumed, record { door = refl; untold = told }, word, bodiless, (end_comes place.settings.largest place.users (old_intake.buffer ++ more) new.left cause (at_bad word bodiless) none is).0, front)
    end_left cause faults.Worn none x = absurd x
    end_left cause (faults.Late read_at clock) none x = absurd x

    end_ended : (cause : IntakeFault) (turn : Turn) → HasNoNext (old_intake.buffer ++ more) (IsAtEnd new.left) cause → EndsSo old.taken new.taken cause turn
        → ComesTo tells alone place k found (side d old_intake old) (side d new_intake new) (Ok turn) × WritesFew turn
    end_ended cause turn none (e, is, same, written) =
        let ends = end_comes place.settings.largest place.users (old_intake.buffer ++ more) new.left cause e none is in
        subst (λ (t : Turn). ComesTo tells alone place k found (side d old_intake old) (side d new_intake new) (Ok t) × WritesFew t) (sym same)
        (end_served e ends.0 ends.2 ends.1 written, few_replies e)

    -- the turn in which the next head was not read for this cause
    pub end_comes_to : (cause : IntakeFault) (result : Result Turn ServeFault) → HasNoNext (old_intake.buffer ++ more) (IsAtEnd new.left) cause
        → IfOk result (EndsSo old.taken new.taken cause) → IfErr result (LeavesSo old.taken new.taken cause)
        → ComesTo tells alone place k found (side d old_intake old) (side d new_intake new) result × IfOk result WritesFew
    end_comes_to cause (Ok turn) none ended left = end_ended cause turn none ended
    end_comes_to cause (Err fault) none ended left = (end_left cause fault none left, tt)

-- ---- counts of faults

read_there : (cause : IntakeFault) (fault : ServeFault) (a b : Option (List ℕ)) → LeavesSo a b cause fault → cause ≡ intake.ReadFault → fault ≡ faults.ReadFault
read_there cause faults.OutOfMemory a b x is = absurd (x.0 is)
read_there cause faults.ReadFault a b x is = refl
read_there cause faults.WriteFault a b x is = let none : None ≡ Some (at_bad x.0 x.1) = sym (ap end_for is) ∙ x.2 in absurd (cc)
read_there cause faults.Worn a b x is = absurd x
read_there cause (faults.Late read_at clock) a b x is = absurd x

read_here : (cause : IntakeFault) (fault : ServeFault) (a b : Option (List ℕ)) → LeavesSo a b cause fault → fault ≡ faults.ReadFault → cause ≡ intake.ReadFault
read_here cause faults.OutOfMemory a b x is = absurd (cc)
read_here cause faults.ReadFault a b x is = x.0
read_here cause faults.WriteFault a b x is = absurd (cc)
read_here cause faults.Worn a b x is = absurd x
read_here cause (faults.Late read_at clock) a b x is = absurd x

module _ {T : Type 0} (cause : IntakeFault) (before now : ℕ) (counts : CountsFaults {T = T} before now (Err cause)) where
  read_cause : (result : Result Turn ServeFault) (a b : Option (List ℕ)) → IfOk result (EndsSo a b cause) → IfErr result (LeavesSo a b cause)
      → (result ≡ Err faults.ReadFault → cause ≡ intake.ReadFault) × (cause ≡ intake.ReadFault → result ≡ Err faults.ReadFault)
  read_cause (Ok turn) a b (e, is, same, written) left = (λ r. absurd (cc), λ c. let none : None ≡ Some e = sym (ap end_for c) ∙ is in absurd (cc))
  read_cause (Err fault) a b ended left = (λ r. read_here cause fault a b left (cc), λ c. ap Err (read_there cause fault a b left c))

  -- a head that was not read is a failed read, or none
  pub end_cause : (result : Result Turn ServeFault) (old new : EndsState) → IfOk result (EndsSo old.taken new.taken cause) → IfErr result (LeavesSo old.taken new.taken cause)
      → old.read_faults ≡ before → new.read_faults ≡ now → new.plan ≡ old.plan → WritesAtFault old.write_faults new.write_faults result → HasServeCause old new result
  end_cause result old new ended left is_before is_now plan writes =
      let both = read_cause result old.taken new.taken ended left in
      record {
        plan = plan;
        read_rose = λ r. rw (is_before, is_now) (counts.rose (ap Err (both.0 r)));
        read_kept = λ other. is_now ∙ counts.kept (λ c. other (both.1 (cc))) ∙ sym is_before;
        write_rose = writes.rose;
        write_kept = writes.kept;
      }
