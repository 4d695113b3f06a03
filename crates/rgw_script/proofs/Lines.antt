-- The lines of a script, one after another, to the end of the input or to where it ends before.
use Rattle.std.proofs.Common.{◌≡◌, ◌≢◌, ◌⊎◌, inl, inr, ℕ, ◌+◌, ◌^◌, ◌≤◌, List, [], ◌∷◌, ◌++◌, length, Option, Result, Ok, Err, refl, sym, ap, ◌∙◌, subst, arith, append_assoc, length-append}
use Rattle.std.specs.Io.KnownBytes.{Consumes, Appends, IsAtEnd}
use Rattle.std.proofs.KnownBytes.{Appends-nil, Appends-trans}
use Rattle.std.proofs.lemmas.List.{append-nil}
use Rattle.realm_model.specs.Settings.{SettingsView}
use Rattle.realm_model.specs.declared.event.Event.{Event}
use Rattle.script_lines.specs.Faults.{CountsFaults}
use Rattle.script_lines.specs.Reading.{ReaderState, fresh, TakesLine, TakesLast, BeginsTooLong, FindsLine}
use Rattle.script_lines.specs.declared.fault.LineFault.{LineFault}
use Rattle.script_lines.specs.declared.fault.LineFault.TheVariants as line_faults
use Rattle.script_lines.specs.declared.reader.Next.{Next}
use Rattle.rgw_script.specs.Faults.{line_fault}
use Rattle.rgw_script.specs.Plays.{PlaysOne, PlaysAll}
use Rattle.rgw_script.specs.Printing.{CountsWrite, Refuses}
use Rattle.rgw_script.specs.Runs.{with_breaks, LeavesText, LeavesTooLong, LeavesUnread, PlaysThrough, PlaysUpTo, HasScriptCause}
use Rattle.rgw_script.specs.Scenes.{Scene}
use Rattle.rgw_script.specs.declared.fault.ScriptFault.{ScriptFault}
use Rattle.rgw_script.specs.declared.fault.ScriptFault.TheVariants.{OutOfMemory, ReadFault, WriteFault, Worn, BadLine}
use Rattle.rgw_script.proofs.Reading.{Counts, ReadsSo, read_on, nothing_some, nothing_read, all_read, line_read, line_next, last_read, last_next, longer_too, counts_line, counts_last}

-- ---- lines that were played

-- and one more
plays_more : (settings : SettingsView) (s t u : Scene) (texts : List (List ℕ)) (text printed more : List ℕ) → PlaysAll settings s texts t printed → PlaysOne settings t text u more
    → PlaysAll settings s (texts ++ text ∷ []) u (printed ++ more)
plays_more settings s t u [] text printed more all one =
    (u, more, [], subst (λ (x : Scene). PlaysOne settings x text u more) all.0 one, (refl, refl), ap (λ l. l ++ more) all.1 ∙ sym (append-nil more))
plays_more settings s t u (first ∷ texts) text printed more all one =
    (all.0, all.1, all.2 ++ more, all.3, plays_more settings all.0 t u texts text all.2 more all.4 one, ap (λ l. l ++ more) all.5 ∙ append_assoc all.1 all.2 more)

-- These lines were read and played, and what they print was written.
pub record SoFar (settings : SettingsView) (s : Scene) (start left begun taken : Option (List ℕ)) (reader : ReaderState) (number : ℕ) (t : Scene) : Type 0 where
  pub texts : List (List ℕ)
  pub printed : List ℕ
  pub played : PlaysAll settings s texts t printed
  pub reads : ReadsSo start left texts reader.waits reader.given
  pub written : Appends begun taken printed
  pub count : number ≡ length texts
  pub counts : Counts texts reader.given

pub so_far_none : (settings : SettingsView) (s : Scene) (left taken : Option (List ℕ)) (reader : ReaderState) → reader ≡ fresh → SoFar settings s left left taken taken reader 0 s
so_far_none settings s left taken reader is = subst (λ (r : ReaderState). SoFar settings s left left taken taken r 0 s) (sym is) (record {
  texts = [];
  printed = [];
  played = (refl, refl);
  reads = nothing_read left;
  written = Appends-nil taken;
  count = refl;
  counts = record { many = omega arith; few = omega arith; within = omega arith };
})

-- ---- the next line

pub finds_as : (all : List ℕ) (ended : Type 0) (old new : ReaderState) (next is : Next) → next ≡ is → FindsLine all ended old new (Ok next) → FindsLine all ended old new (Ok is)
finds_as all ended old new next is same finds = subst (λ n. FindsLine all ended old new (Ok n)) same finds

module _ (settings : SettingsView) (s t : Scene) (start left left' begun taken : Option (List ℕ)) (old new : ReaderState) (number : ℕ)
    (so : SoFar settings s start left begun taken old number t) (more : List ℕ) (consumed : Consumes left left' more) where
  reads_on : ReadsSo start left' so.texts (old.waits ++ more) old.given
  reads_on = read_on start left left' so.texts old.waits more old.given so.counts.within so.reads consumed

  -- it was played too
  pub played_on : (taken' : Option (List ℕ)) (u : Scene) (printed : List ℕ) → (TakesLine (old.waits ++ more) old new ⊎ (TakesLast (old.waits ++ more) old new × IsAtEnd left'))
      → PlaysOne settings t new.line u printed → Appends taken taken' printed → SoFar settings s start left' begun taken' new (number + 1) u
  played_on taken' u printed takes one written = record {
    texts = so.texts ++ new.line ∷ [];
    printed = so.printed ++ printed;
    played = plays_more settings s t u so.texts new.line so.printed printed so.played one;
    reads = elim takes [
      | inl line ↦ line_read start left' so.texts (old.waits ++ more) old new reads_on line
      | inr last ↦ last_read start left' so.texts (old.waits ++ more) old new reads_on last.0 last.1
    ];
    written = Appends-trans begun taken taken' so.printed printed so.written written;
    count = ap (λ n. n + 1) so.count ∙ sym (length-append so.texts (new.line ∷ []));
    counts = elim takes [
      | inl line ↦ counts_line so.texts (old.waits ++ more) old new so.counts line
      | inr last ↦ counts_last so.texts (old.waits ++ more) old new so.counts last.0
    ];
  }

  -- it was the end
  pub played_through : (history : List Event) → history ≡ t.history → old.waits ++ more ≡ [] → IsAtEnd left' → PlaysThrough settings s start left' begun taken history
  played_through history same none ended = record {
    texts = so.texts;
    last = t;
    printed = so.printed;
    played = so.played;
    reads = all_read start left' so.texts (old.waits ++ more) reads_on.some none ended;
    written = so.written;
    history_is = same;
  }

  next_number : number + 1 ≡ length so.texts + 1
  next_number = ap (λ n. n + 1) so.count

  -- it was left
  pub left_text : (taken' : Option (List ℕ)) (history : List Event) (fault : ScriptFault) → (TakesLine (old.waits ++ more) old new ⊎ (TakesLast (old.waits ++ more) old new × IsAtEnd left'))
      → LeavesText settings t (number + 1) new.line taken taken' history fault → PlaysUpTo settings s start left' begun taken' history fault
  left_text taken' history fault takes leaves = record {
    texts = so.texts;
    last = t;
    printed = so.printed;
    played = so.played;
    rest = old.waits ++ more;
    reads = reads_on.some;
    between = taken;
    written = so.written;
    leaves = inl (
      new.line,
      elim takes [
        | inl line ↦ line_next start left' so.texts (old.waits ++ more) old new reads_on line
        | inr last ↦ last_next start left' so.texts (old.waits ++ more) old new reads_on last.0 last.1
      ],
      subst (λ n. LeavesText settings t n new.line taken taken' history fault) next_number leaves,
    );
  }

  -- it was too long
  pub left_long : (taken' : Option (List ℕ)) (history : List Event) (fault : ScriptFault) → BeginsTooLong old.given (old.waits ++ more)
      → LeavesTooLong t (number + 1) taken taken' history fault → PlaysUpTo settings s start left' begun taken' history fault
  left_long taken' history fault long leaves = record {
    texts = so.texts;
    last = t;
    printed = so.printed;
    played = so.played;
    rest = old.waits ++ more;
    reads = reads_on.some;
    between = taken;
    written = so.written;
    leaves = inr (inl (
      longer_too old.given (length (with_breaks so.texts)) (old.waits ++ more) so.counts.few long,
      subst (λ n. LeavesTooLong t n taken taken' history fault) next_number leaves,
    ));
  }

  -- it was not read
  pub left_unread : (history : List Event) (fault : ScriptFault) → LeavesUnread t (old.waits ++ more) taken taken history fault → PlaysUpTo settings s start left' begun taken history fault
  left_unread history fault leaves = record {
    texts = so.texts;
    last = t;
    printed = so.printed;
    played = so.played;
    rest = old.waits ++ more;
    reads = reads_on.some;
    between = taken;
    written = so.written;
    leaves = inr (inr leaves);
  }

-- nothing was read, for want of memory
pub left_at_once : (settings : SettingsView) (s : Scene) (left taken : Option (List ℕ)) (history : List Event) → history ≡ s.history → PlaysUpTo settings s left left taken taken history OutOfMemory
left_at_once settings s left taken history same = record {
  texts = [];
  last = s;
  printed = [];
  played = (refl, refl);
  rest = [];
  reads = nothing_some left;
  between = taken;
  written = Appends-nil taken;
  leaves = inr (inr (same, Appends-nil taken));
}

-- ---- what is left

pub unread_so : (t : Scene) (all : List ℕ) (ended : Type 0) (old new : ReaderState) (taken : Option (List ℕ)) (history : List Event) (fault : LineFault) → history ≡ t.history
    → FindsLine all ended old new (Err fault) → LeavesUnread t all taken taken history (line_fault fault)
unread_so t all ended old new taken history line_faults.ReadFault same finds = (finds.0, same, Appends-nil taken)
unread_so t all ended old new taken history line_faults.OutOfMemory same finds = (same, Appends-nil taken)

pub long_so : (t : Scene) (number : ℕ) (taken taken' : Option (List ℕ)) (history : List Event) (fault : ScriptFault) → history ≡ t.history
    → Refuses taken taken' number fault → LeavesTooLong t number taken taken' history fault
long_so t number taken taken' history (BadLine line) same refused = (refused.0, same, refused.1)
long_so t number taken taken' history WriteFault same refused = (same, refused)
long_so t number taken taken' history OutOfMemory same refused = (same, refused)
long_so t number taken taken' history Worn same refused = absurd refused
long_so t number taken taken' history ReadFault same refused = absurd refused

-- ---- counts of faults

-- where no read failed
pub counts_write : (read read' write write' : ℕ) (fault : ScriptFault) → fault ≢ ReadFault → read' ≡ read → CountsWrite write write' fault → HasScriptCause read read' write write' (Err fault)
counts_write read read' write write' fault other kept counts = record {
  read_rose = λ is. absurd (other (err_is _ _ is));
  read_kept = λ differs. kept;
  write_rose = λ is. subst (CountsWrite write write') (err_is _ _ is) counts;
  write_kept = λ differs. of fault (λ is. differs (ap Err is)) counts;
} where
  err_is : (a b : ScriptFault) → ◌≡◌ {A = Result (Unit {0}) ScriptFault} (Err a) (Err b) → a ≡ b
  err_is a b e = cc

  of : (fault : ScriptFault) → fault ≢ WriteFault → CountsWrite write write' fault → write' ≡ write
  of OutOfMemory differs counts = counts
  of ReadFault differs counts = counts
  of WriteFault differs counts = absurd (differs refl)
  of Worn differs counts = counts
  of (BadLine line) differs counts = counts

-- where reading ended it
pub counts_read : (read read' write write' : ℕ) {T : Type 0} (result : Result T LineFault) (fault : LineFault) → result ≡ Err fault → CountsFaults read read' result → write' ≡ write
    → HasScriptCause read read' write write' (Err (line_fault fault))
counts_read read read' write write' result line_faults.ReadFault is counts kept = record {
  read_rose = λ same. counts.rose is;
  read_kept = λ differs. absurd (differs refl);
  write_rose = λ same. absurd (cc);
  write_kept = λ differs. kept;
}
counts_read read read' write write' result line_faults.OutOfMemory is counts kept = record {
  read_rose = λ same. absurd (cc);
  read_kept = λ differs. counts.kept (λ other. let e = sym is ∙ other in absurd (cc));
  write_rose = λ same. absurd (cc);
  write_kept = λ differs. kept;
}

-- a line that was left was read
pub text_was_read : (settings : SettingsView) (s : Scene) (number : ℕ) (text : List ℕ) (taken taken' : Option (List ℕ)) (history : List Event) (fault : ScriptFault)
    → LeavesText settings s number text taken taken' history fault → fault ≢ ReadFault
text_was_read settings s number text taken taken' history OutOfMemory leaves = λ e. absurd (cc)
text_was_read settings s number text taken taken' history ReadFault leaves = absurd leaves
text_was_read settings s number text taken taken' history WriteFault leaves = λ e. absurd (cc)
text_was_read settings s number text taken taken' history Worn leaves = λ e. absurd (cc)
text_was_read settings s number text taken taken' history (BadLine line) leaves = λ e. absurd (cc)

pub refusal_was_read : (taken taken' : Option (List ℕ)) (number : ℕ) (fault : ScriptFault) → Refuses taken taken' number fault → fault ≢ ReadFault
refusal_was_read taken taken' number OutOfMemory refused = λ e. absurd (cc)
refusal_was_read taken taken' number ReadFault refused = absurd refused
refusal_was_read taken taken' number WriteFault refused = λ e. absurd (cc)
refusal_was_read taken taken' number Worn refused = absurd refused
refusal_was_read taken taken' number (BadLine line) refused = λ e. absurd (cc)

-- where nothing failed
pub counts_ok : (read read' write write' : ℕ) → read' ≡ read → write' ≡ write → HasScriptCause read read' write write' (Ok tt)
counts_ok read read' write write' kept_read kept_write = record {
  read_rose = λ is. absurd (cc);
  read_kept = λ differs. kept_read;
  write_rose = λ is. absurd (cc);
  write_kept = λ differs. kept_write;
}

-- an input that gave something did not fail
pub read_well : {T : Type 0} (before now first : ℕ) (x : T) → CountsFaults before now (Ok x) → before ≡ first → now ≡ first
read_well before now first x counts same = counts.kept (λ e. absurd (cc)) ∙ same

pub fit_more : (texts : List (List ℕ)) (given number : ℕ) → number ≡ length texts → Counts texts given → number + 1 ≤ 2 ^ 31
fit_more texts given number is counts = omega (arith, is, counts.many, counts.within)

-- reading the next line ended it
pub counts_unread : (before now write write' first : ℕ) (fault : LineFault) → CountsFaults {T = Next} before now (Err fault) → before ≡ first → write' ≡ write → HasScriptCause first now write write' (Err (line_fault fault))
counts_unread before now write write' first fault counts same kept =
    subst (λ n. HasScriptCause n now write write' (Err (line_fault fault))) same
    (counts_read before now write write' {T = Next} (Err fault) fault refl counts kept)
