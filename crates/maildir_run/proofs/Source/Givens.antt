-- What one more read gives, and what a refused one leaves.
use Rattle.std.proofs.Common.{◌≡◌, ℕ, ◌+◌, ◌*◌, ◌^◌, ◌<◌, ◌≤◌, Bool, true, false, Option, Some, List, [], ◌∷◌, ◌++◌, ◌⊎◌, length, arith}
use Rattle.std.proofs.Common.{append_assoc, append-nil, length-append, length-take-le, option_to_list, take}
use Rattle.maildir_run.proofs.Common.{Consumes, Fed, IsAtEnd, Consumes-trans, append_cancel_right, Entry, Splitter, mbox-one, RunFault, NoFromLine}
use Rattle.maildir_run.proofs.Common.{TooManyReads, OutOfMemory, IsPrefixOf, Gave, GaveAll, IsGiven, StoppedAfter, Possible}
use Rattle.maildir_run.proofs.Common.{FromLines, Consumes-nil, IsUnreadable, IsTooShort, NeverBegins}
use Rattle.mbox_text.specs.Fed.{GivesLast, Takes}
use Rattle.mbox_text.proofs.Splitting.Fields.{never-more}
use Rattle.mbox_text.proofs.Reading.FirstGiven.{few_given, first_of, unread_none, mbox-length}
use Rattle.mbox_text.proofs.Reading.Unreadable.{never_given, never_unreadable, short_given, short_unreadable}
use Rattle.mbox_text.proofs.FromLine.FromLines.{from_lines-before, from_lines-after, mbox-from_lines}

-- ---- what was read
-- what was read is a prefix of each possible text
pub read_is : (before now : Option (List ℕ)) (text t : List ℕ) → Consumes before now text → (p : Possible before now t) → p.read ≡ text
read_is before now text t read p = grind (arith, append_cancel_right)

-- no text that begins so has messages or none; the source has these bytes left
abbrev NeverReads : List ℕ → Option (List ℕ) → Type 0
NeverReads text now = (more left : List ℕ) → now ≡ Some left → (left ≡ [] → more ≡ []) → IsUnreadable (text ++ more)

short_reads : (text : List ℕ) {now : Option (List ℕ)} → IsTooShort text → IsAtEnd now → NeverReads (text ++ []) now
short_reads text s end more left has whole entries h = grind (arith, append-nil, short_unreadable)

module _ {before mid : Option (List ℕ)} (now : Option (List ℕ)) {splitter : Splitter} {left reads : ℕ} {given : List Entry}
    (p : Gave before mid splitter left reads given) where
  -- one more read took bytes into a buffer, and these messages became whole
  pub gave_piece : {n left' : ℕ} (buffer : List ℕ) {out out' : List Entry} {new : Splitter} → n ≤ length buffer → n ≤ 65536 → 0 < n
      → Consumes mid now (take n buffer) → left' + 1 ≡ left → out ≡ [] → Takes splitter (take n buffer) out out' new
      → Gave before now new left' reads (given ++ out')
  gave_piece {n} buffer fits size some read spent none takes =
      let longer = length-take-le n buffer fits in
      grind (arith, append-nil, Consumes-trans, length-append)

  -- it met the end
  pub gave_end : {out out' : List Entry} → Consumes mid now [] → IsAtEnd now → out ≡ []
      → (last : Option Entry) × (out' ≡ out ++ option_to_list last) × GivesLast splitter last → GaveAll before now reads (given ++ out')
  gave_end read end none last = grind (arith, append-nil, Consumes-trans)

  -- it was refused
  pub stopped : {fault : RunFault} (piece : List ℕ) → Consumes mid now piece → length piece ≤ 65536 * left → (fault ≡ TooManyReads → left ≡ 0)
      → (fault ≡ NoFromLine → (given ≡ []) × NeverReads (p.text ++ piece) now) → StoppedAfter before now reads given fault
  stopped piece took size spent never =
      let within = p.budget in
      let made = p.spent in
      let read = Consumes-trans before mid now p.text piece p.read took in
      let few = few_given p.text given p.fed.given_are in
      let longer = length-append p.text piece in
      record {
        refused = record {
          budget = (p.text ++ piece, read, omega arith);
          spent = λ e. (p.text ++ piece, read, omega (arith, spent e));
          unreadable = λ e t entries q m.
              let is : t ≡ p.text ++ piece ++ q.more = rw (← read_is before now _ t read q) q.prefix in
              (never e).1 q.more q.left q.has q.whole entries (rw is at m);
        };
        prefix = record {
          text = p.text ++ piece;
          read = read;
          budget = omega arith;
          few = omega arith;
          tells = λ more rest entries has whole m. first_of p.text _ given entries p.fed.given_are (rw append_assoc at m);
          none = λ more rest has whole none. unread_none p.text _ given p.fed.given_are (rw append_assoc at none);
        };
        none = λ e. (never e).0;
      }

  -- as the last message could not be told
  pub stopped_end : {fault : RunFault} → Consumes mid now [] → IsAtEnd now → (fault ≡ NoFromLine) ⊎ (fault ≡ OutOfMemory)
      → (fault ≡ NoFromLine → (text : List ℕ) (given : List Entry) → Fed text given splitter → IsTooShort text) → StoppedAfter before now reads given fault
  stopped_end read end cause short =
      stopped [] read (omega arith) (λ e. absurd (grind arith))
      (λ e. let s = short e p.text given p.fed in (short_given p.text given s p.fed.given_are, short_reads p.text s end))

  -- as what was read can't begin a text
  pub stopped_piece : {fault : RunFault} {n : ℕ} (buffer : List ℕ) {out out' : List Entry} → n ≤ length buffer → n ≤ 65536 * left
      → Consumes mid now (take n buffer) → (fault ≡ NoFromLine) ⊎ (fault ≡ OutOfMemory) → (fault ≡ NoFromLine → NeverBegins splitter (take n buffer) out out')
      → StoppedAfter before now reads given fault
  stopped_piece {n = n} buffer fits size read cause never =
      let piece = take n buffer in
      stopped piece read (omega (arith, length-take-le n buffer fits)) (λ e. absurd (grind arith))
      (λ e.
      let n = (never e p.text given p.fed).1 in
      (never_given p.text piece given n p.fed.given_are, λ more left has whole. never_unreadable _ (never-more (p.text ++ piece) more n)))

-- before the first read
pub gave_none : (source : Option (List ℕ)) {splitter : Splitter} {left reads : ℕ} → Fed [] [] splitter × (left ≡ reads)
    → Gave source source splitter left reads []
gave_none source at = record { text = []; read = Consumes-nil source; budget = omega (arith, at.1); spent = omega (arith, at.1); fed = at.0 }

-- and where it is not made, for want of memory
pub unread : (source : Option (List ℕ)) {reads : ℕ} → StoppedAfter source source reads [] OutOfMemory
unread source = grind (arith, Consumes-nil)

-- ---- what was given is the first of each text that may begin so
at_end_same : {text more left : List ℕ} {now : Option (List ℕ)} → IsAtEnd now → now ≡ Some left → (left ≡ [] → more ≡ []) → text ++ more ≡ text
at_end_same {text} {left} end has whole = grind (arith, append-nil)

pub given_prefix : (ended : Bool) (before now : Option (List ℕ)) (splitter : Splitter) (left reads : ℕ) (given : List Entry)
    → IsGiven ended before now splitter left reads given → IsPrefixOf before now reads given
given_prefix false before now splitter left reads given p =
    let within = p.budget in
    record {
      text = p.text;
      read = p.read;
      budget = omega arith;
      few = few_given p.text given p.fed.given_are;
      tells = λ more rest entries has whole m. first_of p.text more given entries p.fed.given_are m;
      none = λ more rest has whole none. unread_none p.text more given p.fed.given_are none;
    }
given_prefix true before now splitter left reads given p = record {
  text = p.text;
  read = p.read;
  budget = p.budget;
  few = mbox-length p.text given p.all;
  tells = grind (arith, mbox-one, append-nil);
  none = λ more rest has whole none. absurd (none given (rw (at_end_same p.end has whole) p.all));
}

pub prefix_few : {before now : Option (List ℕ)} {reads : ℕ} {given : List Entry} → IsPrefixOf before now reads given → length given ≤ 65536 * reads
prefix_few prefix = omega (arith, prefix.few, prefix.budget)

-- there are numbers for all messages
pub names_fit : {before now : Option (List ℕ)} {reads : ℕ} {given : List Entry} → IsPrefixOf before now reads given → reads ≤ 2 ^ 40 → length given < 2 ^ 63
names_fit prefix most = omega (arith, prefix.few, prefix.budget)

none_after : (given whole : List Entry) → given ++ whole ≡ [] → FromLines whole
none_after [] whole e = rw e tt
none_after (g ∷ given) whole e = absurd (cc)

pub given-from_lines : (ended : Bool) (before now : Option (List ℕ)) (splitter : Splitter) (left reads : ℕ) (given whole : List Entry)
    → IsGiven ended before now splitter left reads (given ++ whole) → FromLines whole
given-from_lines ended before now splitter left reads given whole p = grind (arith, from_lines-after, mbox-from_lines, from_lines-before, none_after)
