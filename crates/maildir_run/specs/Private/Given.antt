-- How far a source was read, and which messages were given of it.
use Rattle.std.specs.Prelude.{◌≡◌, ℕ, ◌+◌, ◌*◌, ◌<◌, ◌≤◌, Bool, true, false, List, [], ◌++◌, length, Option, Some}
use Rattle.std.specs.Io.KnownBytes.{Consumes, IsAtEnd}
use Rattle.mbox_text.specs.declared.entry.Entry.{Entry}
use Rattle.mbox_text.specs.declared.splitter.Splitter.{Splitter}
use Rattle.mbox_text.specs.Fed.{Fed}
use Rattle.mbox_text.specs.Mbox.{Mbox, IsUnreadable}
use Rattle.maildir_run.specs.declared.fault.RunFault.{RunFault}
use Rattle.maildir_run.specs.declared.fault.RunFault.TheVariants.{NoFromLine, TooManyReads}
use Rattle.maildir_run.specs.declared.reader.Reader.{Reader}
use Rattle.maildir_run.specs.Runs.{Possible}
use Rattle.maildir_run.specs.Reading.{ReadsAtLeast, ReadsAtMost}

-- a text was read, these messages were given of it, and this many reads are left of those that were allowed; each that was made gave a byte
pub record Gave (before now : Option (List ℕ)) (splitter : Splitter) (left reads : ℕ) (given : List Entry) : Type 0 where
  pub text : List ℕ
  pub read : Consumes before now text
  pub budget : length text + 65536 * left ≤ 65536 * reads
  pub spent : reads ≤ left + length text
  pub fed : Fed text given splitter

-- a text was read up to the source's end, and these are its messages
pub record GaveAll (before now : Option (List ℕ)) (reads : ℕ) (given : List Entry) : Type 0 where
  pub text : List ℕ
  pub read : Consumes before now text
  pub budget : length text ≤ 65536 * reads
  pub end : IsAtEnd now
  pub all : Mbox text given

-- a text was read, up to the end or not, and these messages were given of it
abbrev pub IsGiven : Bool → Option (List ℕ) → Option (List ℕ) → Splitter → ℕ → ℕ → List Entry → Type 0
IsGiven false before now splitter left reads given = Gave before now splitter left reads given
IsGiven true before now splitter left reads given = GaveAll before now reads given

-- this text was read, and these messages are the first of each text that may begin so; one that has none begins with none
pub record IsPrefixOf (before now : Option (List ℕ)) (reads : ℕ) (given : List Entry) : Type 0 where
  pub text : List ℕ
  pub read : Consumes before now text
  pub budget : length text ≤ 65536 * reads
  pub few : length given ≤ length text
  pub tells : (more left : List ℕ) (entries : List Entry) → now ≡ Some left → (left ≡ [] → more ≡ [])
      → Mbox (text ++ more) entries → (rest : List Entry) × (entries ≡ given ++ rest)
  pub none : (more left : List ℕ) → now ≡ Some left → (left ≡ [] → more ≡ []) → IsUnreadable (text ++ more) → given ≡ []

-- nothing more could be read; with `TooManyReads` each of the reads gave a byte, and with `NoFromLine` no text that the source may have had is an mbox text
pub record SourceStopped (before now : Option (List ℕ)) (reads : ℕ) (fault : RunFault) : Type 0 where
  pub budget : ReadsAtMost before now (65536 * reads)
  pub spent : fault ≡ TooManyReads → ReadsAtLeast before now reads
  pub unreadable : fault ≡ NoFromLine → (t : List ℕ) (entries : List Entry) → Possible before now t → ¬ Mbox t entries

-- A reader gave a batch of messages, after any that were given before: up to the source's end, or one at least.
pub record GivesBatch (ended : Bool) (old : Reader) (mid now : Option (List ℕ)) (splitter : Splitter) (left : ℕ) (whole : List Entry) : Type 0 where
  pub gave : (before : Option (List ℕ)) (reads : ℕ) (given : List Entry) → Gave before mid old.splitter old.reads_left reads given
      → IsGiven ended before now splitter left reads (given ++ whole)
  pub some : ended ≡ false → 0 < length whole
  pub fewer : ended ≡ false → left < old.reads_left

-- nothing more could be read after these messages; there are none if a From_ line is missing
pub record StoppedAfter (before now : Option (List ℕ)) (reads : ℕ) (given : List Entry) (fault : RunFault) : Type 0 where
  pub refused : SourceStopped before now reads fault
  pub prefix : IsPrefixOf before now reads given
  pub none : fault ≡ NoFromLine → given ≡ []

-- the same, whatever was given before
abbrev pub GivesNoMore : Reader → Option (List ℕ) → Option (List ℕ) → RunFault → Type 0
GivesNoMore old mid now fault = (before : Option (List ℕ)) (reads : ℕ) (given : List Entry)
    → Gave before mid old.splitter old.reads_left reads given → StoppedAfter before now reads given fault
