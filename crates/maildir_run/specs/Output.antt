-- What a call writes to its output, for the texts that its source may have had.
use Rattle.std.specs.Prelude.{◌≡◌, ◌⊎◌, ◌*◌, ℕ, List, length, Option, IfSome, Result, IfOk, OnOk, OnErr, IfErr, IsErrOf}
use Rattle.std.specs.Io.KnownBytes.{Appends, Keeps, IsAtEnd}
use Rattle.mbox_text.specs.declared.entry.Entry.{Entry}
use Rattle.mbox_text.specs.Mbox.{Mbox}
use Rattle.mbox_text.specs.Writing.{AppendsPrefix}
use Rattle.maildir_run.specs.declared.fault.RunFault.{RunFault}
use Rattle.maildir_run.specs.declared.fault.RunFault.TheVariants.{NoFromLine, TooManyReads, OutputFault}
use Rattle.maildir_run.specs.Reading.{IsReading, ReadsAtLeast, ReadsAtMost}
use Rattle.maildir_run.specs.Runs.{Possible}

-- the source gave a text, and the output for all of its messages was written, which are this many
abbrev pub GivesAll : (List Entry → List ℕ) → Option (List ℕ) → Option (List ℕ) → Option (List ℕ) → ℕ → Type 0
GivesAll output source was is count =
    IfSome source (λ t. (entries : List Entry) × Mbox t entries × (count ≡ length entries) × Appends was is (output entries))

-- for each text that the source may have had, a prefix of the output for its messages was written
abbrev pub GivesPrefix : (List Entry → List ℕ) → Option (List ℕ) → Option (List ℕ) → Option (List ℕ) → Option (List ℕ) → Type 0
GivesPrefix output before after was is = (t : List ℕ) (entries : List Entry) → Possible before after t → Mbox t entries → AppendsPrefix was is (output entries)

-- no text that the source may have had is an mbox text, and nothing was written
abbrev pub GivesNothing : Option (List ℕ) → Option (List ℕ) → Option (List ℕ) → Option (List ℕ) → Type 0
GivesNothing before after was is = Keeps was is × ((t : List ℕ) (entries : List Entry) → Possible before after t → ¬ Mbox t entries)

-- A call read its source, by this many reads at most, and wrote the output for the messages of its text, in order. It answered how many they are.
pub record WritesMessages (output : List Entry → List ℕ) (before after was is : Option (List ℕ)) (reads : ℕ) (result : Result ℕ RunFault) : Type 0 where
  -- with Ok
  pub all : IfOk result (GivesAll output before was is)
  pub end : OnOk result (IsAtEnd after)
  -- with a fault
  pub prefix : OnErr result (GivesPrefix output before after was is)
  pub no_from_line : IsErrOf result NoFromLine → GivesNothing before after was is
  pub spent : IsErrOf result TooManyReads → ReadsAtLeast before after reads
  pub causes : IfErr result (λ fault. IsReading fault ⊎ (fault ≡ OutputFault))
  pub budget : ReadsAtMost before after (65536 * reads)
