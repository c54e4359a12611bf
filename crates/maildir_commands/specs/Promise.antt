-- The promise on any commands, on one page: what is promised, what is assumed, what may happen, and what a command does to Maildirs.
--
-- A text is what a mailbox file holds (`Text`). A message of it has a body and a base. The body is the whole message, its header too, with the quoting
-- of the mailbox undone, and without the line `From `. The base is the front of its file name: the digest of the body, a dot, and the message's number
-- among those of its text with this digest. So a message that stands once in each of two texts has the same base in both, and is the same file.
--
-- All is said of the messages whose bases are `spared`. (`spared` has two parts: these bases, and `whole`, which says that a power cut keeps or loses each
-- rename as one change. With `whole` more is asked of the machine; without it, of each power cut.) With the file of such a message other programs do two
-- things only, at any time: they move it from `new` to `cur`, and rename it in `cur`. The base stays the same; the flags behind it may change, also while
-- it is moved. (What is in `tmp` they may remove.) A message that somebody deletes, edits, files elsewhere, gives a second name, moves back to `new` or
-- restores from a backup is not spared, and nothing is said of it. (A history that begins after that may spare it again: the next status 0 brings a deleted
-- message back.) The program never sees `spared`: whoever applies the law chooses it, also afterwards.
--
-- These terms are defined in other files. Where they speak of messages and bases, they speak of the spared ones, but for AreFit and HasItsMessages.
-- In maildir_commands/specs, Machines:
--   AreFit          each text has its messages (HasItsMessages); no two messages of these texts have the same base but different bodies
--   HasItsMessages  the text has fewer than 2^63 bytes, and its messages are those of its bytes, in order, by their bodies and bases; it has none if it is
--                   no mbox text
--   IsSoundFor      each message is missing, or in exactly one file of `new` or `cur`, with exactly its body; and the messages are intact (AreIntact)
--   AreAllSafe      each message is in exactly one file of `new` or `cur`, with exactly its body; in whatever a power cut may leave, at least one file has
--                   its base and its body; and the Maildir survives a power cut, if there is any text
--   OthersStay      all messages that fit with these texts, their own too, are still sound, in their file and safe from a power cut, if they were so before
--   GivesTexts      these are the texts of the files that are named, in order. If none is named, it is one text: it begins with what was read of standard
--                   input, and is exactly that if nothing was left. So it must be known what standard input had. There is always at least one text.
--   HeldMaildir     a Maildir at one moment: its `files`; `may_leave`, what a power cut may leave of them; `rooted`: the Maildir survives a power cut.
--                   (This page does not need `touched`.)
--   Rests           only other programs acted on the Maildir, and they spared these messages; or nobody did
-- In Seen, Report and Words, beside it:
--   SeenMachine     what is seen of a machine at one moment (`at`). The page needs the next four of it:
--   honest          for a command that begins now, the machine does as assumed (1 to 5, 7 to 11, 13 and 14 in MODEL.md), and other programs spare these
--                   messages (6)
--   text_of         the text of the file that this path names
--   maildir_at      the Maildir that this path names, as it is at this moment
--   same            two paths name the same Maildir
--   SeenProgram     a machine, what standard input still has, and what standard output got; `seen_with` joins the three
--   Untouched       the Maildir rests (Rests), if the machine is honest; and if no other program acts, its files are as they were
--   report_line     the line of a report, with its counts
--   convert_words   the words `convert INTO [FILE]...`
-- In maildir_run/specs, Delivery, Files and Runs:
--   IsMissing       no file of `new` or `cur` has the message's base
--   IsHome          exactly one file of `new` or `cur` has the message's base, and it has exactly its body
--   IsSoundAt       one of the two: IsMissing or IsHome
--   IsSwept         `tmp` has no converter's name with a spared base: neither the base itself nor the base with flags behind it
--   AllSpared       something holds of each of these messages that is spared
--   Honestly        something holds for each `spared` for which the machine is honest
--   KeepsHomes      in `new` and `cur` the files of each base hold what they held
--   no_files        three empty folders
--   Chain           one link after the other, each from one moment to the next
-- In maildir_disk/specs, PowerCuts, and mbox_text/specs, Writing:
--   AreIntact       in whatever a power cut may leave, each file in `new` or `cur` with the base of one of these messages has exactly its body; and there
--                   is at most one for each message, if a cut keeps or loses each rename as one change (`whole`)
--   IsSingle        a power cut left no file under two names: the file system never keeps half of a rename (`whole`), or this cut left no second file.
--                   MODEL.md says which file systems do so (12)
--   AppendsPrefix   a beginning of these bytes was written, if it is known what was written; of a real terminal or file it is not
use Rattle.std.specs.Prelude.{◌≡◌, ◌≢◌, ℕ, List, [], ◌∷◌, ◌++◌, All, Contains, Option, Some, true}
use Rattle.maildir_run.specs.Delivery.{AllSpared, IsHome, IsMissing, IsSoundAt, IsSwept}
use Rattle.maildir_run.specs.Files.{Files, Spared}
use Rattle.maildir_run.specs.Several.{Text}
use Rattle.maildir_disk.specs.PowerCuts.{AreIntact}
use Rattle.maildir_commands.specs.Commands.{LeftByCommand}
use Rattle.maildir_commands.specs.Episodes.{Conversion, Episode, IsHistory}
use Rattle.maildir_commands.specs.Machines.{AreFit, HeldMaildir, IsSoundFor}
use Rattle.maildir_commands.specs.Seen.{SeenMachine}

-- THE PROMISE, on the spared messages, whatever other programs do to all others, and on the Maildir as it is after all episodes.
pub record Promised (spared : Spared) (texts : List Text) (episodes : List Episode) (maildir : HeldMaildir) : Type 0 where
  -- The Maildir is sound for all of the texts: each message is missing, or in exactly one file of `new` or `cur`, with exactly its body.
  pub sound : IsSoundFor spared texts maildir
  -- What a command left of its texts is still so, however long ago that was. After status 0 each message is safe; after status 1 it is, if it is known
  -- (`Some`) that the line of its text was begun. Whoever saw the line knows it. A command that was killed (a shell says status 137) counts as one with
  -- status 1. The last episode may be a power cut: after it, too, each safe message is in exactly one file.
  pub left : (these : List Text) (status : ℕ) (before after : Option (List ℕ)) → Contains episodes (Conversion these status before after)
      → LeftByCommand spared these status before after maildir
  -- Right after status 0 `tmp` is swept.
  pub swept : (earlier : List Episode) (these : List Text) (before after : Option (List ℕ)) → episodes ≡ earlier ++ (Conversion these 0 before after ∷ [])
      → IsSwept spared maildir.files

-- THE PREMISES: any commands follow one another, with any words and any status, among other programs and power cuts. They are assumed of one set of
-- spared messages, of one Maildir by its path, and of all texts that ever go in. Of what MODEL.md assumes, `honest` has the numbers named above; `history`
-- has 15, and 6 and 14 between commands; `single` of a power cut has 12; `sound` has 16.
pub record AnyCommands {M : Type 0} (spared : Spared) (at : M → SeenMachine) (path : List ℕ) (texts : List Text) (episodes : List Episode)
    (old new : M) : Type 0 where
  -- At first the machine does as assumed, and other programs spare these messages. For later moments the episodes say so.
  pub as_assumed : (at old).honest spared
  -- Each text has its messages, and no two messages of the texts have the same base but different bodies. The law `texts_fit` says when this is so. If it
  -- fails for one pair, nothing is said of any message. Two messages of one text never make it fail: they have different numbers.
  pub fit : AreFit texts
  -- At first the Maildir is sound for the texts, as one is that is new to them.
  pub sound : IsSoundFor spared texts ((at old).maildir_at path)
  -- Each episode leads from one moment to the next. It is assumed that one command at a time is at work in this Maildir: the lock is no part of the proof.
  -- Other programs may act at any time.
  pub history : IsHistory spared at path texts episodes old new

-- The Maildir has none of the messages of the texts. If a power cut may bring some back that were deleted, it brings them back whole. `AnyCommands` has no
-- such premise: the clause `begins` of the law says that a Maildir which is new to the texts is sound for them. The law for one text has it.
pub record IsNewTo (spared : Spared) (texts : List Text) (maildir : HeldMaildir) : Type 0 where
  pub missing : All (λ text. AllSpared spared (IsMissing maildir.files) text.messages) texts
  pub intact : All (λ text. AreIntact spared text.messages maildir.may_leave) texts

-- THE LAW `after_any_commands`, for every machine M. The real machine shows nothing to the prover, for whom its `honest` never holds. That it does as assumed
-- (`as_assumed`, and what the episodes say of later moments) is believed and tested, not proved. The clauses of the law are:
--   promised   AnyCommands spared M.at path texts episodes old new → Promised spared texts episodes ((M.at new).maildir_at path)
--   begins     IsNewTo spared texts ((M.at old).maildir_at path) → IsSoundFor spared texts ((M.at old).maildir_at path)
--   kept       AnyCommands spared M.at path texts earlier old mid → IsHistory spared M.at path texts later mid new → ¬ Contains later Cut
--              → OthersStay spared texts ((M.at mid).maildir_at path) ((M.at new).maildir_at path)
-- So a message that is in its file between two episodes stays there until the power is cut, whatever the statuses are and whatever was printed.

-- ---- for one text
-- Every message is spared: other programs only move and flag it. A power cut keeps or loses each rename as one change (`whole`).
abbrev pub all_whole : Spared
all_whole = record { bases = λ b. true; whole = true }

-- each message of the text is in exactly one file of `new` or `cur`, with exactly its body, and so it is in whatever a power cut may leave
pub record IsThereOnce (text : Text) (maildir : HeldMaildir) : Type 0 where
  pub now : All (IsHome maildir.files) text.messages
  pub after_a_cut : (left : Files) → maildir.may_leave left → All (IsHome left) text.messages
  pub is_rooted : maildir.rooted

-- THE PROMISE FOR ONE TEXT, by the law `after_commands_over_one_text`: a text has its messages (`HasItsMessages`), a machine does as assumed where this is
-- spared (`all_whole`), a Maildir is new to the text, and then any commands follow one another (`IsHistory`), with no other text for this Maildir.
pub record OncePromised (text : Text) (episodes : List Episode) (maildir : HeldMaildir) : Type 0 where
  -- Each message is missing, or in exactly one file of `new` or `cur`, with exactly its body.
  pub sound : All (IsSoundAt maildir.files) text.messages
  -- After a status 0 of a command whose words name this text once, however long ago, each is there once.
  pub safe : (before after : Option (List ℕ)) → Contains episodes (Conversion (text ∷ []) 0 before after) → IsThereOnce text maildir
  -- So it is after a status 1 of such a command, if it is known that it printed anything.
  pub printed : (before line : List ℕ) → Contains episodes (Conversion (text ∷ []) 1 (Some before) (Some (before ++ line))) → line ≢ []
      → IsThereOnce text maildir
