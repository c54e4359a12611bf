-- What a machine has at a path, and when several texts fit into it, and are safe there.
use Rattle.std.specs.Prelude.{◌≡◌, ◌⊎◌, ℕ, ◌+◌, ◌<◌, ◌^◌, List, [], ◌∷◌, ◌++◌, length, get_or, take, All, Option, map, count_by, ◌||◌, IsTrue}
use Rattle.mbox_text.specs.declared.entry.Entry.{Entry}
use Rattle.mbox_text.specs.Lines.{Ended}
use Rattle.mbox_text.specs.Mbox.{IsMboxText, IsUnreadable, Mbox}
use Rattle.maildir_name.specs.Targets.{digest_text, numbered, same_digest}
use Rattle.maildir_run.specs.Cuts.{Follows}
use Rattle.maildir_run.specs.Delivery.{Message, AllSpared, AreNamed, IsSoundAt, has_home, is_base_of}
use Rattle.maildir_run.specs.Files.{Files, Action, all_acted, Spared, is_spared}
use Rattle.maildir_run.specs.Files.{no_files}
use Rattle.maildir_run.specs.Runs.{Possible}
use Rattle.maildir_run.specs.Several.{Text}
use Rattle.maildir_run.specs.Texts.{bodies_of}
use Rattle.maildir_run.specs.Touched.{FileName, TouchedNone}
use Rattle.maildir_disk.specs.Others.{Stays}
use Rattle.maildir_disk.specs.PowerCuts.{AreAlike, AreIntact, AreSafe, LeftByOthers}

-- a Maildir at one moment: its files, what a power cut may leave of them, that a power cut leaves the Maildir and its
-- three folders, and which files were touched
pub record HeldMaildir : Type 1 where
  pub files : Files
  pub may_leave : Files → Type 0
  pub rooted : Type 0
  -- the files that this machine's own calls may have touched until now
  pub touched : FileName → Type 0

-- no Maildir, and a power cut leaves none
abbrev pub nothing_held : HeldMaildir
nothing_held = record { files = no_files; may_leave = λ left. left ≡ no_files; rooted = ⊥; touched = λ _. ⊥ }

-- A Maildir from one moment to the next, while this machine does nothing to it: other programs acted and spared these bases, or none acted.
pub record Rests (spared : Spared) (old new : HeldMaildir) : Type 0 where
  pub actions : List Action
  pub files_are : new.files ≡ all_acted spared actions old.files
  pub left : Follows (LeftByOthers spared) old.may_leave new.may_leave
  pub still_rooted : old.rooted → new.rooted
  pub touches : TouchedNone old.touched new.touched

-- what is at two paths that name the same Maildir: other programs may turn what is at each of them into what is at the other
abbrev pub AreAt : Spared → HeldMaildir → HeldMaildir → Type 0
AreAt spared one other = Rests spared one other × Rests spared other one

-- the message's base has the digest of its body, and a number that counts it and the messages before it that have this digest
abbrev pub IsNumbered : List Message → Message → Type 0
IsNumbered before m = m.target.base ≡ numbered m.body (count_by (λ n. same_digest m.body n.body) before + 1)

-- The messages are those of the text, by their bodies and bases; their places and names are left open. The text has fewer than 2^63 bytes.
pub record HasItsMessages (text : Text) : Type 0 where
  -- one for each entry, in order, with its body; none if the text is in `Mbox` with no list (mbox(5))
  pub bodies : ((entries : List Entry) × Mbox text.bytes entries × (map (λ m. m.body) text.messages ≡ bodies_of entries))
      ⊎ (IsUnreadable text.bytes × (text.messages ≡ []))
  pub bases : (k : ℕ) (d : Message) → k < length text.messages → IsNumbered (take k text.messages) (get_or text.messages k d)
  pub small : length text.bytes < 2 ^ 63

-- These texts can go into one Maildir: no two of their messages have the same base and other bodies.
pub record AreFit (texts : List Text) : Type 0 where
  pub are : All HasItsMessages texts
  pub alike : All (λ text. All (λ other. AreAlike text.messages other.messages) texts) texts

-- different messages of the two texts have different digests
abbrev pub DifferInDigests : Text → Text → Type 0
DifferInDigests one other = All (λ m. All (λ n. digest_text m.body ≡ digest_text n.body → m.body ≡ n.body) other.messages) one.messages

-- The text is an earlier one with mail appended: that was empty or ended with `\n`, and what follows begins with `From `, or is nothing.
abbrev pub HasGrown : Text → Text → Type 0
HasGrown earlier text = (more : List ℕ) × Ended earlier.bytes × (text.bytes ≡ earlier.bytes ++ more) × IsMboxText more

-- of the two texts one is the other with mail appended, or different messages of them have different digests
abbrev pub FitTogether : Text → Text → Type 0
FitTogether one other = HasGrown one other ⊎ (HasGrown other one ⊎ DifferInDigests one other)

-- For the messages of the texts that are spared, a Maildir is sound, and what a power cut may leave of it is intact.
pub record IsSoundFor (spared : Spared) (texts : List Text) (maildir : HeldMaildir) : Type 0 where
  pub sound : All (λ text. AllSpared spared (IsSoundAt maildir.files) text.messages) texts
  pub intact : All (λ text. AreIntact spared text.messages maildir.may_leave) texts

-- the messages of the text that are spared are delivered in the Maildir, and survive a power cut
abbrev pub IsSafeIn : Spared → HeldMaildir → Text → Type 0
IsSafeIn spared maildir text = AreSafe spared text.messages maildir.files maildir.may_leave maildir.rooted

-- the same holds of each of the texts
abbrev pub AreAllSafe : Spared → List Text → HeldMaildir → Type 0
AreAllSafe spared texts maildir = All (IsSafeIn spared maildir) texts

-- any messages stay, also of other texts, if those that share a base with a message of these texts have the same body
abbrev pub OthersStay : Spared → List Text → HeldMaildir → HeldMaildir → Type 0
OthersStay spared texts old new =
    (others : List Message) → AreNamed others → All (λ text. AreAlike others text.messages) texts →
    Stays spared others old.files old.may_leave new.files new.may_leave

-- afterwards a base that is spared has a home exactly if it had one, or is the base of one of the messages
abbrev pub HasAlso : Spared → List Message → Files → Files → Type 0
HasAlso spared ms old new = (b : List ℕ) → IsTrue (is_spared spared b) → has_home new b ≡ (is_base_of ms b || has_home old b)

-- these are the bytes of the texts, in order
abbrev pub bytes_of : List Text → List (List ℕ)
bytes_of texts = map (λ text. text.bytes) texts

-- the texts of a conversion: one for each file, in order; if no file is named, one text that standard input may have had
abbrev pub GivesTexts : (List ℕ → List ℕ) → Option (List ℕ) → Option (List ℕ) → List (List ℕ) → List Text → Type 0
GivesTexts text_of before after [] texts = (text : Text) × (texts ≡ text ∷ []) × Possible before after text.bytes
GivesTexts text_of before after (file ∷ files) texts = bytes_of texts ≡ map text_of (file ∷ files)
