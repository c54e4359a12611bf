-- Several texts that go into one Maildir: what is sound for all of them, and what runs over any of them leave.
use Rattle.std.specs.Prelude.{◌≡◌, ◌≢◌, ℕ, ◌+◌, ◌<◌, ◌≤◌, ◌^◌, ◌&&◌, ◌⊎◌, max, Bool, IsTrue, IsFalse, List}
use Rattle.std.specs.Prelude.{[], ◌∷◌, length, take, count_by, All, Contains, IsPermutation, Result, Ok, Err}
use Rattle.std.specs.List.{list_any}
use Rattle.std.specs.Str.{bytes_eq}
use Rattle.maildir_name.specs.Targets.{digest_text, numbered}
use Rattle.maildir_run.specs.declared.fault.RunFault.{RunFault}
use Rattle.maildir_run.specs.declared.report.Report.{Report}
use Rattle.maildir_run.specs.Files.{Spared, Files, Action, acted, homes, is_name, is_spared}
use Rattle.maildir_run.specs.Delivery.{Message, AllSpared, IsMissing, is_base_of}
use Rattle.maildir_run.specs.Texts.{MessagesOf}
use Rattle.maildir_run.specs.Runs.{Chain, IsRun, Link, Ran, Acted}

-- a text, with its messages as a folder is to have them
pub record Text : Type 0 where
  pub bytes : List ℕ
  pub messages : List Message

-- the messages are those of the text, which has fewer than 2^63 bytes
pub record IsText (text : Text) : Type 0 where
  pub are : MessagesOf text.bytes text.messages
  pub small : length text.bytes < 2 ^ 63

-- this holds of each message of each of the texts
abbrev pub OfEach : (Message → Type 0) → List Text → Type 0
OfEach P texts = All (λ text. All P text.messages) texts

-- whether a base is that of a message of one of the texts
abbrev pub is_base_of_any : List Text → List ℕ → Bool
is_base_of_any texts b = list_any (λ text. is_base_of text.messages b) texts

-- whether one of the texts gives this body to this base
abbrev pub gives : List Text → List ℕ → List ℕ → Bool
gives texts b body = list_any (λ text. list_any (λ m. is_name m.target.base b && bytes_eq m.body body) text.messages) texts

-- The message's base has exactly one home, which holds a body that one of the texts gives to this base.
pub record HoldsGiven (texts : List Text) (s : Files) (m : Message) : Type 0 where
  pub body : List ℕ
  pub given : IsTrue (gives texts m.target.base body)
  pub homes_are : homes s m.target.base ≡ body ∷ []

-- A folder is sound for several texts, as against an earlier moment: each base of their messages that is spared has at most one home, which
-- holds a body that one of the texts gives to this base, and the homes of each other base that is spared hold what they held.
pub record SoundForAll (spared : Spared) (texts : List Text) (old new : Files) : Type 0 where
  pub own : All (λ text. AllSpared spared (λ m. IsMissing new m ⊎ HoldsGiven texts new m) text.messages) texts
  pub others : (b : List ℕ) → IsTrue (is_spared spared b) → IsFalse (is_base_of_any texts b) → IsPermutation (homes old b) (homes new b)

-- a link of a chain over several texts: a run over one of them with this answer, or an action of another program
pub data LinkOver : Type 0 where
  RanOver : (text : Text) → (answer : Result Report RunFault) → LinkOver
  ActedOver : (action : Action) → LinkOver

-- a link of a chain over one text, as one over several
abbrev pub link_over : Text → Link → LinkOver
link_over text (Ran answer) = RanOver text answer
link_over text (Acted action) = ActedOver action

-- a link of a chain over several texts, if there is only one
abbrev pub link_of : LinkOver → Link
link_of (RanOver _ answer) = Ran answer
link_of (ActedOver action) = Acted action

-- a link leads from one moment to another
abbrev pub LinkedOver : Spared → List Text → LinkOver → Files → Files → Type 0
LinkedOver spared texts (RanOver text answer) old new = Contains texts text × IsRun spared text.bytes old answer new
LinkedOver spared texts (ActedOver action) old new = new ≡ acted spared action old

-- a finite chain of runs over any of the texts, with any answers, and of other programs' actions
abbrev pub RunsOver : Spared → List Text → List LinkOver → Files → Files → Type 0
RunsOver spared texts = Chain (LinkedOver spared texts)

-- distinct bodies of the texts have distinct digests
abbrev pub HaveOwnDigests : List Text → Type 0
HaveOwnDigests texts = OfEach (λ m. OfEach (λ n. digest_text m.body ≡ digest_text n.body → m.body ≡ n.body) texts) texts

-- no base that is spared and has the digest of this body has a home
abbrev pub IsUnknown : Spared → Files → List ℕ → Type 0
IsUnknown spared s body = (b : List ℕ) → IsTrue (is_spared spared b) → take 64 b ≡ digest_text body → homes s b ≡ []

-- What several texts and the folder have to meet before any run over them.
pub record AreFresh (spared : Spared) (texts : List Text) (s : Files) : Type 0 where
  pub are : All IsText texts
  pub own : HaveOwnDigests texts
  pub unknown : OfEach (λ m. IsUnknown spared s m.body) texts

-- A body is there n times: of its bases with the numbers 1 to n each that is spared has exactly one home,
-- which holds the body, and no other base that is spared and has its digest has a home.
pub record IsThere (spared : Spared) (n : ℕ) (body : List ℕ) (s : Files) : Type 0 where
  pub up_to : (k : ℕ) → k < n → IsTrue (spared.bases (numbered body (k + 1))) → homes s (numbered body (k + 1)) ≡ body ∷ []
  pub no_other : (b : List ℕ) → IsTrue (is_spared spared b) → take 64 b ≡ digest_text body → ((k : ℕ) → k < n → numbered body (k + 1) ≢ b) → homes s b ≡ []

-- how often a body stands in a text
abbrev pub count_in : List ℕ → Text → ℕ
count_in body text = count_by (λ m. bytes_eq body m.body) text.messages

-- the greatest count of a body in a text of which a run of the chain answered Ok, or 0 if none did
abbrev pub most_delivered : List ℕ → List LinkOver → ℕ
most_delivered body [] = 0
most_delivered body (RanOver text (Ok _) ∷ links) = max (count_in body text) (most_delivered body links)
most_delivered body (RanOver _ (Err _) ∷ links) = most_delivered body links
most_delivered body (ActedOver _ ∷ links) = most_delivered body links

-- the greatest count of a body in a text of which a run of the chain was made, or 0 if none was
abbrev pub most_tried : List ℕ → List LinkOver → ℕ
most_tried body [] = 0
most_tried body (RanOver text _ ∷ links) = max (count_in body text) (most_tried body links)
most_tried body (ActedOver _ ∷ links) = most_tried body links

-- A body is there, after a chain, at least as often as in each text of which a run answered Ok, and at most as often as in one of which a run was made.
pub record StandsAfter (spared : Spared) (links : List LinkOver) (body : List ℕ) (s : Files) : Type 0 where
  pub n : ℕ
  pub there : IsThere spared n body s
  pub at_least : most_delivered body links ≤ n
  pub at_most : n ≤ most_tried body links
