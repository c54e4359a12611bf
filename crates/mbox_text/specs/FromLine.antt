-- The From_ line of a message, as it is kept: without its `\n` (mbox(5)).
use Rattle.std.specs.Prelude.{ℕ, ◌==◌, ◌||◌, List, [], ◌∷◌, ◌++◌, IsTrue, codes, drop, if◌then◌else◌, length, map}
use Rattle.mbox_text.specs.Lines.{NoEnd}
use Rattle.mbox_text.specs.Quoting.{begins_from, from_bytes}

-- the bytes begin with `From ` and hold no `\n` (mbox(5))
abbrev pub IsFromLine : List ℕ → Type 0
IsFromLine line = IsTrue (begins_from line) × NoEnd line

-- the bytes before the first space, the byte 32, or all of them
abbrev pub before_space : List ℕ → List ℕ
before_space [] = []
before_space (c ∷ bytes) = if c == 32 then [] else c ∷ before_space bytes

-- the bytes without their leading spaces
abbrev pub past_spaces : List ℕ → List ℕ
past_spaces [] = []
past_spaces (c ∷ bytes) = if c == 32 then past_spaces bytes else c ∷ bytes

-- the sender of a From_ line: what follows `From `, up to the next space or the line's end (this project's own rule)
unfoldable pub sender : List ℕ → List ℕ
sender line = before_space (drop 5 line)

-- the rest of a From_ line: what follows the sender and all spaces directly after it (this project's own rule)
unfoldable pub rest : List ℕ → List ℕ
rest line = past_spaces (drop (length (sender line)) (drop 5 line))

-- a byte of a sender as it is written: a hyphen, the byte 45, for a space, a tab or a `\n` (qmail's mbox(5))
abbrev pub hyphened : ℕ → ℕ
hyphened c = if c == 32 || (c == 9 || c == 10) then 45 else c

-- a sender as it is written: with `MAILER-DAEMON` for an empty one (qmail's mbox(5))
unfoldable pub cleaned : List ℕ → List ℕ
cleaned [] = codes "MAILER-DAEMON"
cleaned (c ∷ sender) = map hyphened (c ∷ sender)

-- what follows the sender of a From_ line: nothing, or a space and the rest
abbrev pub after_sender : List ℕ → List ℕ
after_sender [] = []
after_sender (c ∷ rest) = 32 ∷ c ∷ rest

-- the From_ line of a sender and a rest (qmail's mbox(5))
unfoldable pub built : List ℕ → List ℕ → List ℕ
built sender rest = from_bytes ++ (cleaned sender ++ after_sender rest)
