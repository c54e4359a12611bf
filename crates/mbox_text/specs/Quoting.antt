-- Which lines begin a message, and how a line of a body is quoted (qmail's mbox(5), the format that is called mboxrd).
use Rattle.std.specs.Prelude.{ℕ, ◌==◌, Bool, true, false, ◌&&◌, List, [], ◌∷◌, if◌then◌else◌}

-- whether the first list is a prefix of the second
abbrev pub begins_with : List ℕ → List ℕ → Bool
begins_with [] text = true
begins_with (p ∷ prefix) [] = false
begins_with (p ∷ prefix) (c ∷ text) = p == c && begins_with prefix text

-- the five bytes `From `
abbrev pub from_bytes : List ℕ
from_bytes = 70 ∷ 114 ∷ 111 ∷ 109 ∷ 32 ∷ []

-- whether a line begins with `From `, and so begins a message (mbox(5))
unfoldable pub begins_from : List ℕ → Bool
begins_from line = begins_with from_bytes line

-- whether a line begins with zero or more `>`, the byte 62, and then `From ` (mbox(5))
unfoldable pub quotable : List ℕ → Bool
quotable [] = false
quotable (c ∷ line) = if c == 62 then quotable line else begins_from (c ∷ line)

-- a line of a body as it is written: with one `>` more if it is quotable (mbox(5))
unfoldable pub quoted : List ℕ → List ℕ
quoted line = if quotable line then 62 ∷ line else line

-- a line of a body as it is read: without its first `>` if what follows that is quotable (mbox(5))
unfoldable pub unquoted : List ℕ → List ℕ
unquoted [] = []
unquoted (c ∷ line) = if c == 62 && quotable line then line else c ∷ line
