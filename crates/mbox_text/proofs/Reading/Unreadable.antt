-- Texts that are in `Mbox` with no list of messages.
use Rattle.mbox_text.proofs.Common.{◌≡◌, ℕ, List, [], ◌++◌, arith, inl, inr, both_ways, Entry, IsUnreadable, AllButLast, NeverFrom, IsTooShort}
use Rattle.mbox_text.proofs.TextLines.LineLemmas.{begins_from-more}
use Rattle.mbox_text.proofs.TextLines.Heads.{from-long, mbox-starts}

-- a text that neither begins with `From ` nor is a prefix of it
pub never_unreadable : (text : List ℕ) → NeverFrom text → IsUnreadable text
never_unreadable text n entries h = grind (arith, mbox-starts, both_ways)

-- a text of one to four bytes
pub short_unreadable : (text : List ℕ) → IsTooShort text → IsUnreadable text
short_unreadable text s entries h = grind (arith, mbox-starts, from-long)

-- no message was returned of such a text
pub never_given : (text piece : List ℕ) (given : List Entry) → NeverFrom (text ++ piece) → AllButLast text given → given ≡ []
never_given text piece given n (inl a) = grind (arith, both_ways, begins_from-more)
never_given text piece given n (inr a) = a.1

pub short_given : (text : List ℕ) (given : List Entry) → IsTooShort text → AllButLast text given → given ≡ []
short_given text given s (inl a) = grind (arith, from-long)
short_given text given s (inr a) = a.1
