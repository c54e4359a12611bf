-- What a writer took, piece after piece.
use Rattle.mbox_text.proofs.Common.{◌≡◌, ℕ, ◌+◌, ◌-◌, Option, Result, Ok, Err, List, [], ◌++◌, length, take, drop, sym, ap, append_assoc, IsErr}
use Rattle.mbox_text.proofs.Common.{take-append-drop, append-nil, refl, arith, Appends, Appends-trans, MatchResult-from_err, AppendsPrefix, Writes}
use Rattle.mbox_text.proofs.Splitting.Fields.{take-at}

-- a prefix of some bytes is a prefix of more
pub prefix_more : (a b : Option (List ℕ)) (y z all : List ℕ) → AppendsPrefix a b y → all ≡ y ++ z → AppendsPrefix a b all
prefix_more a b y z all f e = grind (arith, append_assoc f.0 f.1 z)

-- some bytes, and then a prefix of others
pub prefix_then : (a b c : Option (List ℕ)) (x y z all : List ℕ) → Appends a b x → AppendsPrefix b c y → all ≡ x ++ (y ++ z) → AppendsPrefix a c all
prefix_then a b c x y z all h f e = grind (arith, append_assoc, Appends-trans)

-- a prefix of known length
pub prefix_at : {bytes : List ℕ} (a b : Option (List ℕ)) (n : ℕ) → Appends a b (take n bytes) → AppendsPrefix a b bytes
prefix_at {bytes} a b n h = grind (arith, take-append-drop n bytes)

-- the writer took the next n bytes
pub part_more : (bytes : List ℕ) (a b c : Option (List ℕ)) (at n : ℕ) → Appends a b (take at bytes)
    → Appends b c (take n (take (length bytes - at) (drop at bytes))) → Appends a c (take (at + n) bytes)
part_more bytes a b c at n h k = grind (arith, take-at, Appends-trans)

-- the first of two writes failed
pub broke : {T E : Type 0} (r : Result T E) (a b : Option (List ℕ)) (y z : List ℕ) → IsErr r → AppendsPrefix a b y → Writes a b r (y ++ z)
broke r a b y z is h = MatchResult-from_err r _ _ is (λ _. prefix_more a b y z (y ++ z) h refl)

-- some bytes were written, and then others were or were not
pub wrote : {T E : Type 0} (r : Result T E) (a b c : Option (List ℕ)) (x y : List ℕ) → Appends a b x → Writes b c r y → Writes a c r (x ++ y)
wrote (Ok t) a b c x y h w = Appends-trans a b c x y h w
wrote (Err t) a b c x y h w = prefix_then a b c x y [] (x ++ y) h w (ap (λ z. x ++ z) (sym (append-nil y)))
