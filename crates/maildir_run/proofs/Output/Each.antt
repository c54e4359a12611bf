-- Messages that are written one after the other.
use Rattle.std.proofs.Common.{◌≡◌, ℕ, ◌+◌, ◌<◌, true, Option, Result, is_err, List, ◌∷◌, ◌++◌, arith}
use Rattle.std.proofs.Common.{length, get_or, take, drop, flat_map, take-append-drop}
use Rattle.maildir_run.proofs.Common.{Appends, false≢true, drop_more, flat_map-append, Entry, spelling, AppendsPrefix, Writes, prefix_then}

-- the first messages, one more and the others
parted : (entries : List Entry) {i : ℕ} {e : Entry} → i < length entries → e ≡ get_or entries i e
    → flat_map spelling entries ≡ flat_map spelling (take i entries) ++ (spelling e ++ flat_map spelling (drop (i + 1) entries))
parted entries {i} {e} l is =
    grind (arith, take-append-drop i entries, drop_more entries i e l, flat_map-append spelling (take i entries) (e ∷ drop (i + 1) entries))

refused : {T E : Type 0} (r : Result T E) (a b : Option (List ℕ)) (bytes : List ℕ) → true ≡ is_err r → Writes a b r bytes → AppendsPrefix a b bytes
refused r a b bytes e w = grind (arith, false≢true)

pub each_prefix : {T E : Type 0} (entries : List Entry) {i : ℕ} {e : Entry} (r : Result T E) (a b c : Option (List ℕ))
    → i < length entries → e ≡ get_or entries i e → Appends a b (flat_map spelling (take i entries))
    → true ≡ is_err r → Writes b c r (spelling e) → AppendsPrefix a c (flat_map spelling entries)
each_prefix entries {i} {e} r a b c l is h err w =
    prefix_then a b c _ _ _
    _ h (refused r b c (spelling e) err w) (parted entries l is)
