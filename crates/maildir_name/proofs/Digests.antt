-- Bodies with the same digest.
use Rattle.std.proofs.Common.{◌≡◌, ℕ, true, List, rules}
use Rattle.std.specs.Cmp.Lexicographic.{nat_list_eq_equiv}
use Rattle.sha2.specs.Sha256.{sha256}
use Rattle.maildir_name.specs.Targets.{digest_text, same_digest}

pub same_digest-refl : (a : List ℕ) → same_digest a a ≡ true
same_digest-refl a = nat_list_eq_equiv.refl (sha256 a)

-- bodies with the same digest have the same digits
pub same_digest-text : (a b : List ℕ) → same_digest a b ≡ true → digest_text a ≡ digest_text b
same_digest-text a b on = search rules
