use Rattle.std.proofs.Common.{◌≡◌, ℕ, Bool, true, false, cond, Option, Some, unwrap_or, refl}
use Rattle.std.specs.Cmp.Lexicographic.{texts_ties}
use Rattle.maildir_name.proofs.namer.Namer.set_count.Goals as goal

updated : {at same : Bool} (old : Option ℕ) {new : Option ℕ} (n : ℕ) → same ≡ at → new ≡ cond at (Some n) old → unwrap_or new 0 ≡ cond same n (unwrap_or old 0)
updated {at = true} old n e is = rw (e, is) refl
updated {at = false} old n e is = rw (e, is) refl

pub returns-clause-set : goal.returns-clause-set
returns-clause-set c other =
    let u = updated _ _ (texts_ties c.args.digest other) (c.in_ok-insert.ensures.updates.0 other) in
    let v = c.self.view_is in
    rw v at u
