-- Sources that break off.
use Rattle.std.proofs.Common.{◌≡◌, ℕ, List, Option, None, Some, Result, Ok, Err, OnErr, refl, ◌∙◌, ap, subst}
use Rattle.std.specs.Io.KnownBytes.{Consumes}
use Rattle.maildir_run.specs.Reading.{ReadsAtMost}
use Rattle.maildir_run.specs.Runs.{Possible}

-- all that a source told before a call is possible for what the call read
pub possible : (text : List ℕ) (before after : Option (List ℕ)) (most : ℕ) → ReadsAtMost before after most → before ≡ Some text → Possible before after text
possible text before None most (read, taken, _) told = absurd (subst (λ b. Consumes b None read) told taken)
possible text before (Some left) most (read, taken, _) told =
    let prefix = subst (λ b. Consumes b (Some left) read) told taken in
    record { read = read; left = left; more = left; had = told ∙ ap Some prefix; has = refl; prefix = prefix; whole = λ none. none }

-- what follows of a refusal
pub on_err : {T E : Type 0} (answer : Result T E) (P Q : Type 0) → (P → Q) → OnErr answer P → OnErr answer Q
on_err (Ok _) P Q follows given = tt
on_err (Err _) P Q follows given = follows given
