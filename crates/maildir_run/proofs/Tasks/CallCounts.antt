-- The count of a run's calls, as one more is made.
use Rattle.std.proofs.Common.{◌≡◌, ℕ, zero, suc, ◌+◌, ◌*◌, ◌%◌, ◌^◌, sym, ap, ◌∙◌, arith, add-suc}
use Rattle.maildir_run.proofs.Common.{Report, CountsRun, GoesUp, raised, capped, Makes}
use Rattle.std.proofs.Math.Nat.{mod-mod, mod-add-mod}

pub one_call : {made made' calls calls' : ℕ} → made' ≡ capped (made + 1) → GoesUp calls calls' → Makes 1 made made' calls calls'
one_call e up = grind arith

pub no_call : {made calls : ℕ} → Makes 0 made made calls calls
no_call = grind arith

raised-add : (m n count : ℕ) → raised (m + n) count ≡ raised n (raised m count)
raised-add m zero count = ap (λ k. raised k count) (omega arith)
raised-add m (suc n) count = rw add-suc (ap (λ c. (c + 1) % 2 ^ 128) (raised-add m n count))

pub more_calls : {m n a b c x y z : ℕ} → Makes m a b x y → Makes n b c y z → Makes (m + n) a c x z
more_calls {m} {n} {x} first then = grind (arith, raised-add)

raised-mod : (n count : ℕ) → raised n count % 2 ^ 128 ≡ (count + n) % 2 ^ 128
raised-mod zero count = ap (λ k. k % 2 ^ 128) (omega arith)
raised-mod (suc n) count =
    mod-mod (raised n count + 1) (2 ^ 128)
    ∙ sym (mod-add-mod (raised n count) (2 ^ 128) 1)
    ∙ ap (λ k. (k + 1) % 2 ^ 128) (raised-mod n count)
    ∙ mod-add-mod (count + n) (2 ^ 128) 1
    ∙ ap (λ k. k % 2 ^ 128) (omega arith)

-- ---- at an exit
pub run_counts : (report : Report) {swept placed made made' calls calls' : ℕ} → report.swept ≡ swept
    → report.placed ≡ placed → Makes (3 + swept + 2 * placed) made made' calls calls' → CountsRun report calls calls'
run_counts report {swept} {placed} {calls} e f makes = grind (arith, raised-mod)
