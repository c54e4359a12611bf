use Rattle.std.proofs.Common.{◌<◌, ◌^◌, List, String, Global, [], map, length, string_bytes, refl, arith}
use Rattle.maildir_run.proofs.Common.{length-map, names_of}
use Rattle.maildir_run.proofs.Tasks.Faults.{unless_ok}
use Rattle.maildir_run.proofs.Tasks.Tasks.{ran_then, ran_before, ran_err}
use Rattle.maildir_run.proofs.listings.list_all.Goals as goal

few_names : (names : List (String Global)) → length names < 2 ^ 64 → length (map string_bytes names) < 2 ^ 64
few_names names small = omega (arith, length-map names string_bytes)

pub returns-in_err-tmp-clause-ran : goal.returns-in_err-tmp-clause-ran
returns-in_err-tmp-clause-ran g c = (
  record { tmp = []; new = []; cur = [] },
  omega arith,
  ran_err _ c.from_residual.ensures.1 (ran_before _ c.in_err-tmp.ensures.ran),
  unless_ok _ _ c.from_residual.ensures.0,
)

pub returns-in_err-new-clause-ran : goal.returns-in_err-new-clause-ran
returns-in_err-new-clause-ran g c = (
  record { tmp = names_of c.in_ok-tmp.tmp; new = []; cur = [] },
  few_names _ (omega (arith, c.in_ok-tmp.tmp.small, c.in_ok-tmp.tmp.ok)),
  ran_err _ c.from_residual-in_err-new.ensures.1 (ran_then c.in_ok-tmp.ensures.ran (ran_before _ c.in_err-new.ensures.ran)),
  unless_ok _ _ c.from_residual-in_err-new.ensures.0,
)

pub returns-in_err-cur-clause-ran : goal.returns-in_err-cur-clause-ran
returns-in_err-cur-clause-ran g c = (
  record { tmp = names_of c.in_ok-tmp.tmp; new = names_of c.in_ok-new.new; cur = [] },
  few_names _ (omega (arith, c.in_ok-tmp.tmp.small, c.in_ok-tmp.tmp.ok)),
  ran_err _ c.from_residual-in_err-cur.ensures.1
      (ran_then c.in_ok-tmp.ensures.ran (ran_then c.in_ok-new.ensures.ran c.in_err-cur.ensures.ran)),
  unless_ok _ _ c.from_residual-in_err-cur.ensures.0,
)

pub returns-clause-ran : goal.returns-clause-ran
returns-clause-ran g c = (
  record { tmp = names_of c.in_ok-tmp.tmp; new = names_of c.in_ok-new.new; cur = names_of c.in_ok-cur.cur },
  few_names _ (omega (arith, c.in_ok-tmp.tmp.small, c.in_ok-tmp.tmp.ok)),
  ran_then c.in_ok-tmp.ensures.ran (ran_then c.in_ok-new.ensures.ran c.in_ok-cur.ensures.ran),
  (refl, refl, refl),
)
