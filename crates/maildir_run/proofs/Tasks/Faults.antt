-- What is said of an answer by its fault.
use Rattle.std.proofs.Common.{◌≡◌, None, Result, IsErr, IsErrAnd, IfOk, IfErr, arith}
use Rattle.maildir_run.proofs.Common.{RunFault, NoFromLine, ReadFault, TooManyReads, OutOfMemory, fault_of, IsReading}

-- ---- with any fault
pub unless_ok : {A E : Type 0} (P : A → Type 0) (r : Result A E) → IsErr r → IfOk r P
unless_ok h r is = grind arith

pub is_fault : {A E : Type 0} (r : Result A E) → IsErr r → fault_of r ≡ None → ⊥
is_fault r is e = grind arith

-- the fault of a refused call, and of an answer
pub if_err : {A E : Type 0} (P : E → Type 0) (r : Result A E) {fault : E} → IsErrAnd r (λ e. e ≡ fault) → P fault → IfErr r P
if_err h r is p = grind arith

-- ---- the fault of a read, or of an allocation
pub at_reading : (P : RunFault → Type 0) → P NoFromLine → P ReadFault → P TooManyReads → P OutOfMemory → {fault : RunFault} → IsReading fault → P fault
at_reading h a b c d w = grind arith
