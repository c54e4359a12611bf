-- The faults are distinct, and none is `Ok`.
use Rattle.mbox_text.proofs.Common.{◌≡◌, Result, Ok, Err, IsErrAnd, IsErrOf, TextFault, NoFromLine, OutOfMemory}

pub ok_no_err : {T E : Type 0} (x : T) (e : E) → IsErrOf (Ok x) e → ⊥
ok_no_err x e is = cc

pub memory_no_line : {T : Type 0} (r : Result T TextFault) → IsErrAnd r (λ fault. fault ≡ OutOfMemory) → IsErrOf r NoFromLine → ⊥
memory_no_line (Ok x) is e = absurd is
memory_no_line (Err fault) is e = cc
