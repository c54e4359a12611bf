-- Texts that are read as a whole: one that is no mbox text, and one that is.
use Rattle.mbox_text.proofs.Common.{◌≡◌, ℕ, false, eqb, List, length, arith, inl, inr, Entry, begins_from, Mbox, IsMboxText}
use Rattle.mbox_text.proofs.Common.{Fed, RefusesShort}
use Rattle.std.specs.Prelude.{IsErrOf, Option, Result}
use Rattle.mbox_text.specs.declared.fault.TextFault.{TextFault}
use Rattle.mbox_text.specs.declared.fault.TextFault.TheVariants.{NoFromLine}
use Rattle.mbox_text.specs.declared.splitter.Splitter.{Splitter}
use Rattle.mbox_text.proofs.TextLines.Heads.{from-long, mbox-starts}

pub not_mbox : (text : List ℕ) → eqb (length text) 0 ≡ false → begins_from text ≡ false → (entries : List Entry) → Mbox text entries → ⊥
not_mbox text some b entries h = grind (arith, mbox-starts entries h)

-- a splitter that was fed the whole of an mbox text does not find it too short
pub not_short : {text : List ℕ} {given : List Entry} {splitter : Splitter} {result : Result (Option Entry) TextFault} → IsMboxText text
    → Fed text given splitter → RefusesShort splitter result → IsErrOf result NoFromLine → ⊥
not_short {text} {given} (inl none) fed refuses fault = grind (arith, (refuses text given fed).0 fault)
not_short {text} {given} (inr begins) fed refuses fault =
    let short = (refuses text given fed).0 fault in absurd (omega (arith, from-long text begins, short.1))
