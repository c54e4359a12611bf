-- Which files are touched from one moment to another.
use Rattle.std.proofs.Common.{inl, inr, Result, Ok, Err}
use Rattle.maildir_run.proofs.Common.{Call, Files, Spared}
use Rattle.maildir_run.specs.Touched.{FileName, Logs, TouchedNone, TouchedOnly, Touches}

pub touched_same : {P old : FileName → Type 0} → TouchedOnly P old old
touched_same = record { only = λ file now. inr now; still = λ file was. was }

pub touched_as : {P Q old new : FileName → Type 0} → ((file : FileName) → P file → Q file) → TouchedOnly P old new → TouchedOnly Q old new
touched_as f h = record { only = λ file now. elim (h.only file now) [ inl p ↦ inl (f file p) | inr was ↦ inr was ]; still = h.still }

pub touched_none : {P old new : FileName → Type 0} → TouchedNone old new → TouchedOnly P old new
touched_none none = touched_as (λ file no. absurd no) none

pub touched_then : {P a b c : FileName → Type 0} → TouchedOnly P a b → TouchedOnly P b c → TouchedOnly P a c
touched_then first then = record {
  only = λ file now. elim (then.only file now) [ inl p ↦ inl p | inr mid ↦ first.only file mid ];
  still = λ file was. then.still file (first.still file was);
}

-- each file that the call touches is touched, whatever it answered
pub logs_all : (spared : Spared) {A E : Type 0} (call : Call) (old new : Files) (touched : FileName → Type 0) (result : Result A E)
    → ((file : FileName) → Touches call file → touched file) → Logs spared call old result new touched
logs_all spared call old new touched (Ok x) h = h
logs_all spared call old new touched (Err e) h = inl h
