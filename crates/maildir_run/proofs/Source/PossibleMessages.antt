-- What a run has kept at its exits, for each text that its source may have had.
use Rattle.std.proofs.Common.{◌≡◌, ℕ, ◌+◌, ◌*◌, ◌≤◌, ◌^◌, Option, Result, Ok, Err, OnOk, List, [], ◌++◌}
use Rattle.std.proofs.Common.{length, sym, ap, subst, ◌∙◌, inl, inr, arith, append-nil, length-append}
use Rattle.maildir_run.proofs.Common.{map-append, length-map, Entry, Mbox, mbox-one, RunFault, Files, Message, AreNamed, AreDistinct, Spared}
use Rattle.maildir_run.proofs.Common.{AllSpared, IsSoundAt, messages_of, bodies_of, MessagesOf, Possible, KeepsMessages, KeepsHomes}
use Rattle.maildir_run.proofs.Common.{Progress, IsPrefixOf, GaveAll}
use Rattle.maildir_run.proofs.Tasks.Progress.{KeptSoFar, progress_stands}
use Rattle.maildir_run.proofs.Run.Batches.{after_these, no_messages}
use Rattle.maildir_run.proofs.Source.Givens.{read_is}

pub none_done : {spared : Spared} {start now : Files} → KeepsHomes spared start now → Progress spared [] start now
none_done {now} leaves = grind arith

pub stands_keeps : {spared : Spared} {ms : List Message} {start now : Files} {fault : RunFault} → KeptSoFar spared ms start now
    → KeepsMessages spared ms start (Err fault) now
stands_keeps s = grind arith

-- messages of which the first are done
pub prefix_stands : {spared : Spared} {ms done : List Message} (more : List Message) {start now : Files} → AreNamed ms → AreDistinct ms
    → AllSpared spared (IsSoundAt start) ms → ms ≡ done ++ more → Progress spared done start now → KeptSoFar spared ms start now
prefix_stands {done} more {start} {now} named distinct sound e p =
    rw e (progress_stands done more start now (subst AreNamed e named) (subst AreDistinct e distinct) (rw e at sound) p)

bodies_parts : (all rest : List Entry) → bodies_of (all ++ rest) ≡ bodies_of all ++ bodies_of rest
bodies_parts all rest = map-append (λ (e : Entry). e.body) all rest

-- ---- the messages of each text that a source may have had
-- those that were given are the first of them
prefix_of_text : {before after : Option (List ℕ)} {reads : ℕ} {given : List Entry} → IsPrefixOf before after reads given → {t : List ℕ} {ms : List Message}
    → Possible before after t → MessagesOf t ms → (more : List Message) × (ms ≡ messages_of (bodies_of given) ++ more)
prefix_of_text {before} {after} {given} f {t} p of =
    let is : t ≡ f.text ++ p.more = rw (← read_is before after f.text t f.read p) p.prefix in
    elim of [
      | inl (entries, m, e) ↦
          let r = f.tells p.more p.left entries p.has p.whole (rw is at m) in grind (arith, bodies_parts, after_these)
      | inr (none, e) ↦ (
        [],
        e ∙ sym (append-nil (messages_of (bodies_of given))
            ∙ ap (λ xs. messages_of (bodies_of xs)) (f.none p.more p.left p.has p.whole (rw is at none)) ∙ no_messages),
      )
    ]

-- and with Ok all of them
pub whole_text : {before after : Option (List ℕ)} {reads : ℕ} {all : List Entry}
    → GaveAll before after reads all → {t : List ℕ} → Possible before after t → Mbox t all
whole_text {before} {after} gave {t} p = grind (arith, append-nil)

pub whole_messages : (t : List ℕ) (all : List Entry) → Mbox t all → {ms : List Message} → MessagesOf t ms → ms ≡ messages_of (bodies_of all)
whole_messages t all whole h = grind (arith, mbox-one)

-- the messages that were given, and those that were not; with Ok there are no others
pub given_of : {A E : Type 0} (r : Result A E) {before after : Option (List ℕ)} {reads : ℕ} {given : List Entry} → IsPrefixOf before after reads given
    → OnOk r (GaveAll before after reads given) → (t : List ℕ) (ms : List Message) → Possible before after t → MessagesOf t ms
    → (more : List Message) × (ms ≡ messages_of (bodies_of given) ++ more) × OnOk r (ms ≡ messages_of (bodies_of given))
given_of (Ok x) {given} prefix whole t ms p of =
    let same = whole_messages t given (whole_text whole p) of in
    grind (arith, append-nil)
given_of (Err e) {before} {after} {reads} {given} prefix whole t ms p of = let f = prefix_of_text prefix p of in (f.0, f.1, tt)

-- ---- a batch
pub batch_bodies : (given : List Entry) {whole entries : List Entry} → entries ≡ whole → bodies_of given ++ bodies_of entries ≡ bodies_of (given ++ whole)
batch_bodies given {whole} e = grind (arith, bodies_parts)

pub batch_few : (given : List Entry) {whole entries : List Entry} {reads : ℕ} → entries ≡ whole
    → length (given ++ whole) ≤ 65536 * reads → reads ≤ 2 ^ 40 → length (bodies_of given) + length entries ≤ 2 ^ 63
batch_few given {whole} e few most = omega (arith, ap length e, length-append given whole, length-map given (λ (x : Entry). x.body))
