-- A source that is read piece by piece while what belongs to its messages is written.
use Rattle.std.proofs.Common.{◌≡◌, ℕ, Option, Result, Ok, IsErrAnd, List, [], arith}
use Rattle.std.proofs.Common.{◌++◌, ◌⊎◌, length, refl, sym, ◌∙◌, ap, flat_map, append-nil}
use Rattle.maildir_run.proofs.Common.{flat_map-append, spelling, Appends, Entry, IsOutput, RunFault, NoFromLine, OutOfMemory, IsReading}
use Rattle.maildir_run.specs.declared.fault.RunFault.TheVariants.{OutputFault}
use Rattle.maildir_run.proofs.Common.{AppendsPrefix, prefix_more, prefix_then, IsPrefixOf, GaveAll, StoppedAfter}
use Rattle.std.specs.Io.KnownBytes.{Keeps}
use Rattle.maildir_run.proofs.Source.Givens.{read_is}
use Rattle.maildir_run.specs.Output.{GivesPrefix, WritesMessages}

gives_prefix : {output : List Entry → List ℕ} {before now : Option (List ℕ)} (was is : Option (List ℕ)) {reads : ℕ} {given : List Entry}
    → IsOutput output → IsPrefixOf before now reads given → AppendsPrefix was is (output given) → GivesPrefix output before now was is
gives_prefix {output} {before} {now} was is {given = given} o f h t entries p m =
    let e : t ≡ f.text ++ p.more = rw (← read_is before now f.text t f.read p) p.prefix in
    let r = f.tells p.more p.left entries p.has p.whole (rw e at m) in
    let z = o.prefix given r.0 in
    prefix_more was is _ z.0 _ h (ap output r.1 ∙ z.1)

appends_nothing : (was is : Option (List ℕ)) → Appends was is [] → Keeps was is
appends_nothing was is h = grind (arith, append-nil)

-- ---- the call as a whole, where it ends; what belongs to these messages is written
module _ {output : List Entry → List ℕ} {before now was : Option (List ℕ)} (is : Option (List ℕ)) {reads : ℕ} (given : List Entry) {fault : RunFault}
    (o : IsOutput output) (written : Appends was is (output given)) (result : Result ℕ RunFault) (at : IsErrAnd result (λ e. e ≡ fault)) where
  -- no more could be read
  pub reading_failed : IsReading fault → StoppedAfter before now reads given fault → WritesMessages output before now was is reads result
  reading_failed reading stop =
      let prefix = gives_prefix _ is o stop.prefix (output given, [], sym (append-nil (output given)), written) in
      let nothing = λ (e : fault ≡ NoFromLine). appends_nothing _ is (rw (stop.none e, o.none) at written) in
      grind arith

  -- the writer failed in the next batch
  pub writing_failed : (fault ≡ OutputFault) ⊎ (fault ≡ OutOfMemory) → (is' : Option (List ℕ)) (bytes : List ℕ) (whole : List Entry)
      → IsPrefixOf before now reads (given ++ whole) → output (given ++ whole) ≡ output given ++ bytes → AppendsPrefix is is' bytes
      → WritesMessages output before now was is' reads result
  writing_failed cause is' bytes whole f e h =
      let all = prefix_then _ is is' _ bytes [] _ written h (e ∙ ap (λ z. output given ++ z) (sym (append-nil bytes))) in
      let prefix = gives_prefix _ is' o f all in
      grind arith

pub all_written : {output : List Entry → List ℕ} {before now was is : Option (List ℕ)} {reads count : ℕ} {all : List Entry} → GaveAll before now reads all
    → Appends was is (output all) → count ≡ length all → WritesMessages output before now was is reads (Ok count)
all_written gave written total = grind (arith, append-nil)

-- what each message is written as is an output
pub flat_output : IsOutput (flat_map spelling)
flat_output = record { none = refl; prefix = λ a b. (flat_map spelling b, flat_map-append spelling a b) }
