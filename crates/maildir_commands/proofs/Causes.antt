-- Why a command ended with a fault.
use Rattle.std.proofs.Common.{◌≡◌, ℕ, ◌≤◌, ◌⊎◌, ◌^◌, List, [], ◌∷◌, ◌++◌, length}
use Rattle.std.proofs.Common.{Some, None, Err, refl, sym, ap, subst, inl, inr, arith}
use Rattle.maildir_commands.proofs.Common.{Bytes, Contains, Fault, Folder, Form, GivesNothing, IsCauseOf, IsFailedCall, IsOfDelivery, IsOfFiles}
use Rattle.maildir_commands.proofs.Common.{IsReading, IsTooLong, IsUnreadable, Locked, OpenFault, Possible, ReadsAtLeast, ReadsAtMost}
use Rattle.maildir_commands.proofs.Common.{Report, Run, RunFault, SeenMachine, SeenProgram, Source, ToConvert, ToWrite, fault_of_opening, length-append}
use Rattle.maildir_run.specs.declared.fault.RunFault.TheVariants as run
use Rattle.maildir_run.specs.declared.folder.FolderFault.TheVariants as folder
use Rattle.maildir_run.specs.Counting.{CallNumber, GoesUpWith}
use Rattle.maildir_disk.specs.declared.faults.OpenFault.TheVariants as opening
use Rattle.maildir_commands.proofs.Several.{possible_whole}

-- ---- a run
pub of_run : (before after : Bytes) (fault : RunFault) → (fault ≡ run.NoFromLine → (t : List ℕ) → Possible before after t → IsUnreadable t)
    → (fault ≡ run.TooManyReads → (t : List ℕ) → Possible before after t → IsTooLong t) → IsOfDelivery before after (Run fault)
of_run before after run.NoFromLine none long = none refl
of_run before after run.TooManyReads none long = long refl
of_run before after other none long = tt

-- the call that it ended with is told
pub failed_in_run : (calls calls' failures failures' : ℕ) (fault : RunFault) → GoesUpWith (Some fault) failures failures'
    → CallNumber {A = Report} (Err fault) calls calls' → (number : ℕ) → Run fault ≡ Run (run.FolderFailed number)
    → IsFailedCall number calls calls' failures failures'
failed_in_run calls calls' failures failures' fault goes count number e =
    let is : fault ≡ run.FolderFailed number = cc in
    let told : CallNumber {A = Report} (Err (run.FolderFailed number)) calls calls' = subst (λ f. CallNumber {A = Report} (Err f) calls calls') is count in
    inl (subst (λ f. GoesUpWith (Some f) failures failures') is goes, (told.n, told.count_is, told.call_number))

-- a line that was not written is no call
pub output_no_call : {X : Type 0} {fault : Fault} {number : ℕ} → fault ≡ Run run.OutputFault → fault ≡ Run (run.FolderFailed number) → X
output_no_call is e = cc

-- ---- a source
long_enough : (before after : Bytes) {n : ℕ} → ReadsAtLeast before after n → {t : List ℕ} → Possible before after t → n ≤ length t
long_enough None after reads p = let had = p.had in cc
long_enough (Some xs) None reads p = absurd reads.1
long_enough (Some xs) (Some ys) reads p =
    let had : xs ≡ p.read ++ p.left = let h = p.had in cc in
    let has : ys ≡ p.left = let h = p.has in cc in
    let split = length-append p.read p.left in
    let taken = length-append reads.0 ys in
    let whole = length-append p.read p.more in
    let a = ap length had in
    let b = ap length reads.1 in
    let d = ap length has in
    let e = ap length p.prefix in
    let most = reads.2 in
    omega (arith, split, taken, whole, a, b, d, e, most)

pub long_possible : {before after : Bytes} → ReadsAtLeast before after (2 ^ 40) → (t : List ℕ) → Possible before after t → IsTooLong t
long_possible {before} {after} reads = λ t possible. long_enough before after reads possible

-- what is so where a run ended with this fault that reads a text, and makes no folder calls
abbrev IsOfReads : Bytes → Bytes → RunFault → Type 0
IsOfReads before after run.NoFromLine = (t : List ℕ) → Possible before after t → IsUnreadable t
IsOfReads before after run.TooManyReads = (t : List ℕ) → Possible before after t → IsTooLong t
IsOfReads before after run.FolderAbsent = ⊥
IsOfReads before after (run.FolderFailed _) = ⊥
IsOfReads before after other = Unit {0}

pub of_reads : {before after : Bytes} (was is : Bytes) {fault : RunFault} → IsReading fault ⊎ (fault ≡ run.OutputFault)
    → (fault ≡ run.NoFromLine → GivesNothing before after was is) → (fault ≡ run.TooManyReads → ReadsAtLeast before after (2 ^ 40))
    → IsOfReads before after fault
of_reads {before} {after} was is (inl (inl e)) none long =
    subst (IsOfReads before after) (sym e) (λ t possible entries. (none e).1 t entries possible)
of_reads {before} {after} was is (inl (inr (inl e))) none long = subst (IsOfReads before after) (sym e) tt
of_reads {before} {after} was is (inl (inr (inr (inl e)))) none long = subst (IsOfReads before after) (sym e) (long_possible (long e))
of_reads {before} {after} was is (inl (inr (inr (inr e)))) none long = subst (IsOfReads before after) (sym e) tt
of_reads {before} {after} was is (inr e) none long = subst (IsOfReads before after) (sym e) tt

pub holds_first : {file : List ℕ} (files : List (List ℕ)) → Contains (file ∷ files) file
holds_first files = (0, omega arith, refl)

module _ (machine : SeenMachine) (file : List ℕ) (files : List (List ℕ)) where
  -- a file whose text was read
  pub delivered_file : (b a : Bytes) (most : ℕ) (name : List ℕ) → Contains (file ∷ files) name → b ≡ Some (machine.text_of name)
      → ReadsAtMost b a most → (fault : Fault) → IsOfDelivery b a fault → IsOfFiles machine (file ∷ files) fault
  delivered_file b a most name named reads budget Source is = absurd is
  delivered_file b a most name named reads budget Folder is = absurd is
  delivered_file b a most name named reads budget Locked is = absurd is
  delivered_file b a most name named reads budget (Run run.NoFromLine) is =
      (name, named, is (machine.text_of name) (possible_whole b a reads budget))
  delivered_file b a most name named reads budget (Run run.TooManyReads) is =
      (name, named, is (machine.text_of name) (possible_whole b a reads budget))
  delivered_file b a most name named reads budget (Run other) is = tt

  -- a file that was not opened
  pub refused_file : (name : List ℕ) → Contains (file ∷ files) name → (fault : Fault)
      → (fault ≡ Source) ⊎ (fault ≡ Run run.OutOfMemory) → (fault ≡ Source → machine.refuses_source name)
      → IsOfFiles machine (file ∷ files) fault
  refused_file name named fault (inl e) refused = subst (IsOfFiles machine (file ∷ files)) (sym e) (name, named, refused e)
  refused_file name named fault (inr e) refused = subst (IsOfFiles machine (file ∷ files)) (sym e) tt

-- of the texts and refusals at an earlier moment
pub files_before : (old new : SeenMachine) (files : List (List ℕ)) → new.text_of ≡ old.text_of
    → ((word : List ℕ) → new.refuses_source word → old.refuses_source word) → (fault : Fault) → IsOfFiles new files fault → IsOfFiles old files fault
files_before old new files same earlier Source (name, named, refused) = (name, named, earlier name refused)
files_before old new files same earlier Folder is = absurd is
files_before old new files same earlier Locked is = absurd is
files_before old new files same earlier (Run run.NoFromLine) (name, named, is) = (name, named, subst (λ f. IsUnreadable (f name)) same is)
files_before old new files same earlier (Run run.TooManyReads) (name, named, is) = (name, named, subst (λ f. IsTooLong (f name)) same is)
files_before old new files same earlier (Run other) is = tt

pub of_output : (before after : Bytes) {fault : Fault} → fault ≡ Run run.OutputFault → IsOfDelivery before after fault
of_output before after is = subst (IsOfDelivery before after) (sym is) tt

-- ---- a conversion
module _ (maildir : List ℕ) where
  pub of_files : (file : List ℕ) (files : List (List ℕ)) (old : SeenProgram) (after : Bytes) (fault : Fault)
      → IsOfFiles old.machine (file ∷ files) fault → IsCauseOf (ToConvert maildir (file ∷ files)) old after fault
  of_files file files old after Source is = is
  of_files file files old after Folder is = absurd is
  of_files file files old after Locked is = absurd is
  of_files file files old after (Run run.NoFromLine) is = is
  of_files file files old after (Run other) is = is

  pub of_input : (old : SeenProgram) (after : Bytes) (fault : Fault) → IsOfDelivery old.input after fault
      → IsCauseOf (ToConvert maildir []) old after fault
  of_input old after Source is = absurd is
  of_input old after Folder is = absurd is
  of_input old after Locked is = absurd is
  of_input old after (Run run.NoFromLine) is = is
  of_input old after (Run other) is = is

  -- the Maildir was not opened
  pub of_maildir : (files : List (List ℕ)) (old : SeenProgram) (after : Bytes) (reason : OpenFault)
      → old.machine.refuses_maildir maildir reason → IsCauseOf (ToConvert maildir files) old after (fault_of_opening reason)
  of_maildir files old after opening.Locked refused = (opening.Locked, refl, refused)
  of_maildir files old after (opening.Folder folder.OutOfMemory) refused = tt
  of_maildir files old after (opening.Folder folder.Absent) refused = (opening.Folder folder.Absent, refl, refused)
  of_maildir files old after (opening.Folder folder.Failed) refused = (opening.Folder folder.Failed, refl, refused)

-- ---- a text that is written
module _ (form : Form) (old : SeenProgram) (after : Bytes) where
  -- from standard input
  pub of_read_input : (fault : RunFault) → IsOfReads old.input after fault → IsCauseOf (ToWrite form None) old after (Run fault)
  of_read_input run.NoFromLine is = is
  of_read_input other is = is

  -- and from a file, which was opened, or was not
  module _ (file : List ℕ) where
    pub of_opening : {fault : Fault} → (fault ≡ Source) ⊎ (fault ≡ Run run.OutOfMemory) → (fault ≡ Source → old.machine.refuses_source file)
        → IsCauseOf (ToWrite form (Some file)) old after fault
    of_opening (inl e) refused = subst (IsCauseOf (ToWrite form (Some file)) old after) (sym e) (file, holds_first [], refused e)
    of_opening (inr e) refused = subst (IsCauseOf (ToWrite form (Some file)) old after) (sym e) tt

    pub of_read_file : (b a : Bytes) (most : ℕ) → b ≡ Some (old.machine.text_of file) → ReadsAtMost b a most
        → (fault : RunFault) → IsOfReads b a fault → IsCauseOf (ToWrite form (Some file)) old after (Run fault)
    of_read_file b a most reads budget run.NoFromLine is =
        (file, holds_first [], is (old.machine.text_of file) (possible_whole b a reads budget))
    of_read_file b a most reads budget run.TooManyReads is =
        (file, holds_first [], is (old.machine.text_of file) (possible_whole b a reads budget))
    of_read_file b a most reads budget other is = is
