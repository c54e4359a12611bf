-- A process that is killed: calls that are not made, and what it leaves.
use Rattle.std.proofs.Common.{◌≡◌, ℕ, List, [], ◌++◌, Option, Result, Ok, Err, Some, None, IsErr, refl, sym, ap, subst, ◌∙◌, inl, inr, append_assoc}
use Rattle.std.proofs.lemmas.Bool.{false≢true}
use Rattle.std.proofs.lemmas.List.{append_cancel_left}
use Rattle.std.specs.declared.alloc.Global.{Global}
use Rattle.std.specs.declared.io.Error.{Error}
use Rattle.std.specs.declared.string.String.{String}
use Rattle.std.specs.declared.time.SystemTime.{SystemTime}
use Rattle.std.specs.declared.vec.Vec.{Vec}
use Rattle.mbox_text.specs.declared.entry.Entry.{Entry}
use Rattle.mbox_text.specs.declared.fault.TextFault.TheVariants.{WriteFault}
use Rattle.maildir_run.proofs.Call.Touching.{touched_same}
use Rattle.maildir_run.specs.Calls.{Call}
use Rattle.maildir_run.specs.declared.fault.RunFault.TheVariants as run
use Rattle.maildir_run.specs.declared.folder.Sub.{Sub}
use Rattle.maildir_disk.proofs.Calls.Looking.{looks_none}
use Rattle.maildir_disk.proofs.Calls.Passing.{acts_none, passes_none}
use Rattle.maildir_disk.proofs.Left.Lefts.{left_by_no_others, left_none}
use Rattle.maildir_disk.specs.SeenSystem.{AppendsToFile, Asks, MakesFile, ReadsClock, ReadsFolder, ReadsStamp, SeenSystem, TakesFromTmp}
use Rattle.maildir_commands.specs.declared.killed.Killed.{Killed}
use Rattle.maildir_commands.proofs.Common.{Appends-nil, AppendsPrefix, AskFor, Bytes, Fault, HeldMaildir, Keeps-refl, Text}
use Rattle.maildir_commands.proofs.Common.{OpenFault, OpenMaildir, OpensMaildir, OpensSources, PrintsSome, Request, Run, SeenMachine, Spared, ToConvert}
use Rattle.maildir_commands.proofs.Common.{ToWrite, Untouched, seen_at, seen_with}
use Rattle.maildir_commands.proofs.Ending.{some_safely}
use Rattle.maildir_commands.proofs.Output.{each_some}
use Rattle.maildir_commands.proofs.Resting.{opens_none, untouched_same}
use Rattle.maildir_commands.specs.Commands.{ChangesMaildirs, OfConversion}
use Rattle.maildir_commands.specs.Killed.{CameOut, as_killed, inside}
use Rattle.maildir_commands.specs.Opening.{OpensSource}
use Rattle.maildir_commands.specs.Program.{Does, Done, Ending, Ends, RanOn, Stopped, WritesOut, WrongWords, status_of}
use Rattle.maildir_commands.specs.Seen.{Streams, streams}
use Rattle.maildir_commands.specs.Words.{AreOfAForm}

-- ---- calls of a Maildir that are not made
module _ {s : SeenSystem} {E : Type 0} where
  pub reads_none : {sub : Sub} (result : Result (Vec (String Global) Global) E) → IsErr result → ReadsFolder sub s result s
  reads_none (Ok x) is = absurd (false≢true is)
  reads_none (Err e) is = record { looks = looks_none; passes = λ spared h. passes_none; names = λ spared h. tt; exact = λ q. tt }

  pub stamps_none : {sub : Sub} (result : Result SystemTime E) → IsErr result → ReadsStamp sub s result s
  stamps_none (Ok x) is = absurd (false≢true is)
  stamps_none (Err e) is = record { looks = looks_none; passes = λ spared h. passes_none; stamp = λ spared h. tt }

  pub clocks_none : (result : Result SystemTime E) → IsErr result → ReadsClock s result s
  clocks_none (Ok x) is = absurd (false≢true is)
  clocks_none (Err e) is = record { looks = looks_none; now = λ spared h. tt }

  pub makes_none : {A : Type 0} {name : List ℕ} (result : Result A E) → IsErr result → MakesFile name s result s
  makes_none (Ok x) is = absurd (false≢true is)
  makes_none (Err e) is = record {
    honest = λ spared h. h;
    created = λ spared h. inl acts_none;
    left = λ spared h. left_none;
    still_rooted = λ spared h r. r;
    logs = λ spared h. inr ([], refl);
    touches = touched_same;
    quiet = λ q. q;
    quietly = λ q. ([], tt, refl);
  }

  pub takes_none : {A : Type 0} {call : Call} (result : Result A E) → IsErr result → TakesFromTmp call s result s
  takes_none (Ok x) is = absurd (false≢true is)
  takes_none (Err e) is = record {
    honest = λ spared h. h;
    called = λ spared h. record { moves = []; left = refl };
    left = λ spared h. left_none;
    still_rooted = λ spared h r. r;
    logs = λ spared h. inr ([], refl);
    touches = touched_same;
    quiet = λ q. q;
    quietly = λ q. ([], tt, refl);
  }

  pub asks_none : {A : Type 0} (result : Result A E) → IsErr result → Asks s result s
  asks_none (Ok x) is = absurd (false≢true is)
  asks_none (Err e) is = record {
    honest = λ spared h. tt;
    acts = λ spared h. acts_none;
    left = λ spared h. left_by_no_others;
    still_rooted = λ spared h r. r;
    touches = touched_same;
    quiet = λ q. tt;
    quietly = λ q. refl;
  }

pub appends_none : {s : SeenSystem} {name bytes : List ℕ} {current : Type 0} (result : Result ℕ Error) → IsErr result
    → AppendsToFile name current bytes s result s
appends_none (Ok x) is = absurd (false≢true is)
appends_none (Err e) is = record {
  honest = λ spared h. h;
  appended = λ spared h is. inl acts_none;
  left = λ spared h. left_none;
  still_rooted = λ spared h r. r;
  touches = touched_same;
  quiet = λ q. q;
  quietly = λ q is. inl refl;
}

-- ---- calls of a machine
untouched_killed : {machine : SeenMachine} {old new : HeldMaildir} → Untouched machine old new → Untouched (as_killed machine) old new
untouched_killed untouched = record { rests = untouched.rests; quietly = untouched.quietly }

untouched_alive : {machine : SeenMachine} {old new : HeldMaildir} → Untouched (as_killed machine) old new → Untouched machine old new
untouched_alive untouched = record { rests = untouched.rests; quietly = untouched.quietly }

opens_killed : {old new : SeenMachine} → OpensSources old new → OpensSources (as_killed old) (as_killed new)
opens_killed opens = record {
  honest = opens.honest;
  quiet = opens.quiet;
  texts = opens.texts;
  refusals = λ spared h path refuses. tt;
  maildirs = λ spared h path fault refuses. tt;
  still_open = opens.still_open;
  untouched = λ path. untouched_killed (opens.untouched path);
}

-- a source that was not opened
pub source_refused : {A B E F : Type 0} {remaining : A → Bytes} {of : B → Bytes} {says : E → Type 0} {tells : F → Type 0} {path : List ℕ}
    {answer : Result A E} {old new : SeenMachine} (result : Result B F) → IsErr result → OpensSource remaining says path answer old new
    → OpensSource of tells path result (as_killed old) (as_killed new)
source_refused (Ok x) is opens = absurd (false≢true is)
source_refused (Err e) is opens = record { opens = opens_killed opens.opens; text = λ spared h. tt; refused = λ spared h told. tt }

pub source_none : {B F : Type 0} {of : B → Bytes} {tells : F → Type 0} {path : List ℕ} (machine : SeenMachine) (result : Result B F) → IsErr result
    → OpensSource of tells path result (as_killed machine) (as_killed machine)
source_none machine (Ok x) is = absurd (false≢true is)
source_none machine (Err e) is = record { opens = opens_none; text = λ spared h. tt; refused = λ spared h told. tt }

pub source_opened : {A E F : Type 0} {remaining : A → Bytes} {says : E → Type 0} {tells : F → Type 0} {path : List ℕ} {source : A} {killed : Killed A}
    {old new : SeenMachine} → inside killed ≡ source → OpensSource remaining says path (Ok source) old new
    → OpensSource (λ one. remaining (inside one)) tells path (Ok killed) (as_killed old) (as_killed new)
source_opened {remaining = remaining} same opens = record {
  opens = opens_killed opens.opens;
  text = λ spared h. ap remaining same ∙ opens.text spared h;
  refused = λ spared h. tt;
}

-- a Maildir that was not opened
pub maildir_refused : {A B : Type 0} {opened : A → OpenMaildir} {of : B → OpenMaildir} {path : List ℕ} {fault : OpenFault} {old new : SeenMachine}
    (result : Result B OpenFault) → IsErr result → OpensMaildir opened path (Err fault) old new
    → OpensMaildir of path result (as_killed old) (as_killed new)
maildir_refused (Ok x) is opens = absurd (false≢true is)
maildir_refused (Err e) is opens = record {
  honest = opens.honest;
  quiet = opens.quiet;
  texts = opens.texts;
  refusals = λ spared h path refuses. tt;
  is_open = λ spared h. tt;
  works = λ spared h. tt;
  works_quietly = λ q. tt;
  opens = tt;
  refused = λ spared h. tt;
  untouched = untouched_killed opens.untouched;
  others = λ path other. untouched_killed (opens.others path other);
}

pub maildir_none : {B : Type 0} {of : B → OpenMaildir} {path : List ℕ} {fault : OpenFault} (machine : SeenMachine)
    → OpensMaildir of path (Err fault) (as_killed machine) (as_killed machine)
maildir_none machine = record {
  honest = λ spared h. h;
  quiet = λ q. q;
  texts = λ spared h. refl;
  refusals = λ spared h path refuses. tt;
  is_open = λ spared h. tt;
  works = λ spared h. tt;
  works_quietly = λ q. tt;
  opens = tt;
  refused = λ spared h. tt;
  untouched = untouched_same;
  others = λ path other. untouched_same;
}

pub maildir_opened : {S : Type 0} {opened : S → OpenMaildir} {path : List ℕ} {killed : Killed S} {maildir : S} {old new : SeenMachine}
    → inside killed ≡ maildir → OpensMaildir opened path (Ok maildir) old new
    → OpensMaildir (λ one. opened (inside one)) path (Ok killed) (as_killed old) (as_killed new)
maildir_opened {opened = opened} {path} {killed} {old = old} {new} same opens =
    let those : OpensMaildir opened path (Ok (inside killed)) old new = subst (λ s. OpensMaildir opened path (Ok s) old new) (sym same) opens in
    record {
      honest = those.honest;
      quiet = those.quiet;
      texts = those.texts;
      refusals = λ spared h path refuses. tt;
      is_open = those.is_open;
      works = those.works;
      works_quietly = those.works_quietly;
      opens = untouched_killed those.opens;
      refused = λ spared h. tt;
      untouched = tt;
      others = λ path other. untouched_killed (those.others path other);
    }

-- ---- what came out of what was given
came_prefix : (before given after : Bytes) {lines : List ℕ} → CameOut before after given → AppendsPrefix before given lines
    → AppendsPrefix before after lines
came_prefix None given after {lines} out prefix = ([], lines, refl, tt)
came_prefix (Some b) given None out prefix = absurd out.came_out
came_prefix (Some b) None (Some a) out prefix = absurd out.was_lost
came_prefix (Some b) (Some g) (Some a) out (taken, rest, are, line) =
    let same : b ++ taken ≡ b ++ (out.came ++ out.lost) =
    sym line ∙ (out.was_lost ∙ (ap (λ xs. xs ++ out.lost) out.came_out ∙ append_assoc b out.came out.lost)) in
    (out.came, out.lost ++ rest, are ∙ (ap (λ xs. xs ++ rest) (append_cancel_left b _ _ same) ∙ append_assoc out.came out.lost rest), out.came_out)

came_some : {spared : Spared} {old new : HeldMaildir} {texts : List Text} {before given after : Bytes} → CameOut before after given
    → PrintsSome spared old new texts before given → PrintsSome spared old new texts before after
came_some out some =
    record { n = some.n; reports = some.reports; true_of = some.true_of; safe = some.safe; lines = came_prefix _ _ _ out some.lines }

came_written : {output : List Entry → List ℕ} (file : Option (List ℕ)) {answer : Result Unit Fault} {error : Fault} {old new : SeenMachine}
    {input rest before given after : Bytes} → CameOut before after given
    → WritesOut output file answer (seen_with (as_killed old) input before) (seen_with (as_killed new) rest given)
    → WritesOut output file (Err error) (seen_with old input before) (seen_with new rest after)
came_written None out writes = record {
  all = λ spared known. tt;
  prefix = λ spared known t had entries mbox. came_prefix _ _ _ out (writes.prefix spared known t had entries mbox);
}
came_written (Some file) out writes = record {
  all = λ spared known. tt;
  prefix = λ spared known t had entries mbox. came_prefix _ _ _ out (writes.prefix spared known t had entries mbox);
}

-- ---- a run that was killed, whatever its status would have been
module _ {K M : Type 0} (at : M → SeenMachine) (inner : K → M) {words : List (List ℕ)} {status : ℕ} {old new : K} {was is : Streams}
    (ran : RanOn (λ killed. as_killed (at (inner killed))) words status old new was is) {after : Bytes} (out : CameOut was.output after is.output) where
  some_of : (ending : Ending) → status ≡ status_of ending
      → Ends words ending (seen_at (as_killed (at (inner old))) was) (seen_at (as_killed (at (inner new))) is) was.errors is.errors
      → OfConversion words (seen_with (at (inner old)) was.input was.output) is.input (λ spared into texts.
      PrintsSome spared ((at (inner old)).maildir_at into) ((at (inner new)).maildir_at into) texts was.output after)
  some_of Done done ended = λ spared h into files texts asks given fit sound.
      came_some out (each_some (Keeps-refl is.output) ((ran.true_of spared h into files texts asks given fit sound).each done)
      ((ran.maildirs.delivers spared h into files texts asks given fit sound).leaves.safe done))
  some_of (Stopped fault) stopped ended = λ spared h into files texts asks given fit sound.
      came_some out ((ran.true_of spared h into files texts asks given fit sound).some stopped)
  some_of WrongWords wrong ended = λ spared h into files texts asks given fit sound. absurd (ended.0 (ToConvert into files, asks))

  pub killed_did : ChangesMaildirs words 1 (seen_with (at (inner old)) was.input was.output) (seen_with (at (inner new)) is.input after)
  killed_did = record {
    delivers = λ spared h into files texts asks given fit sound.
        let did = ran.maildirs.delivers spared h into files texts asks given fit sound in
        record {
          leaves = record {
            sound = did.leaves.sound;
            safe = λ done. absurd (cc done);
            printed = λ _. some_safely (some_of ran.ending ran.status_is ran.ran spared h into files texts asks given fit sound);
          };
          swept = λ done. absurd (cc done);
          stay = did.stay;
          still_rooted = did.still_rooted;
        };
    elsewhere = λ path other. untouched_alive (ran.maildirs.elsewhere path other);
    still_honest = λ spared h none. absurd (none refl);
  }

  does_of : (request : Request) {answer : Result Unit Fault}
      → Does request answer (seen_at (as_killed (at (inner old))) was) (seen_at (as_killed (at (inner new))) is)
      → Does request (Err (Run run.OutOfMemory)) (seen_with (at (inner old)) was.input was.output) (seen_with (at (inner new)) is.input after)
  does_of (ToWrite form file) does =
      record { works = came_written file out does.works; cause = λ spared h. tt; unread = does.unread; texts = does.texts }
  does_of (ToConvert maildir files) does = record {
    works = record { printed = tt; touches = does.works.touches; foreign = does.works.foreign };
    cause = λ spared h. tt;
    unread = does.unread;
    texts = does.texts;
  }

  did_of : (ending : Ending)
      → Ends words ending (seen_at (as_killed (at (inner old))) was) (seen_at (as_killed (at (inner new))) is) was.errors is.errors
      → (request : Request) → AskFor words request
      → Does request (Err (Run run.OutOfMemory)) (seen_with (at (inner old)) was.input was.output) (seen_with (at (inner new)) is.input after)
  did_of Done ended request asks = does_of request (ended.0.does request asks)
  did_of (Stopped fault) ended request asks = does_of request (ended.0.does request asks)
  did_of WrongWords ended request asks = absurd (ended.0 (request, asks))

  pub killed_ran : (errors : Bytes) → AreOfAForm words
      → RanOn at words 1 (inner old) (inner new) (streams was.input was.output errors) (streams is.input after errors)
  killed_ran errors form = record {
    ending = Stopped (Run run.OutOfMemory);
    status_is = refl;
    ran = (record { form = form; does = did_of ran.ending ran.ran }, (Err WriteFault, ([], _, refl, Appends-nil errors)));
    maildirs = killed_did;
    true_of = λ spared h into files texts asks given fit sound. record {
      each = λ done. absurd (cc done);
      some = λ _. some_of ran.ending ran.status_is ran.ran spared h into files texts asks given fit sound;
    };
    untouched = λ two. absurd (cc two);
  }
