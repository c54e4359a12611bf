-- Several texts that are delivered one after the other.
use Rattle.std.proofs.Common.{◌≡◌, ℕ, suc, ◌+◌, ◌<◌, ◌≤◌, ◌⊎◌, List, [], ◌∷◌, ◌++◌, length, get_or, map, take, All, Some, None}
use Rattle.std.proofs.Common.{Result, OnOk, OnErr, Ok, Err, refl, sym, ap, subst, ◌∙◌, inl, inr, arith, add-one, append-nil, append_assoc}
use Rattle.maildir_commands.proofs.Common.{All-cons, All-nil, All-take, Appends, Appends-kept, Appends-nil, Appends-trans, AppendsPrefix, Spared, SparesAll}
use Rattle.maildir_commands.proofs.Common.{AreAlike, AreAllSafe, AreFit, AreSafe, AreTrueOf, Bytes, DeliversOne, Files, HasAlso, HeldMaildir}
use Rattle.maildir_commands.proofs.Common.{HasItsMessages, IsSafeIn, IsSoundFor, Text, OthersStay, Possible, PrintsEach, PrintsOne, PrintsReport}
use Rattle.maildir_commands.proofs.Common.{ReportsMessages}
use Rattle.maildir_commands.proofs.Common.{PrintsSome, ReadsAtMost, Report, Rests, Stays, bytes_of, cases_order, flat_map, flat_map-append, get_or-map}
use Rattle.maildir_commands.proofs.Common.{get_or-take, get_or_default, length-map, length-take, report_line, take_all, take_more}
use Rattle.std.specs.Io.KnownBytes.{Keeps}
use Rattle.maildir_run.specs.Delivery.{Message, AreNamed, IsSwept, has_home, leftover_count}
use Rattle.maildir_disk.proofs.Kept.Others.{stays_acted, stays_then}
use Rattle.maildir_commands.proofs.SameMessages.{named_of}
use Rattle.maildir_commands.proofs.Known.{Agree, also_agree, also_all, also_all-last, left_after, rests_has, rests_left, swept_none}
use Rattle.maildir_commands.proofs.Known.{report_agree, reports_agree, reports_more}

-- the text of this number, and a text for places past a list's end
abbrev no_text : Text
no_text = record { bytes = []; messages = [] }

abbrev pub text_at : List Text → ℕ → Text
text_at texts n = get_or texts n no_text

all_one : {X : Type 0} (P : X → Type 0) {x : X} → P x → All P (x ∷ [])
all_one P {x} h = All-cons P x [] h (All-nil P)

-- ---- a source that is read
-- what is read of an opened file is its text, under its own word and as it was at first
pub text_read : {reads : Bytes} {now was : List ℕ → List ℕ} {word file : List ℕ}
    → reads ≡ Some (now word) → now ≡ was → word ≡ file → reads ≡ Some (was file)
text_read {was = was} {word} is same named = is ∙ ap Some (ap (λ text_of. text_of word) same ∙ ap was named)

-- the text of a source is possible, however far it was read
pub possible_whole : (before after : Bytes) {most : ℕ} {t : List ℕ} → before ≡ Some t → ReadsAtMost before after most → Possible before after t
possible_whole None after e reads = cc
possible_whole (Some xs) None e reads = absurd reads.1
possible_whole (Some xs) (Some left) {t} e reads =
    let same : xs ≡ t = cc in
    record {
      read = reads.0;
      left = left;
      more = left;
      had = ap Some reads.1;
      has = refl;
      prefix = sym same ∙ reads.1;
      whole = λ e. e;
    }

-- ---- other messages
no_stay : {spared : Spared} {others : List Message} {s : Files} {left : Files → Type 0} → Stays spared others s left s left
no_stay = record { sound = λ h. h; intact = λ h. h; home = λ h. h; survive = λ h. h }

rest_of : {spared : Spared} {others : List Message} → AreNamed others → {old new : HeldMaildir} → Rests spared old new
    → Stays spared others old.files old.may_leave new.files new.may_leave
rest_of {others} named rests = stays_acted others named rests.actions _ _ _ _ rests.files_are rests.left

pub stay_rest : {spared : Spared} (texts : List Text) {old new : HeldMaildir} → Rests spared old new → OthersStay spared texts old new
stay_rest texts rests = λ others named alike. rest_of named rests

pub stay_both : {spared : Spared} (texts : List Text) (a b c : HeldMaildir) → OthersStay spared texts a b → OthersStay spared texts b c
    → OthersStay spared texts a c
stay_both texts a b c first then = λ others named alike.
    stays_then others a.files a.may_leave b.files b.may_leave c.files c.may_leave (first others named alike) (then others named alike)

-- safe messages stay so
pub safe_stay : {spared : Spared} {ms : List Message} (old new : HeldMaildir) → Stays spared ms old.files old.may_leave new.files new.may_leave
    → (old.rooted → new.rooted)
    → AreSafe spared ms old.files old.may_leave old.rooted → AreSafe spared ms new.files new.may_leave new.rooted
safe_stay old new stays rooted was = record { home = stays.home was.home; survive = stays.survive was.survive; is_rooted = rooted was.is_rooted }

named_all : (texts : List Text) → All HasItsMessages texts → All (λ text. AreNamed text.messages) texts
named_all texts are k d below = named_of (are k d below)

-- ---- while nothing is done
module _ {spared : Spared} (texts : List Text) (are : All HasItsMessages texts) {old new : HeldMaildir} (rests : Rests spared old new) where
  rest_stays : (k : ℕ) (d : Text) → k < length texts → Stays spared (get_or texts k d).messages old.files old.may_leave new.files new.may_leave
  rest_stays k d below = rest_of (named_all texts are k d below) rests

  pub rest_sound : IsSoundFor spared texts old → IsSoundFor spared texts new
  rest_sound is = record {
    sound = λ k d below. (rest_stays k d below).sound (is.sound k d below);
    intact = λ k d below. (rest_stays k d below).intact (is.intact k d below);
  }

  pub rest_all_safe : AreAllSafe spared texts old → AreAllSafe spared texts new
  rest_all_safe safe k d below = safe_stay old new (rest_stays k d below) rests.still_rooted (safe k d below)

  -- a Maildir at rest before the texts are delivered, and after it
  rest_true : (reports : List Report) → AreTrueOf spared new.files texts reports → AreTrueOf spared old.files texts reports
  rest_true =
      reports_agree spared (has_home old.files) (has_home new.files) (λ b named. sym (rests_has rests b named)) _ _ (rests_left spared rests)
      texts (named_all texts are)

  pub rest_each : {was is : Bytes} → PrintsEach spared new texts was is → PrintsEach spared old texts was is
  rest_each prints = record { reports = prints.reports; true_of = rest_true prints.reports prints.true_of; lines = prints.lines }

pub rest_some : {spared : Spared} (texts : List Text) → All HasItsMessages texts → {old ready work new : HeldMaildir} {was is : Bytes}
    → Rests spared old ready → Rests spared work new → PrintsSome spared ready work texts was is → PrintsSome spared old new texts was is
rest_some texts are rests closes prints =
    let first = All-take HasItsMessages prints.n texts are in
    record {
      n = prints.n;
      reports = prints.reports;
      true_of = rest_true (take prints.n texts) first rests prints.reports prints.true_of;
      safe = rest_all_safe (take prints.n texts) first closes prints.safe;
      lines = prints.lines;
    }

-- ---- nothing was delivered
pub none_some : {spared : Spared} {texts : List Text} {old new : HeldMaildir} {was is : Bytes} → Keeps was is → PrintsSome spared old new texts was is
none_some {spared} {new} {was} {is} keeps = record {
  n = 0;
  reports = [];
  true_of = tt;
  safe = All-nil (IsSafeIn spared new);
  lines = ([], [], refl, Appends-kept was was is [] (Appends-nil was) keeps);
}

-- ---- how far several texts are
-- The Maildir is sound for all of them, so many are safe, and their lines were written.
pub record UpTo (spared : Spared) (n : ℕ) (texts : List Text) (start now : HeldMaildir) (was is : Bytes) : Type 0 where
  pub sound : IsSoundFor spared texts now
  pub safe : (k : ℕ) (d : Text) → k < n → k < length texts → IsSafeIn spared now (get_or texts k d)
  pub has : Agree spared (has_home now.files) (also_all (has_home start.files) (take n texts))
  pub left : SparesAll spared → leftover_count now.files ≤ left_after (leftover_count start.files) (take n texts)
  pub reports : List Report
  pub true_of : AreTrueOf spared start.files (take n texts) reports
  pub lines : Appends was is (flat_map report_line reports)
  pub stay : OthersStay spared texts start now
  pub still_rooted : start.rooted → now.rooted
  pub swept : 0 < n → IsSwept spared now.files

pub none_printed : {spared : Spared} {texts : List Text} {start : HeldMaildir} {was : Bytes} → IsSoundFor spared texts start
    → UpTo spared 0 texts start start was was
none_printed {was = was} sound = record {
  sound = sound;
  safe = λ k d lt below. absurd (omega (arith, lt));
  has = λ b named. refl;
  left = λ all. omega arith;
  reports = [];
  true_of = tt;
  lines = Appends-nil was;
  stay = λ others named alike. no_stay;
  still_rooted = λ h. h;
  swept = λ some. absurd (omega (arith, some));
}

last_or : {k n : ℕ} → k < n + 1 → (k < n) ⊎ (k ≡ n)
last_or {k} {n} lt = elim (cases_order k n) as (λ _. (k < n) ⊎ (k ≡ n)) [
  | inl same ↦ inr same
  | inr (inl before) ↦ inl before
  | inr (inr after) ↦ absurd (omega arith)
]

-- lines, and one more or a prefix of it
pub prefix_of_all : (was is : Bytes) {bytes : List ℕ} → Appends was is bytes → AppendsPrefix was is bytes
prefix_of_all was is {bytes} all = (bytes, [], sym (append-nil bytes), all)

module _ (was mid is : Bytes) (reports : List Report) (report : Report) (before : Appends was mid (flat_map report_line reports)) where
  lines_of : flat_map report_line (reports ++ report ∷ []) ≡ flat_map report_line reports ++ report_line report
  lines_of = flat_map-append report_line reports (report ∷ []) ∙ ap (λ bytes. flat_map report_line reports ++ bytes) (append-nil (report_line report))

  more_lines : Appends mid is (report_line report) → Appends was is (flat_map report_line (reports ++ report ∷ []))
  more_lines line = subst (Appends was is) (sym lines_of) (Appends-trans was mid is (flat_map report_line reports) (report_line report) before line)

  more_prefix : AppendsPrefix mid is (report_line report) → AppendsPrefix was is (flat_map report_line (reports ++ report ∷ []))
  more_prefix (taken, rest, are, line) = (
    flat_map report_line reports ++ taken,
    rest,
    lines_of ∙ (ap (λ bytes. flat_map report_line reports ++ bytes) are ∙ sym (append_assoc (flat_map report_line reports) taken rest)),
    Appends-trans was mid is (flat_map report_line reports) taken before line,
  )

-- of the first texts
first_safe : {spared : Spared} (texts : List Text) {n : ℕ} (now : HeldMaildir)
    → ((k : ℕ) (d : Text) → k < n → k < length texts → IsSafeIn spared now (get_or texts k d)) → AreAllSafe spared (take n texts) now
first_safe {spared} texts {n} now safe k d below =
    let most = length-take n texts in
    let lt : k < n = omega (arith, below, most) in
    subst (IsSafeIn spared now) (sym (get_or-take n texts k d lt)) (safe k d lt (omega (arith, below, most)))

-- what the delivery of the next one leaves
module _ {spared : Spared} {texts : List Text} (fit : AreFit texts) {n : ℕ} (inside : n < length texts) {start old new : HeldMaildir} {was mid is : Bytes}
    (up : UpTo spared n texts start old was mid) {A E : Type 0} {answer : Result A E} (one : DeliversOne spared answer (text_at texts n) old new mid is) where
  others_at : (k : ℕ) (d : Text) → k < length texts → Stays spared (get_or texts k d).messages old.files old.may_leave new.files new.may_leave
  others_at k d below =
      one.stays (get_or texts k d).messages (named_all texts fit.are k d below)
      (all_one (λ (t : Text). AreAlike (get_or texts k d).messages t.messages) (fit.alike k d below n no_text inside))

  pub stay_more : OthersStay spared texts start new
  stay_more = λ others named alike.
      stays_then others _ _ _ _ _ _ (up.stay others named alike)
      (one.stays others named (all_one (λ (t : Text). AreAlike others t.messages) (alike n no_text inside)))

  pub sound_more : IsSoundFor spared texts new
  sound_more = record {
    sound = λ k d below. (others_at k d below).sound (up.sound.sound k d below);
    intact = λ k d below. (others_at k d below).intact (up.sound.intact k d below);
  }

  -- those that are safe, and one more
  still_safe : (k : ℕ) (d : Text) → k < n → k < length texts → IsSafeIn spared new (get_or texts k d)
  still_safe k d less below = safe_stay old new (others_at k d below) one.still_rooted (up.safe k d less below)

  safe_more : IsSafeIn spared new (text_at texts n) → (k : ℕ) (d : Text) → k < n + 1 → k < length texts → IsSafeIn spared new (get_or texts k d)
  safe_more last k d lt below =
      elim (last_or lt) as (λ _. IsSafeIn spared new (get_or texts k d)) [
        | inl less ↦ still_safe k d less below
        | inr same ↦ subst (IsSafeIn spared new) (ap (text_at texts) (sym same) ∙ get_or_default texts k no_text d below) last
      ]

  more : take (n + 1) texts ≡ take n texts ++ text_at texts n ∷ []
  more = take_more texts n no_text inside

  true_more : {report : Report} → ReportsMessages spared (text_at texts n).messages old.files report
      → AreTrueOf spared start.files (take (n + 1) texts) (up.reports ++ report ∷ [])
  true_more {report} is_true =
      subst (λ ts. AreTrueOf spared start.files ts (up.reports ++ report ∷ [])) (sym more)
      (reports_more spared (has_home start.files) _ _ _ _ up.true_of
      (report_agree spared (λ b named. sym (up.has b named)) up.left (named_all texts fit.are n no_text inside) is_true))

  -- one text more
  pub one_more : IsSafeIn spared new (text_at texts n)
      → PrintsReport mid is (ReportsMessages spared (text_at texts n).messages old.files)
      → HasAlso spared (text_at texts n).messages old.files new.files → IsSwept spared new.files → UpTo spared (n + 1) texts start new was is
  one_more safe line known swept =
      let first = has_home start.files in
      record {
        sound = sound_more;
        safe = safe_more safe;
        has = λ b named.
            known b named ∙ (also_agree spared (has_home old.files) (also_all first (take n texts)) up.has (text_at texts n) b named
            ∙ (ap (λ f. f b) (sym (also_all-last first (take n texts) (text_at texts n))) ∙ ap (λ ts. also_all first ts b) (sym more)));
        left = λ all. let none = swept_none spared all new.files swept in omega (arith, none);
        reports = up.reports ++ line.report ∷ [];
        true_of = true_more line.said;
        lines = more_lines was mid is _ _ up.lines line.line;
        stay = stay_more;
        still_rooted = λ h. one.still_rooted (up.still_rooted h);
        swept = λ some. swept;
      }

  -- and then a text that is not delivered, or whose line was not written whole
  pub then_stopped : Keeps mid is ⊎ PrintsOne spared old new (text_at texts n) mid is → PrintsSome spared start new texts was is
  then_stopped (inl keeps) = record {
    n = n;
    reports = up.reports;
    true_of = up.true_of;
    safe = first_safe texts new still_safe;
    lines = prefix_of_all was is (Appends-kept was mid is (flat_map report_line up.reports) up.lines keeps);
  }
  then_stopped (inr last) = record {
    n = n + 1;
    reports = up.reports ++ last.report ∷ [];
    true_of = true_more last.true_of;
    safe = first_safe texts new (safe_more last.safe);
    lines = more_prefix was mid is _ _ up.lines last.line;
  }

module _ {spared : Spared} {n : ℕ} {texts : List Text} {start now : HeldMaildir} {was is : Bytes} (up : UpTo spared n texts start now was is) where
  -- the next text could not be opened
  pub stopped_between : PrintsSome spared start now texts was is
  stopped_between =
      record { n = n; reports = up.reports; true_of = up.true_of; safe = first_safe texts now up.safe; lines = prefix_of_all was is up.lines }

  -- at the end
  pub all_safe : length texts ≤ n → AreAllSafe spared texts now
  all_safe most k d below = up.safe k d (omega (arith, below, most)) below

  pub all_each : length texts ≤ n → PrintsEach spared start texts was is
  all_each most =
      record { reports = up.reports; true_of = subst (λ ts. AreTrueOf spared start.files ts up.reports) (take_all n texts most) up.true_of; lines = up.lines }

-- ---- the bytes of texts
bytes_at : (texts : List Text) {all : List (List ℕ)} → bytes_of texts ≡ all
    → {n : ℕ} (x : List ℕ) → n < length texts → (text_at texts n).bytes ≡ get_or all n x
bytes_at texts e {n} x inside = sym (get_or-map (λ (text : Text). text.bytes) texts n no_text x inside) ∙ ap (λ xs. get_or xs n x) e

-- the first text, and those after it
module _ (texts : List Text) {text : List ℕ} (f : List ℕ → List ℕ) (rest : List (List ℕ)) (are : bytes_of texts ≡ text ∷ map f rest) where
  pub after_length : length texts ≡ length rest + 1
  after_length = sym (length-map texts (λ (text : Text). text.bytes)) ∙ (ap length are ∙ (ap suc (length-map rest f) ∙ sym (add-one _)))

  pub first_text : text ≡ (text_at texts 0).bytes
  first_text = sym (bytes_at texts are text (omega (arith, after_length)))

  pub text_after : {i : ℕ} {x : List ℕ} → i < length rest → get_or rest i x ≡ x → f x ≡ (text_at texts (i + 1)).bytes
  text_after {i} {x} below at =
      let inside : i + 1 < length texts = omega (arith, after_length, below) in
      sym (bytes_at texts are (f x) inside ∙ rw add-one (get_or-map f rest i x (f x) below ∙ ap f at))

-- what follows from what an answer says
pub on_ok_then : {A E : Type 0} (answer : Result A E) {P Q : Type 0} → (P → Q) → OnOk answer P → OnOk answer Q
on_ok_then (Ok x) f h = f h
on_ok_then (Err e) f h = tt

pub on_err_then : {A E : Type 0} (answer : Result A E) {P Q : Type 0} → (P → Q) → OnErr answer P → OnErr answer Q
on_err_then (Ok x) f h = tt
on_err_then (Err e) f h = f h

pub both_of : {A E : Type 0} (answer : Result A E) (P Q : Type 0) → OnOk answer P → OnOk answer Q → OnOk answer (P × Q)
both_of (Ok x) P Q p q = (p, q)
both_of (Err e) P Q p q = tt
