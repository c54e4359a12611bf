-- The table of messages that are listed one after the other.
use Rattle.std.proofs.Common.{◌≡◌, ℕ, ◌+◌, ◌^◌, ◌<◌, Option, Result, Ok, Err, List, [], ◌∷◌, ◌++◌, length, map, take, drop, get_or}
use Rattle.std.proofs.Common.{refl, arith}
use Rattle.std.proofs.Common.{arith, append_assoc, MatchResult, IsErr, append-nil, length-append, take-append-drop, length-take-le}
use Rattle.maildir_run.proofs.Common.{Appends, Appends-nil, false≢true, length-map, map-append, take_more}
use Rattle.maildir_run.proofs.Common.{Entry, sender, AppendsPrefix, Writes, Target, Counts, Named, targets}
use Rattle.maildir_run.proofs.Common.{length-targets, targets-prefix, HasListed, IsOutput, info, shown_sender}
use Rattle.maildir_run.specs.Folders.{folder_name, folder_of_place}
use Rattle.std.specs.Fmt.{decimal}
use Rattle.maildir_run.specs.Table.{message_row, rows_from, table_of}

-- the bodies of some messages
abbrev pub bodies : List Entry → List (List ℕ)
bodies entries = map (λ entry. entry.body) entries

-- the lines of the first messages come first
pub rows-append : (index : ℕ) (es more : List Entry) (ts others : List Target) → length es ≡ length ts
    → rows_from index (es ++ more) (ts ++ others) ≡ rows_from index es ts ++ rows_from (index + length es) more others
unfolding rows_from
rows-append index [] more [] others e = grind arith
rows-append index [] more (t ∷ ts) others e = absurd (omega (arith, e))
rows-append index (x ∷ es) more [] others e = absurd (omega (arith, e))
rows-append index (x ∷ es) more (t ∷ ts) others e =
    let n : (index + 1) + length es ≡ index + length (x ∷ es) = omega arith in
    let ih = rows-append (index + 1) es more ts others (omega (arith, e)) in
    grind (arith, append_assoc)

targets-parts : (es more : List Entry) → targets (bodies (es ++ more)) ≡ targets (bodies es) ++ drop (length (bodies es)) (targets (bodies (es ++ more)))
targets-parts es more =
    let all : bodies (es ++ more) ≡ bodies es ++ bodies more = map-append (λ entry. entry.body) es more in
    let taken : take (length (bodies es)) (targets (bodies (es ++ more))) ≡ targets (bodies es) = grind (arith, targets-prefix) in
    grind (arith, take-append-drop)

many : (es : List Entry) → length es ≡ length (targets (bodies es))
many es = grind (arith, length-targets, length-map)

pub listing_output : IsOutput table_of
unfolding table_of rows_from
listing_output = record {
  none = refl;
  prefix = λ a b. (
    rows_from (1 + length a) b (drop (length (bodies a)) (targets (bodies (a ++ b)))),
    grind (arith, targets-parts, rows-append, many),
  );
}

-- one more line
pub table-push : (given : List Entry) (e : Entry) (target : Target) → targets (bodies given ++ e.body ∷ []) ≡ targets (bodies given) ++ target ∷ []
    → table_of (given ++ e ∷ []) ≡ table_of given ++ message_row (length given + 1) e target
unfolding table_of rows_from
table-push given e target is = grind (arith, map-append, rows-append, many, append-nil)

-- nothing went out
pub lists_none : (given entries : List Entry) (was : Option (List ℕ))
    → (lines : List ℕ) × (table_of (given ++ entries) ≡ table_of given ++ lines) × AppendsPrefix was was lines
lists_none given entries was = let f = listing_output.prefix given entries in (f.0, f.1, ([], f.0, refl, Appends-nil was))

pub lists_err : {E : Type 0} (r : Result (Unit {0}) E) (given entries : List Entry) (was : Option (List ℕ)) (P : Type 0) → IsErr r
    → (lines : List ℕ) × (table_of (given ++ entries) ≡ table_of given ++ lines) × Writes was was r lines × MatchResult r (λ _. P) (λ _. Unit {0})
lists_err (Ok x) given entries was P e = absurd (false≢true e)
lists_err (Err x) given entries was P e = let n = lists_none given entries was in (n.0, n.1, n.2, tt)

-- one more message was listed
pub listed_more : {given : List Entry} {namer namer' : Counts} {count count' : ℕ} (e : Entry) {body : List ℕ}
    → HasListed given namer count → body ≡ e.body → Named (bodies given ++ body ∷ []) namer' → count' ≡ length given + 1
    → HasListed (given ++ e ∷ []) namer' count'
listed_more {given} e h is named count_goes = grind (arith, map-append, length-append)

-- the messages up to a place were listed
pub record ListedTo (given entries : List Entry) (i : ℕ) (was is : Option (List ℕ)) (namer : Counts) (count : ℕ) : Type 0 where
  pub lines : List ℕ
  pub are : table_of (given ++ take i entries) ≡ table_of given ++ lines
  pub out : Appends was is lines
  pub has_listed : HasListed (given ++ take i entries) namer count

module _ (given entries : List Entry) (i : ℕ) (e : Entry) where
  next : i < length entries → e ≡ get_or entries i e → (given ++ take i entries) ++ e ∷ [] ≡ given ++ take (i + 1) entries
  next l is = grind (arith, append_assoc, take_more)

  after : i < length entries → e ≡ get_or entries i e → given ++ entries ≡ ((given ++ take i entries) ++ e ∷ []) ++ drop (i + 1) entries
  after l is = grind (arith, take-append-drop, append_assoc, next)

  pub listed_to_more : (was is is' : Option (List ℕ)) (namer namer' : Counts) (count count' : ℕ) (line : List ℕ) → i < length entries → e ≡ get_or entries i e
      → (t : ListedTo given entries i was is namer count) → table_of ((given ++ take i entries) ++ e ∷ []) ≡ table_of (given ++ take i entries) ++ line
      → Appends is is' line → HasListed ((given ++ take i entries) ++ e ∷ []) namer' count' → ListedTo given entries (i + 1) was is' namer' count'
  listed_to_more was is is' namer namer' count count' line l at t eq out h = grind (arith, next, append_assoc)

  pub listed_to_prefix : (was is is' : Option (List ℕ)) (namer : Counts) (count : ℕ) (line : List ℕ) → i < length entries → e ≡ get_or entries i e
      → (t : ListedTo given entries i was is namer count) → table_of ((given ++ take i entries) ++ e ∷ []) ≡ table_of (given ++ take i entries) ++ line
      → AppendsPrefix is is' line → (lines : List ℕ) × (table_of (given ++ entries) ≡ table_of given ++ lines) × AppendsPrefix was is' lines
  listed_to_prefix was is is' namer count line l at t eq out =
      let b = after l at in
      let f = listing_output.prefix ((given ++ take i entries) ++ e ∷ []) (drop (i + 1) entries) in
      grind (arith, append_assoc)

-- the line from its parts
pub row-is : (index size : ℕ) (entry : Entry) (target : Target) (prefix sent line line' line'' : List ℕ)
    → prefix ≡ decimal index ++ 32 ∷ (target.base ++ 32 ∷ (folder_name (folder_of_place target.place)
    ++ 32 ∷ (info target.name ++ 32 ∷ (decimal size ++ 32 ∷ []))))
    → size ≡ length entry.body → line ≡ prefix → sent ≡ sender entry.from_line
    → line' ≡ line ++ shown_sender sent → line'' ≡ line' ++ 10 ∷ [] → line'' ≡ message_row index entry target
unfolding message_row
row-is index size entry target prefix sent line line' line'' is_prefix is_size is_line is_sent is_more is_all = grind (arith, append_assoc)

pub lists_broken : {E : Type 0} (r : Result (Unit {0}) E) (given entries : List Entry) (was is : Option (List ℕ)) (P : Type 0) → IsErr r
    → (lines : List ℕ) × (table_of (given ++ entries) ≡ table_of given ++ lines) × AppendsPrefix was is lines
    → (lines : List ℕ) × (table_of (given ++ entries) ≡ table_of given ++ lines) × Writes was is r lines × MatchResult r (λ _. P) (λ _. Unit {0})
lists_broken r given entries was is w e h = grind (arith, false≢true)

-- there is room for one more
pub room : (given entries : List Entry) (i : ℕ) (e : Entry) → i < length entries
    → length (given ++ entries) < 2 ^ 63 → length ((given ++ take i entries) ++ e ∷ []) < 2 ^ 63
room given entries i e l h = grind (arith, length-append, length-take-le)
