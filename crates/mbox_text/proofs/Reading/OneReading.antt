-- A text is in `Mbox` with one list of entries.
use Rattle.mbox_text.proofs.Common.{◌≡◌, ℕ, true, List, [], ◌∷◌, ◌++◌, refl, sym, ◌∙◌, append_assoc, inl, inr, ◌⊎◌, flat_map, append-nil, arith}
use Rattle.mbox_text.proofs.Common.{both_ways, Entry, lines, Ended, begins_from, unquoted, without_blank, NoFrom, unended, Mbox}
use Rattle.mbox_text.proofs.TextLines.LineLemmas.{lines-append}

-- the lines of a message, and the lines after it
pub record Split (ls : List (List ℕ)) (entry : Entry) (rest : List (List ℕ)) : Type 0 where
  pub first : List ℕ
  pub others : List (List ℕ)
  pub is : ls ≡ first ∷ (others ++ rest)
  pub head : begins_from first ≡ true
  pub tail : NoFrom others
  pub from_line : entry.from_line ≡ unended first
  pub body : entry.body ≡ flat_map unquoted (without_blank others)

-- these lines are the lines of these messages' blocks
abbrev pub LinesRead : List (List ℕ) → List Entry → Type 0
LinesRead ls [] = ls ≡ []
LinesRead ls (entry ∷ entries) = (rest : List (List ℕ)) × Split ls entry rest × LinesRead rest entries

-- no line is there, or the first begins a message
abbrev HeadWritten : List (List ℕ) → Type 0
HeadWritten [] = Unit {0}
HeadWritten (l ∷ ls) = begins_from l ≡ true

reads-headed : (ls : List (List ℕ)) (entries : List Entry) → LinesRead ls entries → HeadWritten ls
reads-headed ls [] h = rw h tt
reads-headed ls (entry ∷ entries) h = let s = h.1 in rw s.is s.head

-- lines that begin no message, up to one that does, are cut off in one way
cut_one : (others others' : List (List ℕ)) {rest rest' : List (List ℕ)} → NoFrom others → NoFrom others' → HeadWritten rest → HeadWritten rest'
    → others ++ rest ≡ others' ++ rest' → (others ≡ others') × (rest ≡ rest')
cut_one [] [] n n' h h' e = (refl, e)
cut_one [] (o ∷ os) n n' h h' e = grind (arith, both_ways)
cut_one (o ∷ os) [] n n' h h' e = grind (arith, both_ways)
cut_one (o ∷ os) (o' ∷ os') {rest} {rest'} n n' h h' e = grind (arith, cut_one os os' n.1 n'.1 h h' cc)

entry-one : {e f : Entry} → e.from_line ≡ f.from_line → e.body ≡ f.body → e ≡ f
entry-one a b = grind arith

-- the lines of messages, with such lines after them, are none or the first begins a message
headed-append : (ls tail : List (List ℕ)) (entries : List Entry) → LinesRead ls entries → HeadWritten tail → HeadWritten (ls ++ tail)
headed-append [] tail entries h b = b
headed-append (l ∷ ls) tail entries h b = reads-headed (l ∷ ls) entries h

-- the messages of the first lines are the first messages of all lines
pub reads-append : (ls tail : List (List ℕ)) (given entries : List Entry) → LinesRead ls given → HeadWritten tail → LinesRead (ls ++ tail) entries
    → (rest : List Entry) × (entries ≡ given ++ rest) × LinesRead tail rest
reads-append ls tail [] entries r b h = (entries, refl, rw r at h)
reads-append ls tail (g ∷ gs) [] r b h = let e = rw (r.1.is) at h in absurd (cc)
reads-append ls tail (g ∷ gs) (e ∷ es) r b h = grind (
  arith,
  reads-append r.0 tail gs es r.2 b,
  cut_one r.1.others h.1.others r.1.tail h.1.tail (headed-append r.0 tail gs r.2 b) (reads-headed h.0 es h.2),
  entry-one,
  append_assoc,
)

joined : {block : List ℕ} (rest : List ℕ) (entries : List Entry) → Ended block ⊎ (entries ≡ [])
    → Mbox rest entries → lines (block ++ rest) ≡ lines block ++ lines rest
unfolding Mbox lines
joined rest entries (inl e) h = lines-append rest e
joined {block} rest [] (inr e) h = grind (arith, append-nil)
joined rest (f ∷ fs) (inr e) h = absurd (cc)

pub mbox-reads : (text : List ℕ) (entries : List Entry) → Mbox text entries → LinesRead (lines text) entries
unfolding Mbox lines
mbox-reads text [] h = rw h refl
mbox-reads text (entry ∷ entries) h = grind (arith, mbox-reads h.1 entries h.5, joined)

-- without lines there are no messages
none-left : (rest : List Entry) → LinesRead [] rest → rest ≡ []
none-left [] h = refl
none-left (e ∷ es) h = let is = h.1.is in absurd (cc)

pub mbox-one : (text : List ℕ) (entries others : List Entry) → Mbox text entries → Mbox text others → entries ≡ others
mbox-one text entries others h h' =
    let r = reads-append _ [] entries others (mbox-reads text entries h) tt (rw (append-nil (lines text)) (mbox-reads text others h')) in
    sym (r.1 ∙ rw (none-left r.0 r.2) (append-nil entries))
