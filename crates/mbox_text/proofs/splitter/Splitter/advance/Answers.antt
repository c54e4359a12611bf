use Rattle.mbox_text.proofs.Common.{◌≡◌, ℕ, ◌+◌, ◌-◌, ◌++◌, List, [], ◌∷◌, length, take, drop, arith, ap, ◌∙◌, sym, append_assoc, refl, append-nil}
use Rattle.mbox_text.proofs.Common.{take-append-drop, take_rest, OutOfMemory}
use Rattle.mbox_text.proofs.TextLines.LineEnds.{line-there, none-there}
use Rattle.mbox_text.proofs.Splitting.Giving.{gives_none, gives_nothing, gives_then, stops_at, handed_on}
use Rattle.mbox_text.proofs.Splitting.Fields.{take-at, three-parts}
use Rattle.mbox_text.proofs.splitter.Splitter.advance.Goals as goal

pub add_part-requires : goal.add_part-requires
add_part-requires c = (line-there c.in-Some.ensures).part

pub add_part-requires-in-None : goal.add_part-requires-in-None
add_part-requires-in-None c = none-there _ c.in-None.ensures

pub returns-in_ok-end_line-in-Some-clause-moved : goal.returns-in_ok-end_line-in-Some-clause-moved
returns-in_ok-end_line-in-Some-clause-moved c =
    let text = c.args.text.now in
    let at = c.in_ok-at.at in
    let n = c.in-Some.n in
    let rest = take (length text - at) (drop at text) in
    let h = line-there c.in-Some.ensures in
    let T = λ (m : ℕ). take m text in
    let A = λ (z : List ℕ). take at text ++ z in
    let size : at + n + 1 ≡ at + (n + 1) = omega arith in
    let prefix = ap T size ∙ take-at text at (n + 1) ∙ ap A h.is ∙ sym (append_assoc (take at text) (take n rest) (10 ∷ [])) in
    let g = gives_then c.args.self.now c.take_body_lines.new.self c.add_part.new.self _ _ _
    (gives_none c.args.self.now c.take_body_lines.new.self _ refl c.in_ok-at.ensures.held) c.in_ok-add_part-in-Some.ensures.moved in
    rw prefix (gives_then c.args.self.now c.add_part.new.self c.end_line.new.self _ _ _ g
    (gives_none c.add_part.new.self c.end_line.new.self _ refl c.in_ok-end_line-in-Some.ensures.moved))

pub returns-in_err-at-clause-stopped : goal.returns-in_err-at-clause-stopped
returns-in_err-at-clause-stopped c =
    handed_on _ _ c.from_residual.ensures
    (stops_at OutOfMemory c.args.self.now c.args.self.now [] [] c.args.text.now _ _ (gives_nothing c.args.self.now) tt refl)

pub returns-in_err-add_part-in-Some-clause-stopped : goal.returns-in_err-add_part-in-Some-clause-stopped
returns-in_err-add_part-in-Some-clause-stopped c =
    let text = c.args.text.now in
    let at = c.in_ok-at.at in
    let n = c.in-Some.n in
    let rest = take (length text - at) (drop at text) in
    let g = gives_none c.args.self.now c.take_body_lines.new.self (take at text) c.in_err-add_part-in-Some.ensures.kept c.in_ok-at.ensures.held in
    handed_on _ _ c.from_residual-in_err-add_part-in-Some.ensures
    (stops_at _ _ _ _ _
    _ _ _ g c.in_err-add_part-in-Some.ensures.stopped (three-parts at n))

pub returns-in_err-end_line-in-Some-clause-stopped : goal.returns-in_err-end_line-in-Some-clause-stopped
returns-in_err-end_line-in-Some-clause-stopped c =
    let text = c.args.text.now in
    let at = c.in_ok-at.at in
    let n = c.in-Some.n in
    let rest = take (length text - at) (drop at text) in
    let h = line-there c.in-Some.ensures in
    let W = λ (z : List ℕ). take at text ++ (z ++ drop (n + 1) rest) in
    let is : text ≡ (take at text ++ take n rest) ++ ((10 ∷ []) ++ drop (n + 1) rest) = three-parts at (n + 1) ∙ ap W h.is ∙ (simp append_assoc) in
    let g = gives_then c.args.self.now c.take_body_lines.new.self c.add_part.new.self _ _ _
    (gives_none c.args.self.now c.take_body_lines.new.self _ refl c.in_ok-at.ensures.held) c.in_ok-add_part-in-Some.ensures.moved in
    handed_on _ _ c.from_residual-in_err-end_line-in-Some.ensures
    (stops_at _ _ _ _
    _ _ _ _ g c.in_err-end_line-in-Some.ensures.stopped is)

pub returns-in_err-add_part-in-None-clause-stopped : goal.returns-in_err-add_part-in-None-clause-stopped
returns-in_err-add_part-in-None-clause-stopped c = grind (
  arith,
  handed_on,
  stops_at,
  gives_none c.args.self.now c.take_body_lines.new.self (take c.in_ok-at.at c.args.text.now) c.in_err-add_part-in-None.ensures.kept c.in_ok-at.ensures.held,
  append-nil (take (length c.args.text.now - c.in_ok-at.at) (drop c.in_ok-at.at c.args.text.now)),
  take_rest c.args.text.now c.in_ok-at.at,
  take-append-drop c.in_ok-at.at c.args.text.now,
)
