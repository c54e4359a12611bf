use Rattle.mbox_text.proofs.Common.{◌+◌, ◌-◌, take, drop, refl, sym, ◌∙◌, arith, take_rest, drop-drop, pushed}
use Rattle.mbox_text.proofs.TextLines.LineEnds.{none-there}
use Rattle.mbox_text.proofs.Splitting.Runs.{taken_none, taken_found, taken_line, taken_rest}
use Rattle.mbox_text.proofs.body.take_lines.Goals as goal

pub loop-n-init : goal.loop-n-init
loop-n-init c = taken_none

pub loop-n-preserved : goal.loop-n-preserved
loop-n-preserved c =
    let text = c.args.text.now in
    let at = c.loop-n.at in
    let n = c.in-Some.n in
    let copied = pushed (take ((at + n) - at) (drop at text)) refl c.in_ok-extend_from_slice.was c.extend_from_slice.ensures.items in
    let t = taken_found c.loop-n.invariant c.in-Some.ensures copied in
    taken_line t c.in-Some-memchr.ensures
    (sym c.begins_with_from.ensures ∙ c.if-begins_with_from.false) c.in_ok-add_unquoted-in-Some-memchr.ensures

pub returns-then-begins_with_from : goal.returns-then-begins_with_from
returns-then-begins_with_from c =
    let text = c.args.text.now in
    let at = c.loop-n.at in
    let n = c.in-Some.n in
    let copied = pushed (take ((at + n) - at) (drop at text)) refl c.in_ok-extend_from_slice.was c.extend_from_slice.ensures.items in
    let t = taken_found c.loop-n.invariant c.in-Some.ensures copied in
    grind (arith, take_rest text (at + n))

pub returns-in-None : goal.returns-in-None
returns-in-None c =
    let text = c.args.text.now in
    let at = c.loop-n.at in
    let n = c.in-Some.n in
    let copied = pushed (take ((at + n) - at) (drop at text)) refl c.in_ok-extend_from_slice.was c.extend_from_slice.ensures.items in
    let t = taken_found c.loop-n.invariant c.in-Some.ensures copied in
    grind (arith, none-there, take_rest text (at + n))

pub returns : goal.returns
returns c =
    let text = c.args.text.now in
    let at = c.loop-n.at in
    let n = c.whole_len-n.result in
    let w = c.whole_len-n.ensures in
    let copied = pushed (take ((at + n) - at) (drop at text)) refl c.in_ok-extend_from_slice-2.was c.extend_from_slice-2.ensures.items in
    let t = taken_rest c.loop-n.invariant w.within w.ended c.in_default.ensures copied in
    grind (arith, take_rest text at, drop-drop)
