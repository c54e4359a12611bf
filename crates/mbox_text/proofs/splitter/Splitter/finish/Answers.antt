use Rattle.mbox_text.proofs.Common.{◌++◌, vec_len, ap, sym, ◌∙◌, arith, Ok, Some, rules, eqb-true, eqb-false, nil_from_length, PartialMessage, chopped}
use Rattle.mbox_text.proofs.Common.{unquoted}
use Rattle.mbox_text.proofs.Faults.{ok_no_err, memory_no_line}
use Rattle.mbox_text.proofs.Splitting.Finishing.{ends_body, ends_head, ends_none, ends_some, not_short_body, not_short_head, short_none, short_refused}
use Rattle.mbox_text.proofs.splitter.Splitter.finish.Goals as goal

pub returns-in_err-close_with-in-Some-clause-no_from_line : goal.returns-in_err-close_with-in-Some-clause-no_from_line
returns-in_err-close_with-in-Some-clause-no_from_line c = search (rules, not_short_body, memory_no_line)

pub returns-then-is_empty-clause-last : goal.returns-then-is_empty-clause-last
returns-then-is_empty-clause-last c = grind (arith, ends_none, nil_from_length, eqb-true)

pub returns-then-is_empty-clause-no_from_line : goal.returns-then-is_empty-clause-no_from_line
returns-then-is_empty-clause-no_from_line c =
    short_none (ok_no_err _ _) c.in-None.is
    (nil_from_length c.args.self.line.items (omega (arith, eqb-true (vec_len c.args.self.line) 0 (sym c.if-is_empty.ensures), c.args.self.line.ok)))

pub returns-then-not-begins_with_from-clause-no_from_line : goal.returns-then-not-begins_with_from-clause-no_from_line
returns-then-not-begins_with_from-clause-no_from_line c = grind (arith, eqb-false, short_refused)

pub returns-in_ok-close_with-in-Some-clause-last : goal.returns-in_ok-close_with-in-Some-clause-last
returns-in_ok-close_with-in-Some-clause-last c =
    let F = λ (v : PartialMessage). v.from_line.items in
    let B = λ (v : PartialMessage). chopped (v.body.items ++ unquoted c.deref.result.now) in
    let e = c.in_ok-close_with-in-Some.ensures in
    ends_some _
    (ends_body c.args.self _ c.deref.result.now c.in-Some.is c.deref.ensures.value
    (e.from_line ∙ ap F c.in-Some.message-is) (e.body ∙ ap B c.in-Some.message-is))

pub returns-in_ok-close_with-in-Some-clause-no_from_line : goal.returns-in_ok-close_with-in-Some-clause-no_from_line
returns-in_ok-close_with-in-Some-clause-no_from_line c = search (rules, not_short_body, ok_no_err)

pub returns-else-not-begins_with_from-clause-last : goal.returns-else-not-begins_with_from-clause-last
returns-else-not-begins_with_from-clause-last c =
    ends_some _
    (ends_head c.args.self c.in-None.is c.deref-in-None.ensures.value (sym c.if-not-begins_with_from.ensures)
    c.new.ensures (c.new-in-None-2.ensures ∙ c.new-in-None.ensures.items))

pub returns-else-not-begins_with_from-clause-no_from_line : goal.returns-else-not-begins_with_from-clause-no_from_line
returns-else-not-begins_with_from-clause-no_from_line c =
    not_short_head c.args.self (Ok (Some (record { from_line = c.new.result; body = c.new-in-None-2.result }))) c.in-None.is c.deref-in-None.ensures.value
    (sym c.if-not-begins_with_from.ensures) (ok_no_err _ _)
