use Rattle.mbox_text.proofs.Common.{[], arith, inl, inr, eqb-true, nil_from_length, IsMboxText}
use Rattle.mbox_text.proofs.Reading.WholeTexts.{not_mbox, not_short}
use Rattle.mbox_text.proofs.split.split_all.Goals as goal
use Rattle.mbox_text.proofs.split.split_all.Goals.{else-not-is_empty-via-then-not-is_empty+else-not-begins_with_from, else-not-is_empty-via-else-not-is_empty}

pub returns-then-not-begins_with_from-clause-unreadable : goal.returns-then-not-begins_with_from-clause-unreadable
returns-then-not-begins_with_from-clause-unreadable c = grind (arith, not_mbox)

pub returns-in_err-last-clause-no_from_line : goal.returns-in_err-last-clause-no_from_line
returns-in_err-last-clause-no_from_line c =
    let is : IsMboxText c.args.text.now = elim (c.else-not-is_empty.branch) [
      | else-not-is_empty-via-then-not-is_empty+else-not-begins_with_from w ↦ inr (grind arith)
      | else-not-is_empty-via-else-not-is_empty w ↦ inl (grind (arith, nil_from_length, eqb-true))
    ] in
    let never = not_short is (c.in_ok-feed.ensures.fed.2 [] [] c.new-splitter.ensures) c.in_err-last.ensures.no_from_line in
    grind (arith, never, is)

pub returns-in_err-last-clause-unreadable : goal.returns-in_err-last-clause-unreadable
returns-in_err-last-clause-unreadable c =
    let never = λ (is : IsMboxText c.args.text.now).
    not_short is (c.in_ok-feed.ensures.fed.2 [] [] c.new-splitter.ensures) c.in_err-last.ensures.no_from_line in
    grind (arith, never)
