use Rattle.std.proofs.Common.{arith}
use Rattle.maildir_name.proofs.FlagLemmas.{field_blank, field_then, field_else, field_end}
use Rattle.maildir_name.proofs.flags.field_of.Goals as goal
use Rattle.maildir_name.proofs.flags.field_of.Goals.{else-loop-rest-test, then-loop-rest-test+then-is_blank}

pub returns-then-begins_with_name : goal.returns-then-begins_with_name
returns-then-begins_with_name c =
    field_then {body = c.args.body.now}
    (record { same = c.loop-rest.invariant; first = c.line_len.ensures.first; prefix = c.split_at.ensures.front; back = c.split_at.ensures.back })
    c.is_blank.ensures c.if-is_blank.false c.begins_with_name.ensures c.if-begins_with_name.true

pub loop-rest-preserved : goal.loop-rest-preserved
loop-rest-preserved c = grind (arith, field_else)

pub returns : goal.returns
returns c = elim c.loop-rest-test.branch [
  | else-loop-rest-test w ↦ field_end c.args.name.now c.args.body.now c.loop-rest.rest.now c.loop-rest.invariant c.is_empty.ensures w.loop-rest-test.false
  | then-loop-rest-test+then-is_blank w ↦
      field_blank (record { same = c.loop-rest.invariant; first = w.line_len.ensures.first; prefix = w.split_at.ensures.front; back = w.split_at.ensures.back })
      w.is_blank.ensures w.if-is_blank.true
]
