use Rattle.maildir_name.proofs.NamerLemmas.{next-counted, named-counted-base}
use Rattle.maildir_name.proofs.namer.Namer.target.Goals as goal

pub returns-clause-next : goal.returns-clause-next
returns-clause-next c bodies held small =
    next-counted {body = c.args.body.now} {new = c.set_count.new.self}
    (record {
      digest_is = c.digest-digest.ensures;
      count_is = c.count.ensures;
      number_is = c.saturating_add-number.ensures;
      set = c.in_ok-set_count.ensures.set;
    })
    held small c.in_ok-base.ensures c.flags_of.ensures c.in_ok-target.ensures

pub returns-clause-base : goal.returns-clause-base
returns-clause-base c =
    let n = named-counted-base c.args.body.now c.count.result c.flags_of.result
    c.digest-digest.ensures c.saturating_add-number.ensures c.in_ok-base.ensures c.in_ok-target.ensures in
    (n.converter, n.own_base, n.same_base)
