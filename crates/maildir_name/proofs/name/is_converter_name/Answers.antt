use Rattle.std.proofs.Common.{lit<}
use Rattle.std.proofs.lemmas.Str.Pattern.{split_once_first}
use Rattle.maildir_name.proofs.NameLemmas.{converter_then, converter_else, converter_none}
use Rattle.maildir_name.proofs.name.is_converter_name.Goals as goal

pub returns-then-is_digest : goal.returns-then-is_digest
returns-then-is_digest c =
    let cut = split_once_first 46 c.base_of.result.now c.split_once.result c.split_once.ensures.cases (lit< tt) in
    converter_then c.args.name.now c.in-Some.number.now
    c.base_of.ensures (rw c.in-Some.is at cut) c.as_bytes.ensures.value c.is_digest.ensures c.if-is_digest.true c.is_occurrence.ensures

pub returns-else-is_digest : goal.returns-else-is_digest
returns-else-is_digest c =
    let cut = split_once_first 46 c.base_of.result.now c.split_once.result c.split_once.ensures.cases (lit< tt) in
    converter_else c.args.name.now c.in-Some.number.now
    c.base_of.ensures (rw c.in-Some.is at cut) c.as_bytes.ensures.value c.is_digest.ensures c.if-is_digest.false

pub returns-in-None : goal.returns-in-None
returns-in-None c =
    let cut = split_once_first 46 c.base_of.result.now c.split_once.result c.split_once.ensures.cases (lit< tt) in
    converter_none c.args.name.now c.base_of.ensures (rw c.in-None.is at cut)
