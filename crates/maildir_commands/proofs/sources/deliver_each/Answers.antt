use Rattle.std.proofs.Common.{◌≡◌, length, string_bytes, arith, rules}
use Rattle.maildir_commands.proofs.Common.{length-map}
use Rattle.maildir_commands.proofs.Files.{all_done, files_ended, first_source, more, next_source, none_yet, not_delivered, refused_next}
use Rattle.maildir_commands.proofs.Resting.{opens_none}
use Rattle.maildir_commands.proofs.sources.deliver_each.Goals as goal

-- the first text
pub returns-in_err-deliver : goal.returns-in_err-deliver
returns-in_err-deliver g c =
    record { does = files_ended _ c.from_residual.ensures.1 (not_delivered none_yet opens_none first_source c.in_err-deliver.ensures.does) }

pub loop-path-init : goal.loop-path-init
loop-path-init g c = more none_yet opens_none first_source c.in_ok-deliver.ensures.does

-- the next one
pub loop-path-preserved : goal.loop-path-preserved
loop-path-preserved g c =
    let so_far = c.loop-path.invariant in
    let this = next_source string_bytes _ so_far c.loop-path-test.true c.path-item.is c.as_str.ensures.value c.in_ok-source.ensures.opens.text in
    more so_far c.open.ensures.opens.opens this c.in_ok-deliver-2.ensures.does

pub returns-in_err-source : goal.returns-in_err-source
returns-in_err-source g c =
    let failed = c.in_err-source.ensures in
    record {
      does = files_ended _ c.from_residual-in_err-source.ensures.1
          (refused_next string_bytes _ c.loop-path.invariant c.loop-path-test.true c.path-item.is c.as_str.ensures.value
          c.open.ensures.opens.opens failed.causes failed.opens.refused);
    }

pub returns-in_err-deliver-2 : goal.returns-in_err-deliver-2
returns-in_err-deliver-2 g c =
    let so_far = c.loop-path.invariant in
    let this = next_source string_bytes _ so_far c.loop-path-test.true c.path-item.is c.as_str.ensures.value c.in_ok-source.ensures.opens.text in
    record {
      does = files_ended _ c.from_residual-in_err-deliver-2.ensures.1
          (not_delivered so_far c.open.ensures.opens.opens this c.in_err-deliver-2.ensures.does);
    }

-- all were delivered
pub returns : goal.returns
returns g c =
    let all : c.loop-path.path-index ≡ length c.args.rest.now = search rules in
    let names = length-map c.args.rest.now string_bytes in
    record { does = all_done c.loop-path.invariant (omega (arith, all, names)) }
