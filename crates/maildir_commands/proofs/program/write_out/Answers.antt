use Rattle.maildir_commands.proofs.Requests.{asked_as, ended, file_done, file_stopped, input_done, input_stopped, not_opened}
use Rattle.maildir_commands.proofs.program.write_out.Goals as goal

-- standard input
pub returns-in_err-write_text-in-None : goal.returns-in_err-write_text-in-None
returns-in_err-write_text-in-None g c =
    record { does = asked_as c.in-None.is (ended _ c.from_residual.ensures.1 (input_stopped c.args.form c.in_err-write_text-in-None.ensures)) }

pub returns-in_ok-write_text-in-None : goal.returns-in_ok-write_text-in-None
returns-in_ok-write_text-in-None g c = record { does = asked_as c.in-None.is (input_done c.args.form c.in_ok-write_text-in-None.ensures) }

-- a file
pub returns-in_err-open-in-Some : goal.returns-in_err-open-in-Some
returns-in_err-open-in-Some g c =
    let failed = c.in_err-open-in-Some.ensures in
    record {
      does = asked_as c.in-Some.is
          (ended _ c.from_residual-in_err-open-in-Some.ensures.1 (not_opened c.args.form failed.opens.opens failed.causes failed.opens.refused));
    }

pub returns-in_err-write_text-in-Some : goal.returns-in_err-write_text-in-Some
returns-in_err-write_text-in-Some g c =
    let opened = c.in_ok-open-in-Some.ensures.opens in
    record {
      does = asked_as c.in-Some.is (ended _ c.from_residual-in_err-write_text-in-Some.ensures.1
          (file_stopped c.args.form opened.opens opened.text c.in_err-write_text-in-Some.ensures));
    }

pub returns-in_ok-write_text-in-Some : goal.returns-in_ok-write_text-in-Some
returns-in_ok-write_text-in-Some g c =
    let opened = c.in_ok-open-in-Some.ensures.opens in
    record { does = asked_as c.in-Some.is (file_done c.args.form opened.opens opened.text c.in_ok-write_text-in-Some.ensures) }
