use Rattle.std.proofs.Common.{◌≡◌, [], map, string_bytes, ap, rules}
use Rattle.maildir_commands.proofs.Common.{opened}
use Rattle.maildir_commands.proofs.Converting.{files_converted, input_converted, none_into, source_refused}
use Rattle.maildir_commands.proofs.Forms.{none_named}
use Rattle.maildir_commands.proofs.Requests.{ended, named_as}
use Rattle.maildir_commands.proofs.Resting.{folder_closed, folder_opened, opens_none}
use Rattle.maildir_commands.proofs.sources.deliver_sources.Goals as goal

-- the Maildir was not opened, for standard input
pub returns-in_err-open_maildir : goal.returns-in_err-open_maildir
returns-in_err-open_maildir g c = record {
  does = ended _ c.from_residual.ensures.1
      (none_into g.M.Machine.at g.M.Maildir.System g.met.M.Machine.same_paths g.met.M.Machine.quiet_is_honest opens_none c.in_err-open_maildir.ensures);
}

-- standard input
pub returns-in_default : goal.returns-in_default
returns-in_default g c =
    let none : map string_bytes c.args.files.now ≡ [] = none_named string_bytes _ (search rules) in
    record {
      does = named_as none
          (input_converted g.M.Machine.at g.M.Maildir.System g.met.M.Machine.same_paths g.met.M.Machine.quiet_is_honest
          c.new-folder.result c.deliver-answer.new.folder (folder_opened (opened g.M.Maildir.System) c.new-folder.ensures.system c.in_ok-open_maildir.ensures)
          (folder_closed (opened g.M.Maildir.System) c.into_system.ensures c.close_maildir.ensures) c.deliver-answer.ensures.does);
    }

-- the first file was not opened
pub returns-in_err-source : goal.returns-in_err-source
returns-in_err-source g c =
    let failed = c.in_err-source.ensures in
    record {
      does = ended _ c.from_residual-in_err-source.ensures.1
          (named_as (ap (map string_bytes) c.in-Some.ensures.cases.0)
          (source_refused c.as_str.ensures.value c.open.ensures.opens.opens failed.causes failed.opens.refused));
    }

-- the Maildir was not opened, for files
pub returns-in_err-open_maildir-2 : goal.returns-in_err-open_maildir-2
returns-in_err-open_maildir-2 g c = record {
  does = ended _ c.from_residual-in_err-open_maildir-2.ensures.1
      (none_into g.M.Machine.at g.M.Maildir.System g.met.M.Machine.same_paths g.met.M.Machine.quiet_is_honest
      c.open.ensures.opens.opens c.in_err-open_maildir-2.ensures);
}

-- files
pub returns : goal.returns
returns g c = record {
  does = named_as (ap (map string_bytes) c.in-Some.ensures.cases.0)
      (files_converted g.M.Machine.at g.M.Maildir.System g.met.M.Machine.same_paths g.met.M.Machine.quiet_is_honest
      c.new-folder-2.result c.deliver_each-answer.new.folder c.open.ensures.opens.opens
      (folder_opened (opened g.M.Maildir.System) c.new-folder-2.ensures.system c.in_ok-open_maildir-2.ensures)
      (folder_closed (opened g.M.Maildir.System) c.into_system-2.ensures c.close_maildir-2.ensures)
      c.as_str.ensures.value c.in_ok-source.ensures.opens.text c.deliver_each-answer.ensures.does);
}
