use Rattle.std.proofs.Common.{◌≡◌, Option, Some, None, String, sym, ap, rules, ◌∙◌}
use Rattle.std.proofs.lemmas.Map.Text.{btree_map_updates_text}
use Rattle.std.specs.BTreeMap.{BTreeMap, get_by_text}
use Rattle.std.specs.declared.alloc.Global.{Global}
use Rattle.maildir_memory.specs.declared.mem_system.MemSystem.{MemSystem}
use Rattle.maildir_memory.proofs.Slashes.{found_at, updates_at}
use Rattle.maildir_memory.proofs.mem_machine.MemMachineMachine.close_maildir.Goals as goal

pub returns-in-Some-clause-there : goal.returns-in-Some-clause-there
returns-in-Some-clause-there c = λ slot is.
    let put = Some c.args.maildir in
    let old = get_by_text c.args.self.now.maildirs in
    let new = get_by_text (c.get_mut.follows.lender put) in
    updates_at old new put c.args.path.now c.without_slash.ensures (btree_map_updates_text c.without_slash.result.now c.args.self.now.maildirs
    (c.get_mut.follows.lender put) (Some put) ((c.get_mut.follows.holds put).3 (search rules)))

pub returns-in-Some-clause-missing : goal.returns-in-Some-clause-missing
returns-in-Some-clause-missing c = λ none.
    let old = get_by_text c.args.self.now.maildirs in
    let is = found_at old old None c.args.path.now c.without_slash.ensures (sym c.in-Some.ensures.value) in
    let both = sym is ∙ none in cc

pub returns-in_default-clause-there : goal.returns-in_default-clause-there
returns-in_default-clause-there c = λ slot is.
    let old = get_by_text c.args.self.now.maildirs in
    let none : old c.without_slash.result.now ≡ None = search rules in
    let both = sym (found_at old old None c.args.path.now c.without_slash.ensures none) ∙ is in cc

pub returns-in_default-clause-missing : goal.returns-in_default-clause-missing
returns-in_default-clause-missing c = λ none.
    ap (λ (m : BTreeMap (String Global) (Option MemSystem)). get_by_text m) c.get_mut.follows.holds-at-none
