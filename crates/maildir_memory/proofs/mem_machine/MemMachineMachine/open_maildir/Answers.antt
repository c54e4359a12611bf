use Rattle.std.proofs.Common.{◌≡◌, Option, Some, None, String, refl, sym, ap, subst, rules, ◌∙◌}
use Rattle.std.proofs.lemmas.Map.Text.{btree_map_updates_text}
use Rattle.std.specs.BTreeMap.{BTreeMap, get_by_text}
use Rattle.std.specs.declared.alloc.Global.{Global}
use Rattle.maildir_memory.specs.declared.mem_system.MemSystem.{MemSystem}
use Rattle.maildir_memory.specs.MemMachines.{Makes, Puts, opened_of}
use Rattle.maildir_memory.proofs.Slashes.{found_at, updates_at}
use Rattle.maildir_memory.proofs.mem_machine.MemMachineMachine.open_maildir.Goals as goal

pub returns-in-Some-take-clause-there : goal.returns-in-Some-take-clause-there
returns-in-Some-take-clause-there c = λ slot is.
    let old = get_by_text c.args.self.now.maildirs in
    let left = c.take.new.self in
    let new = get_by_text (c.get_mut.follows.lender left) in
    let found = found_at old old left c.args.path.now c.without_slash.ensures
    (sym c.in-Some.ensures.value ∙ ap Some (sym c.take.ensures.value ∙ c.in-Some-take.is)) in
    let both = sym found ∙ is in
    let same : Some c.in-Some-take.maildir ≡ slot = cc in
    let puts = updates_at old new left c.args.path.now c.without_slash.ensures (btree_map_updates_text c.without_slash.result.now c.args.self.now.maildirs
    (c.get_mut.follows.lender left) (Some left) ((c.get_mut.follows.holds left).3 (search rules))) in
    (ap opened_of same, refl, subst (λ (slot : Option MemSystem). Puts c.args.path.now slot old new) c.take.ensures.after puts)

pub returns-in-None-clause-there : goal.returns-in-None-clause-there
returns-in-None-clause-there c = λ slot is.
    let old = get_by_text c.args.self.now.maildirs in
    let left = c.take.new.self in
    let new = get_by_text (c.get_mut.follows.lender left) in
    let found = found_at old old left c.args.path.now c.without_slash.ensures
    (sym c.in-Some.ensures.value ∙ ap Some (sym c.take.ensures.value ∙ c.in-None.is)) in
    let both = sym found ∙ is in
    let same : None ≡ slot = cc in
    let puts = updates_at old new left c.args.path.now c.without_slash.ensures (btree_map_updates_text c.without_slash.result.now c.args.self.now.maildirs
    (c.get_mut.follows.lender left) (Some left) ((c.get_mut.follows.holds left).3 (search rules))) in
    (ap opened_of same, refl, subst (λ (slot : Option MemSystem). Puts c.args.path.now slot old new) c.take.ensures.after puts)

pub returns-in-Some-take-clause-missing : goal.returns-in-Some-take-clause-missing
returns-in-Some-take-clause-missing c = λ none.
    let old = get_by_text c.args.self.now.maildirs in
    let both = sym (found_at old old c.take.new.self c.args.path.now c.without_slash.ensures (sym c.in-Some.ensures.value)) ∙ none in cc

pub returns-in-None-clause-missing : goal.returns-in-None-clause-missing
returns-in-None-clause-missing c = λ none.
    let old = get_by_text c.args.self.now.maildirs in
    let both = sym (found_at old old c.take.new.self c.args.path.now c.without_slash.ensures (sym c.in-Some.ensures.value)) ∙ none in cc

pub returns-in_default-clause-there : goal.returns-in_default-clause-there
returns-in_default-clause-there c = λ slot is.
    let old = get_by_text c.args.self.now.maildirs in
    let none : old c.without_slash.result.now ≡ None = search rules in
    let both = sym (found_at old old None c.args.path.now c.without_slash.ensures none) ∙ is in cc

pub returns-in_default-clause-missing : goal.returns-in_default-clause-missing
returns-in_default-clause-missing c = λ none.
    subst (λ (m : BTreeMap (String Global) (Option MemSystem)).
    Makes c.args.path.now (record c.args.self.now { maildirs = m }) c.make.result c.make.new.self) c.get_mut.follows.holds-at-none c.make.ensures.makes
