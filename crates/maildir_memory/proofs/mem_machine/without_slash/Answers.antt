use Rattle.std.proofs.Common.{◌≡◌, ◌≢◌, ◌∷◌, ◌++◌, [], List, ℕ, Bor, Option, subst, sym, ap, ◌∙◌, arith}
use Rattle.std.proofs.lemmas.Str.Pattern.{strip_suffix_char}
use Rattle.std.specs.Option.{MatchOption}
use Rattle.maildir_memory.specs.MemMachines.{without_slash}
use Rattle.maildir_memory.proofs.Slashes.{no_slash, slash_gone}
use Rattle.maildir_memory.proofs.mem_machine.without_slash.Goals as goal

abbrev Says : List ℕ → Option (Bor (List ℕ)) → Type 0
Says word found = MatchOption found ((front : List ℕ) → word ≢ front ++ 47 ∷ []) (λ x. word ≡ x.now ++ 47 ∷ [])

pub returns-in-Some : goal.returns-in-Some
returns-in-Some c =
    let says : Says c.args.word.now c.strip_suffix.result =
    strip_suffix_char 47 c.args.word.now c.strip_suffix.result c.strip_suffix.ensures.cases (omega arith) in
    let is = subst (Says c.args.word.now) c.in-Some.is says in
    sym (ap without_slash is ∙ slash_gone c.in-Some.front.now)

pub returns-in-None : goal.returns-in-None
returns-in-None c =
    let says : Says c.args.word.now c.strip_suffix.result =
    strip_suffix_char 47 c.args.word.now c.strip_suffix.result c.strip_suffix.ensures.cases (omega arith) in
    sym (no_slash c.args.word.now (subst (Says c.args.word.now) c.in-None.is says))
