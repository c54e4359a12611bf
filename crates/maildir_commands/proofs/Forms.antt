-- What the words ask for.
use Rattle.std.proofs.Common.{◌≡◌, ◌==◌, if◌then◌else◌, ℕ, List, [], ◌∷◌, length, map, get_or, Option, Some, None, refl, sym, ap, ◌∙◌, inl, inr}
use Rattle.maildir_commands.proofs.Common.{AskFor, Request, ToConvert, ToWrite}
use Rattle.maildir_commands.specs.declared.command.Form.TheVariants as forms
use Rattle.maildir_commands.specs.declared.command.Form.TheVariants.{Regular}

pub none_named : {X : Type 0} (g : X → List ℕ) (xs : List X) → length xs ≡ 0 → map g xs ≡ []
none_named g [] e = refl
none_named g (x ∷ xs) e = cc

-- ---- words ask for one thing alone, which is told by the first letter and what follows the first word
abbrev first : List (List ℕ) → Option (List ℕ)
first [] = None
first (word ∷ rest) = Some word

abbrev into : List (List ℕ) → Request
into [] = ToWrite Regular None
into (maildir ∷ files) = ToConvert maildir files

abbrev asked : List (List ℕ) → Request
asked [] = ToWrite Regular None
asked (word ∷ rest) =
    if get_or word 0 0 == 114 then ToWrite Regular (first rest) else (if get_or word 0 0 == 108 then ToWrite forms.List (first rest) else into rest)

asked_is : (words : List (List ℕ)) (request : Request) → AskFor words request → asked words ≡ request
asked_is words (ToWrite Regular None) (inl is) = ap asked is
asked_is words (ToWrite Regular None) (inr is) = ap asked is
asked_is words (ToWrite Regular (Some file)) is = ap asked is
asked_is words (ToWrite forms.List None) is = ap asked is
asked_is words (ToWrite forms.List (Some file)) is = ap asked is
asked_is words (ToConvert maildir files) is = ap asked is

pub one_request : (words : List (List ℕ)) (request other : Request) → AskFor words request → AskFor words other → request ≡ other
one_request words request other is also = sym (asked_is words request is) ∙ asked_is words other also
