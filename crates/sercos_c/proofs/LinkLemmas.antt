-- What passes over links.
use Rattle.std.proofs.Common.{◌≡◌, Bool, true, List, Option, Some, None, sym, ap, ◌∙◌, subst}
use Rattle.std.specs.Prelude.{is_some, IfSome}
use Rattle.sercos_script.specs.declared.link.Passage.{Passage}
use Rattle.sercos_script.specs.Links.{Carry}

some_there : (came : Option (List Bool)) (bits : List Bool) → is_some came ≡ true → IfSome came (λ those. bits ≡ those) → came ≡ Some bits
some_there None bits some are = cc
some_there (Some those) bits some are = ap Some (sym are)

-- what these links let through is what the other ones do
pub passes_as : (carry other : Carry) (p : Passage) (given sent bits : List Bool) → carry ≡ other → given ≡ sent
    → is_some (carry p given) ≡ true → IfSome (carry p given) (λ those. bits ≡ those) → other p sent ≡ Some bits
passes_as carry other p given sent bits same is some are =
    ap (λ (c : Carry). c p sent) (sym same) ∙ ap (carry p) (sym is) ∙ some_there (carry p given) bits some are
